-- The signals are counted up to the next token.
use Rattle.fault.specs.Walking.{Counting}
use Rattle.fault.proofs.find_signal.Given as goal

abbrev pub invariant-loop-scanned : goal.invariant-loop-scanned
invariant-loop-scanned l = Counting l.text l.names l.is_signal l.scanned-iterator
