-- The text up to the next token leads to a state that is kept.
use Rattle.fault.specs.Walking.{OnWay}
use Rattle.fault.proofs.find_fault.Given as goal

abbrev pub invariant-loop-scanned : goal.invariant-loop-scanned
invariant-loop-scanned l = OnWay l.text l.stack l.mode l.scanned-iterator
