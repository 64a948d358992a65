-- The tokens up to the next one are passed, if there is room for their levels.
use Rattle.fault.specs.Walking.{want_is, Looking}
use Rattle.fault.proofs.find_exit.Given as goal

abbrev pub invariant-loop-scanned : goal.invariant-loop-scanned
invariant-loop-scanned l = Looking l.text l.levels (want_is l.wanted) l.scanned-iterator
