-- Before node `i` the rows of the unused statements are on the stack.
use Rattle.planning.proofs.Pending.{Pending}
use Rattle.planning.proofs.program_row.Given as goal

abbrev pub invariant-loop-i : goal.invariant-loop-i
invariant-loop-i l = Pending l.table l.stack l.unused l.i
