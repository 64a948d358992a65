-- The preferred above the code, and the row filled from the back.
use Rattle.walk.proofs.Needs.{Sinking}
use Rattle.walk.proofs.need_parallel.Given as goal

abbrev pub invariant-loop-i : goal.invariant-loop-i
invariant-loop-i l = Sinking l.weight l.row.of l.need.of l.of l.above l.i
