-- The preferred up to the code on each side of a parallel, and the row filled so far.
use Rattle.rows.proofs.Sweeps.{Running}
use Rattle.rows.proofs.row_of.Given as goal

abbrev pub invariant-loop-k : goal.invariant-loop-k
invariant-loop-k l = Running l.weight l.kind l.first.of l.second.of l.of l.up.first l.up.second l.k
