use Rattle.walk.proofs.Needs.{Rising}
use Rattle.walk.proofs.up_to.Given as goal

abbrev pub invariant-loop-k : goal.invariant-loop-k
invariant-loop-k l = Rising l.weight l.row.of l.of l.up l.k
