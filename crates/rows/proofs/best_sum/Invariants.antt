-- The preferred below the code.
use Rattle.std.proofs.Common.{length}
use Rattle.rows.proofs.Sweeps.{Finding}
use Rattle.rows.proofs.best_sum.Given as goal

abbrev pub invariant-loop-number : goal.invariant-loop-number
invariant-loop-number l = Finding l.weight l.row.of l.need.of l.found (length l.yielded)
