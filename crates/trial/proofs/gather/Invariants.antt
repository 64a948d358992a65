use Rattle.std.proofs.Common.{◌≡◌}
use Rattle.esterel.specs.Instant.{start}
use Rattle.table.specs.Columns.{stmt_at, first_at}
use Rattle.trial.specs.Trials.{trial_answers}
use Rattle.trial.proofs.Runs.{gathered_to}
use Rattle.trial.proofs.gather.Given as goal

-- the codes of the lists before `number` are gathered
abbrev pub invariant-loop-number : goal.invariant-loop-number
invariant-loop-number l = l.set ≡ gathered_to (start (first_at l.tree.table.now l.node) (stmt_at l.tree.table.now l.node)) trial_answers l.number
