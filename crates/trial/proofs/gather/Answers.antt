-- The codes of one list more are gathered: proofs/Runs.antt.
use Rattle.std.proofs.Common.{arith}
use Rattle.esterel.specs.Instant.{start}
use Rattle.table.specs.Columns.{stmt_at, first_at}
use Rattle.trial.specs.Trials.{trial_answers}
use Rattle.trial.proofs.Runs.{gathered-starts, gathered_next, gathered-ends}
use Rattle.trial.proofs.gather.Goals as goal

pub loop-number-init : goal.loop-number-init
loop-number-init c = gathered-starts (start (first_at c.args.tree.now.table.now c.args.node) (stmt_at c.args.tree.now.table.now c.args.node)) trial_answers

pub loop-number-preserved : goal.loop-number-preserved
loop-number-preserved c =
    gathered_next (start (first_at c.args.tree.now.table.now c.args.node) (stmt_at c.args.tree.now.table.now c.args.node)) trial_answers c.loop-number.number
    (omega arith) c.loop-number.invariant c.answers_of-answers.ensures c.try_list-own.ensures c.union-set.ensures

pub returns : goal.returns
returns c =
    gathered-ends trial_answers (first_at c.args.tree.now.table.now c.args.node) (stmt_at c.args.tree.now.table.now c.args.node) c.loop-number.number
    (omega arith) c.loop-number.invariant
