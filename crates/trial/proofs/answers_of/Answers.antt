-- One answer more is written: proofs/Runs.antt.
use Rattle.std.proofs.Common.{refl, arith}
use Rattle.trial.proofs.Runs.{writing_next, writing_ends}
use Rattle.trial.proofs.answers_of.Goals as goal

pub loop-answer-preserved : goal.loop-answer-preserved
loop-answer-preserved c = writing_next c.requires c.loop-answer.invariant (omega arith) _ refl

pub returns : goal.returns
returns c = writing_ends c.requires c.loop-answer.invariant (omega arith)
