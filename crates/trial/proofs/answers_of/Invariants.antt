use Rattle.trial.specs.Trials.{trial_answers}
use Rattle.trial.proofs.Runs.{Writing}
use Rattle.trial.proofs.answers_of.Given as goal

-- the answers before this one are written
abbrev pub invariant-loop-answer : goal.invariant-loop-answer
invariant-loop-answer l = Writing trial_answers l.number l.rest l.answer-index l.answer-items
