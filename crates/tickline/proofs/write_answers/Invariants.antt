use Rattle.tickline.proofs.Writing.{Writing}
use Rattle.tickline.proofs.write_answers.Given as goal

abbrev pub invariant-loop-answer : goal.invariant-loop-answer
invariant-loop-answer l = Writing l.fn.to l.answers l.to l.answer-index
