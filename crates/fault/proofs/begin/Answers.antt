-- What is opened.
use Rattle.std.proofs.Common.{refl}
use Rattle.grammar.specs.Tree as T
use Rattle.grammar.specs.Machine.{branch, body, suspended, aborted, alone}
use Rattle.fault.proofs.begin.Goals as goal

pub returns-in-Loop : goal.returns-in-Loop
returns-in-Loop c = rw c.in-Loop.is (λ b k. c.enter.ensures (body T.loop) b k refl)

pub returns-in-Suspend : goal.returns-in-Suspend
returns-in-Suspend c = rw c.in-Suspend.is (λ b k. c.enter-in-Suspend.ensures suspended b k refl)

pub returns-in-Bracket : goal.returns-in-Bracket
returns-in-Bracket c = rw c.in-Bracket.is (λ b k. c.enter-in-Bracket.ensures (branch alone) b k refl)

pub returns-in-Abort : goal.returns-in-Abort
returns-in-Abort c = rw c.in-Abort.is (λ b k. c.enter-in-Abort.ensures (aborted T.strong) b k refl)
