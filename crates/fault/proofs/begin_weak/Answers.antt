-- What is opened.
use Rattle.std.proofs.Common.{refl}
use Rattle.grammar.specs.Tree as T
use Rattle.grammar.specs.Machine.{aborted}
use Rattle.fault.proofs.begin_weak.Goals as goal

pub returns-in-Abort : goal.returns-in-Abort
returns-in-Abort c = rw c.in-Abort.is (λ b k. c.enter.ensures (aborted T.weak) b k refl)
