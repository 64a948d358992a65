-- What is opened.
use Rattle.std.proofs.Common.{refl}
use Rattle.grammar.specs.Tree as T
use Rattle.grammar.specs.Tree.{leaf}
use Rattle.grammar.specs.Machine.{then_branch, else_branch}
use Rattle.fault.proofs.enter_branch.Goals as goal

pub returns-in-Then : goal.returns-in-Then
returns-in-Then c = rw c.in-Then.is (λ n b k. c.enter.ensures (then_branch n) b k refl)

pub returns-in-Else : goal.returns-in-Else
returns-in-Else c = rw c.in-Else.is (λ n b k. c.enter-in-Else.ensures (else_branch n (leaf T.nothing)) b k refl)
