-- What is opened.
use Rattle.std.proofs.Common.{refl}
use Rattle.grammar.specs.Machine.{body}
use Rattle.fault.proofs.enter_body.Goals as goal

pub returns-in-In : goal.returns-in-In
returns-in-In c = rw c.in-In.is (λ u b k. c.enter.ensures (body u) b k refl)
