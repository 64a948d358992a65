-- It stands over those that are open.
use Rattle.std.proofs.Common.{refl}
use Rattle.fault.proofs.enter.Goals as goal

pub returns : goal.returns
returns c = λ f b k e s. record { mode = refl; stack = c.push.ensures f b k e s }
