-- The frame is stored over those in use.
use Rattle.std.proofs.Common.{refl}
use Rattle.fault.proofs.Steps.{pushed}
use Rattle.fault.proofs.stack.Stack.push.Goals as goal

pub returns : goal.returns
returns c = λ f b k. pushed c.args.self.now _ c.args.frame f b k c.requires refl refl
