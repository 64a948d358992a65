use Rattle.std.proofs.Common.{arith}
use Rattle.walk.proofs.Needs.{rises}
use Rattle.walk.proofs.up_to.Goals as goal

pub loop-k-preserved : goal.loop-k-preserved
loop-k-preserved c = rises c.loop-k.invariant (omega arith) c.pick-up.ensures
