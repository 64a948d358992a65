use Rattle.std.proofs.Common.{arith}
use Rattle.walk.proofs.Needs.{sinks, sunk}
use Rattle.walk.proofs.need_parallel.Goals as goal

pub loop-i-preserved : goal.loop-i-preserved
loop-i-preserved c =
    sinks c.up_to-ups.ensures c.loop-i.invariant (omega arith) (omega arith) c.join.ensures c.pick.ensures c.join-in-loop-i.ensures c.pick-above.ensures

pub returns : goal.returns
returns c = sunk c.loop-i.invariant (omega arith)
