-- One bit more is stored: proofs/Spreading.antt.
use Rattle.packing.proofs.Spreading.{spread_next, spread_end}
use Rattle.packing.proofs.spread.Goals as goal

pub loop-bit-preserved : goal.loop-bit-preserved
loop-bit-preserved c = spread_next c.args.byte c.args.bytes.now c.loop-bit.invariant c.loop-bit-test.true

pub returns : goal.returns
returns c = spread_end c.args.byte c.args.bytes.now c.loop-bit.invariant c.loop-bit-test.false
