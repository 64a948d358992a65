-- The nodes of the whole bytes are unpacked one byte after the other, then the last: proofs/Spreading.antt.
use Rattle.std.proofs.Common.{refl, arith}
use Rattle.packing.proofs.Spreading.{unpacked-next, unpacked-last, unpacked-end}
use Rattle.packing.proofs.unpack.Goals as goal

pub loop-j-preserved : goal.loop-j-preserved
loop-j-preserved c = unpacked-next c.args.state.now c.args.bytes.now c.requires.1 c.loop-j.invariant _ (omega arith) c.loop-j-test.true _ c.spread.ensures

pub returns-then-not-is_multiple_of : goal.returns-then-not-is_multiple_of
returns-then-not-is_multiple_of c =
    unpacked-last c.args.state.now c.args.bytes.now c.requires.1 c.loop-j.invariant _ _ (omega arith) refl (omega arith) _ c.spread-then-not-is_multiple_of.ensures

pub returns-else-not-is_multiple_of : goal.returns-else-not-is_multiple_of
returns-else-not-is_multiple_of c =
    unpacked-end c.args.state.now c.args.bytes.now c.requires.1 c.loop-j.invariant c.loop-j-test.false (c.if-not-is_multiple_of.ensures.0 refl)
