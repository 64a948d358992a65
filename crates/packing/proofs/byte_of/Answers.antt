-- The bits of the nodes that have come are gathered: proofs/Bytes.antt.
use Rattle.std.proofs.Common.{arith}
use Rattle.std.proofs.Math.Bool.{not}
use Rattle.std.proofs.Math.Dec.{eqb}
use Rattle.packing.proofs.Bits.{bit_le}
use Rattle.packing.proofs.Bytes.{gathering_begin, gathering_lt, gathering_next, gathering_end}
use Rattle.packing.proofs.byte_of.Goals as goal

pub loop-bit-init : goal.loop-bit-init
loop-bit-init c = rw (c.into_iter-bit-iterator.ensures.into_iter_gives, c.rev-bit-items.ensures.source, c.iter.ensures.rest) (gathering_begin c.args.bytes.now)

pub overflow_mul-byte : goal.overflow_mul-byte
overflow_mul-byte c = omega (arith, gathering_lt c.args.bytes.now c.requires c.loop-bit.invariant _ _ c.in-Some.ensures.steps)

pub overflow_add-byte : goal.overflow_add-byte
overflow_add-byte c =
    let small = gathering_lt c.args.bytes.now c.requires c.loop-bit.invariant _ _ c.in-Some.ensures.steps in
    let one = bit_le (not (eqb c.in-Some.bit.now 0)) in
    omega (arith, c.from.ensures)

pub loop-bit-preserved : goal.loop-bit-preserved
loop-bit-preserved c = gathering_next c.args.bytes.now c.requires c.loop-bit.invariant _ _ c.in-Some.ensures.steps c.from.ensures

pub returns : goal.returns
returns c = gathering_end c.args.bytes.now c.requires c.loop-bit.invariant c.in-None.ensures.steps.0
