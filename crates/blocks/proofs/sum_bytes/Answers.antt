use Rattle.std.proofs.Common.{refl, arith}
use Rattle.blocks.specs.Block.{second_check}
use Rattle.blocks.proofs.Running.{summing_next, summing_end}
use Rattle.blocks.proofs.sum_bytes.Goals as goal

pub loop-byte-init : goal.loop-byte-init
unfolding second_check
loop-byte-init c = record { bound = omega arith; first = refl; second = refl; first_low = omega arith; second_low = omega arith }

pub loop-byte-preserved : goal.loop-byte-preserved
loop-byte-preserved c = summing_next c.loop-byte.invariant _ c.requires (omega arith) (omega (arith, c.type_inv.bytes c.loop-byte.byte-index, c.from-first.ensures)) c.from-first.ensures

pub returns : goal.returns
returns c =
    let (first, second) = summing_end c.loop-byte.invariant (omega arith) in
    record { first = first; second = second }
