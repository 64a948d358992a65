-- The digits of `rest` are left to be written.
use Rattle.std.proofs.Common.{arith}
use Rattle.listing.proofs.Numbers.{numbering_more, numbering_one, numbering_some, numbering_next, numbering_end}
use Rattle.listing.proofs.writer.Writer.number.Goals as goal

pub loop-place-preserved : goal.loop-place-preserved
loop-place-preserved c = (
  numbering_next c.requires.0 c.loop-place.invariant.0 (numbering_more c.requires.0 c.loop-place.invariant.0 (omega arith)) _ c.digit.ensures,
  c.loop-place.invariant.1,
  c.loop-place.invariant.2,
)

pub digit-requires-2 : goal.digit-requires-2
digit-requires-2 c = omega (arith, numbering_one c.requires.0 c.loop-place.invariant.0 (omega arith))

pub bounds-self-self : goal.bounds-self-self
bounds-self-self c = omega (arith, numbering_some c.requires.0 c.loop-place.invariant.0)

pub returns : goal.returns
returns c =
    record {
      written =
          rw c.loop-place.invariant.1
          (numbering_end c.requires.0 c.loop-place.invariant.0 _ _ (numbering_one c.requires.0 c.loop-place.invariant.0 (omega arith)) c.digit-2.ensures (omega (arith, c.width.ensures.0)));
      same = c.loop-place.invariant.2;
    }
