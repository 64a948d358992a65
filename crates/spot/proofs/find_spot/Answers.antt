-- The spot so far, byte by byte.
use Rattle.std.proofs.Common.{◌∙◌, take, arith}
use Rattle.std.proofs.Math.Seq.{length-take-le}
use Rattle.spot.proofs.Spots.{line-next, column-next, few_feeds, last-short}
use Rattle.spot.proofs.find_spot.Goals as goal

pub after-spot-requires : goal.after-spot-requires
after-spot-requires c =
    let front = take c.loop-byte.byte-index (take c.args.place c.args.text.now) in
    let short = length-take-le c.loop-byte.byte-index (take c.args.place c.args.text.now) (omega arith) in
    let all = length-take-le c.args.place c.args.text.now c.requires.0 in
    (omega (arith, c.loop-byte.invariant.0, few_feeds front, short, all), omega (arith, c.loop-byte.invariant.1, last-short front, short, all))

pub loop-byte-preserved : goal.loop-byte-preserved
loop-byte-preserved c =
    let front = take c.args.place c.args.text.now in (
      c.after-spot.ensures.0 ∙ line-next front c.loop-byte.byte-index (omega arith) _ c.loop-byte.invariant.0,
      c.after-spot.ensures.1 ∙ column-next front c.loop-byte.byte-index (omega arith) _ c.loop-byte.invariant.1,
    )
