-- The ends that are found are those of the two sets.
use Rattle.std.proofs.Common.{ap, ◌∙◌}
use Rattle.std.specs.Int.Bits.{bit_and, bit_or}
use Rattle.codes.proofs.Operations.{low-found, high-found, is-missing, is_found, parallel-is}
use Rattle.codes.proofs.parallel.Goals as goal

pub returns-in_default : goal.returns-in_default
returns-in_default c = is-missing (low-found c.ranges.a.fits c.ranges.b.fits c.in_default.ensures c.lowest.ensures c.lowest-2.ensures)

pub returns-in_default-larger : goal.returns-in_default-larger
returns-in_default-larger c =
    is-missing (high-found c.ranges.a.fits c.ranges.b.fits c.in_default-larger.ensures c.highest.ensures c.highest-2.ensures)

pub span-requires : goal.span-requires
span-requires c =
    let low = low-found c.ranges.a.fits c.ranges.b.fits c.in-Some.ensures c.lowest.ensures c.lowest-2.ensures in
    let high = high-found c.ranges.a.fits c.ranges.b.fits c.in-Some-larger.ensures c.highest.ensures c.highest-2.ensures in
    ((is_found low).below, (is_found high).below)

pub returns : goal.returns
returns c =
    let low = low-found c.ranges.a.fits c.ranges.b.fits c.in-Some.ensures c.lowest.ensures c.lowest-2.ensures in
    let high = high-found c.ranges.a.fits c.ranges.b.fits c.in-Some-larger.ensures c.highest.ensures c.highest-2.ensures in
    ap (bit_and (bit_or c.args.a c.args.b)) c.span.ensures ∙ parallel-is c.args.a c.args.b _ _ (is_found low) (is_found high)
