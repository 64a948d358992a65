use Rattle.codes.proofs.Operations.{union-is}
use Rattle.codes.proofs.union.Goals as goal

pub returns : goal.returns
returns c = union-is c.args.a c.args.b c.ranges.a.fits c.ranges.b.fits
