use Rattle.codes.proofs.Operations.{meets-is}
use Rattle.codes.proofs.meets.Goals as goal

pub returns : goal.returns
returns c = meets-is c.args.a c.args.b c.ranges.b.fits
