use Rattle.codes.proofs.Operations.{without-ended-is}
use Rattle.codes.proofs.without_ended.Goals as goal

pub returns : goal.returns
returns c = without-ended-is c.args.a
