use Rattle.codes.proofs.Operations.{caught-is}
use Rattle.codes.proofs.caught.Goals as goal

pub returns : goal.returns
returns c = caught-is c.args.a
