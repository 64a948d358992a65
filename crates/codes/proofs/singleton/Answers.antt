use Rattle.codes.proofs.Operations.{singleton_is_lem}
use Rattle.codes.proofs.singleton.Goals as goal

pub returns : goal.returns
returns c = singleton_is_lem c.args.code
