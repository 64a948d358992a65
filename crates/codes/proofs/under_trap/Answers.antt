use Rattle.codes.proofs.Operations.{under-trap-is}
use Rattle.codes.proofs.under_trap.Goals as goal

pub returns : goal.returns
returns c = under-trap-is c.args.context
