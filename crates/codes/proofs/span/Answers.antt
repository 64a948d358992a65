use Rattle.codes.proofs.Operations.{span_is}
use Rattle.codes.proofs.span.Goals as goal

pub returns : goal.returns
returns c = span_is c.args.low c.args.high c.requires.1
