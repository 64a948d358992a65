-- The widths of the fields.
use Rattle.std.proofs.Common.{arith}
use Rattle.listing.proofs.Fields.{refusal-size}
use Rattle.listing.proofs.refusal_length.Goals as goal

pub returns : goal.returns
returns c = omega (arith, refusal-size c.args.number c.args.node, rw c.from.ensures at c.width.ensures.0)
