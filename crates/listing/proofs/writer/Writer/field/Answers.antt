-- First the digits, then the byte.
use Rattle.std.proofs.Common.{[], ◌∷◌}
use Rattle.listing.specs.Text.{digits}
use Rattle.listing.proofs.Writing.{joined, second_fits}
use Rattle.listing.proofs.writer.Writer.field.Goals as goal

pub byte-requires : goal.byte-requires
byte-requires c = second_fits (digits c.args.base c.args.n) (c.args.after ∷ []) c.requires.2 c.number.ensures

pub returns : goal.returns
returns c = joined (digits c.args.base c.args.n) (c.args.after ∷ []) c.number.ensures c.byte.ensures
