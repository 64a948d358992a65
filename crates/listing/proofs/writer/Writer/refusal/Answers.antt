-- The word, then field after field.
use Rattle.std.proofs.Common.{lit≤}
use Rattle.listing.proofs.Fields.{field_next, field_fits, last_fits, field_last, refusal-left}
use Rattle.listing.proofs.writer.Writer.refusal.Goals as goal

pub bytes-requires : goal.bytes-requires
bytes-requires c = field_fits c.requires (refusal-left c.args.number _ c.args.self.now)

pub field-requires : goal.field-requires
field-requires c = (lit≤ tt, lit≤ tt, rw c.from.ensures (field_fits c.requires (field_next (refusal-left c.args.number _ c.args.self.now) c.bytes.ensures)))

pub field-requires-2 : goal.field-requires-2
field-requires-2 c = (lit≤ tt, lit≤ tt, last_fits c.requires (field_next (field_next (refusal-left c.args.number _ c.args.self.now) c.bytes.ensures) (rw c.from.ensures at c.field.ensures)))

pub returns : goal.returns
returns c = field_last (field_next (field_next (refusal-left c.args.number _ c.args.self.now) c.bytes.ensures) (rw c.from.ensures at c.field.ensures)) c.field-2.ensures
