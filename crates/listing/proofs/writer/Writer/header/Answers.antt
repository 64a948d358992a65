-- The word, then field after field.
use Rattle.std.proofs.Common.{lit≤}
use Rattle.listing.proofs.Fields.{field_next, field_fits, last_fits, field_last, header_left}
use Rattle.listing.proofs.writer.Writer.header.Goals as goal

pub bytes-requires : goal.bytes-requires
bytes-requires c = field_fits c.requires.2 (header_left c.args.nodes _ _ c.args.self.now)

pub field-requires : goal.field-requires
field-requires c = (lit≤ tt, lit≤ tt, field_fits c.requires.2 (field_next (header_left c.args.nodes _ _ c.args.self.now) c.bytes.ensures))

pub field-requires-2 : goal.field-requires-2
field-requires-2 c = (lit≤ tt, lit≤ tt, field_fits c.requires.2 (field_next (field_next (header_left c.args.nodes _ _ c.args.self.now) c.bytes.ensures) c.field.ensures))

pub field-requires-3 : goal.field-requires-3
field-requires-3 c = (lit≤ tt, lit≤ tt, last_fits c.requires.2 (field_next (field_next (field_next (header_left c.args.nodes _ _ c.args.self.now) c.bytes.ensures) c.field.ensures) c.field-2.ensures))

pub returns : goal.returns
returns c = field_last (field_next (field_next (field_next (header_left c.args.nodes _ _ c.args.self.now) c.bytes.ensures) c.field.ensures) c.field-2.ensures) c.field-3.ensures
