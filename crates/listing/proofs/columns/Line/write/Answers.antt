-- Field after field, each with what follows it.
use Rattle.std.proofs.Common.{lit≤}
use Rattle.listing.proofs.Fields.{field_next, field_fits, last_fits, field_last, line-left}
use Rattle.listing.proofs.columns.Line.write.Goals as goal

pub field-requires : goal.field-requires
field-requires c = (lit≤ tt, lit≤ tt, field_fits c.requires (line-left c.args.node _ _ _ _ _ _ c.args.to.now))

pub field-requires-2 : goal.field-requires-2
field-requires-2 c = (lit≤ tt, lit≤ tt, field_fits c.requires (field_next (line-left c.args.node _ _ _ _ _ _ c.args.to.now) c.field.ensures))

pub field-requires-3 : goal.field-requires-3
field-requires-3 c = (lit≤ tt, lit≤ tt, field_fits c.requires (field_next (field_next (line-left c.args.node _ _ _ _ _ _ c.args.to.now) c.field.ensures) c.field-2.ensures))

pub field-requires-4 : goal.field-requires-4
field-requires-4 c = (lit≤ tt, lit≤ tt, field_fits c.requires (field_next (field_next (field_next (line-left c.args.node _ _ _ _ _ _ c.args.to.now) c.field.ensures) c.field-2.ensures) c.field-3.ensures))

pub field-requires-5 : goal.field-requires-5
field-requires-5 c = (lit≤ tt, lit≤ tt, field_fits c.requires (field_next (field_next (field_next (field_next (line-left c.args.node _ _ _ _ _ _ c.args.to.now) c.field.ensures) c.field-2.ensures) c.field-3.ensures) c.field-4.ensures))

pub field-requires-6 : goal.field-requires-6
field-requires-6 c = (lit≤ tt, lit≤ tt, field_fits c.requires (field_next (field_next (field_next (field_next (field_next (line-left c.args.node _ _ _ _ _ _ c.args.to.now) c.field.ensures) c.field-2.ensures) c.field-3.ensures) c.field-4.ensures) c.field-5.ensures))

pub field-requires-7 : goal.field-requires-7
field-requires-7 c = (lit≤ tt, lit≤ tt, last_fits c.requires (field_next (field_next (field_next (field_next (field_next (field_next (line-left c.args.node _ _ _ _ _ _ c.args.to.now) c.field.ensures) c.field-2.ensures) c.field-3.ensures) c.field-4.ensures) c.field-5.ensures) c.field-6.ensures))

pub returns : goal.returns
returns c = field_last (field_next (field_next (field_next (field_next (field_next (field_next (line-left c.args.node _ _ _ _ _ _ c.args.to.now) c.field.ensures) c.field-2.ensures) c.field-3.ensures) c.field-4.ensures) c.field-5.ensures) c.field-6.ensures) c.field-7.ensures
