-- Field after field.
use Rattle.std.proofs.Common.{lit≤, arith, rules}
use Rattle.listing.proofs.Writing.{begin_fits, written-whole}
use Rattle.listing.proofs.Fields.{field_next, field_fits, last_fits, field_last}
use Rattle.spot.specs.Spots.{spot_text}
use Rattle.spot.proofs.Spots.{spot-left, spot-short}
use Rattle.spot.proofs.write_spot.Goals as goal

pub bytes-requires : goal.bytes-requires
bytes-requires c = field_fits (begin_fits c.new-to.ensures (spot_text c.args.spot.line c.args.spot.column) (omega (arith, spot-short c.args.spot.line c.args.spot.column))) (spot-left c.args.spot.line c.args.spot.column c.new-to.result)

pub field-requires : goal.field-requires
field-requires c = (lit≤ tt, lit≤ tt, field_fits (begin_fits c.new-to.ensures (spot_text c.args.spot.line c.args.spot.column) (omega (arith, spot-short c.args.spot.line c.args.spot.column))) (field_next (spot-left c.args.spot.line c.args.spot.column c.new-to.result) c.bytes.ensures))

pub bytes-requires-2 : goal.bytes-requires-2
bytes-requires-2 c = field_fits (begin_fits c.new-to.ensures (spot_text c.args.spot.line c.args.spot.column) (omega (arith, spot-short c.args.spot.line c.args.spot.column))) (field_next (field_next (spot-left c.args.spot.line c.args.spot.column c.new-to.result) c.bytes.ensures) c.field.ensures)

pub field-requires-2 : goal.field-requires-2
field-requires-2 c = (lit≤ tt, lit≤ tt, last_fits (begin_fits c.new-to.ensures (spot_text c.args.spot.line c.args.spot.column) (omega (arith, spot-short c.args.spot.line c.args.spot.column))) (field_next (field_next (field_next (spot-left c.args.spot.line c.args.spot.column c.new-to.result) c.bytes.ensures) c.field.ensures) c.bytes-2.ensures))

pub returns : goal.returns
returns c = written-whole c.new-to.ensures (spot_text c.args.spot.line c.args.spot.column) (omega (arith, spot-short c.args.spot.line c.args.spot.column)) (field_last (field_next (field_next (field_next (spot-left c.args.spot.line c.args.spot.column c.new-to.result) c.bytes.ensures) c.field.ensures) c.bytes-2.ensures) c.field-2.ensures) (search rules) c.written.ensures
