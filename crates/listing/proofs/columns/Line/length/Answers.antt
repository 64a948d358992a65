-- The widths of the fields.
use Rattle.std.proofs.Common.{arith}
use Rattle.listing.proofs.Fields.{line-size, line-short}
use Rattle.listing.proofs.columns.Line.length.Goals as goal

pub returns : goal.returns
returns c =
    let size = line-size c.args.node c.args.self.now.kind c.args.self.now.field c.args.self.now.k c.args.self.now.a c.args.self.now.s c.args.self.now.mark in
    let short = line-short c.args.node c.args.self.now.kind c.args.self.now.field c.args.self.now.k c.args.self.now.a c.args.self.now.s c.args.self.now.mark in
    (omega (arith, size), omega (arith, size, short))
