-- The first line, then those of the nodes.
use Rattle.table.specs.Program.{program_of}
use Rattle.listing.proofs.Whole.{depth-few, header-room, lines-room, whole-written}
use Rattle.listing.proofs.columns.Listing.write.Goals as goal

pub header-requires : goal.header-requires
header-requires c =
    (c.nodes.ensures.1, depth-few (program_of c.args.self.now.table.now) c.nodes.ensures.0 c.args.self.now.depth c.nodes.ensures.1, header-room (program_of c.args.self.now.table.now) c.nodes.ensures.0 c.args.self.now.depth c.args.to.now c.requires)

pub write_lines-requires : goal.write_lines-requires
write_lines-requires c = lines-room (program_of c.args.self.now.table.now) c.nodes.ensures.0 c.args.self.now.depth c.header.ensures c.requires

pub returns : goal.returns
returns c = whole-written (program_of c.args.self.now.table.now) c.nodes.ensures.0 c.args.self.now.depth c.header.ensures c.write_lines.ensures
