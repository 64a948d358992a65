-- The first line, then those of the nodes.
use Rattle.std.proofs.Common.{◌+◌, ◌*◌, arith}
use Rattle.listing.proofs.Fields.{header_size, planned-few}
use Rattle.table.specs.Program.{program_of}
use Rattle.listing.proofs.Whole.{depth-few, whole-size}
use Rattle.listing.proofs.columns.Listing.length.Goals as goal

pub overflow_add-planned : goal.overflow_add-planned
overflow_add-planned c = omega (arith, depth-few (program_of c.args.self.now.table.now) c.nodes-nodes.ensures.0 c.args.self.now.depth c.nodes-nodes.ensures.1)

pub overflow_mul-planned : goal.overflow_mul-planned
overflow_mul-planned c =
    omega (arith, planned-few c.nodes-nodes.result c.args.self.now.loops c.nodes-nodes.ensures.1 (depth-few (program_of c.args.self.now.table.now) c.nodes-nodes.ensures.0 c.args.self.now.depth c.nodes-nodes.ensures.1))

pub returns : goal.returns
returns c =
    omega (arith, whole-size (program_of c.args.self.now.table.now) c.nodes-nodes.ensures.0 c.args.self.now.depth, header_size c.nodes-nodes.result c.args.self.now.loops (c.nodes-nodes.result * (1 + c.args.self.now.loops)))
