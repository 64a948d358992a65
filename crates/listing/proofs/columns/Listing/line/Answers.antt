-- The table's bytes and the columns give the node's line.
use Rattle.std.proofs.Common.{arith}
use Rattle.listing.proofs.Lines.{within, node-text}
use Rattle.listing.proofs.columns.Listing.line.Goals as goal

pub bounds-self-node : goal.bounds-self-node
bounds-self-node c = omega (arith, (within c.args.self.now.columns c.requires).table)

pub overflow_mul-node : goal.overflow_mul-node
overflow_mul-node c = omega (arith, (within c.args.self.now.columns c.requires).few)

pub overflow_add-node : goal.overflow_add-node
overflow_add-node c = omega (arith, (within c.args.self.now.columns c.requires).few)

pub bounds-self-node-2 : goal.bounds-self-node-2
bounds-self-node-2 c = omega (arith, (within c.args.self.now.columns c.requires).table)

pub offset_bounds-self-node : goal.offset_bounds-self-node
offset_bounds-self-node c = omega (arith, (within c.args.self.now.columns c.requires).few)

pub bounds-self-node-3 : goal.bounds-self-node-3
bounds-self-node-3 c = (within c.args.self.now.columns c.requires).starts

pub offset_bounds-self-node-2 : goal.offset_bounds-self-node-2
offset_bounds-self-node-2 c = omega (arith, (within c.args.self.now.columns c.requires).few)

pub bounds-self-node-4 : goal.bounds-self-node-4
bounds-self-node-4 c = (within c.args.self.now.columns c.requires).anys

pub offset_bounds-self-node-3 : goal.offset_bounds-self-node-3
offset_bounds-self-node-3 c = omega (arith, (within c.args.self.now.columns c.requires).few)

pub bounds-self-node-5 : goal.bounds-self-node-5
bounds-self-node-5 c = (within c.args.self.now.columns c.requires).contexts

pub bounds-self-node-6 : goal.bounds-self-node-6
bounds-self-node-6 c = (within c.args.self.now.columns c.requires).marks

pub returns : goal.returns
returns c = rw (c.from.ensures, c.from-2.ensures, c.from-3.ensures) (node-text c.args.self.now.columns c.requires)
