-- The walk begins at the loop's body, the node before the loop, with the rows of the nodes before the loop.
use Rattle.std.proofs.Common.{refl, arith}
use Rattle.witness.proofs.Ticks.{readable, few, in_tree, well_formed_lem, known-nodes, some-before, body_call, showing}
use Rattle.witness.proofs.show.Goals as goal

pub new-tree-requires : goal.new-tree-requires
new-tree-requires c = (readable c.requires.0, omega (arith, few c.requires.0))

pub fill_rows-requires : goal.fill_rows-requires
fill_rows-requires c =
    let o = in_tree c.new-tree.ensures c.requires.0 in
    (well_formed_lem o, known-nodes o, omega arith)

pub overflow_sub-node : goal.overflow_sub-node
overflow_sub-node c = some-before c.requires.0

pub walk_at-requires : goal.walk_at-requires
walk_at-requires c = body_call refl (in_tree c.new-tree.ensures c.requires.0) c.fill_rows.ensures c.goal.ensures c.requires.1

pub returns : goal.returns
returns c = showing c.requires.0 c.goal.ensures c.requires.1 (rw c.new-tree.ensures at c.walk_at.ensures)
