use Rattle.table.proofs.Trees.{nodes-are}
use Rattle.table.proofs.Tree.nodes.Goals as goal

pub returns : goal.returns
returns c = nodes-are c.args.self.now.tree
