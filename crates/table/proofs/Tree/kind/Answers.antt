use Rattle.table.proofs.Trees.{inside}
use Rattle.table.proofs.Tree.kind.Goals as goal

pub kind_at-requires : goal.kind_at-requires
kind_at-requires c = inside c.args.self.now.tree c.args.node c.requires
