use Rattle.table.proofs.Trees.{inside}
use Rattle.table.proofs.Tree.field.Goals as goal

pub field_at-requires : goal.field_at-requires
field_at-requires c = inside c.args.self.now.tree c.args.node c.requires
