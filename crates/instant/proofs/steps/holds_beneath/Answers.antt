-- A subtree has no more nodes than end with it.
use Rattle.std.proofs.Common.{arith}
use Rattle.table.proofs.Views.{spans}
use Rattle.instant.proofs.steps.holds_beneath.Goals as goal

pub overflow_sub-first : goal.overflow_sub-first
overflow_sub-first c = omega (arith, c.size.ensures, spans c.args.inputs.now.tree.table.now c.args.node c.requires.0)
