-- The sizes are those of the subtrees, and as many as before.
use Rattle.std.proofs.Common.{arith}
use Rattle.table.proofs.Sizing.{measured}
use Rattle.table.proofs.Trees.{kept-by}
use Rattle.table.proofs.Tree.new.Goals as goal

pub invariant_of-result : goal.invariant_of-result
invariant_of-result c =
    record { tree = kept-by (measured c.args.sizes.now c.requires.0 (omega (arith, c.fill_sizes.auto.sizes, c.requires.1)) c.fill_sizes.ensures) }
