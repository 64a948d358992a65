-- Each turn finds what is known of one more node's signal (proofs/Known.antt).
use Rattle.std.proofs.Common.{arith}
use Rattle.table.proofs.Trees.{readable}
use Rattle.tied.proofs.Known.{begin, fits, finding-next}
use Rattle.tied.proofs.find_known.Goals as goal

pub loop-i-init : goal.loop-i-init
loop-i-init c = begin _ _ (readable c.args.tree.now.tree) c.nodes-i.ensures

pub overflow_sub-i : goal.overflow_sub-i
overflow_sub-i c = omega (arith, c.size.ensures, fits (readable c.args.tree.now.tree) c.loop-i.invariant (omega arith))

pub loop-i-preserved : goal.loop-i-preserved
loop-i-preserved c =
    let (field, low) = c.field-signal.ensures in
    finding-next (readable c.args.tree.now.tree) c.loop-i.invariant (omega arith) c.kind-kind.ensures field low c.tie_at.ensures (rw (← c.size.ensures) c.reach.ensures) c.requires
