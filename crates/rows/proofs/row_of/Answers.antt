use Rattle.std.proofs.Common.{suc, sym, ◌∙◌, arith}
use Rattle.table.specs.declared.Kind.TheVariants.{Parallel}
use Rattle.table.proofs.Comparing.{same-is}
use Rattle.rows.proofs.Sweeps.{Ups, no_ups, more_ups, step}
use Rattle.rows.proofs.row_of.Goals as goal
use Rattle.rows.proofs.row_of.Goals.{Joined-eq, then-eq, else-eq}

-- after the `if`
ups : (c : Joined-eq) → Ups c.args.weight c.args.kind c.args.first.now.of c.args.second.now.of c.if-eq.up.first c.if-eq.up.second (suc c.loop-k.k)
ups c =
    elim c.if-eq.branch [
      | then-eq w ↦ rw w.up-is (more_ups c.requires.0 c.requires.1 w.pair_at.ensures.0 w.pair_at.ensures.1 w.up_to-up.ensures.first w.up_to-up.ensures.second c.loop-k.invariant.ups)
      | else-eq w ↦ rw w.up-is (no_ups (sym (c.eq.ensures ∙ same-is c.args.kind Parallel) ∙ w.if-eq.false) c.loop-k.invariant.ups)
    ]

pub loop-k-preserved : goal.loop-k-preserved
loop-k-preserved c = step c.loop-k.invariant (omega arith) (ups (goal.at.loop-k-preserved c).Joined-eq) c.entry-own.ensures c.inner_at.ensures c.join.ensures
