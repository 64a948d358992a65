use Rattle.std.proofs.Common.{◌∙◌, arith}
use Rattle.blocks.proofs.Counted.{place_short}
use Rattle.blocks.proofs.Completing.{no_parts, missing-part, unnamed, unfilled, last-part, full-part, completing_next, completing_end}
use Rattle.blocks.proofs.Partition.check_edition.Goals as goal
use Rattle.blocks.proofs.Partition.check_edition.Goals.{else-k-parts-via-then-k-parts+else-place-ne-CONTENT, else-k-parts-via-else-k-parts}

pub returns-then-parts-eq0 : goal.returns-then-parts-eq0
returns-then-parts-eq0 c = no_parts c.args.self.now.file.now c.args.self.now.program c.args.edition c.requires c.if-parts-eq0.true

pub returns-in_err-place : goal.returns-in_err-place
returns-in_err-place c = c.from_residual.ensures ∙ missing-part c.loop-k.invariant c.loop-k-test.true c.in_err-place.ensures

pub returns-then-place-parts : goal.returns-then-place-parts
returns-then-place-parts c = unnamed c.loop-k.invariant c.loop-k-test.true c.in_ok-place.ensures (λ e. omega arith)

pub returns-then-place-ne-CONTENT : goal.returns-then-place-ne-CONTENT
returns-then-place-ne-CONTENT c = unfilled c.loop-k.invariant c.loop-k-test.true c.in_ok-place.ensures (omega arith) c.if-k-parts.true c.if-place-ne-CONTENT.true

pub overflow_add-length : goal.overflow_add-length
overflow_add-length c = omega (arith, c.loop-k.invariant.short, place_short c.in_ok-place.ensures, c.loop-k.invariant.bound)

pub loop-k-preserved : goal.loop-k-preserved
loop-k-preserved c =
    completing_next c.loop-k.invariant c.loop-k-test.true c.in_ok-place.ensures (omega arith)
    (elim c.else-k-parts.branch [
      | else-k-parts-via-then-k-parts+else-place-ne-CONTENT w ↦ full-part c.loop-k.invariant c.loop-k-test.true c.in_ok-place.ensures (omega arith) w.if-k-parts.true w.if-place-ne-CONTENT.false
      | else-k-parts-via-else-k-parts w ↦ last-part c.loop-k.invariant c.loop-k-test.true c.in_ok-place.ensures (omega arith) w.if-k-parts.false
    ])

pub returns : goal.returns
returns c = completing_end c.loop-k.invariant (omega (arith, c.if-parts-eq0.false)) c.loop-k-test.false
