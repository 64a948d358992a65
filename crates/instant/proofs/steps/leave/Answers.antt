-- A trap that catches clears the bytes beneath it.
use Rattle.std.proofs.Common.{sym, ◌∙◌, arith}
use Rattle.std.proofs.lemmas.Bool.{not-false}
use Rattle.table.specs.declared.Kind.TheVariants.{Trap}
use Rattle.table.proofs.Comparing.{same-is}
use Rattle.packing.proofs.Zeros.{cleared}
use Rattle.instant.proofs.Small.{trap-catches, trap-passes}
use Rattle.instant.proofs.steps.leave.Goals as goal
use Rattle.instant.proofs.steps.leave.Goals.{then-inner-eq2, else-inner-eq2}

pub returns : goal.returns
returns c =
    let trap = sym (same-is _ Trap) ∙ not-false _ (sym c.ne.ensures ∙ c.if-ne.false) in
    elim c.if-inner-eq2.branch [
      | then-inner-eq2 w ↦ trap-catches trap (rw (c.catch_code.ensures, c.one_more-left.ensures)) w.if-inner-eq2.true
          (w.held-is ∙ cleared c.args.held.now c.args.first _ (omega arith) (w.fill.ensures.after (λ y h. h)))
      | else-inner-eq2 w ↦ trap-passes trap (rw (c.catch_code.ensures, c.one_more-left.ensures)) w.if-inner-eq2.false w.held-is
    ]
