-- The lines before `i` are counted.
use Rattle.std.proofs.Common.{◌∙◌, ap, length, arith}
use Rattle.listing.proofs.Lines.{total-fits, total-next, total-end, lines_few}
use Rattle.listing.proofs.columns.Listing.lines_length.Goals as goal

pub overflow_add-total : goal.overflow_add-total
overflow_add-total c =
    omega (arith, total-fits c.loop-i.invariant (omega arith) _ (c.length-total.ensures.0 ∙ ap length c.line.ensures), lines_few c.args.self.now.columns)

pub loop-i-preserved : goal.loop-i-preserved
loop-i-preserved c = total-next c.loop-i.invariant (omega arith) _ (c.length-total.ensures.0 ∙ ap length c.line.ensures)

pub returns : goal.returns
returns c =
    let all = total-end c.loop-i.invariant (omega arith) in
    (all, omega (arith, all, lines_few c.args.self.now.columns))
