-- A blank is passed.
use Rattle.std.proofs.Common.{sym, ◌∙◌, arith}
use Rattle.grammar.proofs.Runs.{blank_class}
use Rattle.scan.proofs.Laws.{blank_step, blank-begins}
use Rattle.scan.proofs.skip.Goals as goal

pub loop-i-preserved : goal.loop-i-preserved
loop-i-preserved c =
    let k = blank_class _ (sym c.is_blank.ensures ∙ c.if-not-is_blank.false) in
    (c.loop-i.invariant.0 ∙ blank_step c.args.text.now c.loop-i.i (omega arith) k, c.loop-i.invariant.1 ∙ blank-begins c.args.text.now c.loop-i.i (omega arith) k)
