-- Two bars, or one by what follows it.
use Rattle.std.proofs.Common.{◌≡◌, ◌+◌, ◌<◌, length, get_or, arith}
use Rattle.grammar.specs.Tokens.{class_of, bar}
use Rattle.grammar.proofs.Runs.{bar_class, class_bar}
use Rattle.scan.proofs.Laws.{two-bars, one-bar, two-bars-begin, one-bar-begins}
use Rattle.scan.proofs.bars_at.Goals as goal
use Rattle.scan.proofs.bars_at.Goals.{else-stop-text-via-then-stop-text+else-text-stop-eq124, else-stop-text-via-else-stop-text}

pub returns-then-text-stop-eq124 : goal.returns-then-text-stop-eq124
returns-then-text-stop-eq124 c = (record { from = omega arith; to = omega arith; moves = two-bars c.args.text.now c.args.start (omega arith) c.requires.1 (bar_class _ c.if-text-stop-eq124.true) }, two-bars-begin c.args.text.now c.args.start (omega arith) c.requires.1 (bar_class _ c.if-text-stop-eq124.true))

pub returns : goal.returns
returns c =
    let alone : c.args.start + 1 < length c.args.text.now → class_of (get_or c.args.text.now (c.args.start + 1) 0) ≡ bar → ⊥ = λ h e. elim c.else-stop-text.branch [ else-stop-text-via-then-stop-text+else-text-stop-eq124 w ↦ w.if-text-stop-eq124.false (class_bar _ e) | else-stop-text-via-else-stop-text w ↦ omega arith ] in
    (record { from = omega arith; to = omega arith; moves = one-bar c.args.text.now c.args.start c.requires.0 c.requires.1 alone }, one-bar-begins c.args.text.now c.args.start c.requires.0 c.requires.1 alone)
