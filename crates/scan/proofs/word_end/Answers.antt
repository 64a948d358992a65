-- The word so far, and the tokens after it.
use Rattle.std.proofs.Common.{sym, ◌∙◌, arith}
use Rattle.grammar.proofs.Runs.{word_class, not-word}
use Rattle.scan.proofs.Laws.{word-start, word-stop, word_more, word-closes, word-begins, word_over, word-goes-on}
use Rattle.scan.proofs.word_end.Goals as goal

pub loop-i-init : goal.loop-i-init
loop-i-init c = (word-start c.args.text.now c.args.at c.requires.0 c.requires.1, word-begins c.args.text.now c.args.at c.requires.0 c.requires.1)

pub returns-then-not-is_in_word : goal.returns-then-not-is_in_word
returns-then-not-is_in_word c =
    let k = not-word _ (sym c.is_in_word.ensures ∙ c.if-not-is_in_word.true) in
    record {
      from = omega arith;
      to = omega arith;
      moves = c.loop-i.invariant.0 ∙ word-stop c.args.text.now c.loop-i.i _ (omega arith) k;
      begins = c.loop-i.invariant.1 ∙ word_over c.args.text.now c.args.at c.loop-i.i (omega arith) k;
    }

pub loop-i-preserved : goal.loop-i-preserved
loop-i-preserved c =
    let k = word_class _ (sym c.is_in_word.ensures ∙ c.if-not-is_in_word.false) in
    (c.loop-i.invariant.0 ∙ word_more c.args.text.now c.args.at c.loop-i.i (omega arith) (omega arith) k, c.loop-i.invariant.1 ∙ word-goes-on c.args.text.now c.args.at c.loop-i.i (omega arith) (omega arith) k)

pub returns : goal.returns
returns c = word-closes c.args.text.now c.args.at c.loop-i.i c.requires.0 (omega arith) c.loop-i.invariant.0 c.loop-i.invariant.1
