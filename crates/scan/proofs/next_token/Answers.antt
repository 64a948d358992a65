-- Blanks, then a word, a bar or a sign.
use Rattle.std.proofs.Common.{[], get_or, sym, ◌∙◌, arith}
use Rattle.grammar.specs.Tokens.{sign_of}
use Rattle.grammar.proofs.Runs.{word_class, bar_class, sign_class}
use Rattle.scan.proofs.Laws.{rest-past, starts-past, after_blanks, begins_after_blanks, begins-here, sign_scanned, sign-step, sign-begins, no_name_sign}
use Rattle.scan.proofs.next_token.Goals as goal

pub returns-then-start-text : goal.returns-then-start-text
returns-then-start-text c = (c.skip-start.ensures.same ∙ rest-past c.args.text.now c.skip-start.result (omega arith), (c.skip-start.ensures.same_starts ∙ starts-past c.args.text.now c.skip-start.result (omega arith), c.if-start-text.true))

pub word_end-stop-requires : goal.word_end-stop-requires
word_end-stop-requires c = (omega arith, word_class _ (sym c.is_in_word.ensures ∙ c.if-is_in_word.true))

pub bars_at-requires : goal.bars_at-requires
bars_at-requires c = (omega arith, bar_class _ c.if-byte-eq124.true)

pub returns : goal.returns
returns c =
    let b = get_or c.args.text.now c.skip-start.result 0 in
    let k = sign_class b (sym c.is_in_word.ensures ∙ c.if-is_in_word.false) (c.skip-start.ensures.solid (omega arith)) c.if-byte-eq124.false in (
      after_blanks c.args.text.now _ _ _ _ c.sign_of.result c.skip-start.ensures (sign_scanned c.args.text.now _ c.sign_of.result (sign_of b) (omega arith) c.sign_of.ensures (sign-step c.args.text.now _ _ (omega arith) k) (no_name_sign b)),
      begins_after_blanks c.args.text.now _ _ _ _ c.sign_of.result c.skip-start.ensures (begins-here c.args.text.now _ _ c.sign_of.result [] (sign_of b) c.sign_of.ensures (sign-begins c.args.text.now _ (sign_of b) (omega arith) k)),
    )
