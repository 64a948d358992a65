use Rattle.std.proofs.Common.{refl, sym, ◌∙◌, eq-eqb, ne_eqb}
use Rattle.blocks.specs.Steps.{is_part}
use Rattle.blocks.proofs.is_part.Goals as goal

pub returns-then-word-edition : goal.returns-then-word-edition
unfolding is_part
returns-then-word-edition c = rw (eq-eqb _ _ (sym c.word.ensures ∙ c.if-word-edition.true)) refl

pub returns-else-word-edition : goal.returns-else-word-edition
unfolding is_part
returns-else-word-edition c = rw (ne_eqb _ _ (λ q. c.if-word-edition.false (c.word.ensures ∙ q))) (ne_eqb _ _ c.if-word-edition.false)
