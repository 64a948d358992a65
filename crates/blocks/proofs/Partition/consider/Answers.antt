use Rattle.std.proofs.Common.{sym, ap, ◌∙◌, arith}
use Rattle.blocks.specs.Block.{edition_in}
use Rattle.blocks.specs.Editions.{parts_of}
use Rattle.blocks.proofs.Blocks.{block_within, few_blocks}
use Rattle.blocks.proofs.Choosing.{bad_block, unbeaten, unheld, elsewhere, considered}
use Rattle.blocks.proofs.Partition.consider.Goals as goal

pub bounds-self-i : goal.bounds-self-i
bounds-self-i c = omega (arith, few_blocks c.args.self.now.file.now c.args.self.now.checked.fits, c.requires.0)

pub returns-then-not-self-i : goal.returns-then-not-self-i
returns-then-not-self-i c = bad_block c.requires.1 c.args.self.now.checked c.requires.0 c.if-not-self-i.true

pub block_at-requires : goal.block_at-requires
block_at-requires c = block_within c.args.self.now.file.now c.args.i c.requires.0

pub returns-then-not-is_higher : goal.returns-then-not-is_higher
returns-then-not-is_higher c = unbeaten c.requires.1 (c.word-edition.ensures ∙ ap edition_in c.block_at.ensures) (sym c.is_higher.ensures ∙ c.if-not-is_higher.true)

pub returns-in_default : goal.returns-in_default
returns-in_default c = unheld c.requires.1 (c.word-edition.ensures ∙ ap edition_in c.block_at.ensures) (rw c.in_default.is at c.find.ensures)

pub returns-then-first-i : goal.returns-then-first-i
returns-then-first-i c = elsewhere c.requires.1 (c.word-edition.ensures ∙ ap edition_in c.block_at.ensures) c.in-Some.ensures c.if-first-i.true

pub check_edition-requires : goal.check_edition-requires
unfolding parts_of
check_edition-requires c = c.in-Some.ensures.place.parts

pub returns : goal.returns
returns c = rw c.or.ensures (considered c.requires.1 (c.word-edition.ensures ∙ ap edition_in c.block_at.ensures) c.check_edition.ensures (sym c.is_higher.ensures ∙ c.if-not-is_higher.false))
