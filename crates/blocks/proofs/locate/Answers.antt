use Rattle.std.proofs.Common.{refl, sym, ap, ◌∙◌, arith}
use Rattle.blocks.specs.Editions.{blocks_in, is_good_for}
use Rattle.blocks.proofs.Counted.{counted-located, refused-located}
use Rattle.blocks.proofs.Finding.{search_start, search_next, search_hit, search_none}
use Rattle.blocks.proofs.locate.Goals as goal

pub returns-then-not-fits : goal.returns-then-not-fits
returns-then-not-fits c = refused-located c.args.file.now c.args.program c.args.edition c.args.number c.fits.ensures c.if-not-fits.true refl refl

pub loop-last-init : goal.loop-last-init
unfolding blocks_in
loop-last-init c = search_start _ _ _ _

pub returns-then-is_good_for : goal.returns-then-is_good_for
unfolding blocks_in
returns-then-is_good_for c =
    counted-located c.args.file.now c.args.program c.args.edition c.args.number c.fits.ensures c.if-not-fits.false (search_hit c.loop-last.invariant _ (omega arith) (sym (c.is_good_for.ensures ∙ ap (is_good_for c.args.program c.args.edition c.args.number) c.block_at.ensures) ∙ c.if-is_good_for.true)) c.place_at.ensures.from c.place_at.ensures.used

pub loop-last-preserved : goal.loop-last-preserved
unfolding blocks_in
loop-last-preserved c = search_next c.loop-last.invariant _ (omega arith) (sym (c.is_good_for.ensures ∙ ap (is_good_for c.args.program c.args.edition c.args.number) c.block_at.ensures) ∙ c.if-is_good_for.false)

pub returns : goal.returns
unfolding blocks_in
returns c = counted-located c.args.file.now c.args.program c.args.edition c.args.number c.fits.ensures c.if-not-fits.false (search_none c.loop-last.invariant (omega arith)) refl refl
