use Rattle.std.proofs.Common.{refl, eq-eqb, ne_eqb}
use Rattle.blocks.specs.Editions.{file_fits}
use Rattle.blocks.proofs.fits.Goals as goal

pub returns-then-file-eq0 : goal.returns-then-file-eq0
unfolding file_fits
returns-then-file-eq0 c = rw (eq-eqb _ _ c.if-file-eq0.true) refl

pub returns-else-file-eq0 : goal.returns-else-file-eq0
unfolding file_fits
returns-else-file-eq0 c = rw (ne_eqb _ _ c.if-file-eq0.false) refl
