-- By whether the line fits.
use Rattle.std.proofs.Common.{refl, rules}
use Rattle.listing.proofs.Fronts.{rendered}
use Rattle.listing.proofs.render_listing.Goals as goal

pub returns : goal.returns
returns c = rendered _ _ c.length-length.ensures refl c.if-text-length.false c.new.ensures c.write.ensures (search rules)
