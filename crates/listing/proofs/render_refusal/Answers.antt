-- By whether the line fits.
use Rattle.std.proofs.Common.{refl, rules}
use Rattle.listing.proofs.Fronts.{rendered}
use Rattle.listing.proofs.render_refusal.Goals as goal

pub returns : goal.returns
returns c = rendered _ _ c.refusal_length-length.ensures refl c.if-text-length.false c.new.ensures c.refusal.ensures (search rules)
