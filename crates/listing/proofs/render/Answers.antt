-- The analysis over local buffers gives the verdict.
use Rattle.std.proofs.Common.{refl}
use Rattle.listing.proofs.Checks.{cast}
use Rattle.listing.proofs.Fronts.{rendering_as, refused-text, listed, listed-text}
use Rattle.listing.proofs.render.Goals as goal

pub invariant_of-listing : goal.invariant_of-listing
invariant_of-listing c =
    let l = listed c.in-Ok.ensures in
    record { columns = ∣ l.columns ∣₁; depth = l.loops }

pub returns-in-Err : goal.returns-in-Err
returns-in-Err c = rendering_as (refused-text c.in-Err.ensures refl refl refl refl) (rw (cast c.in-Err.refusal.check) at c.render_refusal.ensures)

pub returns-in-Ok : goal.returns-in-Ok
returns-in-Ok c = rendering_as (listed-text c.in-Ok.ensures refl refl refl refl) c.render_listing.ensures
