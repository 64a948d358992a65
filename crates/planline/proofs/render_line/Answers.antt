-- A lemma for what each arm needs, and for what it leaves.
use Rattle.std.proofs.Common.{arith}
use Rattle.listing.proofs.Checks.{cast}
use Rattle.planline.proofs.Rendering.{number_fits, refusal-fits, number-line, refused-line}
use Rattle.planline.proofs.render_line.Goals as goal
use Rattle.planline.proofs.render_line.Goals.{in-Ok, in-Err}

pub field-requires : goal.field-requires
field-requires c = (omega arith, omega arith, number_fits c.in-Ok.ensures (omega arith) c.new-to.ensures)

pub refusal-requires : goal.refusal-requires
refusal-requires c = rw (cast c.in-Err.refusal.check) (refusal-fits c.in-Err.ensures (omega arith) c.new-to.ensures)

pub returns : goal.returns
returns c =
    elim c.match-most_entries.branch [
      | in-Ok w ↦ number-line w.in-Ok.ensures (omega arith) c.new-to.ensures w.field.ensures w.to-is c.written.ensures
      | in-Err w ↦ refused-line w.in-Err.ensures (omega arith) c.new-to.ensures (rw (cast w.in-Err.refusal.check) at w.refusal.ensures) w.to-is c.written.ensures
    ]
