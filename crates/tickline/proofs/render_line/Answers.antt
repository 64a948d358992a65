-- A lemma for what each arm needs, and for what it leaves.
use Rattle.std.proofs.Common.{arith}
use Rattle.listing.proofs.Checks.{cast}
use Rattle.tickline.proofs.Rendering.{shown-front, tick_fits, tick_line, accepted-few, header_fits, accepted-line, refused-line, refusal-fits}
use Rattle.tickline.proofs.render_line.Goals as goal
use Rattle.tickline.proofs.render_line.Goals.{in-Ok-Ends, in-Ok-Accepted, in-Err}

pub write_tick-requires : goal.write_tick-requires
write_tick-requires c =
    tick_fits (shown-front (omega arith) (rw c.in-Ok-Ends.field-0-is at c.in-Ok-Ends.ensures)) (omega arith) c.new-to.ensures

pub header-requires : goal.header-requires
header-requires c =
    let f = accepted-few (omega arith) (rw c.in-Ok-Accepted.field-0-is at c.in-Ok-Accepted.ensures) in
    (f.few, f.low, header_fits f (omega arith) c.new-to.ensures)

pub refusal-requires : goal.refusal-requires
refusal-requires c = rw (cast c.in-Err.refusal.check) (refusal-fits _ _ (omega arith) c.new-to.ensures)

pub returns : goal.returns
returns c =
    elim c.match-find_tick.branch [
      | in-Ok-Ends w ↦
          tick_line (shown-front (omega arith) (rw w.in-Ok-Ends.field-0-is at w.in-Ok-Ends.ensures)) (omega arith) c.new-to.ensures w.write_tick.ensures w.to-is c.written.ensures
      | in-Ok-Accepted w ↦
          accepted-line (accepted-few (omega arith) (rw w.in-Ok-Accepted.field-0-is at w.in-Ok-Accepted.ensures)) (omega arith) c.new-to.ensures w.header.ensures w.to-is c.written.ensures
      | in-Err w ↦ refused-line (omega arith) w.in-Err.ensures (omega arith) c.new-to.ensures (rw (cast w.in-Err.refusal.check) at w.refusal.ensures) w.to-is c.written.ensures
    ]
