use Rattle.std.proofs.Common.{◌≡◌}
use Rattle.listing.proofs.Numbers.{Numbering}
use Rattle.listing.proofs.writer.Writer.number.Given as goal

abbrev pub invariant-loop-place : goal.invariant-loop-place
invariant-loop-place l =
    Numbering l.base l.n l.fn.self.text.now l.fn.self.at l.self.text.now l.place l.rest × (l.self.at ≡ l.fn.self.at) × (l.self.text.ghost_name ≡ l.fn.self.text.ghost_name)
