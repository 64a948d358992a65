-- The lines of a listing in code.
use Rattle.esterel.specs.Checks.{Line, line}
use Rattle.listing.specs.declared.columns.Line.{Line as Fields}

-- the line that is printed of the fields
abbrev pub printed : Fields → Line
printed l = line l.kind l.field l.k l.a l.s l.mark
