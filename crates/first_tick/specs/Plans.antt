-- What planning the input's first tick comes to: from the buffers b and t to b' and t'.
use Rattle.std.specs.Prelude.{ℕ, List, Result}
use Rattle.std.specs.declared.io.Error.{Error}
use Rattle.program.specs.Shows.{ShowsText, Shows}
use Rattle.planline.specs.Line.{LineWritten}

-- the line is that of the whole input
abbrev pub PlansLine : (b b' t t' : List ℕ) (end : ℕ) → Type 0
PlansLine = ShowsText LineWritten

-- where a read fails, it stays as it was
abbrev pub Plans : (b b' t t' : List ℕ) → Result ℕ Error → Type 0
Plans = Shows LineWritten
