-- What showing the input's tick comes to: from the buffers b and t to b' and t'.
use Rattle.std.specs.Prelude.{ℕ, List, Result}
use Rattle.std.specs.declared.io.Error.{Error}
use Rattle.program.specs.Shows.{ShowsText, Shows as ShowsOf}
use Rattle.tickline.specs.Written.{LineWritten}

-- the line is that of the whole input
abbrev pub ShowsLine : (b b' t t' : List ℕ) (end : ℕ) → Type 0
ShowsLine = ShowsText LineWritten

-- where a read fails, it stays as it was
abbrev pub Shows : (b b' t t' : List ℕ) → Result ℕ Error → Type 0
Shows = ShowsOf LineWritten
