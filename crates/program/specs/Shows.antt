-- What showing the input comes to: from the buffers b and t to b' and t'.
use Rattle.std.specs.Prelude.{ℕ, ◌≡◌, List, Result, Ok, Err}
use Rattle.std.specs.declared.io.Error.{Error}
use Rattle.input.specs.Reads.{Reads, OfInput}

-- the text is that of the whole input
abbrev pub ShowsText : (Said : (input t t' : List ℕ) (end : ℕ) → Type 0) (b b' t t' : List ℕ) (end : ℕ) → Type 0
ShowsText Said b b' t t' end = OfInput b b' (λ input. Said input t t' end)

-- where a read fails, it stays as it was
abbrev pub Shows : (Said : (input t t' : List ℕ) (end : ℕ) → Type 0) (b b' t t' : List ℕ) → Result ℕ Error → Type 0
Shows Said b b' t t' (Ok end) = ShowsText Said b b' t t' end
Shows Said b b' t t' (Err e) = Reads 0 b b' (Err e) × (t' ≡ t)
