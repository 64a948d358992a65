-- What translating the input comes to: from the buffers b and t to b' and t'.
use Rattle.std.specs.Prelude.{ℕ, ◌*◌, ◌≡◌, List, Result, Ok, Err}
use Rattle.std.specs.declared.io.Error.{Error}
use Rattle.input.specs.Reads.{Reads, OfInput}
use Rattle.text.specs.Reading.{Answer, reads, answer, ReadAs}
use Rattle.text.specs.declared.Fault.{Fault}

-- the whole input is read so
abbrev pub ReadsInput : (b b' t t' : List ℕ) → Answer → Type 0
ReadsInput b b' t t' told = OfInput b b' (λ input. ReadAs input t t' told)

-- the table's bytes end behind its nodes; where a read fails, the table stays as it was
abbrev pub Translates : (b b' t t' : List ℕ) → Result (Result ℕ Fault) Error → Type 0
Translates b b' t t' (Ok (Ok end)) = (nodes signals : ℕ) × (end ≡ 2 * nodes) × ReadsInput b b' t t' (reads nodes signals)
Translates b b' t t' (Ok (Err fault)) = ReadsInput b b' t t' (answer (Err fault))
Translates b b' t t' (Err e) = Reads 0 b b' (Err e) × (t' ≡ t)
