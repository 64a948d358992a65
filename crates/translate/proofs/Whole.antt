-- What was read is translated as the whole input is.
use Prim.Native.Nat.{ℕ, ◌*◌, ◌≤◌, ◌<◌}
use mathlib.Core.List.{List}
use lib.ListN.{length, take}
use mathlib.Core.Path.{◌≡◌}
use native.Mathlib.Omega.{arith}
use Rattle.grammar.specs.Limits.{max_source}
use Rattle.input.specs.Reads.{Reads}
use Rattle.std.specs.Prelude.{Ok}
use Rattle.std.specs.declared.io.Error.{Error}
use Rattle.input.proofs.Reading.{of-front}
use Rattle.input.proofs.Reading as I
use Rattle.text.specs.Reading.{Answer, reads, refuses, ReadAs}
use Rattle.text.proofs.Theorems.{of_read, written-long}
use Rattle.text.proofs.Cut.{read_of_front}
use Rattle.translate.specs.Translates.{ReadsInput}

module _ {b b' t t' : List ℕ} where
  pub whole : {read : ℕ} (r : Answer) → max_source < length b → Reads {E = Error} 0 b b' (Ok read) → ReadAs (take read b') t t' r → ReadsInput b b' t t' r
  whole r room came = of-front max_source room came (λ n input h. read_of_front n input h t t' r)

  -- the table has no more nodes than a table may have, and lies within its buffer
  pub table-within : (end nodes signals : ℕ) → end ≡ 2 * nodes → ReadsInput b b' t t' (reads nodes signals) → (nodes ≤ 1024) × (end ≤ length t')
  table-within end nodes signals e x =
      let w = of_read.done (take x.read b') t t' nodes signals (I.of_read x) in
      (w.fits, omega (arith, written-long (take x.read b') t t' nodes signals w))

  -- the place lies within the length of a text, and so in the buffer
  pub place-within : (number node place : ℕ) → ReadsInput b b' t t' (refuses number node place) → place ≤ max_source
  place-within number node place x = (of_read.refused (take x.read b') t t' number node place (I.of_read x)).4
