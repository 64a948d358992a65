-- A text that is cut behind more bytes than a text may have is told what the whole of it is told.
use mathlib.Core.List.{List}
use Prim.Native.Nat.{ℕ, ◌<◌}
use native.Mathlib.Decide.{dec_lt}
use native.Mathlib.Omega.{arith}
use lib.ListN.{length, take}
use lib.Seq.{length-take-le, take_all}
use Rattle.esterel.specs.Table.{Verdict}
use Rattle.grammar.specs.Limits.{max_source}
use Rattle.grammar.specs.Meaning.{VerdictOf, overlong, faulty, derived}
use Rattle.text.specs.Reading.{Answer}
use Rattle.text.specs.Reading.{ReadAs, short, judged}

module _ (k : ℕ) (input : List ℕ) (more : max_source < k) where
  cut-verdict : k < length input → (v : Verdict) (n at : ℕ) → VerdictOf (take k input) v n at → VerdictOf input v n at
  cut-verdict h v n at (overlong a) = overlong (omega arith)
  cut-verdict h v n at (faulty us l f) = absurd (omega (arith, length-take-le k input (omega arith)))
  cut-verdict h v n at (derived t l d) = absurd (omega (arith, length-take-le k input (omega arith)))

  verdict_of_front : (v : Verdict) (n at : ℕ) → VerdictOf (take k input) v n at → VerdictOf input v n at
  verdict_of_front v n at j = go (dec_lt k (length input))
    where
      go : Dec (k < length input) → VerdictOf input v n at
      go (yes h) = cut-verdict h v n at j
      go (no h) = rw (take_all k input (omega arith)) at j

  pub read_of_front : (old new : List ℕ) (r : Answer) → ReadAs (take k input) old new r → ReadAs input old new r
  read_of_front old new r (short h a) = short h a
  read_of_front old new r (judged v n at h j a) = judged v n at h (verdict_of_front v n at j) a
