-- The prefix counts of held pauses, node by node.
use mathlib.Core.Path.{◌≡◌, refl, sym, ap, ◌∙◌}
use mathlib.Core.Bool.{not}
use mathlib.Core.List.{List, [], ◌∷◌, ◌++◌}
use Prim.Native.Nat.{ℕ, zero, suc, ◌+◌, ◌≤◌, ◌<◌}
use native.Mathlib.Decide.{dec_lt}
use native.Mathlib.Numerals.{add-one}
use native.Mathlib.Omega.{arith}
use borrow.Author.Tests.{ne_eqb}
use lib.Dec.{eqb}
use lib.ListN.{length, get_or, take, set, length-set}
use lib.Seq.{take-suc, get_or-set_same, get_or-set_other}
use Rattle.codes.specs.Codes.{bit}
use Rattle.packing.proofs.Bits.{bit_le}
use Rattle.instant.specs.Admission.{count_held}
use Rattle.instant.proofs.Admits.{count-append}

-- what holds after the counts before node i and before all nodes up to it
pub record Counting (state counts₀ counts : List ℕ) (n held i : ℕ) : Type 0 where
  pub bound : i ≤ n
  pub own : held ≡ count_held (take i state)
  pub low : held ≤ i
  pub entry : (j : ℕ) → j ≤ i → get_or counts j 0 ≡ count_held (take j state)
  pub same : length counts ≡ length counts₀

module _ {state counts₀ : List ℕ} {n : ℕ} (room : n < length counts₀) where
  module _ {counts : List ℕ} {held i : ℕ} (o : Counting state counts₀ counts n held i) (h : i < n) (long : n ≤ length state) where
    one_more : {b : ℕ} → get_or state i 0 ≡ b → count_held (take (i + 1) state) ≡ held + count_held (b ∷ [])
    one_more {b} e =
        let cut : take (i + 1) state ≡ take i state ++ (b ∷ []) = rw (add-one i, ← e) (take-suc state i 0 (omega arith)) in
        ap count_held cut ∙ count-append (take i state) (b ∷ []) ∙ ap (λ x. x + count_held (b ∷ [])) (sym o.own)

    next : {held' : ℕ} → held' ≡ count_held (take (i + 1) state) → held' ≤ i + 1 → Counting state counts₀ (set counts (i + 1) held') n held' (i + 1)
    next {held'} e l =
        record { bound = omega arith; own = e; low = l; entry = λ j k. go j k (dec_lt j (i + 1)); same = length-set counts (i + 1) held' ∙ o.same }
      where
        go : (j : ℕ) → j ≤ i + 1 → Dec (j < i + 1) → get_or (set counts (i + 1) held') j 0 ≡ count_held (take j state)
        go j k (yes c) = get_or-set_other counts (i + 1) j held' 0 (omega arith) ∙ o.entry j (omega arith)
        go j k (no c) = let z : j ≡ i + 1 = omega arith in rw z (get_or-set_same counts (i + 1) held' 0 (omega (arith, o.same)) ∙ e)

    pub counting_next : {b : ℕ} → b ≡ bit (not (eqb (get_or state i 0) 0)) → Counting state counts₀ (set counts (i + 1) (held + b)) n (held + b) (i + 1)
    counting_next {b} e =
        next (sym (one_more refl ∙ ap (λ x. held + x) (sym (e ∙ own-count (get_or state i 0))))) (omega (arith, o.low, bit_le (not (eqb (get_or state i 0) 0)), e))
      where
        own-count : (x : ℕ) → bit (not (eqb x 0)) ≡ count_held (x ∷ [])
        own-count zero = refl
        own-count (suc x) = ap (λ y. bit (not y)) (ne_eqb (suc x) 0 (λ q. omega arith))
