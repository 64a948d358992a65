-- When two byte strings are the same.
use Rattle.std.proofs.Common.{◌≡◌, ℕ, suc, Bool, true, false, ◌&&◌, eqb, List, [], ◌∷◌, length, refl, ap}
use Rattle.grammar.specs.Tokens.{same_bytes}

pub same_lengths : (a b : List ℕ) → (length a ≡ length b → ⊥) → same_bytes a b ≡ false
same_lengths [] [] h = absurd (h refl)
same_lengths [] (b ∷ v) h = refl
same_lengths (a ∷ w) [] h = refl
same_lengths (a ∷ w) (b ∷ v) h = rw (same_lengths w v (λ e. h (ap suc e))) (right-false (eqb a b))
  where
    right-false : (t : Bool) → (t && false) ≡ false
    right-false true = refl
    right-false false = refl
