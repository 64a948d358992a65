-- The emission bytes are the marks of the emitted signals on bytes that are all 0.
use mathlib.Core.Path.{◌≡◌, refl, sym, ap, ap₂, ◌∙◌, subst}
use mathlib.Core.Bool.{Bool, true, false, ◌||◌}
use mathlib.Core.List.{List, [], ◌∷◌, ◌++◌, append-nil}
use Prim.Native.Nat.{ℕ, zero, suc, ◌+◌, ◌<◌}
use native.Mathlib.Omega.{arith}
use borrow.Author.Tests.{eq-eqb, ne_eqb}
use lib.Dec.{eqb}
use lib.ListN.{length, set}
use Rattle.esterel.specs.Codes.{bit}
use Rattle.esterel.specs.Instant.{zeros}
use Rattle.esterel.specs.Outcome.{member, emission_bytes}
use Rattle.instant.specs.Steps.{marked}

pub length_emissions : (xs : List ℕ) (s n : ℕ) → length (emission_bytes xs s n) ≡ n
length_emissions xs s zero = refl
length_emissions xs s (suc n) = ap suc (length_emissions xs (suc s) n)

-- the bytes depend on the members only
same_members : (a b : List ℕ) → ((s : ℕ) → member s a ≡ member s b) → (s n : ℕ) → emission_bytes a s n ≡ emission_bytes b s n
same_members a b e s zero = refl
same_members a b e s (suc n) = ap₂ (λ x l. bit x ∷ l) (e s) (same_members a b e (suc s) n)

-- a signal below them changes nothing
below : (x : ℕ) (a : List ℕ) (s n : ℕ) → x < s → emission_bytes (x ∷ a) s n ≡ emission_bytes a s n
below x a s zero h = refl
below x a s (suc n) h =
    ap₂ (λ y l. bit (y || member s a) ∷ l) (ne_eqb x s (λ e. omega arith)) (below x a (suc s) n (omega arith))

one-mark : (a : List ℕ) (k s n : ℕ) → set (emission_bytes a s n) k 1 ≡ emission_bytes ((s + k) ∷ a) s n
one-mark a k s zero = refl
one-mark a zero s (suc n) =
    let z : s + 0 ≡ s = omega arith in
    subst (λ x. set (emission_bytes a s (suc n)) 0 1 ≡ emission_bytes (x ∷ a) s (suc n)) (sym z)
    (ap₂ (λ y l. bit (y || member s a) ∷ l) (sym (eq-eqb s s refl)) (sym (below s a (suc s) n (omega arith))))
one-mark a (suc k) s (suc n) =
    let z : s + suc k ≡ suc s + k = omega arith in
    subst (λ x. set (emission_bytes a s (suc n)) (suc k) 1 ≡ emission_bytes (x ∷ a) s (suc n)) (sym z)
    (ap₂ (λ y l. bit (y || member s a) ∷ l) (sym (ne_eqb (suc s + k) s (λ e. omega arith))) (one-mark a k (suc s) n))

member_middle : (xs ys : List ℕ) (x s : ℕ) → member s (xs ++ (x ∷ ys)) ≡ member s (x ∷ (xs ++ ys))
member_middle [] ys x s = refl
member_middle (y ∷ xs) ys x s = ap (λ b. eqb y s || b) (member_middle xs ys x s) ∙ swap (eqb y s) (eqb x s) (member s (xs ++ ys))
  where
    swap : (a b c : Bool) → (a || (b || c)) ≡ (b || (a || c))
    swap true true c = refl
    swap true false c = refl
    swap false true c = refl
    swap false false c = refl

marks-on : (xs ys : List ℕ) (n : ℕ) → marked xs (emission_bytes ys 0 n) ≡ emission_bytes (xs ++ ys) 0 n
marks-on [] ys n = refl
marks-on (x ∷ xs) ys n =
    let z : 0 + x ≡ x = omega arith in
    ap (marked xs) (one-mark ys x 0 n ∙ ap (λ y. emission_bytes (y ∷ ys) 0 n) z) ∙ marks-on xs (x ∷ ys) n ∙ same_members (xs ++ (x ∷ ys)) (x ∷ (xs ++ ys)) (λ s. member_middle xs ys x s) 0 n

none : (s n : ℕ) → zeros n ≡ emission_bytes [] s n
none s zero = refl
none s (suc n) = ap (λ l. 0 ∷ l) (none (suc s) n)

pub marks-are : (xs : List ℕ) (n : ℕ) → marked xs (zeros n) ≡ emission_bytes xs 0 n
marks-are xs n = ap (marked xs) (none 0 n) ∙ marks-on xs [] n ∙ same_members (xs ++ []) xs (λ s. ap (member s) (append-nil xs)) 0 n
