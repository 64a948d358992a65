-- A test of every byte of a list, made from the first on.
use mathlib.Core.Path.{◌≡◌, refl, sym, ap, ◌∙◌}
use mathlib.Core.Bool.{Bool, true, false, ◌&&◌}
use mathlib.Core.List.{List, [], ◌∷◌}
use Prim.Native.Nat.{ℕ, zero, suc, ◌+◌, ◌≤◌, ◌<◌}
use native.Mathlib.Numerals.{add-one}
use native.Mathlib.Omega.{arith}
use lib.ListN.{length, get_or, drop, drop_of_length-le}
use lib.Seq.{drop-cons}
use Rattle.codes.proofs.Bools.{left, right}

-- `all` says whether every byte passes
pub record Tests (all : List ℕ → Bool) (test : ℕ → Bool) : Type 0 where
  pub none : all [] ≡ true
  pub first : (x : ℕ) (xs : List ℕ) → all (x ∷ xs) ≡ test x && all xs

-- the bytes before i pass
pub record Scanned (all : List ℕ → Bool) (bytes : List ℕ) (i : ℕ) : Type 0 where
  pub bound : i ≤ length bytes
  pub is : all bytes ≡ all (drop i bytes)

module _ {all : List ℕ → Bool} {test : ℕ → Bool} (t : Tests all test) {bytes : List ℕ} {i : ℕ} (o : Scanned all bytes i) where
  front : i < length bytes → all bytes ≡ test (get_or bytes i 0) && all (drop (i + 1) bytes)
  front h = o.is ∙ ap all (drop-cons bytes i 0 h) ∙ t.first _ _ ∙ ap (λ n. test (get_or bytes i 0) && all (drop n bytes)) (sym (add-one i))

  pub scanned_next : i < length bytes → test (get_or bytes i 0) ≡ true → Scanned all bytes (i + 1)
  scanned_next h e = record { bound = omega arith; is = front h ∙ ap (λ b. b && all (drop (i + 1) bytes)) e }

  pub scanned_found : i < length bytes → test (get_or bytes i 0) ≡ false → all bytes ≡ false
  scanned_found h e = front h ∙ ap (λ b. b && all (drop (i + 1) bytes)) e

  pub scanned_end : length bytes ≤ i → all bytes ≡ true
  scanned_end h = o.is ∙ ap all (drop_of_length-le bytes h) ∙ t.none

-- what it says of each byte, and that it overlooks none
module _ {all : List ℕ → Bool} {test : ℕ → Bool} (t : Tests all test) where
  pub each : test 0 ≡ true → (bytes : List ℕ) → all bytes ≡ true → (i : ℕ) → test (get_or bytes i 0) ≡ true
  each z [] e i = z
  each z (x ∷ xs) e zero = left (test x) (all xs) (sym (t.first x xs) ∙ e)
  each z (x ∷ xs) e (suc i) = each z xs (right (test x) (sym (t.first x xs) ∙ e)) i

  pub fails-at : (bytes : List ℕ) → all bytes ≡ false → (i : ℕ) × (i < length bytes) × (test (get_or bytes i 0) ≡ false)
  fails-at [] e = let z : true ≡ false = sym t.none ∙ e in let y : ◌≡◌ {A = ℕ} 0 1 = cc in absurd (omega arith)
  fails-at (x ∷ xs) e = go (λ z. fails-at xs z) (test x) refl
    where
      go : (all xs ≡ false → (i : ℕ) × (i < length xs) × (test (get_or xs i 0) ≡ false)) → (b : Bool) → test x ≡ b → (i : ℕ) × (i < length (x ∷ xs)) × (test (get_or (x ∷ xs) i 0) ≡ false)
      go later false z = (0, omega arith, z)
      go later true z = let (i, h, f) = later (ap (λ b. b && all xs) (sym z) ∙ sym (t.first x xs) ∙ e) in (suc i, omega arith, f)
