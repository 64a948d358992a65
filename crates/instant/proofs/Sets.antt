-- Laws of `sets`, the stores of a list's elements one after the other.
use mathlib.Core.Path.{◌≡◌, refl, sym, ap, ◌∙◌}
use mathlib.Core.List.{List, [], ◌∷◌, ◌++◌}
use Prim.Native.Nat.{ℕ, zero, suc, ◌+◌, ◌-◌, ◌<◌, ◌≤◌}
use native.Mathlib.Decide.{dec_lt}
use native.Mathlib.Omega.{arith}
use lib.ListN.{length, get_or, set, drop, length-set, length-replicate}
use lib.Seq.{sets, set_comm, set-set, set-get_or, get_or-set_same, get_or-set_other, drop-set-lt}
use Rattle.esterel.specs.Instant.{zeros}
use Rattle.table.proofs.Buffers.{sets-append}

set_before : (l : List ℕ) (i j y : ℕ) (a : List ℕ) → j < i → set (sets l i a) j y ≡ sets (set l j y) i a
set_before l i j y [] lt = refl
set_before l i j y (x ∷ a) lt =
    set_before (set l i x) (suc i) j y a (omega arith) ∙ ap (λ m. sets m (suc i) a) (set_comm l i j x y (omega arith))

-- a second run of stores over the first
pub sets_over : (l : List ℕ) (i : ℕ) (a b : List ℕ) → length a ≡ length b → sets (sets l i a) i b ≡ sets l i b
sets_over l i [] [] e = refl
sets_over l i [] (y ∷ b) e = absurd (omega arith)
sets_over l i (x ∷ a) [] e = absurd (omega arith)
sets_over l i (x ∷ a) (y ∷ b) e =
    ap (λ m. sets m (suc i) b) (set_before (set l i x) (suc i) i y a (omega arith) ∙ ap (λ m. sets m (suc i) a) (set-set l i x y))
    ∙ sets_over (set l i y) (suc i) a b (omega arith)

-- what lies before the stores, and behind them
set-kept : (l : List ℕ) (i : ℕ) (a : List ℕ) (j : ℕ) → j < i → get_or (sets l i a) j 0 ≡ get_or l j 0
set-kept l i [] j lt = refl
set-kept l i (x ∷ a) j lt = set-kept (set l i x) (suc i) a j (omega arith) ∙ get_or-set_other l i j x 0 (λ e. omega arith)

pub sets_behind : (l : List ℕ) (i : ℕ) (a : List ℕ) (j : ℕ) → i + length a ≤ j → get_or (sets l i a) j 0 ≡ get_or l j 0
sets_behind l i [] j le = refl
sets_behind l i (x ∷ a) j le = sets_behind (set l i x) (suc i) a j (omega arith) ∙ get_or-set_other l i j x 0 (λ e. omega arith)

-- stores before a part
pub part-behind : (l : List ℕ) (f : ℕ) (v : List ℕ) (n : ℕ) → f + length v ≤ n → drop n (sets l f v) ≡ drop n l
part-behind l f [] n le = refl
part-behind l f (x ∷ v) n le = part-behind (set l f x) (suc f) v n (omega arith) ∙ drop-set-lt n l f x (omega arith)

-- the stores themselves
pub sets-at : (l : List ℕ) (i : ℕ) (a : List ℕ) (j : ℕ) → i ≤ j → j < i + length a → j < length l → get_or (sets l i a) j 0 ≡ get_or a (j - i) 0
sets-at l i [] j lo hi le = absurd (omega arith)
sets-at l i (x ∷ a) j lo hi le = go (dec_lt i j) (λ h. sets-at (set l i x) (suc i) a j (omega arith) (omega arith) (rw length-set le))
  where
    go : Dec (i < j) → (i < j → get_or (sets (set l i x) (suc i) a) j 0 ≡ get_or a (j - suc i) 0) → get_or (sets (set l i x) (suc i) a) j 0 ≡ get_or (x ∷ a) (j - i) 0
    go (yes h) ih =
        let z : j - i ≡ suc (j - suc i) = omega arith in
        ih h ∙ sym (ap (λ k. get_or (x ∷ a) k 0) z)
    go (no h) ih =
        let e : i ≡ j = omega arith in
        let z : j - i ≡ 0 = omega arith in
        set-kept (set l i x) (suc i) a j (omega arith) ∙ ap (λ k. get_or (set l i x) k 0) (sym e) ∙ get_or-set_same l i x 0 (omega arith) ∙ sym (ap (λ k. get_or (x ∷ a) k 0) z)

-- n bytes from i on are 0
abbrev pub Zero : List ℕ → (i n : ℕ) → Type 0
Zero l i n = (j : ℕ) → i ≤ j → j < i + n → get_or l j 0 ≡ 0

pub zero-behind : (l : List ℕ) (f : ℕ) (a : List ℕ) (i n : ℕ) → f + length a ≤ i → Zero l i n → Zero (sets l f a) i n
zero-behind l f a i n le z j lo hi = sets_behind l f a j (omega arith) ∙ z j lo hi

pub set-zero : (l : List ℕ) (i : ℕ) → get_or l i 0 ≡ 0 → set l i 0 ≡ l
set-zero l i e = ap (λ x. set l i x) (sym e) ∙ set-get_or l i 0

-- zeros stored over zeros
pub sets-zeros : (l : List ℕ) (i n : ℕ) → Zero l i n → sets l i (zeros n) ≡ l
sets-zeros l i zero z = refl
sets-zeros l i (suc n) z =
    ap (λ m. sets m (suc i) (zeros n)) (set-zero l i (z i (omega arith) (omega arith))) ∙ sets-zeros l (suc i) n (λ j lo hi. z j (omega arith) (omega arith))

module _ (l : List ℕ) (f : ℕ) where
  pub zeros-after : (a : List ℕ) (n : ℕ) → Zero l (f + length a) n → sets l f (a ++ zeros n) ≡ sets l f a
  zeros-after a n z = sets-append l f a (zeros n) ∙ sets-zeros (sets l f a) (f + length a) n (zero-behind l f a (f + length a) n (omega arith) z)

  pub zeros-before : (n : ℕ) (a : List ℕ) → Zero l f n → sets l f (zeros n ++ a) ≡ sets l (f + n) a
  zeros-before n a z = sets-append l f (zeros n) a ∙ rw (sets-zeros l f n z, length-replicate {A = ℕ} n 0)
