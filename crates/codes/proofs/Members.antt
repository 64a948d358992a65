-- The codes of each set that the rules make, for all codes together.
use mathlib.Core.Path.{◌≡◌, refl}
use mathlib.Core.Bool.{Bool, true, false≢true, ◌&&◌, ◌||◌, or-true}
use mathlib.Core.Logic.{◌⊎◌, inl, inr, ⊎_elim, ◌↔◌}
use Prim.Native.Nat.{ℕ, zero, suc, ◌+◌, ◌≤◌, max}
use native.Mathlib.Nat.{max-eq_left, max-eq_right}
use native.Mathlib.Decide.{dec_le}
use native.Mathlib.Omega.{arith}
use borrow.Author.Tests.{leb-true}
use lib.Dec.{eqb, leb, eqb→eq, eqb_refl}
use Rattle.codes.specs.Codes.{Codes, empty, only, union, given, without_ended, up_to, larger, catch_code, caught, meets, under_trap, under_parallel}
use Rattle.codes.specs.Theorems.{AtMost}
use Rattle.codes.proofs.Bools.{both, left, right, either, inl_true, inr_true, to_t, from_t}

pub only_in : (k : ℕ) → only k k ≡ true
only_in k = from_t (eqb k k) (eqb_refl k)

pub only_out : (c k : ℕ) → only c k ≡ true → c ≡ k
only_out c k e = eqb→eq c k (to_t (eqb c k) e)

pub up_to_in : (a : Codes) (k l : ℕ) → k ≤ l → a k ≡ true → up_to a l ≡ true
up_to_in a k zero h e = let z : k ≡ 0 = omega arith in rw z at e
up_to_in a k (suc l) h e = go (λ j. up_to_in a k l j e) (dec_le k l)
  where
    go : (k ≤ l → up_to a l ≡ true) → Dec (k ≤ l) → (a (suc l) || up_to a l) ≡ true
    go ih (yes j) = inr_true (a (suc l)) (up_to a l) (ih j)
    go ih (no j) = let z : k ≡ suc l = omega arith in inl_true (a (suc l)) (up_to a l) (rw z at e)

pub up_to_out : (a : Codes) (l : ℕ) → up_to a l ≡ true → (k : ℕ) × (k ≤ l) × (a k ≡ true)
up_to_out a zero e = (0, omega arith, e)
up_to_out a (suc l) e = go (either (a (suc l)) (up_to a l) e) (up_to_out a l)
  where
    go : (a (suc l) ≡ true) ⊎ (up_to a l ≡ true) → (up_to a l ≡ true → (k : ℕ) × (k ≤ l) × (a k ≡ true)) → (k : ℕ) × (k ≤ suc l) × (a k ≡ true)
    go (inl f) ih = (suc l, omega arith, f)
    go (inr f) ih = ((ih f).0, omega (arith, (ih f).1), (ih f).2)

module _ (a b : Codes) where
  -- `larger` has every larger one of a code of a and a code of b, and nothing else
  pub larger_in : (k l : ℕ) → a k ≡ true → b l ≡ true → larger a b (max k l) ≡ true
  larger_in k l e f = go (dec_le k l)
    where
      go : Dec (k ≤ l) → larger a b (max k l) ≡ true
      go (yes h) = rw max-eq_right (simp (f, up_to_in a k l h e, or-true))
      go (no h) = let j : l ≤ k = omega arith in rw max-eq_left (simp (e, up_to_in b l k j f))

  pub larger_out : (k : ℕ) → larger a b k ≡ true → (i j : ℕ) × (a i ≡ true) × (b j ≡ true) × (max i j ≡ k)
  larger_out k e = go (either (a k && up_to b k) (up_to a k && b k) e)
    where
      go : ((a k && up_to b k) ≡ true) ⊎ ((up_to a k && b k) ≡ true) → (i j : ℕ) × (a i ≡ true) × (b j ≡ true) × (max i j ≡ k)
      go (inl f) =
          let (j, le, g) = up_to_out b k (right (a k) f) in
          (k, j, left (a k) (up_to b k) f, g, max-eq_left le)
      go (inr f) =
          let (i, le, g) = up_to_out a k (left (up_to a k) (b k) f) in
          (i, k, g, right (up_to a k) f, max-eq_right le)

  -- the codes of a sequence: the first's other than 0, and the second's where the first's has 0
  pub sequence-first : (k : ℕ) → a (suc k) ≡ true → union (without_ended a) (given (a 0) b) (suc k) ≡ true
  sequence-first k e = inl_true (a (suc k)) (a 0 && b (suc k)) e

  pub sequence-second : (l : ℕ) → a 0 ≡ true → b l ≡ true → union (without_ended a) (given (a 0) b) l ≡ true
  sequence-second l e f = inr_true (without_ended a l) (a 0 && b l) (both e f)

-- `caught` has what a trap makes of each code, and nothing else
pub caught_in : (a : Codes) (k : ℕ) → a k ≡ true → caught a (catch_code k) ≡ true
caught_in a zero e = inl_true (a 0) (a 2) e
caught_in a (suc zero) e = e
caught_in a (suc (suc zero)) e = inr_true (a 0) (a 2) e
caught_in a (suc (suc (suc k))) e = e

pub caught_out : (a : Codes) (k : ℕ) → caught a k ≡ true → (j : ℕ) × (a j ≡ true) × (catch_code j ≡ k)
caught_out a zero e = go (either (a 0) (a 2) e)
  where
    go : (a 0 ≡ true) ⊎ (a 2 ≡ true) → (j : ℕ) × (a j ≡ true) × (catch_code j ≡ 0)
    go (inl f) = (0, f, refl)
    go (inr f) = (2, f, refl)
caught_out a (suc zero) e = (1, e, refl)
caught_out a (suc (suc k)) e = (suc (suc (suc k)), e, refl)

pub meets_in : (a b : Codes) (k : ℕ) → k ≤ 63 → a k ≡ true → b k ≡ true → meets a b ≡ true
meets_in a b k h e f = up_to_in (λ j. a j && b j) k 63 h (both e f)

-- `meets` looks below 64, and so overlooks no code where one set has none above 63
pub meets_common : (a b : Codes) → AtMost 63 b → (meets a b ≡ true) ↔ ((k : ℕ) × (a k ≡ true) × (b k ≡ true))
meets_common a b low = (
  λ e. let (k, l, f) = up_to_out (λ k. a k && b k) 63 e in (k, left (a k) (b k) f, right (a k) f),
  λ (k, e, f). meets_in a b k (low k f) e f,
)

-- ---- what has more codes gives more

abbrev pub Within : Codes → Codes → Type 0
Within a b = (k : ℕ) → a k ≡ true → b k ≡ true

pub without-ended-within : {a d : Codes} → Within a d → Within (without_ended a) (without_ended d)
without-ended-within f zero e = e
without-ended-within f (suc k) e = f (suc k) e

pub caught-within : {a d : Codes} → Within a d → Within (caught a) (caught d)
caught-within {a} {d} f k e = let (j, g, z) = caught_out a k e in rw (← z) (caught_in d j (f j g))

module _ {a b d e : Codes} (f : Within a d) (g : Within b e) where
  pub union-within : Within (union a b) (union d e)
  union-within k z = ⊎_elim (λ x. inl_true (d k) (e k) (f k x)) (λ x. inr_true (d k) (e k) (g k x)) (either (a k) (b k) z)

  pub sequence-within : Within (union (without_ended a) (given (a 0) b)) (union (without_ended d) (given (d 0) e))
  sequence-within k z =
      ⊎_elim (λ x. inl_true (without_ended d k) (d 0 && e k) (without-ended-within f k x)) (λ x. inr_true (without_ended d k) (d 0 && e k) (both (f 0 (left (a 0) (b k) x)) (g k (right (a 0) x))))
      (either (without_ended a k) (a 0 && b k) z)

  pub larger-within : Within (larger a b) (larger d e)
  larger-within k z = let (i, j, x, y, m) = larger_out a b k z in rw (← m) (larger_in d e i j (f i x) (g j y))

-- ---- the highest code that each can have

pub empty-most : (n : ℕ) → AtMost n empty
empty-most n k e = absurd (false≢true e)

pub only-most : (n c : ℕ) → c ≤ n → AtMost n (only c)
only-most n c h k e = omega (arith, only_out c k e)

pub given-most : (n : ℕ) (test : Bool) (a : Codes) → AtMost n a → AtMost n (given test a)
given-most n test a la k e = la k (right test e)

pub without-ended-most : (n : ℕ) (a : Codes) → AtMost n a → AtMost n (without_ended a)
without-ended-most n a la zero e = omega arith
without-ended-most n a la (suc k) e = la (suc k) e

module _ (n : ℕ) (a b : Codes) (la : AtMost n a) (lb : AtMost n b) where
  pub union-most : AtMost n (union a b)
  union-most k e = ⊎_elim (la k) (lb k) (either (a k) (b k) e)

  pub larger-most : AtMost n (larger a b)
  larger-most k e =
      let (i, j, f, g, z) = larger_out a b k e in
      omega (arith, la i f, lb j g)

-- a trap brings the codes from 3 on down by one, and under it those from 2 on go up by one
pub caught-most : (n : ℕ) (a : Codes) → AtMost (suc (suc n)) a → AtMost (suc n) (caught a)
caught-most n a la zero e = omega arith
caught-most n a la (suc zero) e = omega arith
caught-most n a la (suc (suc k)) e = omega (arith, la (suc (suc (suc k))) e)

pub under-trap-most : (n : ℕ) (P : Codes) → AtMost (suc n) P → AtMost (suc (suc n)) (under_trap P)
under-trap-most n P l zero e = omega arith
under-trap-most n P l (suc zero) e = omega arith
under-trap-most n P l (suc (suc zero)) e = omega arith
under-trap-most n P l (suc (suc (suc k))) e = omega (arith, l (suc (suc k)) e)

pub under-parallel-most : (t : ℕ) (P : Codes) → AtMost (suc t) (under_parallel t P)
under-parallel-most t P k e = omega (arith, leb-true k (1 + t) (left (leb k (1 + t)) (meets P P) e))
