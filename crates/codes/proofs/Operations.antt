-- What the machine computes for each operation is the number of the specification's set.
use mathlib.Core.Path.{◌≡◌, refl, sym, ap₂, subst, ◌∙◌}
use mathlib.Core.Bool.{Bool, true, not, ◌&&◌, ◌||◌, and-true, and-false, or-false}
use mathlib.Core.Logic.{⊎_elim}
use Prim.Native.Nat.{ℕ, zero, suc, ◌+◌, ◌-◌, ◌*◌, ◌/◌, ◌%◌, ◌^◌, ◌<◌, max}
use native.Mathlib.Nat.{mod-lt, one-mul, lt_of_le_of_lt}
use native.Mathlib.Omega.{arith}
use borrow.Author.Tests.{leb-true, ltb-true, le-leb, lt-ltb, le-ltb, ne_eqb}
use lib.Dec.{lit<, eqb, leb, ltb, leb-zero, leb-suc-suc, eqb-zero-suc}
use lib.Pow.{pow_pos, shr_le}
use lib.Bits.{bit_and, bit_or, or_lt, and_le_r, and_self}
use lib.Count.{count_trailing_zeros, count_leading_zeros}
use Rattle.codes.specs.Codes.{Codes, without_ended, up_to, larger, caught, meets, under_trap}
use Rattle.codes.specs.Words.{◌∋◌, set_of, singleton_of, union_of, without_ended_of, meets_of, least_from, greatest_below, lowest_of, highest_of, larger_of, parallel_of, caught_of, under_trap_of, under_parallel_of, span_of}
use Rattle.codes.specs.Theorems.{Lowest, Highest}
use Rattle.std.specs.Prelude.{Option, Some, None}
use Rattle.codes.proofs.Bools.{both, left, right, either, inl_true, inr_true, same_test}
use Rattle.codes.proofs.Members.{larger_in, larger_out}
use Rattle.codes.proofs.Bits.{∋_none, ∋_and, ∋_or, ∋_shr, ∋_shl_mod, ∋_pow, ∋_ones, ∋_from, ∋_mod}
use Rattle.codes.proofs.WordBits.{word_lt, ∋_word, is_word, word_same, word-empty}
use Rattle.codes.proofs.Ends.{trailing_lowest, trailing_lt, leading_highest, least-found, greatest-found, up_to-same, up_to-none, some-code}

and-fits : (a b : ℕ) → b < 2 ^ 64 → bit_and a b < 2 ^ 64
and-fits a b h = lt_of_le_of_lt (and_le_r a b) h

mod-fits : (n : ℕ) → n % 2 ^ 64 < 2 ^ 64
mod-fits n = mod-lt n (pow_pos 64)

-- ---- `singleton`, `union`, `without_ended`, `span`, `meets`

pub singleton_is_lem : (c : ℕ) → (1 * 2 ^ c) % 2 ^ 64 ≡ singleton_of c
unfolding singleton_of
singleton_is_lem c = is_word _ _ (mod-fits (1 * 2 ^ c)) (λ k h. ∋_mod (1 * 2 ^ c) 64 k h ∙ rw one-mul (∋_pow c k))

pub union-is : (a b : ℕ) → a < 2 ^ 64 → b < 2 ^ 64 → bit_or a b ≡ union_of a b
unfolding union_of
union-is a b ha hb = is_word _ _ (or_lt 64 a b ha hb) (λ k h. ∋_or a b k)

pub without-ended-is : (a : ℕ) → bit_and a (2 ^ 64 - 1 - 1) ≡ without_ended_of a
unfolding without_ended_of
without-ended-is a = is_word _ _ (and-fits a _ (lit< tt)) (λ k h. ∋_and a (2 ^ 64 - 1 - 1) k ∙ rw (∋_from 63 1 k h) (at k))
  where
    at : (k : ℕ) → (a ∋ k && leb 1 k) ≡ without_ended (set_of a) k
    at zero = and-false (a ∋ 0)
    at (suc k) = rw (leb-suc-suc, leb-zero) (and-true (a ∋ suc k))

pub span_is : (low high : ℕ) → high < 64 → bit_and (((2 ^ 64 - 1) * 2 ^ low) % 2 ^ 64) ((2 ^ 64 - 1) / 2 ^ (63 - high)) ≡ span_of low high
unfolding span_of
span_is low high hh =
    is_word _ _ (and-fits (((2 ^ 64 - 1) * 2 ^ low) % 2 ^ 64) _ (lt_of_le_of_lt (shr_le (2 ^ 64 - 1) (63 - high)) (lit< tt)))
    (λ k h. simp (∋_and, ∋_mod ((2 ^ 64 - 1) * 2 ^ low) 64 k h, ∋_from 64 low k (omega arith), ∋_shr, ∋_ones 64 (63 - high + k), to k))
  where
    to : (k : ℕ) → ltb (63 - high + k) 64 ≡ leb k high
    to k =
        same_test (ltb (63 - high + k) 64) (leb k high) (λ e. le-leb k high (omega (arith, ltb-true (63 - high + k) 64 e)))
        (λ e. lt-ltb (63 - high + k) 64 (omega (arith, leb-true k high e)))

pub meets-is : (a b : ℕ) → b < 2 ^ 64 → not (eqb (bit_and a b) 0) ≡ meets_of a b
unfolding meets_of
meets-is a b hb = some-code 63 (bit_and a b) (and-fits a b hb) ∙ up_to-same (set_of (bit_and a b)) (λ k. a ∋ k && b ∋ k) 63 (λ k h. ∋_and a b k)

-- ---- `lowest`, `highest`

pub lowest-is : (w : ℕ) → 0 < w → w < 2 ^ 64 → Some (count_trailing_zeros 64 w) ≡ lowest_of w
unfolding lowest_of
lowest-is w p h = sym (least-found 64 0 (count_trailing_zeros 64 w) (set_of w) (omega arith) (omega (arith, trailing_lt 64 w p h)) (trailing_lowest 64 w p h))

pub highest-is : (w : ℕ) → 0 < w → w < 2 ^ 64 → Some (63 - count_leading_zeros 64 w) ≡ highest_of w
unfolding highest_of
highest-is w p h = sym (greatest-found 64 (63 - count_leading_zeros 64 w) (set_of w) (omega arith) (leading_highest 63 w p h).1)

-- the search in 0 computes
pub lowest-none : None ≡ lowest_of 0
unfolding ◌∋◌ least_from lowest_of
lowest-none = refl

pub highest-none : None ≡ highest_of 0
unfolding ◌∋◌ greatest_below highest_of
highest-none = refl

-- ---- `parallel`

-- an end of the set that w holds: there is none in 0, and else a code of this kind
pub data End (P : Codes → ℕ → Type 0) (w : ℕ) : Option ℕ → Type 0 where
  without : w ≡ 0 → End P w None
  ends : (k : ℕ) → k < 64 → P (set_of w) k → End P w (Some k)

pub lowest-end : (w : ℕ) → w < 2 ^ 64 → End Lowest w (lowest_of w)
lowest-end zero h = subst (End Lowest 0) lowest-none (without refl)
lowest-end (suc m) h =
    let w = suc m in
    subst (End Lowest w) (lowest-is w (omega arith) h) (ends _ (trailing_lt 64 w (omega arith) h) (trailing_lowest 64 w (omega arith) h))

pub highest-end : (w : ℕ) → w < 2 ^ 64 → End Highest w (highest_of w)
highest-end zero h = subst (End Highest 0) highest-none (without refl)
highest-end (suc m) h =
    let w = suc m in
    subst (End Highest w) (highest-is w (omega arith) h) (ends _ (omega arith) (leading_highest 63 w (omega arith) h).1)

-- the larger of an end of a and one of b
pub record Larger (P : Codes → ℕ → Type 0) (a b k : ℕ) : Type 0 where
  pub first : ℕ
  pub second : ℕ
  pub first_end : P (set_of a) first
  pub second_end : P (set_of b) second
  pub is : k ≡ max first second
  pub below : k < 64

-- what is found as that: nothing where one set is empty
pub data LargerFound (P : Codes → ℕ → Type 0) (a b : ℕ) : Option ℕ → Type 0 where
  missing : 0 ≡ parallel_of a b → LargerFound P a b None
  found : (k : ℕ) → Larger P a b k → LargerFound P a b (Some k)

parallel_none_l : (b : ℕ) → 0 ≡ parallel_of 0 b
unfolding parallel_of
parallel_none_l b = sym (word-empty _ (λ k. rw (∋_none k, up_to-none (set_of 0) k ∋_none)))

parallel-none-r : (a : ℕ) → 0 ≡ parallel_of a 0
unfolding parallel_of
parallel-none-r a = sym (word-empty _ (λ k. simp (∋_none k, up_to-none (set_of 0) k ∋_none, and-false)))

larger-found : {P : Codes → ℕ → Type 0} {a b : ℕ} {x y : Option ℕ} → End P a x → End P b y → LargerFound P a b (larger_of x y)
larger-found {b = b} (without e) d = missing (rw e (parallel_none_l b))
larger-found {a = a} (ends k h m) (without e) = missing (rw e (parallel-none-r a))
larger-found (ends i h m) (ends j l n) =
    found (max i j) (record { first = i; second = j; first_end = m; second_end = n; is = refl; below = omega arith })

module _ {a b : ℕ} {x y r : Option ℕ} (fa : a < 2 ^ 64) (fb : b < 2 ^ 64) (er : r ≡ larger_of x y) where
  pub low-found : x ≡ lowest_of a → y ≡ lowest_of b → LargerFound Lowest a b r
  low-found ex ey = rw (er, ex, ey) (larger-found (lowest-end a fa) (lowest-end b fb))

  pub high-found : x ≡ highest_of a → y ≡ highest_of b → LargerFound Highest a b r
  high-found ex ey = rw (er, ex, ey) (larger-found (highest-end a fa) (highest-end b fb))

pub is-missing : {P : Codes → ℕ → Type 0} {a b : ℕ} → LargerFound P a b None → 0 ≡ parallel_of a b
is-missing (missing e) = e

pub is_found : {P : Codes → ℕ → Type 0} {a b k : ℕ} → LargerFound P a b (Some k) → Larger P a b k
is_found (found k l) = l

-- the larger ones are the codes of either set between the larger ends
module _ (a b : Codes) (la lb ha hb : ℕ) (low_a : Lowest a la) (low_b : Lowest b lb) (high_a : Highest a ha) (high_b : Highest b hb) (k : ℕ) where
  abbrev between : Bool
  between = leb (max la lb) k && leb k (max ha hb)

  larger-between : ((a k || b k) && between) ≡ larger a b k
  larger-between = same_test ((a k || b k) && between) (larger a b k) there back
    where
      there : ((a k || b k) && between) ≡ true → larger a b k ≡ true
      there e =
          let l = leb-true (max la lb) k (left (leb (max la lb) k) (leb k (max ha hb)) (right (a k || b k) e)) in
          let p : max k lb ≡ k = omega arith in
          let q : max la k ≡ k = omega arith in
          ⊎_elim (λ f. rw p at (larger_in a b k lb f low_b.is_in)) (λ f. rw q at (larger_in a b la k low_a.is_in f)) (either (a k) (b k) (left (a k || b k) between e))

      back : larger a b k ≡ true → ((a k || b k) && between) ≡ true
      back e =
          let (i, j, ai, bj, m) = larger_out a b k e in
          let l₁ = low_a.least i ai in
          let l₂ = low_b.least j bj in
          let h₁ = high_a.most i ai in
          let h₂ = high_b.most j bj in
          let one = ⊎_elim (λ f. inl_true (a k) (b k) (left (a k) (up_to b k) f)) (λ f. inr_true (a k) (b k) (right (up_to a k) f)) (either (a k && up_to b k) (up_to a k && b k) e) in
          both one (both (le-leb (max la lb) k (omega arith)) (le-leb k (max ha hb) (omega arith)))

pub parallel-is : (a b low high : ℕ) → Larger Lowest a b low → Larger Highest a b high → bit_and (bit_or a b) (span_of low high) ≡ parallel_of a b
unfolding parallel_of span_of
parallel-is a b low high l h =
    rw (l.is, h.is)
    (is_word _ _ (and-fits (bit_or a b) _ (word_lt _))
    (λ k lt. ∋_and (bit_or a b) _ k ∙ ap₂ ◌&&◌ (∋_or a b k) (∋_word _ k lt)
    ∙ larger-between (set_of a) (set_of b) _ _ _ _ l.first_end l.second_end h.first_end h.second_end k))

-- ---- `caught`, `under_trap`: shifts and masks, at each code

by_masks : (a : Codes) (k : ℕ) → ((a k || a (2 + k)) && eqb 0 k || (a k && eqb 1 k) || (a (1 + k) && leb 2 k)) ≡ caught a k
by_masks a zero = simp (and-true, and-false, or-false)
by_masks a (suc zero) = simp (and-true, and-false, or-false)
by_masks a (suc (suc k)) =
    let n = suc (suc k) in
    let e : 1 + n ≡ suc n = omega arith in
    simp (eqb-zero-suc, ne_eqb 1 n (omega arith), le-leb 2 n (omega arith), e, and-true, and-false)

pub caught-is : (a : ℕ) → bit_or (bit_or (bit_and (bit_or a (a / 2 ^ 2)) 1) (bit_and a 2)) (bit_and (a / 2 ^ 1) (2 ^ 64 - 1 - 3)) ≡ caught_of a
unfolding caught_of
caught-is a =
    is_word _ _ (or_lt 64 _ _ (or_lt 64 _ _ (and-fits (bit_or a (a / 2 ^ 2)) 1 (lit< tt)) (and-fits a 2 (lit< tt))) (and-fits (a / 2 ^ 1) (2 ^ 64 - 1 - 3) (lit< tt)))
    (λ k h. simp (∋_or, ∋_and, ∋_shr a 2 k, ∋_shr a 1 k, ∋_pow 0 k, ∋_pow 1 k, ∋_from 62 2 k h) (by_masks (set_of a) k))

by_shifts : (p : Codes) (k : ℕ) → (p k && ltb k 2 || (leb 2 k && (p (k - 2) && eqb 0 (k - 2))) || (leb 1 k && (p (k - 1) && leb 2 (k - 1)))) ≡ under_trap p k
by_shifts p zero = simp (and-true, or-false)
by_shifts p (suc zero) = simp (and-true, and-false, or-false)
by_shifts p (suc (suc zero)) = simp (and-true, and-false, or-false)
by_shifts p (suc (suc (suc k))) =
    let n = suc (suc (suc k)) in
    let e₂ : n - 2 ≡ suc k = omega arith in
    let e₁ : n - 1 ≡ suc (suc k) = omega arith in
    simp (le-ltb n 2 (omega arith), le-leb 2 n (omega arith), le-leb 1 n (omega arith), e₂, e₁, eqb-zero-suc, le-leb 2 (suc (suc k)) (omega arith), and-true, and-false)

pub under-trap-is : (p : ℕ) → bit_or (bit_or (bit_and p 3) ((bit_and p 1 * 2 ^ 2) % 2 ^ 64)) ((bit_and p (2 ^ 64 - 1 - 3) * 2 ^ 1) % 2 ^ 64) ≡ under_trap_of p
unfolding under_trap_of
under-trap-is p =
    is_word _ _ (or_lt 64 _ _ (or_lt 64 _ _ (and-fits p 3 (lit< tt)) (mod-fits (bit_and p 1 * 2 ^ 2))) (mod-fits (bit_and p (2 ^ 64 - 1 - 3) * 2 ^ 1)))
    (λ k h. simp (∋_or, ∋_and, ∋_shl_mod 64 (bit_and p 1) 2 k h, ∋_shl_mod 64 (bit_and p (2 ^ 64 - 1 - 3)) 1 k h, ∋_ones 2 k, ∋_pow 0 (k - 2), ∋_from 62 2 (k - 1) (omega arith)) (by_shifts (set_of p) k))

-- ---- `under_parallel`

pub under-parallel-none : (t : ℕ) → 0 ≡ under_parallel_of t 0
unfolding under_parallel_of ◌∋◌
under-parallel-none t = sym (word-empty _ (λ k. and-false (leb k (1 + t))))

pub under-parallel-is : (t p : ℕ) → 0 < p → p < 2 ^ 64 → span_of 0 (1 + t) ≡ under_parallel_of t p
unfolding under_parallel_of span_of meets_of
under-parallel-is t p pp fp =
    word_same _ _ (λ k h. rw (some, le-leb 0 k (omega arith)) (sym (and-true (leb k (1 + t)))))
  where
    some : meets (set_of p) (set_of p) ≡ true
    some = sym (meets-is p p fp) ∙ rw (and_self, ne_eqb p 0 (omega arith))
