-- The bits of what the machine's operations give, each for every bit at once.
use mathlib.Core.Path.{◌≡◌, refl, sym, ap, ◌∙◌}
use mathlib.Core.Bool.{Bool, true, false, ◌&&◌, ◌||◌}
use Prim.Native.Nat.{ℕ, zero, suc, ◌+◌, ◌-◌, ◌*◌, ◌/◌, ◌%◌, ◌^◌, ◌≤◌, ◌<◌}
use native.Mathlib.Nat.{div-one, zero-div, div-eq_of_lt, mul-one, sub-zero, suc-sub-suc, lt_of_lt_of_le}
use native.Mathlib.Omega.{arith}
use borrow.Author.Tests.{leb-true, lt-ltb}
use lib.Dec.{eqb, leb, ltb, leb-zero, leb-suc-zero, leb-suc-suc, eqb-zero-suc, eqb-suc-zero, eqb-suc-suc}
use lib.Pow.{pow_pos, pow_mono, shr-shr, field, mod-mod-pow}
use lib.Bits.{bit_and, bit_or, and_shr, or_shr, and_mod, or_mod, shifted_half, shifted_even}
use Rattle.codes.specs.Codes.{bit}
use Rattle.codes.specs.Words.{◌∋◌}
use Rattle.codes.proofs.Bools.{both, left, same_test}

-- ---- the lowest bit, and the rest

pub ∋_low : (w : ℕ) → (w ∋ 0) ≡ eqb (w % 2) 1
unfolding ◌∋◌
∋_low w = rw div-one

pub ∋_shr : (w j k : ℕ) → (w / 2 ^ j ∋ k) ≡ (w ∋ (j + k))
unfolding ◌∋◌
∋_shr w j k = rw shr-shr

pub ∋_suc : (w k : ℕ) → (w ∋ suc k) ≡ (w / 2 ∋ k)
∋_suc w k = sym (∋_shr w 1 k ∙ ap (λ (x : ℕ). w ∋ x) (omega arith))

pub ∋_none : (k : ℕ) → (0 ∋ k) ≡ false
unfolding ◌∋◌
∋_none k = rw zero-div

-- ---- bitwise operations: one law over the operation, by its table on single bits

pub bit_test : (x : ℕ) → x < 2 → bit (eqb x 1) ≡ x
bit_test zero h = refl
bit_test (suc zero) h = refl
bit_test (suc (suc x)) h = absurd (omega arith)

module _ (op : ℕ → ℕ → ℕ) (f : Bool → Bool → Bool)
    (shr : (a b k : ℕ) → op a b / 2 ^ k ≡ op (a / 2 ^ k) (b / 2 ^ k))
    (low_of : (a b k : ℕ) → op a b % 2 ^ k ≡ op (a % 2 ^ k) (b % 2 ^ k))
    (table : (p q : Bool) → eqb (op (bit p) (bit q)) 1 ≡ f p q) where
  ∋_op : (a b k : ℕ) → (op a b ∋ k) ≡ f (a ∋ k) (b ∋ k)
  unfolding ◌∋◌
  ∋_op a b k =
      let x = a / 2 ^ k % 2 in
      let y = b / 2 ^ k % 2 in
      rw (shr, low_of (a / 2 ^ k) (b / 2 ^ k) 1) (rw (bit_test x (omega arith), bit_test y (omega arith)) at (table (eqb x 1) (eqb y 1)))

and-table : (p q : Bool) → eqb (bit_and (bit p) (bit q)) 1 ≡ (p && q)
and-table true true = refl
and-table true false = refl
and-table false true = refl
and-table false false = refl

or-table : (p q : Bool) → eqb (bit_or (bit p) (bit q)) 1 ≡ (p || q)
or-table true true = refl
or-table true false = refl
or-table false true = refl
or-table false false = refl

pub ∋_and : (a b k : ℕ) → (bit_and a b ∋ k) ≡ (a ∋ k && b ∋ k)
∋_and = ∋_op bit_and ◌&&◌ and_shr and_mod and-table

pub ∋_or : (a b k : ℕ) → (bit_or a b ∋ k) ≡ (a ∋ k || b ∋ k)
∋_or = ∋_op bit_or ◌||◌ or_shr or_mod or-table

-- ---- shifts and masks

∋_shl : (a j k : ℕ) → (a * 2 ^ j ∋ k) ≡ (leb j k && a ∋ (k - j))
∋_shl a zero k = simp (mul-one, sub-zero, leb-zero)
∋_shl a (suc j) zero = ∋_low (a * 2 ^ suc j) ∙ rw (shifted_even, leb-suc-zero)
∋_shl a (suc j) (suc k) = ∋_suc (a * 2 ^ suc j) k ∙ rw (shifted_half, leb-suc-suc, suc-sub-suc) (∋_shl a j k)

pub ∋_pow : (j k : ℕ) → (2 ^ j ∋ k) ≡ eqb j k
unfolding ◌∋◌
∋_pow zero zero = refl
∋_pow zero (suc k) = ∋_suc 1 k ∙ rw eqb-zero-suc (∋_none k)
∋_pow (suc j) zero = let e : 2 ^ suc j % 2 ≡ 0 = omega arith in ∋_low (2 ^ suc j) ∙ rw (e, eqb-suc-zero)
∋_pow (suc j) (suc k) = let e : 2 ^ suc j / 2 ≡ 2 ^ j = omega arith in ∋_suc (2 ^ suc j) k ∙ rw (e, eqb-suc-suc) (∋_pow j k)

pub ∋_ones : (j k : ℕ) → (2 ^ j - 1 ∋ k) ≡ ltb k j
∋_ones zero k = rw leb-suc-zero (∋_none k)
∋_ones (suc j) zero = let e : (2 ^ suc j - 1) % 2 ≡ 1 = omega (arith, pow_pos j) in ∋_low (2 ^ suc j - 1) ∙ rw (e, leb-suc-suc, leb-zero)
∋_ones (suc j) (suc k) = let e : (2 ^ suc j - 1) / 2 ≡ 2 ^ j - 1 = omega (arith, pow_pos j) in ∋_suc (2 ^ suc j - 1) k ∙ rw (e, leb-suc-suc (suc k)) (∋_ones j k)

-- the mask of the i bits from j on
pub ∋_from : (i j k : ℕ) → k < i + j → ((2 ^ i - 1) * 2 ^ j ∋ k) ≡ leb j k
∋_from i j k h =
    ∋_shl (2 ^ i - 1) j k
    ∙ rw (∋_ones i (k - j)) (same_test (leb j k && ltb (k - j) i) (leb j k) (left (leb j k) (ltb (k - j) i)) (λ e. both e (lt-ltb (k - j) i (omega (arith, leb-true j k e)))))

-- what is cut off above a bit does not change it
pub ∋_mod : (w n k : ℕ) → k < n → (w % 2 ^ n ∋ k) ≡ (w ∋ k)
unfolding ◌∋◌
∋_mod w n k h =
    let j = n - suc k in
    let e : n ≡ j + 1 + k = omega arith in
    rw (e, field w (j + 1) k, mod-mod-pow (w / 2 ^ k) j 1)

-- `a << j` at n bits
pub ∋_shl_mod : (n a j k : ℕ) → k < n → ((a * 2 ^ j) % 2 ^ n ∋ k) ≡ (leb j k && a ∋ (k - j))
∋_shl_mod n a j k h = ∋_mod (a * 2 ^ j) n k h ∙ ∋_shl a j k

-- a number has no bit past its length
pub ∋_past : (w n k : ℕ) → w < 2 ^ n → n ≤ k → (w ∋ k) ≡ false
unfolding ◌∋◌
∋_past w n k h l = rw (div-eq_of_lt (lt_of_lt_of_le h (pow_mono l)))
