-- The number of a set by its bits: an equation of numbers is one of tests at each code, and back.
use mathlib.Core.Path.{◌≡◌, refl, sym, ◌∙◌}
use mathlib.Core.Bool.{Bool, true, false, false≢true}
use mathlib.Core.Logic.{◌⊎◌, inl, inr}
use Prim.Native.Nat.{ℕ, zero, suc, ◌+◌, ◌*◌, ◌/◌, ◌%◌, ◌^◌, ◌≤◌, ◌<◌}
use native.Mathlib.Nat.{le_refl, zero-lt-suc, mod-lt, mod-eq_of_lt, eq-or-lt_of_le, div-lt_iff_lt-mul}
use native.Mathlib.Decide.{dec_le, dec_lt}
use native.Mathlib.Omega.{arith}
use lib.Dec.{eqb}
use lib.Arith.{digits_lt}
use lib.Pow.{pow_pos, split, high, low}
use Rattle.codes.specs.Codes.{Codes, bit, word_below, word}
use Rattle.codes.specs.Words.{◌∋◌, set_of}
use Rattle.codes.specs.Theorems.{AtMost}
use Rattle.codes.proofs.Bools.{cannot_pass}
use Rattle.codes.proofs.Bits.{bit_test, ∋_mod, ∋_none, ∋_past}

-- ---- at n bits

bit_lt : (b : Bool) → bit b < 2
bit_lt true = le_refl 2
bit_lt false = zero-lt-suc 1

bit-has : (b : Bool) → eqb (bit b % 2) 1 ≡ b
bit-has true = refl
bit-has false = refl

pub below_lt : (n : ℕ) (a : Codes) → word_below n a < 2 ^ n
unfolding word_below
below_lt zero a = le_refl 1
below_lt (suc n) a = omega (arith, digits_lt (bit_lt (a n)) (below_lt n a))

pub ∋_below : (n : ℕ) (a : Codes) (k : ℕ) → k < n → (word_below n a ∋ k) ≡ a k
unfolding word_below ◌∋◌
∋_below zero a k h = absurd (omega arith)
∋_below (suc n) a k h = go (eq-or-lt_of_le (omega arith)) (∋_below n a k)
  where
    go : (k ≡ n) ⊎ (k < n) → (k < n → (word_below n a ∋ k) ≡ a k) → (word_below (suc n) a ∋ k) ≡ a k
    go (inl e) ih = rw (e, high (bit (a n)) n (below_lt n a)) (bit-has (a n))
    go (inr l) ih = sym (∋_mod (word_below (suc n) a) n k l) ∙ rw (low (bit (a n)) n (below_lt n a)) (ih l)

pub below-same : (n : ℕ) (a b : Codes) → ((k : ℕ) → k < n → a k ≡ b k) → word_below n a ≡ word_below n b
unfolding word_below
below-same zero a b h = refl
below-same (suc n) a b h = rw (h n (le_refl (suc n)), below-same n a b (λ k l. h k (omega arith)))

pub below_set : (n w : ℕ) → w < 2 ^ n → word_below n (set_of w) ≡ w
unfolding word_below ◌∋◌
below_set zero w h = omega arith
below_set (suc n) w h =
    let top : w / 2 ^ n < 2 = (div-lt_iff_lt-mul (pow_pos n)).1 (omega arith) in
    let rest : word_below n (set_of w) ≡ w % 2 ^ n = below-same n (set_of w) (set_of (w % 2 ^ n)) (λ k l. sym (∋_mod w n k l)) ∙ below_set n (w % 2 ^ n) (mod-lt w (pow_pos n)) in
    rw (mod-eq_of_lt top, bit_test (w / 2 ^ n) top, rest) (split w n)

pub below_none : (n : ℕ) (a : Codes) → ((k : ℕ) → k < n → a k ≡ false) → word_below n a ≡ 0
below_none n a none = below-same n a (set_of 0) (λ k h. none k h ∙ sym (∋_none k)) ∙ below_set n 0 (pow_pos n)

-- the lowest bit, and those above it
pub below-first : (n : ℕ) (a : Codes) → word_below (suc n) a ≡ bit (a 0) + 2 * word_below n (λ k. a (suc k))
unfolding word_below
below-first zero a = omega arith
below-first (suc n) a = go (a (suc n)) (below-first n a)
  where
    go : (b : Bool) → word_below (suc n) a ≡ bit (a 0) + 2 * word_below n (λ k. a (suc k)) → bit b * 2 ^ suc n + word_below (suc n) a ≡ bit (a 0) + 2 * (bit b * 2 ^ n + word_below n (λ k. a (suc k)))
    go true e = omega arith
    go false e = omega arith

-- ---- at 64 bits

pub word_lt : (a : Codes) → word a < 2 ^ 64
unfolding word
word_lt a = below_lt 64 a

pub ∋_word : (a : Codes) (k : ℕ) → k < 64 → (word a ∋ k) ≡ a k
unfolding word
∋_word a = ∋_below 64 a

-- where no code is above 63, for every code
pub ∋_all : (a : Codes) → AtMost 63 a → (k : ℕ) → (word a ∋ k) ≡ a k
∋_all a low k = go (dec_lt k 64)
  where
    go : Dec (k < 64) → (word a ∋ k) ≡ a k
    go (yes h) = ∋_word a k h
    go (no h) = ∋_past (word a) 64 k (word_lt a) (omega arith) ∙ sym (cannot_pass (a k) (λ e. omega (arith, low k e)))

pub word_same : (a b : Codes) → ((k : ℕ) → k < 64 → a k ≡ b k) → word a ≡ word b
unfolding word
word_same a b = below-same 64 a b

-- a number below 2 ^ 64 is the number of its set
pub word_set : (w : ℕ) → w < 2 ^ 64 → word (set_of w) ≡ w
unfolding word
word_set w = below_set 64 w

pub is_word : (w : ℕ) (a : Codes) → w < 2 ^ 64 → ((k : ℕ) → k < 64 → (w ∋ k) ≡ a k) → w ≡ word a
is_word w a h same = sym (word_set w h) ∙ word_same (set_of w) a same

-- two numbers with the same codes are equal
pub set_ext : (v w : ℕ) → v < 2 ^ 64 → w < 2 ^ 64 → ((k : ℕ) → k < 64 → (v ∋ k) ≡ (w ∋ k)) → v ≡ w
set_ext v w hv hw same = is_word v (set_of w) hv same ∙ word_set w hw

pub word-empty : (a : Codes) → ((k : ℕ) → a k ≡ false) → word a ≡ 0
word-empty a none = sym (is_word 0 a (pow_pos 64) (λ k h. ∋_none k ∙ sym (none k)))

-- a number below 2 ^ n has no code from n on
pub code_lt : (n w k : ℕ) → w < 2 ^ n → (w ∋ k) ≡ true → k < n
code_lt n w k h e = go (dec_le n k)
  where
    go : Dec (n ≤ k) → k < n
    go (yes l) = absurd (false≢true (sym (∋_past w n k h l) ∙ e))
    go (no f) = omega arith
