-- Laws by which callers carry the numbers to sets: each operation on the numbers of sets gives the number of the set that it makes.
use mathlib.Core.Path.{◌≡◌, refl, sym, ap, ap₂, ◌∙◌}
use mathlib.Core.Bool.{Bool, true, false, ◌&&◌, ◌||◌, cond}
use mathlib.Core.Logic.{◌⊎◌, inl, inr}
use Prim.Native.Nat.{ℕ, zero, suc, ◌+◌, ◌<◌}
use native.Mathlib.Nat.{le_refl, eq-or-lt_of_le}
use native.Mathlib.Omega.{arith}
use lib.Dec.{lit<, leb}
use Rattle.codes.specs.Codes.{Codes, only, union, given, without_ended, up_to, larger, caught, meets, under_trap, under_parallel, word}
use Rattle.codes.specs.Words.{◌∋◌, set_of, singleton_of, union_of, without_ended_of, meets_of, parallel_of, caught_of, under_trap_of, under_parallel_of}
use Rattle.codes.proofs.Bits.{∋_past}
pub use Rattle.codes.proofs.WordBits.{word_lt, ∋_word, word_same, word_set, word-empty}
use Rattle.codes.proofs.Ends.{up_to-same}

pub singleton_word : (c : ℕ) → singleton_of c ≡ word (only c)
unfolding singleton_of
singleton_word c = refl

module _ (a b : Codes) where
  pub union-word : union_of (word a) (word b) ≡ word (union a b)
  unfolding union_of
  union-word = word_same _ _ (λ k h. ap₂ ◌||◌ (∋_word a k h) (∋_word b k h))

  pub meets_word : meets_of (word a) (word b) ≡ meets a b
  unfolding meets_of
  meets_word = up_to-same (λ k. word a ∋ k && word b ∋ k) (λ k. a k && b k) 63 (λ k h. ap₂ ◌&&◌ (∋_word a k (omega arith)) (∋_word b k (omega arith)))

  pub parallel-word : parallel_of (word a) (word b) ≡ word (larger a b)
  unfolding parallel_of
  parallel-word = word_same _ _ (λ k h. ap₂ ◌||◌ (ap₂ ◌&&◌ (∋_word a k h) (up b k h)) (ap₂ ◌&&◌ (up a k h) (∋_word b k h)))
    where
      up : (c : Codes) (k : ℕ) → k < 64 → up_to (set_of (word c)) k ≡ up_to c k
      up c k h = up_to-same (set_of (word c)) c k (λ j l. ∋_word c j (omega arith))

module _ (a : Codes) where
  pub without-ended-word : without_ended_of (word a) ≡ word (without_ended a)
  unfolding without_ended_of
  without-ended-word = word_same _ _ at
    where
      at : (k : ℕ) → k < 64 → without_ended (set_of (word a)) k ≡ without_ended a k
      at zero h = refl
      at (suc k) h = ∋_word a (suc k) h

  -- a trap brings code 64 down to 63
  pub caught-word : a 64 ≡ false → caught_of (word a) ≡ word (caught a)
  unfolding caught_of
  caught-word none = word_same _ _ at
    where
      has : (k : ℕ) → (k ≡ 64) ⊎ (k < 64) → (word a ∋ k) ≡ a k
      has k (inl e) = rw e (∋_past (word a) 64 64 (word_lt a) (le_refl 64) ∙ sym none)
      has k (inr h) = ∋_word a k h

      at : (k : ℕ) → k < 64 → caught (set_of (word a)) k ≡ caught a k
      at zero h = ap₂ ◌||◌ (∋_word a 0 h) (∋_word a 2 (lit< tt))
      at (suc zero) h = ∋_word a 1 h
      at (suc (suc k)) h = has (suc (suc (suc k))) (eq-or-lt_of_le h)

  pub under-trap-word : under_trap_of (word a) ≡ word (under_trap a)
  unfolding under_trap_of
  under-trap-word = word_same _ _ at
    where
      at : (k : ℕ) → k < 64 → under_trap (set_of (word a)) k ≡ under_trap a k
      at zero h = ∋_word a 0 h
      at (suc zero) h = ∋_word a 1 h
      at (suc (suc zero)) h = ∋_word a 0 (lit< tt)
      at (suc (suc (suc k))) h = ∋_word a (suc (suc k)) (omega arith)

  pub under-parallel-word : (t : ℕ) → under_parallel_of t (word a) ≡ word (under_parallel t a)
  unfolding under_parallel_of meets_of
  under-parallel-word t = word_same _ _ (λ k h. ap (λ (x : Bool). leb k (1 + t) && x) (meets_word a a))

  pub given_word : (t : Bool) → cond t (word a) 0 ≡ word (given t a)
  given_word true = refl
  given_word false = sym (word-empty (given false a) (λ k. refl))
