-- The last number below a bound that passes a test, and tests that all numbers below it pass.
use mathlib.Core.Path.{◌≡◌, refl, ap}
use mathlib.Core.Logic.{◌↔◌}
use mathlib.Core.Bool.{Bool, true, false, cond}
use mathlib.Core.Option.{Option, none, some}
use Prim.Native.Nat.{ℕ, zero, suc, ◌≤◌, ◌<◌}
use native.Mathlib.Decide.{dec_lt}
use native.Mathlib.Omega.{arith}
use borrow.Author.Count.{below_more}
use Rattle.blocks.specs.Editions.{last_below, all_below}
use Rattle.codes.proofs.Bools.{both, left, right, cannot_pass, false-not-true}

-- what holds below n and of n holds below suc n
pub below_suc : (P : ℕ → Type 0) (n : ℕ) → ((j : ℕ) → j < n → P j) → P n → (j : ℕ) → j < suc n → P j
below_suc P n h e j l = below_more P n h e j (omega arith)

pub data Last (f : ℕ → Bool) (n : ℕ) : Option ℕ → Type 0 where
  nothing : ((j : ℕ) → j < n → f j ≡ false) → Last f n none
  last : (i : ℕ) → i < n → f i ≡ true → ((j : ℕ) → i < j → j < n → f j ≡ false) → Last f n (some i)

module _ (f : ℕ → Bool) where
  -- one more number that does not pass
  longer : (n : ℕ) {o : Option ℕ} → f n ≡ false → Last f n o → Last f (suc n) o
  longer n e (nothing h) = nothing (below_suc (λ j. f j ≡ false) n h e)
  longer n e (last i b t h) = last i (omega arith) t (λ j l u. below_suc (λ k. i < k → f k ≡ false) n (λ k v w. h k w v) (λ w. e) j u l)

  pub last_view : (n : ℕ) → Last f n (last_below f n)
  last_view zero = nothing (λ j h. absurd (omega arith))
  last_view (suc n) = step (f n) refl (last_view n)
    where
      step : (b : Bool) → f n ≡ b → Last f n (last_below f n) → Last f (suc n) (cond b (some n) (last_below f n))
      step true e v = last n (omega arith) e (λ j l u. absurd (omega arith))
      step false e v = longer n e v

  -- two answers that both are the last are one
  pub last-unique : {n : ℕ} {o q : Option ℕ} → Last f n o → Last f n q → o ≡ q
  last-unique (nothing h) (nothing g) = refl
  last-unique (nothing h) (last i b t g) = absurd (false-not-true (h i b) t)
  last-unique (last i b t g) (nothing h) = absurd (false-not-true (h i b) t)
  last-unique (last i b t g) (last j c u k) = go (dec_lt i j) (dec_lt j i)
    where
      go : Dec (i < j) → Dec (j < i) → some i ≡ some j
      go (yes l) d = absurd (false-not-true (g j l c) u)
      go (no l) (yes m) = absurd (false-not-true (k i m b) t)
      go (no l) (no m) = let e : i ≡ j = omega arith in ap some e

  -- in words: it passes, and none that passes is above it
  pub last_some : (n i : ℕ) → (last_below f n ≡ some i) ↔ ((i < n) × (f i ≡ true) × ((j : ℕ) → j < n → f j ≡ true → j ≤ i))
  last_some n i = (λ q. there (last_view n) q, λ (b, t, h). last-unique (last_view n) (last i b t (λ j l u. cannot_pass (f j) (λ v. let low = h j u v in omega arith))))
    where
      there : {o : Option ℕ} → Last f n o → o ≡ some i → (i < n) × (f i ≡ true) × ((j : ℕ) → j < n → f j ≡ true → j ≤ i)
      there (nothing h) q = absurd (let z : ◌≡◌ {A = ℕ} 0 1 = cc in omega arith)
      there (last d b t h) q =
          let same : d ≡ i = cc in
          (omega arith, rw same at t, λ j u v. above j u v (dec_lt d j) same)
        where
          above : (j : ℕ) → j < n → f j ≡ true → Dec (d < j) → d ≡ i → j ≤ i
          above j u v (yes l) e = absurd (false-not-true (h j l u) v)
          above j u v (no l) e = omega arith

  pub last_none : (n : ℕ) → (last_below f n ≡ none) ↔ ((j : ℕ) → j < n → f j ≡ true → ⊥)
  last_none n = (λ q. there (last_view n) q, λ h. last-unique (last_view n) (nothing (λ j l. cannot_pass (f j) (h j l))))
    where
      there : {o : Option ℕ} → Last f n o → o ≡ none → (j : ℕ) → j < n → f j ≡ true → ⊥
      there (nothing h) q j l t = false-not-true (h j l) t
      there (last d b t h) q j l v = let z : ◌≡◌ {A = ℕ} 0 1 = cc in omega arith

  pub all-holds : (n i : ℕ) → i < n → all_below f n ≡ true → f i ≡ true
  all-holds zero i h e = absurd (omega arith)
  all-holds (suc n) i h e = go (λ l. all-holds n i l (left (all_below f n) (f n) e)) (dec_lt i n)
    where
      go : (i < n → f i ≡ true) → Dec (i < n) → f i ≡ true
      go r (yes l) = r l
      go r (no l) = let s : i ≡ n = omega arith in rw s (right (all_below f n) e)

  pub holds-all : (n : ℕ) → ((i : ℕ) → i < n → f i ≡ true) → all_below f n ≡ true
  holds-all zero h = refl
  holds-all (suc n) h = both (holds-all n (λ i l. h i (omega arith))) (h n (omega arith))
