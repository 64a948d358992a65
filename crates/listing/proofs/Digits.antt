-- The digits of a number: the last one, and those before it, which are the digits of the quotient.
use mathlib.Core.Path.{◌≡◌, refl, sym, ap, ◌∙◌}
use mathlib.Core.Logic.{◌⊎◌, inl, inr, ⊎_elim}
use mathlib.Core.Bool.{Bool, true, false}
use mathlib.Core.List.{[], ◌∷◌, ◌++◌}
use Prim.Native.Nat.{ℕ, zero, suc, ◌+◌, ◌*◌, ◌/◌, ◌%◌, ◌^◌, ◌≤◌, ◌<◌}
use native.Mathlib.Nat.{div-lt_iff_lt-mul, pow-zero, pow-suc, mul-le-mul_left, mul-le-mul_right, one-mul}
use native.Mathlib.Omega.{arith}
use borrow.Author.Tests.{lt-ltb, le-ltb, ltb-true, ltb-false}
use lib.Dec.{ltb}
use lib.ListN.{length, length-append}
use Rattle.listing.specs.Text.{digit, digits_up_to, digits}

pub lt_or_le : (a b : ℕ) → (a < b) ⊎ (b ≤ a)
lt_or_le a b = by (ltb a b) refl
  where
    by : (t : Bool) → ltb a b ≡ t → (a < b) ⊎ (b ≤ a)
    by true e = inl (ltb-true a b e)
    by false e = inr (ltb-false a b e)

module _ (base : ℕ) where
  one-digit : (f n : ℕ) → n < base → digits_up_to (suc f) base n ≡ digit n ∷ []
  one-digit f n h = rw (lt-ltb n base h)

  more-digits : (f n : ℕ) → base ≤ n → digits_up_to (suc f) base n ≡ digits_up_to f base (n / base) ++ (digit (n % base) ∷ [])
  more-digits f n h = rw (le-ltb n base h)

  up-to : (f n : ℕ) → length (digits_up_to f base n) ≤ f
  up-to zero n = omega arith
  up-to (suc f) n =
      ⊎_elim
      (λ l. rw (one-digit f n l) (omega arith))
      (λ g. rw (more-digits f n g, length-append) (omega (arith, up-to f (n / base))))
      (lt_or_le n base)

  some-digit : (f n : ℕ) → 1 ≤ length (digits_up_to (suc f) base n)
  some-digit f n =
      ⊎_elim
      (λ l. rw (one-digit f n l) (omega arith))
      (λ g. rw (more-digits f n g, length-append) (omega arith))
      (lt_or_le n base)

  pub few-digits : (n : ℕ) → length (digits base n) ≤ 64
  unfolding digits
  few-digits n = up-to 64 n

  pub has-digits : (n : ℕ) → 1 ≤ length (digits base n)
  unfolding digits
  has-digits n = some-digit 63 n

  pub digits-one : (n : ℕ) → n < base → digits base n ≡ digit n ∷ []
  unfolding digits
  digits-one n h = one-digit 63 n h

  module _ (two : 2 ≤ base) where
    quotient_below : (m n : ℕ) → n < m * base → n / base < m
    quotient_below m n h =
        let some : 0 < base = omega arith in
        (div-lt_iff_lt-mul {k = base} {x = n} {y = m} some).1 h

    quotient_lt : (f n : ℕ) → n < 2 ^ suc (suc f) → n / base < 2 ^ suc f
    quotient_lt f n h =
        let more : 2 ^ suc f * 2 ≤ 2 ^ suc f * base = mul-le-mul_left (2 ^ suc f) two in
        let p : 2 ^ suc (suc f) ≡ 2 ^ suc f * 2 = pow-suc 2 (suc f) in
        quotient_below (2 ^ suc f) n (omega arith)

    -- one more of fuel makes no difference where the number is small
    enough : (f n : ℕ) → n < 2 ^ suc f → digits_up_to (suc f) base n ≡ digits_up_to (suc (suc f)) base n
    enough zero n h = one-digit 0 n (omega arith) ∙ sym (one-digit 1 n (omega arith))
    enough (suc f) n h =
        ⊎_elim
        (λ l. one-digit (suc f) n l ∙ sym (one-digit (suc (suc f)) n l))
        (λ g.
        more-digits (suc f) n g
        ∙ ap (λ ds. ds ++ (digit (n % base) ∷ [])) (enough f (n / base) (quotient_lt f n h))
        ∙ sym (more-digits (suc (suc f)) n g))
        (lt_or_le n base)

    pub digits_more : (n : ℕ) → n < 2 ^ 64 → base ≤ n → digits base n ≡ digits base (n / base) ++ (digit (n % base) ∷ [])
    unfolding digits
    digits_more n h g = enough 63 n h ∙ more-digits 64 n g

    -- a number below a power of the base has no more digits than the power says
    below_power : (k f n : ℕ) → n < base ^ suc k → length (digits_up_to f base n) ≤ suc k
    below_power k zero n h = omega arith
    below_power zero (suc f) n h =
        let one : base ^ 1 ≡ base = pow-suc base 0 ∙ ap (λ x. x * base) (pow-zero base) ∙ one-mul base in
        let below : n < base = omega arith in
        rw (one-digit f n below) (omega arith)
    below_power (suc k) (suc f) n h =
        ⊎_elim
        (λ l. rw (one-digit f n l) (omega arith))
        (λ g.
        let q : n < base ^ suc k * base = rw (pow-suc base (suc k)) at h in
        rw (more-digits f n g, length-append) (omega (arith, below_power k f (n / base) (quotient_below (base ^ suc k) n q))))
        (lt_or_le n base)

    pub digits-few : (k n : ℕ) → n < base ^ suc k → length (digits base n) ≤ suc k
    unfolding digits
    digits-few k n h = below_power k 64 n h

    -- and one that reaches a power has as many
    power-some : (k : ℕ) → 1 ≤ base ^ k
    power-some zero = omega (arith, pow-zero base)
    power-some (suc k) =
        let more : base ^ k * 1 ≤ base ^ k * base = mul-le-mul_left (base ^ k) (omega arith) in
        omega (arith, pow-suc base k, power-some k)

    above_power : (k f n : ℕ) → k < f → base ^ k ≤ n → suc k ≤ length (digits_up_to f base n)
    above_power k zero n l h = absurd (omega arith)
    above_power zero (suc f) n l h = some-digit f n
    above_power (suc k) (suc f) n l h =
        let full : base ^ suc k ≡ base ^ k * base = pow-suc base k in
        let least : 1 * base ≤ base ^ k * base = mul-le-mul_right base (power-some k) in
        ⊎_elim
        (λ small. absurd (omega arith))
        (λ g.
        ⊎_elim
        (λ low. let below : n < base ^ k * base = (div-lt_iff_lt-mul {k = base} {x = n} {y = base ^ k} (omega arith)).0 low in absurd (omega arith))
        (λ (q : base ^ k ≤ n / base). rw (more-digits f n g, length-append) (omega (arith, above_power k f (n / base) (omega arith) q)))
        (lt_or_le (n / base) (base ^ k)))
        (lt_or_le n base)

    pub digits-counted : (k n : ℕ) → k < 64 → base ^ k ≤ n → n < base * base ^ k → length (digits base n) ≡ k + 1
    unfolding digits
    digits-counted k n l low high =
        let full : base ^ suc k ≡ base ^ k * base = pow-suc base k in
        let turned : base * base ^ k ≡ base ^ k * base = grind arith in
        omega (arith, above_power k 64 n l low, below_power k 64 n (omega arith))
