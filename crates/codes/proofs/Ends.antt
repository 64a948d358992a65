-- Whether a set has a code, and its lowest and highest one: what the machine's counts of zeros give, and what the searches find.
use mathlib.Core.Path.{◌≡◌, refl, sym, ap, ◌∙◌}
use mathlib.Core.Bool.{Bool, true, false, not, cond, false≢true}
use Prim.Native.Nat.{ℕ, zero, suc, ◌+◌, ◌-◌, ◌/◌, ◌%◌, ◌^◌, ◌≤◌, ◌<◌, zero-le, suc-le-suc}
use native.Mathlib.Nat.{le_refl, div-eq_of_lt-le}
use native.Mathlib.Omega.{arith}
use lib.Dec.{eqb, eqb-suc-zero}
use lib.Arith.{lt_of_le-ne}
use lib.Count.{count_trailing_zeros, count_leading_zeros, leading_top, under}
use Rattle.codes.specs.Codes.{Codes, up_to}
use Rattle.codes.specs.Words.{◌∋◌, set_of, least_from, greatest_below}
use Rattle.codes.specs.Theorems.{Lowest, Highest}
use Rattle.std.specs.Prelude.{Some}
use Rattle.codes.proofs.Bits.{∋_low, ∋_suc, ∋_none}
use Rattle.codes.proofs.WordBits.{code_lt}
use Rattle.codes.proofs.Members.{up_to_in}

-- ---- the machine's counts

pub trailing_lowest : (n w : ℕ) → 0 < w → w < 2 ^ n → Lowest (set_of w) (count_trailing_zeros n w)
unfolding count_trailing_zeros
trailing_lowest zero w p h = absurd (omega arith)
trailing_lowest (suc n) w p h = go (w % 2) refl (λ q. trailing_lowest n (w / 2) q (omega arith))
  where
    go : (d : ℕ) → w % 2 ≡ d → (0 < w / 2 → Lowest (set_of (w / 2)) (count_trailing_zeros n (w / 2))) → Lowest (set_of w) (under d (count_trailing_zeros n (w / 2)))
    go zero e ih =
        let r = ih (omega arith) in
        record { is_in = ∋_suc w (count_trailing_zeros n (w / 2)) ∙ r.is_in; least = from r }
      where
        from : Lowest (set_of (w / 2)) (count_trailing_zeros n (w / 2)) → (j : ℕ) → (w ∋ j) ≡ true → suc (count_trailing_zeros n (w / 2)) ≤ j
        from r zero q = absurd (false≢true (sym (∋_low w ∙ rw e) ∙ q))
        from r (suc j) q = suc-le-suc (r.least j (sym (∋_suc w j) ∙ q))
    go (suc zero) e ih = record { is_in = ∋_low w ∙ rw e; least = λ j q. zero-le }
    go (suc (suc d)) e ih = absurd (omega arith)

pub trailing_lt : (n w : ℕ) → 0 < w → w < 2 ^ n → count_trailing_zeros n w < n
trailing_lt n w p h = code_lt n w (count_trailing_zeros n w) h (trailing_lowest n w p h).is_in

-- at n + 1 bits, the highest code stands below the leading zeros
pub leading_highest : (n w : ℕ) → 0 < w → w < 2 ^ suc n → (count_leading_zeros (suc n) w ≤ n) × Highest (set_of w) (n - count_leading_zeros (suc n) w)
unfolding ◌∋◌
leading_highest n w p h =
    let (j, e, from, below) = leading_top (suc n) w p h in
    let one : w / 2 ^ j ≡ 1 = div-eq_of_lt-le (2 ^ j) (omega arith) (omega arith) in
    let z : n - count_leading_zeros (suc n) w ≡ j = omega arith in
    (omega arith, rw z record { is_in = rw one; most = λ k q. omega (arith, code_lt (suc j) w k below q) })

-- ---- the searches

pub least-found : (n i k : ℕ) (a : Codes) → i ≤ k → k < i + n → Lowest a k → least_from n i a ≡ Some k
unfolding least_from
least-found zero i k a l h m = absurd (omega arith)
least-found (suc n) i k a l h m = go (a i) refl (λ q. least-found n (suc i) k a q (omega arith) m)
  where
    go : (b : Bool) → a i ≡ b → (suc i ≤ k → least_from n (suc i) a ≡ Some k) → cond b (Some i) (least_from n (suc i) a) ≡ Some k
    go true q ih = let g = m.least i q in ap Some (omega arith)
    go false q ih = ih (lt_of_le-ne l (λ r. false≢true (sym q ∙ ap a r ∙ m.is_in)))

pub greatest-found : (n k : ℕ) (a : Codes) → k < n → Highest a k → greatest_below n a ≡ Some k
unfolding greatest_below
greatest-found zero k a h m = absurd (omega arith)
greatest-found (suc n) k a h m = go (a n) refl (λ q. greatest-found n k a q m)
  where
    go : (b : Bool) → a n ≡ b → (k < n → greatest_below n a ≡ Some k) → cond b (Some n) (greatest_below n a) ≡ Some k
    go true q ih = let g = m.most n q in ap Some (omega arith)
    go false q ih = ih (lt_of_le-ne (omega arith) (λ r. false≢true (sym q ∙ ap a (sym r) ∙ m.is_in)))

-- ---- some code up to k

pub up_to-same : (a b : Codes) (k : ℕ) → ((j : ℕ) → j ≤ k → a j ≡ b j) → up_to a k ≡ up_to b k
up_to-same a b zero same = same 0 (le_refl 0)
up_to-same a b (suc k) same = rw (same (suc k) (le_refl (suc k)), up_to-same a b k (λ j h. same j (omega arith)))

pub up_to-none : (a : Codes) (k : ℕ) → ((j : ℕ) → a j ≡ false) → up_to a k ≡ false
up_to-none a zero none = none 0
up_to-none a (suc k) none = rw (none (suc k)) (up_to-none a k none)

-- a number is other than 0 exactly where it has a code
pub some-code : (n w : ℕ) → w < 2 ^ suc n → not (eqb w 0) ≡ up_to (set_of w) n
some-code n zero h = sym (up_to-none (set_of 0) n ∋_none)
some-code n (suc m) h =
    let w = suc m in
    rw eqb-suc-zero
    (sym (up_to_in (set_of w) (count_trailing_zeros (suc n) w) n (omega (arith, trailing_lt (suc n) w (omega arith) h)) (trailing_lowest (suc n) w (omega arith) h).is_in))
