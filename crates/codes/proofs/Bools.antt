-- Tests that pass, and their joins.
use mathlib.Core.Path.{◌≡◌, refl, sym}
use mathlib.Core.Bool.{Bool, true, false, not, ◌&&◌, ◌||◌, or-true, and-eq-true_iff}
use mathlib.Core.Logic.{◌⊎◌, inl, inr}
use Prim.Native.Nat.{ℕ}
use native.Mathlib.Omega.{arith}
use lib.Dec.{T}

pub both : {a b : Bool} → a ≡ true → b ≡ true → (a && b) ≡ true
both p q = rw (p, q)

pub left : (a b : Bool) → (a && b) ≡ true → a ≡ true
left a b e = ((and-eq-true_iff a b).0 e).0

pub right : (a : Bool) {b : Bool} → (a && b) ≡ true → b ≡ true
right a {b} e = ((and-eq-true_iff a b).0 e).1

pub either : (a b : Bool) → (a || b) ≡ true → (a ≡ true) ⊎ (b ≡ true)
either true b e = inl refl
either false b e = inr e

pub inl_true : (a b : Bool) → a ≡ true → (a || b) ≡ true
inl_true a b e = rw e

pub inr_true : (a b : Bool) → b ≡ true → (a || b) ≡ true
inr_true a b e = rw (e, or-true)

pub to_t : (b : Bool) → b ≡ true → T b
to_t true e = tt
to_t false e = let z : ◌≡◌ {A = ℕ} 0 1 = cc in omega arith

pub from_t : (b : Bool) → T b → b ≡ true
from_t true t = refl
from_t false t = absurd t

pub to_not : (b : Bool) → b ≡ false → T (not b)
to_not true e = let z : ◌≡◌ {A = ℕ} 0 1 = cc in absurd (omega arith)
to_not false e = tt

pub from_not : (b : Bool) → T (not b) → b ≡ false
from_not true t = absurd t
from_not false t = refl

-- a test that cannot pass fails
pub cannot_pass : (b : Bool) → (b ≡ true → ⊥) → b ≡ false
cannot_pass true f = absurd (f refl)
cannot_pass false f = refl

pub false-not-true : {b : Bool} → b ≡ false → b ≡ true → ⊥
false-not-true e f = let z : ◌≡◌ {A = ℕ} 0 1 = cc in omega arith

-- two tests are the same where each passes if the other does
pub same_test : (p q : Bool) → (p ≡ true → q ≡ true) → (q ≡ true → p ≡ true) → p ≡ q
same_test true q f g = sym (f refl)
same_test false true f g = g refl
same_test false false f g = refl
