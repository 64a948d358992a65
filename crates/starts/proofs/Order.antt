-- The order on answer lists: shorter first, then the smaller answer at the first difference. Of two lists one comes before the other at
-- most, and what stands before both or behind them changes nothing.
use mathlib.Core.Path.{◌≡◌, refl}
use mathlib.Core.Logic.{inl, inr}
use mathlib.Core.List.{List, [], ◌∷◌, ◌++◌}
use Prim.Native.Nat.{ℕ}
use native.Mathlib.Omega.{arith}
use Rattle.starts.specs.Ticks.{Sooner, here, further, Before}

sooner_trans : {a b c : List ℕ} → Sooner a b → Sooner b c → Sooner a c
sooner_trans (here x y a b h) (here _ z _ c j) = here x z a c (omega arith)
sooner_trans (here x y a b h) (further _ {b = c} q) = here x y a c h
sooner_trans (further x {a = a} q) (here _ z _ c j) = here x z a c j
sooner_trans (further x q) (further _ r) = further x (sooner_trans q r)

before_trans : {a b c : List ℕ} → Before a b → Before b c → Before a c
before_trans (inl h) (inl j) = inl (omega arith)
before_trans (inl h) (inr (j, q)) = inl (omega arith)
before_trans (inr (h, q)) (inl j) = inl (omega arith)
before_trans (inr (h, q)) (inr (j, r)) = inr (omega arith, sooner_trans q r)

sooner_irrefl : {a b : List ℕ} → Sooner a b → a ≡ b → ⊥
sooner_irrefl (here x y a b h) e = let z : x ≡ y = cc in omega arith
sooner_irrefl (further x {a} {b} q) e = let z : a ≡ b = cc in sooner_irrefl q z

pub sooner_once : (a b : List ℕ) → Sooner a b → Sooner b a → ⊥
sooner_once a b p q = sooner_irrefl (sooner_trans p q) refl

-- of two lists only one comes before the other
pub before-once : (a b : List ℕ) → Before a b → Before b a → ⊥
before-once a b p q = go (before_trans p q)
  where
    go : Before a a → ⊥
    go (inl h) = omega arith
    go (inr (h, r)) = sooner_irrefl r refl

pub sooner_left : (c : List ℕ) {a b : List ℕ} → Sooner a b → Sooner (c ++ a) (c ++ b)
sooner_left [] q = q
sooner_left (x ∷ c) q = further x (sooner_left c q)

pub sooner_right : {a b : List ℕ} (c d : List ℕ) → Sooner a b → Sooner (a ++ c) (b ++ d)
sooner_right c d (here x y a b h) = here x y (a ++ c) (b ++ d) h
sooner_right c d (further x q) = further x (sooner_right c d q)
