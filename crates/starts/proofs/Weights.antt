-- The order of weights: which of two is preferred, and what parts of a start weigh.
use mathlib.Core.Path.{◌≡◌}
use mathlib.Core.Bool.{true, false}
use mathlib.Core.Option.{some}
use mathlib.Core.List.{List, [], ◌∷◌}
use Prim.Native.Nat.{ℕ, suc, ◌+◌}
use native.Mathlib.Omega.{arith}
use borrow.Author.Tests.{leb-true, leb-false}
use Rattle.starts.specs.declared.Weight.{Weight}
use Rattle.starts.specs.declared.Weight.TheVariants.{Answers, Entries}
use Rattle.starts.specs.Summary.{weigh}
use Rattle.starts.specs.Walk.{no_worse}
use Rattle.starts.proofs.Exact.{NoWorse}

-- if neither is worse, they are equal
pub same-weight : (w : Weight) (x y : ℕ) → NoWorse w x y → NoWorse w y x → x ≡ y
same-weight Answers x y h j = omega arith
same-weight Entries x y h j = omega arith

pub add-weight : (w : Weight) (a x y : ℕ) → NoWorse w x y → NoWorse w (a + x) (a + y)
add-weight Answers a x y h = omega arith
add-weight Entries a x y h = omega arith

-- what is told of two numbers
pub told_no_worse : (w : Weight) (x y : ℕ) → no_worse w (some x) (some y) ≡ true → NoWorse w x y
told_no_worse Answers x y e = leb-true x y e
told_no_worse Entries x y e = leb-true y x e

pub told_worse : (w : Weight) (x y : ℕ) → no_worse w (some x) (some y) ≡ false → NoWorse w y x
told_worse Answers x y e = let h = leb-false x y e in omega arith
told_worse Entries x y e = let h = leb-false y x e in omega arith

pub told-other : (w : Weight) (x y : ℕ) → no_worse w (some x) (some y) ≡ false → NoWorse w x y → ⊥
told-other Answers x y e j = let h = leb-false x y e in omega arith
told-other Entries x y e j = let h = leb-false y x e in omega arith

-- an answer before the others, and an entry more
abbrev pub of_answer : Weight → ℕ
of_answer w = weigh w (1 ∷ []) 0

abbrev pub of_entry : Weight → ℕ
of_entry w = weigh w [] 1

pub answered-weight : (w : Weight) (a : ℕ) (u : List ℕ) (n : ℕ) → weigh w (a ∷ u) n ≡ of_answer w + weigh w u n
answered-weight Answers a u n = omega arith
answered-weight Entries a u n = omega arith

pub entered-weight : (w : Weight) (u : List ℕ) (n : ℕ) → weigh w u (suc n) ≡ of_entry w + weigh w u n
entered-weight Answers u n = omega arith
entered-weight Entries u n = omega arith
