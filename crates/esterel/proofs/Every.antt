-- What holds of every member of a list.
use mathlib.Core.List.{List, [], ◌∷◌, ◌++◌}
use Prim.Native.Nat.{ℕ, zero, suc}
use lib.ListN.{get_or}

pub data Every {A : Type 0} (P : A → Type 0) : List A → Type 0 where
  none : Every P []
  also : {x : A} {xs : List A} → P x → Every P xs → Every P (x ∷ xs)

module _ {A : Type 0} {P : A → Type 0} where
  pub every_left : (xs ys : List A) → Every P (xs ++ ys) → Every P xs
  every_left [] ys c = none
  every_left (x ∷ xs) ys (also e c) = also e (every_left xs ys c)

  pub every_right : (xs ys : List A) → Every P (xs ++ ys) → Every P ys
  every_right [] ys c = c
  every_right (x ∷ xs) ys (also e c) = every_right xs ys c

  pub every_join : {xs ys : List A} → Every P xs → Every P ys → Every P (xs ++ ys)
  every_join none d = d
  every_join (also e c) d = also e (every_join c d)

  pub every_first : {x : A} {xs : List A} → Every P (x ∷ xs) → P x
  every_first (also e c) = e

  pub every_at : {xs : List A} (d : A) → P d → Every P xs → (n : ℕ) → P (get_or xs n d)
  every_at d z none n = z
  every_at d z (also e c) zero = e
  every_at d z (also e c) (suc n) = every_at d z c n

pub every_map : {A : Type 0} {P Q : A → Type 0} {xs : List A} → ((x : A) → P x → Q x) → Every P xs → Every Q xs
every_map f none = none
every_map f (also {x = x} e c) = also (f x e) (every_map f c)
