-- The lists of m answers of 0 or 1, by their places: list number i has the digits of i in base 2, the lowest first.
use mathlib.Core.Path.{◌≡◌, refl, sym, ap, ap₂, ◌∙◌}
use mathlib.Core.List.{List, [], ◌∷◌}
use Prim.Native.Nat.{ℕ, zero, suc, ◌+◌, ◌*◌, ◌/◌, ◌%◌, ◌^◌, ◌<◌}
use native.Mathlib.Omega.{arith}
use lib.ListN.{length, get_or}
use Rattle.starts.specs.Ticks.{Bits}
use Rattle.trial.specs.Lists.{extended, lists, list_at}
use Rattle.trial.specs.Theorems.{AllLists}

length-extended : (ls : List (List ℕ)) → length (extended ls) ≡ 2 * length ls
unfolding extended
length-extended [] = refl
length-extended (l ∷ ls) = omega (arith, length-extended ls)

pub length-lists : (m : ℕ) → length (lists m) ≡ 2 ^ m
unfolding lists
length-lists zero = refl
length-lists (suc m) = omega (arith, length-extended (lists m), length-lists m)

extended-at : (ls : List (List ℕ)) (i : ℕ) → i < 2 * length ls → get_or (extended ls) i [] ≡ i % 2 ∷ get_or ls (i / 2) []
unfolding extended
extended-at [] i h = absurd (omega arith)
extended-at (l ∷ ls) zero h = refl
extended-at (l ∷ ls) (suc zero) h = refl
extended-at (l ∷ ls) (suc (suc i)) h =
    let a : suc (suc i) % 2 ≡ i % 2 = omega arith in
    let b : suc (suc i) / 2 ≡ suc (i / 2) = omega arith in
    rw (a, b) (extended-at ls i (omega arith))

-- one answer, then a list of one less
pub list_at_lem : (m i : ℕ) → i < 2 ^ suc m → list_at (suc m) i ≡ i % 2 ∷ list_at m (i / 2)
unfolding lists
list_at_lem m i h = extended-at (lists m) i (omega (arith, length-lists m))

pub half : (m i : ℕ) → i < 2 ^ suc m → i / 2 < 2 ^ m
half m i h = omega arith

pub list-long : (m i : ℕ) → i < 2 ^ m → length (list_at m i) ≡ m
unfolding lists
list-long zero zero h = refl
list-long zero (suc i) h = absurd (omega arith)
list-long (suc m) i h = ap length (list_at_lem m i h) ∙ ap suc (list-long m (i / 2) (half m i h))

pub list-bits : (m i : ℕ) → i < 2 ^ m → Bits (list_at m i)
unfolding lists
list-bits zero zero h = tt
list-bits zero (suc i) h = absurd (omega arith)
list-bits (suc m) i h = rw (list_at_lem m i h) (omega arith, list-bits m (i / 2) (half m i h))

one_place : (m i j : ℕ) → i < 2 ^ m → j < 2 ^ m → list_at m i ≡ list_at m j → i ≡ j
one_place zero i j h l e = omega arith
one_place (suc m) i j h l e =
    let both : i % 2 ∷ list_at m (i / 2) ≡ j % 2 ∷ list_at m (j / 2) = sym (list_at_lem m i h) ∙ e ∙ list_at_lem m j l in
    let own : i % 2 ≡ j % 2 = cc in
    let rest : i / 2 ≡ j / 2 = one_place m (i / 2) (j / 2) (half m i h) (half m j l) cc in
    omega arith

pub record Place (m : ℕ) (answers : List ℕ) : Type 0 where
  pub number : ℕ
  pub below : number < 2 ^ m
  pub is : list_at m number ≡ answers

pub place_of : (m : ℕ) (answers : List ℕ) → length answers ≡ m → Bits answers → Place m answers
unfolding lists
place_of zero [] e b = record { number = 0; below = omega arith; is = refl }
place_of zero (x ∷ l) e b = absurd (omega arith)
place_of (suc m) [] e b = absurd (omega arith)
place_of (suc m) (x ∷ l) e (small, b) =
    let o = place_of m l (omega arith) b in
    let lt : x + 2 * o.number < 2 ^ suc m = omega (arith, o.below) in
    let low : (x + 2 * o.number) % 2 ≡ x = omega arith in
    let high : (x + 2 * o.number) / 2 ≡ o.number = omega arith in
    record { number = x + 2 * o.number; below = lt; is = list_at_lem m (x + 2 * o.number) lt ∙ ap₂ ◌∷◌ low (ap (list_at m) high ∙ o.is) }

pub all_lists : AllLists
all_lists =
    record {
      many = length-lists;
      each = λ m i h. (list-long m i h, list-bits m i h);
      once = one_place;
      all = λ m answers e b. let o = place_of m answers e b in (o.number, o.below, o.is);
      twelve = length-lists 12;
    }
