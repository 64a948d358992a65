-- What the numbers of a row say: the returns of the functions on single numbers.
use mathlib.Core.Path.{◌≡◌, refl, ap}
use Prim.Native.Nat.{ℕ, zero, suc, max}
use native.Mathlib.Omega.{arith}
use Rattle.starts.specs.declared.Weight.TheVariants.{Entries}
use Rattle.rows.specs.Rows.{value_of, Picks}

pub picks-larger : (a b : ℕ) → Picks Entries a b (max a b)
picks-larger zero zero = record { is = refl; low = omega arith }
picks-larger zero (suc b) =
    let z : max 0 (suc b) ≡ suc b = omega arith in
    record { is = ap value_of z; low = omega arith }
picks-larger (suc a) zero =
    let z : max (suc a) 0 ≡ suc a = omega arith in
    record { is = ap value_of z; low = omega arith }
picks-larger (suc a) (suc b) =
    let z : max (suc a) (suc b) ≡ suc (max a b) = omega arith in
    record { is = ap value_of z; low = omega arith }
