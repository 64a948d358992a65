-- A table that is too long is refused 1, whatever its bytes. So a reader may cut it, as long as what is left is too long still.
use mathlib.Core.Path.{◌≡◌, refl, sym, ap, ◌∙◌}
use mathlib.Core.Bool.{Bool, true, false}
use mathlib.Core.List.{List}
use Prim.Native.Nat.{ℕ, ◌*◌, ◌<◌}
use native.Mathlib.Omega.{arith}
use borrow.Author.Tests.{lt-ltb, ltb-true, ltb-false}
use lib.Dec.{ltb}
use lib.ListN.{length, take}
use lib.Seq.{length-take-le, take_all}
use Rattle.esterel.specs.Limits.{max_nodes}
use Rattle.esterel.specs.Table.{refused}
use Rattle.esterel.specs.Checks.{verdict}

pub too_long : (t : List ℕ) → 2 * max_nodes < length t → verdict t ≡ refused 1 0
too_long t h = rw (lt-ltb (2 * max_nodes) (length t) h) refl

-- the verdict of the bytes that fit in a room for more than a table may have is that of all of them
pub verdict_of_front : (room : ℕ) (t : List ℕ) → 2 * max_nodes < room → verdict (take room t) ≡ verdict t
verdict_of_front room t h = by (ltb room (length t)) refl
  where
    by : (b : Bool) → ltb room (length t) ≡ b → verdict (take room t) ≡ verdict t
    by false e = ap verdict (take_all room t (ltb-false room (length t) e))
    by true e =
        let less : room < length t = ltb-true room (length t) e in
        too_long (take room t) (rw (length-take-le room t (omega arith)) h) ∙ sym (too_long t (omega arith))
