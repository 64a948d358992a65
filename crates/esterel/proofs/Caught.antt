-- At each node of a program that passes checks 9 and 10 the traps around it catch its exits, and are no more than check 9 allows. So no code
-- of its K, A or S is past theirs, and their 64-bit numbers represent them (F-7).
use mathlib.Core.Path.{◌≡◌}
use mathlib.Core.Bool.{false}
use mathlib.Core.List.{◌∷◌, []}
use Prim.Native.Nat.{ℕ, suc, ◌+◌, ◌≤◌}
use native.Mathlib.Omega.{arith}
use lib.Dec.{ltb, nltb→le}
use Rattle.codes.proofs.Bools.{to_not}
use Rattle.codes.proofs.Members.{empty-most, meets_common}
use Rattle.codes.proofs.Theorems.{on_sets}
use Rattle.esterel.specs.Limits.{max_traps}
use Rattle.esterel.specs.Statement.{Unary, signal, suspend, loop, trap, Stmt, leaf, one, two, nodes, traps_under}
use Rattle.esterel.specs.Codes.{Codes, empty, AtMost}
use Rattle.esterel.specs.Sets.{Place, at, traps_of, context_of, stmt_of, places, places_of, outside, place_at, under, under_left, under_right, codes}
use Rattle.esterel.specs.Checks.{too_many_traps, uncaught}
use Rattle.esterel.specs.Outcome.{statement_at}
use Rattle.esterel.specs.Theorems.{LowCodes}
use Rattle.esterel.proofs.Every.{Every, none, also, every_left, every_right, every_join, every_first, every_at}
use Rattle.esterel.proofs.Low.{Exits, codes-low, start-low, any-low, under_low, left-low, right-low}
use Rattle.esterel.proofs.Accepted.{Passes, passes, exits-caught, place-statement}

pub record Caught (x : Place) : Type 0 where
  pub exits : Exits (traps_of x) (stmt_of x)
  pub few : traps_of x ≤ max_traps
  pub context : AtMost (suc (traps_of x)) (context_of x)

few-under : (u : Unary) (d t : ℕ) (P : Codes) (p : Stmt) → t ≤ max_traps → too_many_traps (at d t P (one u p)) ≡ false → traps_under u t ≤ max_traps
few-under (signal s) d t P p h e = h
few-under (suspend s) d t P p h e = h
few-under loop d t P p h e = h
few-under trap d t P p h e = nltb→le max_traps (suc t) (to_not (ltb max_traps (suc t)) e)

caught-places : (p : Stmt) (d t : ℕ) (P : Codes) → t ≤ max_traps → AtMost (suc t) P → Exits t p → Passes too_many_traps (places d t P p) → Every Caught (places d t P p)
caught-places (leaf l) d t P h s x c = also record { exits = x; few = h; context = s } none
caught-places (one u p) d t P h s x c =
    let own : too_many_traps (at d t P (one u p)) ≡ false = every_first (every_right (places (suc d) (traps_under u t) (under u P) p) (at d t P (one u p) ∷ []) c) in
    every_join (caught-places p (suc d) (traps_under u t) (under u P) (few-under u d t P p h own) (under_low u t P s) x (every_left _ _ c))
    (also record { exits = x; few = h; context = s } none)
caught-places (two b p q) d t P h s x c =
    let first = caught-places p (suc d) t (under_left b t P q) h (left-low b t P q s) x.0 (every_left _ _ (every_left _ _ c)) in
    let second = caught-places q (suc d) t (under_right b t P p) h (right-low b t P p s) x.1 (every_right (places (suc d) t (under_left b t P q) p) _ (every_left _ _ c)) in
    every_join (every_join first second) (also record { exits = x; few = h; context = s } none)

module _ (p : Stmt) (traps : Passes too_many_traps (places_of p)) (exits : Passes uncaught (places_of p)) where
  pub caught-at : (i : ℕ) → Caught (place_at p i)
  caught-at i =
      every_at outside record { exits = tt; few = omega arith; context = empty-most 1 }
      (caught-places p 1 0 empty (omega arith) (empty-most 1) (exits-caught p 1 0 empty exits) traps) i

  -- the codes of each node, where those of a pause are 0 and 1 alone
  pub codes-few : (paused : Codes) → AtMost 1 paused → (i : ℕ) → AtMost (suc max_traps) (codes paused (statement_at (nodes p) i))
  codes-few paused few i k e =
      let c = caught-at i in
      let x = place_at p i in
      omega (arith, c.few, codes-low paused few (stmt_of x) (traps_of x) c.exits k (rw (← place-statement p i) at e))

low : {t : ℕ} {a : Codes} → AtMost (suc t) a → AtMost (1 + t) a
low l k e = omega (arith, l k e)

below : {t : ℕ} {a : Codes} → t ≤ max_traps → AtMost (suc t) a → AtMost 63 a
below few l k e = omega (arith, few, l k e)

pub low_codes : LowCodes
low_codes p a i h =
    let x = place_at p i in
    let c = caught-at p (passes p a).traps (passes p a).exits i in
    let K = start-low (stmt_of x) (traps_of x) c.exits in
    let A = any-low (stmt_of x) (traps_of x) c.exits in
    record {
      fits = omega (arith, c.few);
      low_k = low K;
      low_a = low A;
      low_s = low c.context;
      word_k = on_sets.word_is _ (below c.few K);
      word_a = on_sets.word_is _ (below c.few A);
      word_s = on_sets.word_is _ (below c.few c.context);
      meets_s = λ b. meets_common b (context_of x) (below c.few c.context);
    }
