-- The answers of checks 1, 2 and 3, and of 8, 9 and 10 over the places from a node on.
use mathlib.Core.Path.{◌≡◌, refl, ap, ◌∙◌}
use mathlib.Core.Bool.{Bool, true, false, ◌||◌, cond}
use mathlib.Core.Option.{Option, none, some}
use mathlib.Core.List.{List, ◌∷◌}
use Prim.Native.Nat.{ℕ, suc, ◌+◌, ◌*◌, ◌%◌, ◌≤◌, ◌<◌}
use native.Mathlib.Omega.{arith}
use borrow.Author.Tests.{lt-ltb, le-ltb}
use lib.Dec.{eqb, ltb}
use lib.ListN.{length}
use Rattle.esterel.specs.Limits.{max_nodes}
use Rattle.esterel.specs.Sets.{Place}
use Rattle.esterel.specs.Checks.{too_deep, too_many_traps, uncaught, first_node}
use Rattle.esterel.proofs.Refusals.{Below, first_below}
use Rattle.table.specs.Check.{pass_if, length_check, refuse_found, lowest, refuse_below, places_check}
use Rattle.esterel.specs.Refusal.{Reply, yields, rejects}
use Rattle.table.specs.declared.Faults.{Faults}

-- a check that names no node passes if its test holds
pub pass-true : (number : ℕ) (b : Bool) → pass_if number b ≡ yields tt → b ≡ true
pass-true number true e = refl
pass-true number false e = cc

pub pass-false : (number : ℕ) (b : Bool) (i j : ℕ) → pass_if number b ≡ rejects i j → b ≡ false
pass-false number true i j e = cc
pass-false number false i j e = refl

-- checks 1 and 2 name no node
pub length-refusal : (t : List ℕ) (number node : ℕ) → length_check t ≡ rejects number node → (1 ≤ number) × (number ≤ 2) × (0 ≡ node)
unfolding length_check
length-refusal t number node = go (ltb (2 * max_nodes) (length t)) (eqb (length t) 0 || eqb (length t % 2) 1)
  where
    go : (a b : Bool) → cond a (rejects 1 0) (cond b (rejects 2 0) (yields (tt {0}))) ≡ rejects number node → (1 ≤ number) × (number ≤ 2) × (0 ≡ node)
    go true b e = let z : 1 ≡ number = cc in (omega arith, omega arith, cc)
    go false true e = let z : 2 ≡ number = cc in (omega arith, omega arith, cc)
    go false false e = let z : ◌≡◌ {A = ℕ} 0 1 = cc in absurd (omega arith)

-- the lowest node at which a check fails
abbrev pub Answer : (Place → Bool) → List Place → ℕ → ℕ → Type 0
Answer test ps n r = r ≡ lowest (first_node test ps n)

pub record Answers (ps : List Place) (n : ℕ) (o : Faults) : Type 0 where
  pub depths : Answer too_deep ps n o.depths
  pub traps : Answer too_many_traps ps n o.traps
  pub exits : Answer uncaught ps n o.exits

-- one more place, of the node before
lower : (n : ℕ) (b : Bool) (o : Option ℕ) → cond b n (lowest o) ≡ lowest (cond b (some n) o)
lower n true o = refl
lower n false o = refl

pub answer-more : (test : Place → Bool) (ps : List Place) (n : ℕ) (x : Place) (b : Bool) (r r' : ℕ) → b ≡ test x
    → Answer test ps (suc n) r → r' ≡ cond b n r → Answer test (x ∷ ps) n r'
answer-more test ps n x b r r' eb e e' =
    e' ∙ ap (λ a. cond b n a) e ∙ ap (λ a. cond a n (lowest (first_node test ps (suc n)))) eb ∙ lower n (test x) (first_node test ps (suc n))

-- a refusal is told by its node
pub refused-below : (number k : ℕ) (next : Reply (Unit {0})) → k < max_nodes → refuse_below number k next ≡ rejects number k
refused-below number k next h = ap (λ b. cond b (rejects number k) next) (lt-ltb k max_nodes h)

pub passed-below : (number k : ℕ) (next : Reply (Unit {0})) → max_nodes ≤ k → refuse_below number k next ≡ next
passed-below number k next h = ap (λ b. cond b (rejects number k) next) (le-ltb k max_nodes h)

found_below : (number : ℕ) (o : Option ℕ) (next : Reply (Unit {0})) → Below max_nodes o → refuse_below number (lowest o) next ≡ refuse_found number o next
found_below number none next h = refl
found_below number (some k) next h = refused-below number k next h

-- the three together
pub together : (ps : List Place) (n : ℕ) (o : Faults) → n + length ps ≤ max_nodes → Answers ps n o → refuse_below 8 o.depths (refuse_below 9 o.traps (refuse_below 10 o.exits (yields tt))) ≡ places_check ps n
unfolding places_check
together ps n o h a =
    let third = found_below 10 (first_node uncaught ps n) (yields tt) (first_below uncaught ps n max_nodes h) in
    let second = found_below 9 (first_node too_many_traps ps n) (refuse_found 10 (first_node uncaught ps n) (yields tt)) (first_below too_many_traps ps n max_nodes h) in
    rw (a.depths, a.traps, a.exits, third, second) (found_below 8 (first_node too_deep ps n) _ (first_below too_deep ps n max_nodes h))
