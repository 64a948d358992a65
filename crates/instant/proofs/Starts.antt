-- The start of a statement from the answers of the statements beneath it: one law for each shape and each way through it.
use mathlib.Core.Path.{◌≡◌, refl, sym, ap, ◌∙◌}
use mathlib.Core.Bool.{true, false, ◌&&◌, cond, false≢true}
use mathlib.Core.List.{List, [], ◌∷◌, append-nil}
use Prim.Native.Nat.{ℕ, zero, suc, ◌+◌, ◌≤◌}
use native.Mathlib.Omega.{arith}
use lib.ListN.{get_or, set, drop}
use lib.Seq.{sets}
use Rattle.std.specs.Prelude.{Option, Some, None}
use Rattle.std.specs.Option.{option_map}
use Rattle.esterel.specs.Statement.{Leaf, nothing, pause, emit, exit, Unary, signal, suspend, loop, trap, Binary, present, sequence, parallel, Stmt, leaf, one, two, kind, size}
use Rattle.esterel.specs.Instant.{Mode, started, entry, Result, single, enter, body, start, zeros}
use Rattle.esterel.specs.Outcome.{emission}
use Rattle.esterel.proofs.Sizes.{size_pos}
use Rattle.table.specs.Kinds.{kind_of, is_trap, is_present, is_sequence}
use Rattle.instant.specs.Steps.{marked, one_more, catch_ran, catches, both, LeafRan}
use Rattle.instant.specs.Run.{stmt_at, first_at, Runnable, Room, Clear, RanIs, ran, starves}
use Rattle.instant.specs.declared.Reaction.{Reaction}
use Rattle.instant.proofs.Sets.{Zero, set-zero}
use Rattle.instant.proofs.Algebra.{Sized, inside, is-starved, enter-is, body_is, then-zeros-is, zeros-then-is, stopped_is, beside-is, second_is, catch-is}
use Rattle.table.proofs.Views.{Over, Both}
use Rattle.instant.proofs.Nodes.{start-sized}

-- the same start, by its statement and first node
module _ {f f' : ℕ} {w w' : Stmt} (ef : f ≡ f') (ew : w ≡ w') (ans : List ℕ) where
  pub start_as : {t answers h h' e e' : List ℕ} {r : Option Reaction} → RanIs t answers f h h' e e' (start f w ans) r → RanIs t answers f' h h' e e' (start f' w' ans) r
  start_as o = rw (ef, ew) at o

  pub sized_as : Sized (size w) (start f w ans) → Sized (size w') (start f' w' ans)
  sized_as o = rw (ef, ew) at o

-- a node is entered, with n nodes beneath it
pub entered : {t answers held held' em em' : List ℕ} {f node : ℕ} {w : Stmt} {y : Result} {r : Option Reaction} (mode : Mode) (n : ℕ) → stmt_at t node ≡ w → emission w ≡ [] → f + n ≡ node → get_or held node 0 ≡ 0 → Sized (suc n) (enter (f + n) mode y) → RanIs t answers f held held' em em' y r → RanIs t answers f held held' em em' (enter (f + n) mode y) (option_map one_more r)
entered {t = t} {held = held} {f = f} {y = y} mode n e m ends own s o =
    enter-is (f + n) n mode (ap (λ j. emission (stmt_at t j)) ends ∙ ap emission e ∙ m) (inside (f + n) n mode y s)
    (λ j lo hi. let z : j ≡ f + n = omega arith in ap (λ i. get_or held i 0) (z ∙ ends) ∙ own) o

module _ {t answers held em : List ℕ} {node taken : ℕ} (ok : Runnable t) (room : Room t answers held em node taken) (free : Clear t held node) where
  pub zero-at : (i n : ℕ) → first_at t node ≤ i → i + n ≤ suc node → Zero held i n
  unfolding Clear
  zero-at i n lo hi j a b = free j (omega arith) (omega arith)

  own-zero : get_or held node 0 ≡ 0
  own-zero = zero-at node 1 (omega (arith, size_pos (stmt_at t node))) (omega arith) node (omega arith) (omega arith)

  pub here-sized : {w : Stmt} → stmt_at t node ≡ w → (ans : List ℕ) → Sized (size w) (start (first_at t node) w ans)
  here-sized e ans = sized_as refl e ans (start-sized ok node room.within ans)

  -- no statement beneath
  leaf-is : {held' em' : List ℕ} (l : Leaf) (c b : ℕ) → stmt_at t node ≡ leaf l → held' ≡ set held node b → em' ≡ marked (emission (leaf l)) em → RanIs t answers node held held' em em' (single node started c b (drop taken answers)) (Some (record { code = c; taken = taken; entries = 1 }))
  leaf-is l c b e st m = ran c taken (entry node started c ∷ []) (b ∷ []) room.lent st (rw (e, append-nil) m)

  pub leaf-start : (l : Leaf) {held' em' : List ℕ} {r : Reaction} → stmt_at t node ≡ leaf l → first_at t node ≡ node → LeafRan l node taken held held' em em' r → RanIs t answers node held held' em em' (start node (leaf l) (drop taken answers)) (Some r)
  leaf-start nothing e f o = rw o.answer (leaf-is nothing 0 0 e (o.state ∙ sym (set-zero held node own-zero)) o.marks)
  leaf-start pause e f o = rw o.answer (leaf-is pause 1 1 e o.state o.marks)
  leaf-start (emit s) e f o = rw o.answer (leaf-is (emit s) 0 0 e (o.state ∙ sym (set-zero held node own-zero)) o.marks)
  leaf-start (exit level) e f o = rw o.answer (leaf-is (exit level) (2 + level) 0 e (o.state ∙ sym (set-zero held node own-zero)) o.marks)

  -- one statement beneath
  module _ {s : ℕ} {p : Stmt} where
    pub one-start : (u : Unary) {mid held' em' : List ℕ} {r : Reaction} → Over t node s u p → held' ≡ cond (is_trap (kind_of (kind (one u p))) && catches r) (sets mid (first_at t node) (zeros (size p))) mid → Sized (size p) (start (first_at t node) p (drop taken answers)) → RanIs t answers (first_at t node) held mid em em' (start (first_at t node) p (drop taken answers)) (Some r) → RanIs t answers (first_at t node) held held' em em' (start (first_at t node) (one u p) (drop taken answers)) (Some (one_more (cond (is_trap (kind_of (kind (one u p)))) (catch_ran r) r)))
    unfolding kind_of
    one-start (signal g) v st n o = rw st (entered started (size p) v.is refl v.ends own-zero (here-sized v.is (drop taken answers)) o)
    one-start (suspend g) v st n o = rw st (entered started (size p) v.is refl v.ends own-zero (here-sized v.is (drop taken answers)) o)
    one-start loop v st n o =
        let s = here-sized v.is (drop taken answers) in
        rw st (entered started (size p) v.is refl v.ends own-zero s (body_is (size p) (inside (first_at t node + size p) (size p) started (body (start (first_at t node) p (drop taken answers))) s) o))
    one-start trap v st n o =
        entered started (size p) v.is refl v.ends own-zero (here-sized v.is (drop taken answers)) (catch-is (size p) n st refl o)

    pub one-starves : (u : Unary) {held' em' : List ℕ} → Over t node s u p → RanIs t answers (first_at t node) held held' em em' (start (first_at t node) p (drop taken answers)) None → RanIs t answers (first_at t node) held held' em em' (start (first_at t node) (one u p) (drop taken answers)) None
    one-starves (signal g) v o = rw (is-starved o) starves
    one-starves (suspend g) v o = rw (is-starved o) starves
    one-starves loop v o = rw (is-starved o) starves
    one-starves trap v o = rw (is-starved o) starves

  -- two statements beneath; s is the size of the second
  module _ {s : ℕ} {p q : Stmt} where
    -- a present takes the answer a
    pub then-start : {held' em' : List ℕ} {r : Option Reaction} (g a : ℕ) (ans : List ℕ) → Both t node s (present g) p q → Sized (size p) (start (first_at t node) p ans) → RanIs t answers (first_at t node) held held' em em' (start (first_at t node) p ans) r → RanIs t answers (first_at t node) held held' em em' (start (first_at t node) (two (present g) p q) (suc a ∷ ans)) (option_map one_more r)
    then-start g a ans v n o =
        entered started (size p + size q) v.is refl v.ends own-zero (here-sized v.is (suc a ∷ ans))
        (then-zeros-is (size p) (size q) n (zero-at (first_at t node + size p) (size q) (omega arith) (omega (arith, v.ends))) o)

    pub else_start : {held' em' : List ℕ} {r : Option Reaction} (g : ℕ) (ans : List ℕ) → Both t node s (present g) p q → RanIs t answers (first_at t node + size p) held held' em em' (start (first_at t node + size p) q ans) r → RanIs t answers (first_at t node) held held' em em' (start (first_at t node) (two (present g) p q) (zero ∷ ans)) (option_map one_more r)
    else_start g ans v o =
        entered started (size p + size q) v.is refl v.ends own-zero (here-sized v.is (zero ∷ ans))
        (zeros-then-is (size p) (zero-at (first_at t node) (size p) (omega arith) (omega (arith, v.ends))) o)

    -- the first of a sequence or a parallel starves
    pub left-starves : (b : Binary) {held' em' : List ℕ} → Both t node s b p q → is_present (kind_of (kind (two b p q))) ≡ false → RanIs t answers (first_at t node) held held' em em' (start (first_at t node) p (drop taken answers)) None → RanIs t answers (first_at t node) held held' em em' (start (first_at t node) (two b p q) (drop taken answers)) None
    unfolding kind_of
    left-starves (present g) v z o = let y : ◌≡◌ {A = ℕ} 0 1 = cc in absurd (omega arith)
    left-starves sequence v z o = rw (is-starved o) starves
    left-starves parallel v z o = rw (is-starved o) starves

    -- a sequence stops after its first
    pub stops-start : (b : Binary) {l : Reaction} {held' em' : List ℕ} → Both t node s b p q → is_sequence (kind_of (kind (two b p q))) ≡ true → (l.code ≡ 0 → ⊥) → Sized (size p) (start (first_at t node) p (drop taken answers)) → RanIs t answers (first_at t node) held held' em em' (start (first_at t node) p (drop taken answers)) (Some l) → RanIs t answers (first_at t node) held held' em em' (start (first_at t node) (two b p q) (drop taken answers)) (Some (one_more l))
    unfolding kind_of
    stops-start (present g) v sq go n o = absurd (false≢true sq)
    stops-start sequence v sq go n o =
        entered started (size p + size q) v.is refl v.ends own-zero (here-sized v.is (drop taken answers))
        (stopped_is (size p) (size q) (start (first_at t node + size p) q) go n (zero-at (first_at t node + size p) (size q) (omega arith) (omega (arith, v.ends))) o)
    stops-start parallel v sq go n o = absurd (false≢true sq)

    -- or its second is started, as that of a parallel is
    pub joined-start : (b : Binary) {l : Reaction} {mid held' emid em' : List ℕ} {r : Option Reaction} → Both t node s b p q → is_present (kind_of (kind (two b p q))) ≡ false → (is_sequence (kind_of (kind (two b p q))) ≡ true → l.code ≡ 0) → Sized (size p) (start (first_at t node) p (drop taken answers)) → RanIs t answers (first_at t node) held mid em emid (start (first_at t node) p (drop taken answers)) (Some l) → RanIs t answers (first_at t node + size p) mid held' emid em' (start (first_at t node + size p) q (drop l.taken answers)) r → RanIs t answers (first_at t node) held held' em em' (start (first_at t node) (two b p q) (drop taken answers)) (option_map one_more (option_map (both l) r))
    unfolding kind_of
    joined-start (present g) v z ends n o d = let y : ◌≡◌ {A = ℕ} 0 1 = cc in absurd (omega arith)
    joined-start sequence v z ends n o d =
        entered started (size p + size q) v.is refl v.ends own-zero (here-sized v.is (drop taken answers))
        (second_is (size p) (size q) (start (first_at t node + size p) q) (ends refl) n o d)
    joined-start parallel v z ends n o d =
        entered started (size p + size q) v.is refl v.ends own-zero (here-sized v.is (drop taken answers))
        (beside-is (size p) (start (first_at t node + size p) q) n o d)
