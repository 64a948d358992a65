-- The pass of checks 4 to 7: what holds before node i, how node i keeps it, and what it comes to at the end.
use mathlib.Core.Path.{◌≡◌, refl, sym, ◌∙◌}
use mathlib.Core.List.{List, [], ◌∷◌}
use Prim.Native.Nat.{ℕ, suc, ◌+◌, ◌-◌, ◌*◌, ◌≤◌, ◌<◌}
use native.Mathlib.Numerals.{add-one}
use native.Mathlib.Omega.{arith}
use lib.ListN.{length, get_or, drop, drop_of_length-le}
use lib.Seq.{drop-cons}
use Rattle.esterel.specs.Statement.{Stmt}
use Rattle.esterel.specs.Table.{node_of, Step, push, Verdict, step, scan}
use Rattle.table.specs.Kinds.{kind_of, arity_of}
use Rattle.table.specs.Check.{node_check, nodes_check, answer_of}
use Rattle.esterel.specs.Refusal.{Reply, yields, rejects}
use Rattle.table.proofs.Stack.{Stepped, faults, passes, stepped}

module _ (t : List ℕ) where
  -- the table reads to `unused` statements before node i
  pub record Reading (unused i : ℕ) : Type 0 where
    pub st : List Stmt
    pub on : scan t 0 [] ≡ scan (drop (2 * i) t) i st
    pub count : unused ≡ length st
    pub low : unused ≤ i
    pub some : 0 < i → 0 < unused

  pub begin : Reading 0 0
  begin = record { st = []; on = refl; count = refl; low = omega arith; some = λ h. h }

  abbrev pub kind_at : ℕ → ℕ
  kind_at i = get_or t (2 * i) 0

  abbrev pub field_at : ℕ → ℕ
  field_at i = get_or t (2 * i + 1) 0

  two_bytes : (i : ℕ) → 2 * i + 1 < length t → drop (2 * i) t ≡ kind_at i ∷ (field_at i ∷ drop (2 * (i + 1)) t)
  two_bytes i h =
      let z : 2 * (i + 1) ≡ suc (2 * i + 1) = omega arith in
      drop-cons t (2 * i) 0 (omega arith) ∙ rw (z, ← drop-cons t (2 * i + 1) 0 h, add-one)

  -- what a node with c children needs, and what it leaves
  pub record Turn (unused i c : ℕ) : Type 0 where
    pub enough : c ≤ unused + 1
    pub again : Reading (unused + 1 - c) (i + 1)

  module _ (unused i : ℕ) (o : Reading unused i) (inside : 2 * i + 1 < length t) (r : Reply (Unit {0})) (is : r ≡ node_check (kind_of (kind_at i)) (field_at i) unused i) where
    abbrev next : List Stmt → Verdict
    next s = scan (drop (2 * (i + 1)) t) (suc i) s

    abbrev own : Step
    own = push (node_of (kind_at i) (field_at i)) o.st

    on-next : scan t 0 [] ≡ step own i next
    on-next = o.on ∙ rw (two_bytes i inside)

    own-step : Stepped o.st i own (arity_of (kind_of (kind_at i))) r
    own-step = rw (is, o.count) (stepped i (kind_at i) (field_at i) o.st)

    -- node i is refused
    pub refusing : (r ≡ yields tt → ⊥) → r ≡ nodes_check t
    unfolding nodes_check
    refusing ne = go own-step ne on-next
      where
        go : {s : Step} {c : ℕ} {r : Reply (Unit {0})} → Stepped o.st i s c r → (r ≡ yields tt → ⊥) → scan t 0 [] ≡ step s i next → r ≡ answer_of (scan t 0 [])
        go (faults number c) ne z = rw z
        go (passes p below c g) ne z = absurd (ne refl)

    -- node i passes
    pub passing : r ≡ yields tt → Turn unused i (arity_of (kind_of (kind_at i)))
    passing y = go own-step y on-next
      where
        go : {s : Step} {c : ℕ} {r : Reply (Unit {0})} → Stepped o.st i s c r → r ≡ yields tt → scan t 0 [] ≡ step s i next → Turn unused i c
        go (faults number c) y z = absurd (let x : ◌≡◌ {A = ℕ} 0 1 = cc in omega arith)
        go (passes p below c g) y z =
            let count = o.count in
            let low = o.low in
            record {
              enough = omega arith;
              again = record { st = p ∷ below; on = z ∙ rw add-one; count = omega arith; low = omega arith; some = λ h. omega arith };
            }

  module _ (unused i : ℕ) (o : Reading unused i) (all : length t ≡ 2 * i) where
    on-end : scan t 0 [] ≡ scan [] i o.st
    on-end = o.on ∙ rw (drop_of_length-le t {i = 2 * i} (omega arith))

    -- at the end one statement is left
    pub one_left : unused ≡ 1 → yields tt ≡ nodes_check t
    unfolding nodes_check
    one_left e = go o.st (sym o.count ∙ e) on-end
      where
        go : (st : List Stmt) → length st ≡ 1 → scan t 0 [] ≡ scan [] i st → yields tt ≡ answer_of (scan t 0 [])
        go [] l z = absurd (omega arith)
        go (p ∷ []) l z = rw z
        go (p ∷ (q ∷ st)) l z = absurd (omega arith)

    -- or several: there are nodes, so not none
    pub several-left : 0 < i → (unused ≡ 1 → ⊥) → rejects 7 0 ≡ nodes_check t
    unfolding nodes_check
    several-left pos ne = go o.st (λ l. ne (o.count ∙ l)) (λ l. omega (arith, o.some pos, o.count)) on-end
      where
        go : (st : List Stmt) → (length st ≡ 1 → ⊥) → (length st ≡ 0 → ⊥) → scan t 0 [] ≡ scan [] i st → rejects 7 0 ≡ answer_of (scan t 0 [])
        go [] l m z = absurd (m refl)
        go (p ∷ []) l m z = absurd (l refl)
        go (p ∷ (q ∷ st)) l m z = rw z
