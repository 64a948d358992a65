-- The chain of checks: what each answer says of the verdict. One lemma for each return of `accept`.
use mathlib.Core.Path.{◌≡◌, refl, sym, ap, ◌∙◌}
use mathlib.Core.Bool.{Bool, true, false, ◌||◌, cond}
use mathlib.Core.Option.{Option, none, some}
use mathlib.Core.List.{List, []}
use Prim.Native.Nat.{ℕ, ◌*◌, ◌%◌}
use native.Mathlib.Omega.{arith}
use lib.Dec.{eqb, ltb}
use lib.ListN.{length}
use borrow.Author.Tests.{ltb-false, eqb-false, le-ltb, ne_eqb}
use Rattle.esterel.specs.Refusal.{Reply, yields, rejects}
use Rattle.esterel.specs.Limits.{max_nodes}
use Rattle.esterel.specs.Statement.{nothing, Stmt, leaf, loop_depth}
use Rattle.esterel.specs.Sets.{Place, places_of}
use Rattle.esterel.specs.Table.{Verdict, passed, refused, scan, check_length, read}
use Rattle.esterel.specs.Checks.{first_node, too_deep, too_many_traps, uncaught, ends_at_once, refuse_at, check_places, check_program}
use Rattle.table.specs.Program.{program_in, program_of, Readable}
use Rattle.table.specs.Check.{refuse, answer_of, refuse_found, length_check, WellSized, nodes_check, places_check}
use Rattle.esterel.proofs.Replies.{rejects≢yields}
use Rattle.analysis.specs.Passes.{Placed, loops_check, Ready, depth_of, Accepting}

-- checks 1 and 2
pub length_law : (t : List ℕ) (next : Verdict) → check_length t next ≡ refuse (length_check t) next
unfolding length_check
length_law t next = go (ltb (2 * max_nodes) (length t)) (eqb (length t) 0 || eqb (length t % 2) 1)
  where
    go : (a b : Bool) → cond a (refused 1 0) (cond b (refused 2 0) next) ≡ refuse (cond a (rejects 1 0) (cond b (rejects 2 0) (yields (tt {0})))) next
    go true b = refl
    go false true = refl
    go false false = refl

pub well_sized : (t : List ℕ) → length_check t ≡ yields tt → WellSized t
unfolding length_check
well_sized t e = go (ltb (2 * max_nodes) (length t)) refl (eqb (length t) 0) refl (eqb (length t % 2) 1) refl e
  where
    go : (a : Bool) → ltb (2 * max_nodes) (length t) ≡ a → (b : Bool) → eqb (length t) 0 ≡ b → (c : Bool) → eqb (length t % 2) 1 ≡ c → cond a (rejects 1 0) (cond (b || c) (rejects 2 0) (yields (tt {0}))) ≡ yields tt → WellSized t
    go true ea b eb c ec z = let y : ◌≡◌ {A = ℕ} 0 1 = cc in absurd (omega arith)
    go false ea true eb c ec z = let y : ◌≡◌ {A = ℕ} 0 1 = cc in absurd (omega arith)
    go false ea false eb true ec z = let y : ◌≡◌ {A = ℕ} 0 1 = cc in absurd (omega arith)
    go false ea false eb false ec z =
        let some : length t ≡ 0 → ⊥ = eqb-false (length t) 0 eb in
        let even : length t % 2 ≡ 1 → ⊥ = eqb-false (length t % 2) 1 ec in
        record { some = omega arith; even = omega arith; few = ltb-false (2 * max_nodes) (length t) ea }

-- a table of a good length is read by its nodes
pub read_is : (t : List ℕ) → WellSized t → read t ≡ scan t 0 []
read_is t w =
    let a : ltb (2 * max_nodes) (length t) ≡ false = le-ltb (2 * max_nodes) (length t) w.few in
    let b : eqb (length t) 0 ≡ false = ne_eqb (length t) 0 (λ z. omega (arith, w.some)) in
    let c : eqb (length t % 2) 1 ≡ false = ne_eqb (length t % 2) 1 (λ z. omega (arith, w.even)) in
    rw (a, b, c)

-- an answer is of one verdict
answer-refused : (v : Verdict) (number node : ℕ) → rejects number node ≡ answer_of v → v ≡ refused number node
answer-refused (passed p) number node e = cc
answer-refused (refused a b) number node e = cc

pub answer-passed : (v : Verdict) → yields tt ≡ answer_of v → (p : Stmt) × (v ≡ passed p)
answer-passed (passed p) e = (p, refl)
answer-passed (refused a b) e = (leaf nothing, cc)

-- a table whose nodes were read is readable
pub record Readen (t : List ℕ) : Type 0 where
  pub readable : Readable t
  pub scans : scan t 0 [] ≡ passed (program_of t)

module _ {t : List ℕ} {r : Reply (Unit {0})} (w : WellSized t) (e : r ≡ nodes_check t) where
  pub nodes-refused : (number node : ℕ) → r ≡ rejects number node → check_program (scan t 0 []) ≡ refused number node
  unfolding nodes_check
  nodes-refused number node z = ap check_program (answer-refused (scan t 0 []) number node (sym z ∙ e))

  pub nodes-read : r ≡ yields tt → Readen t
  unfolding program_of nodes_check
  nodes-read z =
      let (p, y) = answer-passed (scan t 0 []) (sym z ∙ e) in
      let reads : read t ≡ passed p = read_is t w ∙ y in
      let same : program_of t ≡ p = ap program_in reads in
      record { readable = record { reads = reads ∙ ap passed (sym same) }; scans = y ∙ ap passed (sym same) }

-- checks 8 to 11 of a program
checks_law : (ps : List Place) (next : Verdict) → check_places ps next ≡ refuse (places_check ps 0) (refuse (refuse_found 11 (first_node ends_at_once ps 0) (yields tt)) next)
unfolding places_check
checks_law ps next = go (first_node too_deep ps 0) (first_node too_many_traps ps 0) (first_node uncaught ps 0) (first_node ends_at_once ps 0)
  where
    go : (a b c d : Option ℕ) → refuse_at 8 a (refuse_at 9 b (refuse_at 10 c (refuse_at 11 d next))) ≡ refuse (refuse_found 8 a (refuse_found 9 b (refuse_found 10 c (yields tt)))) (refuse (refuse_found 11 d (yields tt)) next)
    go (some x) b c d = refl
    go none (some x) c d = refl
    go none none (some x) d = refl
    go none none none (some x) = refl
    go none none none none = refl

program_law : (t : List ℕ) (p : Stmt) → scan t 0 [] ≡ passed p → check_program (scan t 0 []) ≡ refuse (places_check (places_of p) 0) (refuse (loops_check p) (passed p))
unfolding loops_check
program_law t p e = ap check_program e ∙ checks_law (places_of p) (passed p)

module _ {t : List ℕ} (o : Readen t) (c : Reply (Unit {0})) (e : c ≡ places_check (places_of (program_of t)) 0) where
  after-places : check_program (scan t 0 []) ≡ refuse c (refuse (loops_check (program_of t)) (passed (program_of t)))
  after-places = program_law t (program_of t) o.scans ∙ ap (λ x. refuse x (refuse (loops_check (program_of t)) (passed (program_of t)))) (sym e)

  pub places-refused : (number node : ℕ) → c ≡ rejects number node → check_program (scan t 0 []) ≡ refused number node
  places-refused number node z = after-places ∙ ap (λ x. refuse x (refuse (loops_check (program_of t)) (passed (program_of t)))) z

  module _ (z : c ≡ yields tt) where
    pub places-passed : Placed t
    places-passed = record { readable = o.readable; passes = sym e ∙ z }

    last_law : check_program (scan t 0 []) ≡ refuse (loops_check (program_of t)) (passed (program_of t))
    last_law = after-places ∙ ap (λ x. refuse x (refuse (loops_check (program_of t)) (passed (program_of t)))) z

    module _ (l : Reply (Unit {0})) (el : l ≡ loops_check (program_of t)) where
      pub loops-refused : (number node : ℕ) → l ≡ rejects number node → check_program (scan t 0 []) ≡ refused number node
      loops-refused number node y = last_law ∙ ap (λ x. refuse x (passed (program_of t))) (sym el ∙ y)

      pub accepted : l ≡ yields tt → Ready t
      accepted y = record { verdict = last_law ∙ ap (λ x. refuse x (passed (program_of t))) (sym el ∙ y); placed = places-passed }

-- what is answered for a refusal, and for a table that passes
pub not-accepted : {t : List ℕ} {number node : ℕ} → check_program (scan t 0 []) ≡ refused number node → Accepting t (rejects number node)
not-accepted v = record { answer = sym (ap depth_of v); ready = λ d e. absurd (rejects≢yields e) }

pub is-accepted : {t : List ℕ} {d : ℕ} → Ready t → d ≡ loop_depth (program_of t) → Accepting t (yields d)
is-accepted o e = record { answer = ap yields e ∙ sym (ap depth_of o.verdict); ready = λ d f. o }
