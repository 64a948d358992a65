-- One lemma for each return of `goal`, `show` and `find_tick`.
use mathlib.Core.Path.{◌≡◌, refl, sym, ap, ap₂, subst, ◌∙◌}
use mathlib.Core.Bool.{Bool, true, false, cond}
use mathlib.Core.Option.{some}
use mathlib.Core.Option.{none as nowhere}
use mathlib.Core.List.{List}
use Prim.Native.Nat.{ℕ, zero, suc, ◌+◌, ◌-◌, ◌/◌, ◌≤◌, ◌<◌}
use native.Mathlib.Omega.{arith}
use denote.Enum.Bare.{sameb}
use borrow.Author.Tests.{ne_eqb, eqb-true, eqb-false, leb-true}
use lib.Dec.{eqb, leb}
use lib.ListN.{length, get_or, set, replicate, get_or-replicate}
use lib.Seq.{sets, get_or-set_other}
use Rattle.esterel.specs.Limits.{max_nodes}
use Rattle.esterel.specs.Statement.{loop, Stmt, one, size}
use Rattle.esterel.specs.Codes.{empty}
use Rattle.std.proofs.Common.{rules}
use Rattle.esterel.specs.declared.Check.{Check}
use Rattle.esterel.specs.declared.Check.TheVariants.{EndsAtOnce}
use Rattle.esterel.specs.contracts.Check.{the_type}
use Rattle.esterel.specs.Refusal.{number_of, Reply, yields, rejects}
use Rattle.esterel.specs.Table.{refused}
use Rattle.esterel.specs.Theorems.{WellFormed}
use Rattle.esterel.proofs.Accepted.{length-places}
use Rattle.esterel.proofs.LoopCheck.{loop-within}
use Rattle.esterel.proofs.Refusals.{refusals}
use Rattle.esterel.proofs.Sizes.{size_pos}
use Rattle.esterel.proofs.Subtrees.{only_child_lem}
use Rattle.esterel.proofs.Theorems.{loop_check}
use Rattle.table.specs.Program.{program_in, program_of, Readable}
use Rattle.table.specs.Columns.{stmt_at}
use Rattle.table.proofs.Buffers.{sets-front}
use Rattle.table.proofs.Surveying.{few-nodes}
use Rattle.analysis.specs.Analysis.{TableChecked}
use Rattle.analysis.proofs.Analyses.{table-refused, ready, table-passed, depth-is, nodes-are}
use Rattle.analysis.proofs.Theorems.{refused_late}
use Rattle.starts.specs.declared.Weight.TheVariants.{Answers}
use Rattle.starts.specs.Ticks.{tick_answers, presents}
use Rattle.starts.specs.Walk.{goal, walk, answers_of, Below}
use Rattle.starts.specs.Computing.{WalkShows}
use Rattle.starts.proofs.Agree.{walk_agree}
use Rattle.starts.proofs.Short.{walk-short}
use Rattle.starts.proofs.Theorems.{few-tests, walks_right, codes-below}
use Rattle.rows.specs.Rows.{value_of, values_of}
use Rattle.rows.specs.Filled.{RowsTo}
use Rattle.rows.proofs.Said.{row_low}
use Rattle.walk.specs.declared.Walked.{Walked}
use Rattle.walk.specs.declared.Ground.{Ground}
use Rattle.walk.specs.Walks.{Walking, Walks}
use Rattle.witness.specs.declared.Tick.TheVariants.{Ends, Accepted}
use Rattle.witness.specs.Shows.{Goal, Faulty, Showing}
use Rattle.witness.specs.Ticks.{verdict_for, Tells}

-- ---- goal

abbrev nothing64 : List ℕ
nothing64 = replicate 64 0

goal-at : (k : ℕ) → k < 64 → value_of (get_or (set nothing64 0 1) k 0) ≡ goal 0 k
goal-at zero h = refl
goal-at (suc k) h =
    ap value_of (get_or-set_other nothing64 0 (suc k) 1 0 (λ z. omega arith) ∙ get_or-replicate 64 (suc k) 0 0 h) ∙
    ap (λ b. cond b (some 0) nowhere) (sym (ne_eqb 0 (suc k) (λ z. omega arith)))

goal-low : (k : ℕ) → k < 64 → get_or (set nothing64 0 1) k 0 ≤ 1
goal-low zero h = omega arith
goal-low (suc k) h =
    let kept : get_or (set nothing64 0 1) (suc k) 0 ≡ get_or nothing64 (suc k) 0 = get_or-set_other nothing64 0 (suc k) 1 0 (λ z. omega arith) in
    let none : get_or nothing64 (suc k) 0 ≡ 0 = get_or-replicate 64 (suc k) 0 0 h in
    omega arith

pub goal-is : Goal (set nothing64 0 1)
goal-is = record { holds = record { long = refl; at = goal-at }; low = row_low 1 refl goal-low }

-- ---- show

module _ {t : List ℕ} {node : ℕ} (o : Faulty t node) where
  -- the program of the table
  pub well_formed_lem : WellFormed t (program_of t)
  unfolding program_of
  well_formed_lem = let (p, w) = loop_check.well_formed t node o.refuses in subst (WellFormed t) (sym (ap program_in w.reads)) w

  pub readable : Readable t
  readable = record { reads = well_formed_lem.reads }

  pub few : size (program_of t) ≤ max_nodes
  few = few-nodes t readable

  -- the body of the loop stands right before it
  pub record Body (body : Stmt) : Type 0 where
    pub is : stmt_at t node ≡ one loop body
    pub child : stmt_at t (node - 1) ≡ body
    pub below : Below 63 body
    pub right : WalkShows 63 body 0
    pub some : 0 < node
    pub known : node ≤ size (program_of t)
    pub few-nodes : size body ≤ max_nodes
    pub few-answers : presents body ≤ 511

  body_of : (body : Stmt) × Body body
  body_of =
      let l = (loop_check.refuses t (program_of t) well_formed_lem node).0 o.refuses in
      let (le, child) = only_child_lem (program_of t) node loop l.body l.is_loop in
      let below : Below 63 l.body = subst (Below 63) child (codes-below well_formed_lem (node - 1)) in (
        l.body,
        record {
          is = l.is_loop;
          child = child;
          below = below;
          right = walks_right 63 l.body below 0 l.such;
          some = omega (arith, size_pos l.body);
          known = omega (arith, loop-within (program_of t) node l.body l.is_loop, length-places (program_of t) 1 0 empty);
          few-nodes = omega (arith, (refusals t 11 node o.refuses).2);
          few-answers = omega (arith, few-tests l.body, (refusals t 11 node o.refuses).2);
        },
      )

  pub some-before : 0 < node
  some-before = let (body, b) = body_of in b.some

  pub known-nodes : node ≤ size (program_of t)
  known-nodes = let (body, b) = body_of in b.known

-- the same of a tree's table
pub in_tree : {t u : List ℕ} {node : ℕ} → u ≡ t → Faulty t node → Faulty u node
in_tree {node = node} e o = subst (λ x. Faulty x node) (sym e) o

-- the walk over that ground begins at the body
module _ {g : Ground} (w : g.weight ≡ Answers) {node : ℕ} (o : Faulty g.tree.table.now node) (done : RowsTo Answers g.tree.table.now node g.rows.now) where
  pub body_call : {need answers : List ℕ} → Goal need → tick_answers ≤ length answers → Walking g need answers (node - 1) 0
  body_call {need} {answers} will room =
      let (body, b) = body_of o in
      record {
        well_formed = well_formed_lem o;
        top = node;
        within = omega (arith, b.some);
        known = b.known;
        filled = subst (λ x. RowsTo x g.tree.table.now node g.rows.now) (sym w) done;
        most = 0;
        low = will.low;
        few = subst (λ p. 0 + size p ≤ max_nodes) (sym b.child) (omega (arith, b.few-nodes));
        room = subst (λ p. 0 + presents p ≤ length answers) (sym b.child) (omega (arith, b.few-answers));
      }

module _ {t : List ℕ} {node : ℕ} (o : Faulty t node) {need answers : List ℕ} (will : Goal need) (room : tick_answers ≤ length answers) where
  pub showing : {answers' : List ℕ} {w : Walked} → Walks Answers (stmt_at t (node - 1)) need answers answers' 0 w → Showing t node answers answers' w.at
  showing {answers'} {w} v =
      let (body, b) = body_of o in
      let same : walk Answers 63 (stmt_at t (node - 1)) (values_of need) ≡ walk Answers 63 body (goal 0) = ap (λ p. walk Answers 63 p (values_of need)) b.child ∙ walk_agree Answers 63 body b.below (values_of need) (goal 0) (λ k h. will.holds.at k (omega arith)) in
      let list = answers_of (walk Answers 63 body (goal 0)) in
      record {
        list = list;
        shown = record { program = program_of t; reads = (well_formed_lem o).reads; body = body; is_loop = b.is; shown = b.right.shown (node - size body) };
        long = let z : 0 + length list ≡ length list = omega arith in v.after ∙ ap (λ y. 0 + length (answers_of y)) same ∙ z;
        written = v.written ∙ ap (λ y. sets answers 0 (answers_of y)) same ∙ sets-front list answers (omega (arith, walk-short Answers 63 body (goal 0), b.few-answers));
      }

-- ---- find_tick

-- the comparison of checks that is derived is that of their numbers
late-is : (c : Check) → sameb the_type c EndsAtOnce ≡ eqb (number_of c) 11
late-is c = search rules

pub late : {r : Bool} (c : Check) → r ≡ sameb the_type c EndsAtOnce → r ≡ true → number_of c ≡ 11
late c e z = eqb-true (number_of c) 11 (sym (late-is c) ∙ sym e ∙ z)

pub early : {r : Bool} (c : Check) → r ≡ sameb the_type c EndsAtOnce → r ≡ false → number_of c ≡ 11 → ⊥
early c e z = eqb-false (number_of c) 11 (sym (late-is c) ∙ sym e ∙ z)

-- what the checks answered
abbrev Answered : (old t : List ℕ) → Reply ℕ → Type 0
Answered old t r = TableChecked (leb tick_answers (length old)) t r

module _ (old : List ℕ) {t : List ℕ} where
  pub accepted_tells : {d n : ℕ} → Answered old t (yields d) → n ≡ length t / 2 → Tells t old old (yields (Accepted n d))
  accepted_tells o en = Tells.accepts (program_of t) (table-passed o).1 (ap₂ (λ n d. yields (Accepted n d)) (en ∙ nodes-are (ready o)) (depth-is o)) refl

  pub refused_tells : {number node : ℕ} → Answered old t (rejects number node) → (number ≡ 11 → ⊥) → Tells t old old (rejects number node)
  refused_tells o d = Tells.refuses _ _ (table-refused o) d refl refl

  module _ {number node : ℕ} (o : Answered old t (rejects number node)) (e : number ≡ 11) where
    refuses-is : verdict_for t old ≡ refused 11 node
    refuses-is = table-refused o ∙ ap (λ n. refused n node) e

    pub faulty : Faulty t node × (tick_answers ≤ length old)
    faulty =
        let (room, v) = refused_late (leb tick_answers (length old)) t 11 node refuses-is (omega arith) in
        (record { refuses = v }, leb-true tick_answers (length old) room)

    pub shown_tells : {new : List ℕ} {n : ℕ} → Showing t node old new n → Tells t old new (yields (Ends node n))
    shown_tells s = Tells.shows node s.list refuses-is s.shown (ap (λ n. yields (Ends node n)) s.long) s.written
