-- The greatest number in the row of an accepted program, and one lemma for each return of `most_entries` and `find_longest`.
use mathlib.Core.Path.{◌≡◌, refl, sym, ap, ap₂, subst, ◌∙◌}
use mathlib.Core.Bool.{Bool, true}
use mathlib.Core.Option.{Option, none, some}
use mathlib.Core.List.{List}
use Prim.Native.Nat.{ℕ, zero, suc, ◌+◌, ◌-◌, ◌≤◌, max}
use native.Mathlib.Omega.{arith}
use borrow.Author.Tests.{leb-true}
use lib.Dec.{leb}
use lib.ListN.{length, get_or, replicate, get_or-replicate}
use lib.Seq.{sets}
use Rattle.esterel.specs.Limits.{max_nodes}
use Rattle.esterel.specs.Statement.{Stmt, size, nodes}
use Rattle.esterel.specs.Table.{passed}
use Rattle.esterel.specs.Refusal.{Reply, yields, rejects}
use Rattle.esterel.specs.Checks.{verdict}
use Rattle.esterel.specs.Outcome.{statement_at}
use Rattle.esterel.specs.Theorems.{WellFormed, Accepted, Closed}
use Rattle.esterel.proofs.Accepted.{acceptance}
use Rattle.esterel.proofs.Nodes.{last-node}
use Rattle.esterel.proofs.Sizes.{size_pos}
use Rattle.esterel.proofs.Theorems.{exactness, demand3}
use Rattle.table.specs.Program.{program_of}
use Rattle.table.specs.Columns.{stmt_at}
use Rattle.table.specs.declared.Tree.{Tree}
use Rattle.table.proofs.Buffers.{sets-front}
use Rattle.analysis.specs.Passes.{Placed}
use Rattle.analysis.specs.Analysis.{TableChecked, Sized, TreeChecked}
use Rattle.analysis.proofs.Analyses.{table-refused, ready, table-passed, verdict-refused}
use Rattle.analysis.proofs.Nodes.{well_formed_lem}
use Rattle.analysis.proofs.Theorems.{checked-room, checked-passed}
use Rattle.starts.specs.declared.Weight.TheVariants.{Entries}
use Rattle.starts.specs.Ticks.{tick_answers, presents}
use Rattle.starts.specs.Entries.{Greatest}
use Rattle.starts.specs.Summary.{either, up_to, weights, most_entries}
use Rattle.starts.specs.Walk.{walk, any_code, answers_of, Low, Below}
use Rattle.starts.proofs.Agree.{walk_agree}
use Rattle.starts.proofs.Short.{walk-short}
use Rattle.starts.proofs.Theorems.{few-tests, codes-below}
use Rattle.starts.proofs.Entries.{first_tick, composed}
use Rattle.rows.specs.Rows.{value_of, values_of, Holds}
use Rattle.rows.specs.declared.Row.{Row}
use Rattle.rows.specs.Filled.{numbers_at, RowsTo}
use Rattle.rows.proofs.Said.{row_low}
use Rattle.walk.specs.declared.Walked.{Walked}
use Rattle.walk.specs.declared.Ground.{Ground}
use Rattle.walk.specs.Walks.{Walking, Walks}
use Rattle.planning.specs.declared.Longest.{Longest}
use Rattle.planning.specs.Rows.{larger01, top_of, Tops, AnyCode}
use Rattle.planning.specs.Planning.{Plans, reaches, Hands}

-- ---- top

max-says : (a b : ℕ) → value_of (max a b) ≡ either max (value_of a) (value_of b)
max-says zero b = let z : max 0 b ≡ b = omega arith in ap value_of z
max-says (suc a) zero = let z : max (suc a) 0 ≡ suc a = omega arith in ap value_of z
max-says (suc a) (suc b) = let z : max (suc a) (suc b) ≡ suc (max a b) = omega arith in ap value_of z

same_value : (x y : ℕ) → value_of x ≡ value_of y → x ≡ y
same_value zero zero e = refl
same_value zero (suc y) e = let z : ◌≡◌ {A = ℕ} 0 1 = cc in absurd (omega arith)
same_value (suc x) zero e = let z : ◌≡◌ {A = ℕ} 0 1 = cc in absurd (omega arith)
same_value (suc x) (suc y) e = let z : x ≡ y = cc in ap suc z

-- ---- the greatest number of an accepted program

-- its codes are 0 and 1
two-codes : (p : Stmt) → Accepted p → Low 1 p
two-codes p a k e =
    let (answers, t, h, r, z) = (exactness p 0 k).0 e in
    let c : Closed p answers k t h r = rw z at (demand3.starts p a answers) in
    c.code

either-swap : (x y : Option ℕ) → either max x y ≡ either max y x
either-swap none none = refl
either-swap none (some y) = refl
either-swap (some x) none = refl
either-swap (some x) (some y) = ap some (omega arith)

pub record Top (p : Stmt) (row : List ℕ) : Type 0 where
  pub most : ℕ
  pub greatest : Greatest p most
  pub is : larger01 row ≡ suc most

pub top_of_lem : (p : Stmt) (row : List ℕ) → Accepted p → Holds (most_entries p) row → Top p row
top_of_lem p row a o =
    let (n, g) = first_tick.exists p a in
    let e : up_to (weights Entries) (most_entries p) 1 ≡ some n = (composed.all 1 p (two-codes p a) n).0 g in
    let z : value_of (larger01 row) ≡ some n = max-says (get_or row 0 0) (get_or row 1 0) ∙ ap₂ (either max) (o.at 0 (omega arith)) (o.at 1 (omega arith)) ∙ either-swap (most_entries p 0) (most_entries p 1) ∙ e in
    record { most = n; greatest = g; is = same_value (larger01 row) (suc n) z }

pub tops : (p : Stmt) {row : List ℕ} → Accepted p → Holds (most_entries p) row → Tops row
tops p {row} a o = record { long = o.long; some = omega (arith, (top_of_lem p row a o).is) }

-- ---- most_entries

pub refused_plan : {t : List ℕ} {number node : ℕ} → TableChecked true t (rejects number node) → Plans t (rejects number node)
refused_plan {t} o = Plans.refuses _ _ (sym (checked-room t) ∙ table-refused o) refl

module _ {t : List ℕ} {d : ℕ} (o : TableChecked true t (yields d)) where
  pub placed : Placed t
  placed = (ready o).placed

  passes : verdict t ≡ passed (program_of t)
  passes = sym (checked-room t) ∙ (table-passed o).1

  accepted : Accepted (program_of t)
  accepted = (acceptance t (program_of t) passes).1

  module _ {row : List ℕ} (h : Holds (most_entries (program_of t)) row) where
    pub row_tops : Tops row
    row_tops = tops (program_of t) accepted h

    pub planned : {n : ℕ} → n ≡ top_of row → Plans t (yields n)
    planned {n} e =
        let x = top_of_lem (program_of t) row accepted h in
        let same : n ≡ x.most = omega (arith, x.is) in
        Plans.plans (program_of t) x.most passes x.greatest (ap yields same)

-- ---- any_code

pub any-is : AnyCode (replicate 64 1)
any-is =
    record {
      holds = record { long = refl; at = λ k l. ap value_of (get_or-replicate {A = ℕ} 64 k 1 0 l) };
      low = row_low 1 refl (λ k l. omega (arith, get_or-replicate {A = ℕ} 64 k 1 0 l));
    }

-- ---- find_longest

pub refused-hands : (old : List ℕ) {t : List ℕ} {number node : ℕ} → TreeChecked (leb tick_answers (length old)) t (rejects number node) → Hands t old old (rejects number node)
refused-hands old o = Hands.refuses _ _ (verdict-refused _ _ _ o.answer) refl refl

-- of a tree that is handed out: what was checked is its table
pub own : {room : Bool} {t : List ℕ} {x : Tree} → TreeChecked room t (yields x) → Sized room x.table.now x.sizes.now
own {room} {x = x} o = subst (λ u. Sized room u x.sizes.now) (sym (o.same x refl)) (o.sized x refl)

pub as_lent : {t u old new : List ℕ} {r : Reply Longest} → u ≡ t → Hands u old new r → Hands t old new r
as_lent {old = old} {new = new} {r = r} e o = subst (λ x. Hands x old new r) e o

module _ (old : List ℕ) {t sizes : List ℕ} (o : Sized (leb tick_answers (length old)) t sizes) where
  accepts : Accepted (program_of t)
  accepts = (acceptance t (program_of t) (checked-passed _ t (program_of t) o.verdict)).1

  well_formed : WellFormed t (program_of t)
  well_formed = well_formed_lem o.ready.placed

  few-presents : presents (program_of t) ≤ 511
  few-presents = omega (arith, few-tests (program_of t), o.few)

  room : tick_answers ≤ length old
  room = leb-true tick_answers (length old) o.suffices

  module _ {n : ℕ} (count : n ≡ size (program_of t)) where
    pub some-node : 1 ≤ n
    some-node = omega (arith, count, size_pos (program_of t))

    last-is : stmt_at t (n - 1) ≡ program_of t
    last-is = ap (λ i. statement_at (nodes (program_of t)) (i - 1)) count ∙ last-node (program_of t)

    module _ {rows : List Row} (done : RowsTo Entries t n rows) where
      says : Holds (most_entries (program_of t)) (numbers_at rows (n - 1))
      says = subst (λ p. Holds (most_entries p) (numbers_at rows (n - 1))) last-is (done.at (n - 1) (omega (arith, some-node)))

      pub last_tops : Tops (numbers_at rows (n - 1))
      last_tops = tops (program_of t) accepts says

      pub handed : {need new : List ℕ} {x : Walked} {m : ℕ} → AnyCode need → m ≡ top_of (numbers_at rows (n - 1)) → Walks Entries (stmt_at t (n - 1)) need old new 0 x → Hands t old new (reaches m x.at)
      handed {need} {new} {x} {m} g em w =
          let p = program_of t in
          let below : Below 63 p = subst (Below 63) last-is (codes-below well_formed (n - 1)) in
          let same : walk Entries 63 (stmt_at t (n - 1)) (values_of need) ≡ walk Entries 63 p any_code = ap (λ q. walk Entries 63 q (values_of need)) last-is ∙ walk_agree Entries 63 p below (values_of need) any_code (λ k h. g.holds.at k (omega arith)) in
          let list = answers_of (walk Entries 63 p any_code) in
          let y = top_of_lem p (numbers_at rows (n - 1)) accepts says in
          let entries : m ≡ y.most = omega (arith, y.is) in
          let long : x.at ≡ length list = (let k : 0 + length list ≡ length list = omega arith in w.after ∙ ap (λ v. 0 + length (answers_of v)) same ∙ k) in
          Hands.hands p y.most list o.verdict y.greatest (composed.found 63 p below y.most y.greatest) (ap₂ reaches entries long)
          (w.written ∙ ap (λ v. sets old 0 (answers_of v)) same ∙ sets-front list old (omega (arith, walk-short Entries 63 p any_code, few-presents, room)))

-- the walk over that ground begins at the whole program
pub walking : {g : Ground} {need old : List ℕ} {n : ℕ} → g.weight ≡ Entries → Sized (leb tick_answers (length old)) g.tree.table.now g.tree.sizes.now → n ≡ size (program_of g.tree.table.now) → RowsTo Entries g.tree.table.now n g.rows.now → AnyCode need → Walking g need old (n - 1) 0
walking {g} {need} {old} {n} w o count done will =
    record {
      well_formed = well_formed old o;
      top = n;
      within = omega (arith, some-node old o count);
      known = omega (arith, count);
      filled = subst (λ x. RowsTo x g.tree.table.now n g.rows.now) (sym w) done;
      most = 0;
      low = will.low;
      few = subst (λ p. 0 + size p ≤ max_nodes) (sym (last-is old o count)) (omega (arith, o.few));
      room = subst (λ p. 0 + presents p ≤ length old) (sym (last-is old o count)) (omega (arith, few-presents old o, room old o));
    }
