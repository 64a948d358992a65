-- The theorems of specs/Theorems.antt.
use mathlib.Core.Path.{◌≡◌, refl, sym, ap, ap₂, subst, ◌∙◌}
use mathlib.Core.Bool.{Bool, true, false, cond, ◌||◌}
use mathlib.Core.List.{List}
use Prim.Native.Nat.{ℕ, ◌-◌, ◌*◌, ◌%◌, ◌≤◌, ◌<◌}
use native.Mathlib.Omega.{arith}
use lib.Dec.{eqb, leb, ltb}
use lib.ListN.{length}
use Rattle.esterel.specs.Limits.{max_nodes}
use Rattle.esterel.specs.Statement.{loop, Stmt, one, size, nodes, loop_depth}
use Rattle.esterel.specs.Table.{passed, refused}
use Rattle.esterel.specs.Refusal.{Reply, yields, rejects}
use Rattle.esterel.specs.Checks.{verdict}
use Rattle.esterel.specs.Outcome.{statement_at}
use Rattle.esterel.proofs.Refusals.{Told, told-numbered, one-program, one-refusal, passed-refused, other-number}
use Rattle.esterel.proofs.Theorems.{loop_check}
use Rattle.table.specs.Columns.{onto}
use Rattle.analysis.specs.Analysis.{checked}
use Rattle.analysis.proofs.Theorems.{checked-room, enough-room, checked-passed, checked-told}
use Rattle.starts.specs.Ticks.{IsShown, ShownAt, tick_answers}
use Rattle.starts.proofs.Theorems.{one_shown, faults}
use Rattle.witness.specs.declared.Tick.{Tick}
use Rattle.witness.specs.declared.Tick.TheVariants.{Ends, Accepted}
use Rattle.witness.specs.Ticks.{verdict_for, Tells}
use Rattle.witness.specs.Theorems.{Determined, TicksTold}

-- ---- a table has one list that is shown

same_body : {p q : Stmt} → one loop p ≡ one loop q → p ≡ q
same_body e = cc

pub shown-once : {t : List ℕ} {node : ℕ} {u v : List ℕ} → ShownAt t node u → ShownAt t node v → u ≡ v
shown-once {node = node} {u = u} {v = v} a b =
    let program = one-program a.reads b.reads in
    let body = same_body (sym a.is_loop ∙ ap (λ p. statement_at (nodes p) node) program ∙ b.is_loop) in
    one_shown.unique a.body (node - size a.body) 0 u v a.shown (subst (λ p. IsShown (node - size p) p 0 v) (sym body) b.shown)

-- ---- the contract is met by one answer and one content

pub determined : Determined
determined t old new new' r r' (Tells.accepts p e z w) (Tells.accepts q f y x) =
    let same = one-program e f in
    (z ∙ ap (λ s. yields (Accepted (size s) (loop_depth s))) same ∙ sym y, w ∙ sym x)
determined t old new new' r r' (Tells.accepts p e z w) (Tells.refuses b n f d y x) = absurd (passed-refused e f)
determined t old new new' r r' (Tells.accepts p e z w) (Tells.shows n u f s y x) = absurd (passed-refused e f)
determined t old new new' r r' (Tells.refuses a m e c z w) (Tells.accepts q f y x) = absurd (passed-refused f e)
determined t old new new' r r' (Tells.refuses a m e c z w) (Tells.refuses b n f d y x) =
    let (number, node) = one-refusal e f in
    (z ∙ ap₂ rejects number node ∙ sym y, w ∙ sym x)
determined t old new new' r r' (Tells.refuses a m e c z w) (Tells.shows n u f s y x) = absurd (c (one-refusal e f).0)
determined t old new new' r r' (Tells.shows m u e s z w) (Tells.accepts q f y x) = absurd (passed-refused f e)
determined t old new new' r r' (Tells.shows m u e s z w) (Tells.refuses b n f d y x) = absurd (d (one-refusal f e).0)
determined t old new new' r r' (Tells.shows m u e s z w) (Tells.shows n v f o y x) =
    let node = (one-refusal e f).1 in
    let list = shown-once s (subst (λ i. ShownAt t i v) (sym node) o) in
    (z ∙ ap₂ (λ i l. yields (Ends i (length l))) node list ∙ sym y, w ∙ ap (λ l. onto l old) list ∙ sym x)

-- ---- the table's verdict

-- check 3 is not 11
eleven : (room : Bool) (t : List ℕ) (node : ℕ) → checked room t ≡ refused 11 node → verdict t ≡ refused 11 node
unfolding checked
eleven true t node e = sym (checked-room t) ∙ e
eleven false t node e = absurd (go (ltb (2 * max_nodes) (length t)) (eqb (length t) 0 || eqb (length t % 2) 1) e)
  where
    go : (a b : Bool) → cond a (refused 1 0) (cond b (refused 2 0) (refused 3 0)) ≡ refused 11 node → ⊥
    go true b z = other-number (λ y. omega arith) z
    go false true z = other-number (λ y. omega arith) z
    go false false z = other-number (λ y. omega arith) z

module _ {t old new : List ℕ} {r : Reply Tick} (o : Tells t old new r) where
  ends-refused : (node n : ℕ) → r ≡ yields (Ends node n) → verdict t ≡ refused 11 node
  ends-refused node n e = go o
    where
      go : Tells t old new r → verdict t ≡ refused 11 node
      go (Tells.accepts p v z w) = let y : ◌≡◌ {A = ℕ} 0 1 = cc in absurd (omega arith)
      go (Tells.refuses a m v d z w) = let y : ◌≡◌ {A = ℕ} 0 1 = cc in absurd (omega arith)
      go (Tells.shows m u v s z w) = let same : m ≡ node = cc in eleven (leb tick_answers (length old)) t node (v ∙ ap (refused 11) same)

  refused-ends : tick_answers ≤ length old → (node : ℕ) → verdict t ≡ refused 11 node → (n : ℕ) × (r ≡ yields (Ends node n))
  refused-ends room node e = go o
    where
      is : verdict_for t old ≡ refused 11 node
      is = enough-room t room ∙ e

      go : Tells t old new r → (n : ℕ) × (r ≡ yields (Ends node n))
      go (Tells.accepts p v z w) = absurd (passed-refused v is)
      go (Tells.refuses a m v d z w) = absurd (d (one-refusal v is).0)
      go (Tells.shows m u v s z w) = (length u, z ∙ ap (λ i. yields (Ends i (length u))) (one-refusal v is).1)

-- the list that is shown is shorter than the room
pub list-short : {t : List ℕ} {node : ℕ} {u : List ℕ} → verdict t ≡ refused 11 node → ShownAt t node u → length u < tick_answers
list-short {t} {node} {u} e s =
    let f = faults t node e in
    let program = one-program s.reads f.at.reads in
    let body = same_body (sym s.is_loop ∙ ap (λ p. statement_at (nodes p) node) program ∙ f.at.is_loop) in
    f.short u (subst (λ p. IsShown (node - size p) p 0 u) body s.shown).leads

ends-short : {t old new : List ℕ} {r : Reply Tick} (node n : ℕ) → Tells t old new r → r ≡ yields (Ends node n) → n < tick_answers
ends-short node n (Tells.accepts p v z w) e = let y : ◌≡◌ {A = ℕ} 0 1 = cc in absurd (omega arith)
ends-short node n (Tells.refuses a m v d z w) e = let y : ◌≡◌ {A = ℕ} 0 1 = cc in absurd (omega arith)
ends-short {t} {old} node n (Tells.shows m u v s z w) e =
    let same : n ≡ length u = cc in
    omega (arith, list-short (eleven (leb tick_answers (length old)) t m v) s)

accepted-is : {t old new : List ℕ} {r : Reply Tick} (n d : ℕ) → Tells t old new r → r ≡ yields (Accepted n d) → (p : Stmt) × (verdict t ≡ passed p) × (n ≡ size p) × (d ≡ loop_depth p) × (new ≡ old)
accepted-is {t} {old} n d (Tells.accepts p v z w) e = (p, checked-passed (leb tick_answers (length old)) t p v, cc, cc, w)
accepted-is n d (Tells.refuses a m v c z w) e = let y : ◌≡◌ {A = ℕ} 0 1 = cc in absurd (omega arith)
accepted-is n d (Tells.shows m u v s z w) e = let y : ◌≡◌ {A = ℕ} 0 1 = cc in absurd (omega arith)

refused-is : {t old new : List ℕ} {r : Reply Tick} (number node : ℕ) → Tells t old new r → r ≡ rejects number node → (1 ≤ number) × (number ≤ 10) × (node < max_nodes) × (new ≡ old)
refused-is number node (Tells.accepts p v z w) e = let y : ◌≡◌ {A = ℕ} 0 1 = cc in absurd (omega arith)
refused-is {t} {old} number node (Tells.refuses a m v d z w) e =
    let told = told-numbered (subst (Told 11) v (checked-told (leb tick_answers (length old)) t)) in
    let one : a ≡ number = cc in
    let two : m ≡ node = cc in
    let other : number ≡ 11 → ⊥ = λ x. d (one ∙ x) in
    (omega (arith, told.some), omega (arith, told.known), omega (arith, told.within), w)
refused-is number node (Tells.shows m u v s z w) e = let y : ◌≡◌ {A = ℕ} 0 1 = cc in absurd (omega arith)

refusal_is : {t old new : List ℕ} {r : Reply Tick} (number node : ℕ) → tick_answers ≤ length old → Tells t old new r → r ≡ rejects number node → verdict t ≡ refused number node
refusal_is number node room (Tells.accepts p v z w) e = let y : ◌≡◌ {A = ℕ} 0 1 = cc in absurd (omega arith)
refusal_is {t} {old} number node room (Tells.refuses a m v d z w) e =
    let one : a ≡ number = cc in
    let two : m ≡ node = cc in
    sym (enough-room t room) ∙ v ∙ ap₂ refused one two
refusal_is number node room (Tells.shows m u v s z w) e = let y : ◌≡◌ {A = ℕ} 0 1 = cc in absurd (omega arith)

pub ticks_told : TicksTold
ticks_told =
    record {
      tells = λ t old new r room o node. (λ (n, e). ends-refused o node n e, refused-ends o room node);
      lowest = λ t old new node n o.
          (let e = ends-refused o node n refl in
          let (p, w) = loop_check.well_formed t node e in
          (p, w, (loop_check.refuses_exactly t p w node).0 e));
      short = λ t old new node n o. ends-short node n o refl;
      accepts = λ t old new n d o. accepted-is n d o refl;
      refuses = λ t old new number node o. refused-is number node o refl;
      refusal = λ t old new number node room o. refusal_is number node room o refl;
    }
