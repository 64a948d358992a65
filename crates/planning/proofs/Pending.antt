-- The rows of the statements that are unused so far, on a stack, in the walk from the first node to the last.
use mathlib.Core.Path.{◌≡◌, refl, sym, ap, ap₂, subst, ◌∙◌}
use mathlib.Core.List.{List, [], ◌∷◌}
use Prim.Native.Nat.{ℕ, suc, ◌+◌, ◌-◌, ◌*◌, ◌≤◌, ◌<◌}
use native.Mathlib.Decide.{dec_lt}
use native.Mathlib.Omega.{arith}
use mathlib.Core.Bool.{Bool, true, false}
use borrow.Author.Tests.{eqb-true, eqb-false}
use lib.Dec.{eqb}
use lib.ListN.{length, get_or, set, length-set, replicate, length-replicate, get_or-replicate, get_or-eq_default}
use lib.Seq.{get_or-set_same, get_or-set_other}
use Rattle.codes.specs.Codes.{Codes}
use Rattle.esterel.specs.Limits.{max_nodes, max_depth}
use Rattle.esterel.specs.Statement.{Stmt, leaf, one, two, kind, field, size}
use Rattle.table.specs.Kinds.{kind_of, arity_of, leaf_of, leaf_code}
use Rattle.table.specs.Program.{program_of}
use Rattle.table.specs.Columns.{stmt_at}
use Rattle.table.specs.declared.Kind.{Kind}
use Rattle.table.proofs.Bytes.{children_of, arity_of_lem, leaf-is, field_byte}
use Rattle.table.proofs.Surveying.{few-nodes}
use Rattle.table.proofs.Views.{spans}
use Rattle.table.proofs.Walk.{Waiting, children, program, at_last}
use Rattle.analysis.specs.Passes.{Placed}
use Rattle.analysis.proofs.Nodes.{well_formed_lem}
use Rattle.analysis.proofs.Unused.{Before, here, low, base_is, kind-here, after}
use Rattle.starts.specs.declared.Weight.TheVariants.{Entries}
use Rattle.starts.specs.Summary.{most_entries}
use Rattle.starts.specs.Walk.{Below}
use Rattle.starts.proofs.Cost.{below-low}
use Rattle.starts.proofs.Theorems.{codes-below}
use Rattle.rows.specs.Rows.{values_of, max_number, LowRow, Holds}
use Rattle.rows.specs.declared.Row.{Row}
use Rattle.rows.specs.Filled.{numbers_at}
use Rattle.rows.proofs.Said.{holds-low, holds-all, own_code, OfChildren, row_is}
use Rattle.planning.specs.Rows.{Lies, NextRow}

abbrev Small : List Row → Type 0
Small stack = (j : ℕ) → LowRow max_number (numbers_at stack j)

-- that of each that waits is on the stack, the one that comes next last
pub data On (stack : List Row) : List Waiting → Type 0 where
  none : On stack []
  more : (w : Waiting) (ws : List Waiting) → Holds (most_entries w.root) (numbers_at stack (length ws)) → On stack ws → On stack (w ∷ ws)

-- a row is written over the one at base
module _ (stack : List Row) (row : Row) (base : ℕ) where
  here_is : base < length stack → numbers_at (set stack base row) base ≡ row.of
  here_is h = ap (λ x. x.of) (get_or-set_same stack base row (record { of = [] }) h)

  other-is : (j : ℕ) → (j ≡ base → ⊥) → numbers_at (set stack base row) j ≡ numbers_at stack j
  other-is j d = ap (λ x. x.of) (get_or-set_other stack base j row (record { of = [] }) d)

  kept : {ws : List Waiting} → length ws ≤ base → On stack ws → On (set stack base row) ws
  kept le none = none
  kept le (more w ws e h) = more w ws (subst (Holds (most_entries w.root)) (sym (other-is (length ws) (λ z. omega arith))) e) (kept (omega arith) h)

  pushed : (w : Waiting) (ws : List Waiting) → base < length stack → base ≡ length ws → Holds (most_entries w.root) row.of → On stack ws → On (set stack base row) (w ∷ ws)
  pushed w ws lt e h o =
      more w ws (subst (λ j. Holds (most_entries w.root) (numbers_at (set stack base row) j)) e (subst (Holds (most_entries w.root)) (sym (here_is lt)) h)) (kept (omega arith) o)

  stored_low : base < length stack → Small stack → LowRow max_number row.of → Small (set stack base row)
  stored_low lt l r j = go (eqb j base) refl
    where
      go : (b : Bool) → eqb j base ≡ b → LowRow max_number (numbers_at (set stack base row) j)
      go true z = subst (λ i. LowRow max_number (numbers_at (set stack base row) i)) (sym (eqb-true j base z)) (subst (LowRow max_number) (sym (here_is lt)) r)
      go false z = subst (LowRow max_number) (sym (other-is j (eqb-false j base z))) (l j)

-- the children of a statement are on top
module _ (d t l : ℕ) (P : Codes) {stack : List Row} where
  rest : (s : Stmt) (ws : List Waiting) → On stack (children d t l P s ws) → On stack ws
  rest (leaf a) ws h = h
  rest (one u p) ws (more _ _ e h) = h
  rest (two b p q) ws (more _ _ e (more _ _ e' h)) = h

  taken : (s : Stmt) (ws : List Waiting) (base : ℕ) → base ≡ length ws → (children_of s ≡ 0 → ⊥) → Below 63 s → On stack (children d t l P s ws) → OfChildren Entries s (values_of (numbers_at stack base)) (values_of (numbers_at stack (base + 1)))
  taken (leaf x) ws base e some low h = absurd (some refl)
  taken (one u p) ws base e some low (more _ _ f h) = holds-all Entries p (subst (λ j. Holds (most_entries p) (numbers_at stack j)) (sym e) f) (below-low 63 p low.1)
  taken (two c p q) ws base e some low (more _ _ f (more _ _ g h)) =
      let z : suc (length ws) ≡ base + 1 = omega arith in (
        holds-all Entries p (subst (λ j. Holds (most_entries p) (numbers_at stack j)) (sym e) g) (below-low 63 p low.1),
        holds-all Entries q (subst (λ j. Holds (most_entries q) (numbers_at stack j)) z f) (below-low 63 q low.2),
      )

pub record Rows (us : List Waiting) (stack : List Row) : Type 0 where
  pub long : length stack ≡ max_depth + 1
  pub low : Small stack
  pub on : On stack us

abbrev zeros : Row
zeros = record { of = replicate 64 0 }

no_number : (k : ℕ) → get_or (replicate {A = ℕ} 64 0) k 0 ≡ 0
no_number k = go (dec_lt k 64)
  where
    go : Dec (k < 64) → get_or (replicate {A = ℕ} 64 0) k 0 ≡ 0
    go (yes l) = get_or-replicate {A = ℕ} 64 k 0 0 l
    go (no l) =
        let past : length (replicate {A = ℕ} 64 0) ≤ k = omega arith in
        get_or-eq_default (replicate 64 0) 0 past

nowhere : (j k : ℕ) → get_or (numbers_at (replicate (max_depth + 1) zeros) j) k 0 ≡ 0
nowhere j k = go (dec_lt j (max_depth + 1))
  where
    d : Row
    d = record { of = [] }

    go : Dec (j < max_depth + 1) → get_or (numbers_at (replicate (max_depth + 1) zeros) j) k 0 ≡ 0
    go (yes n) = ap (λ x. get_or x.of k 0) (get_or-replicate (max_depth + 1) j zeros d n) ∙ no_number k
    go (no n) =
        let past : length (replicate (max_depth + 1) zeros) ≤ j = omega (arith, length-replicate (max_depth + 1) zeros) in
        ap (λ x. get_or x.of k 0) (get_or-eq_default (replicate (max_depth + 1) zeros) d past)

pub no_rows : Rows [] (replicate (max_depth + 1) zeros)
no_rows = record { long = refl; low = λ j. record { at = λ k. omega (arith, nowhere j k) }; on = none }

-- before node i: the statements that wait, and their rows
pub record Pending (t : List ℕ) (stack : List Row) (unused i : ℕ) : Type 0 where
  pub us : List Waiting
  pub before : Before (program_of t) us unused i
  pub rows : Rows us stack

-- a turn at node i, with the kind k, the field f and the number c of children that the code has read
module _ {t : List ℕ} (ok : Placed t) {us : List Waiting} {unused i : ℕ} (o : Before (program_of t) us unused i) (inside : i < size (program_of t)) {k : Kind} {f c : ℕ} (ek : k ≡ kind_of (get_or t (2 * i) 0)) (ef : f ≡ get_or t (2 * i + 1) 0) (ec : c ≡ arity_of k) {stack : List Row} (rows : Rows us stack) where
  abbrev w : Waiting
  w = (here ok o inside ek ef ec).top

  abbrev below : List Waiting
  below = (here ok o inside ek ef ec).below

  statement : stmt_at t i ≡ w.root
  statement = (here ok o inside ek ef ec).statement

  arity_here : arity_of k ≡ children_of w.root
  arity_here = ap arity_of (kind-here ok o inside ek ef ec) ∙ arity_of_lem w.root

  low-codes : Below 63 w.root
  low-codes = subst (Below 63) statement (codes-below (well_formed_lem ok) i)

  -- a leaf, as the code reads it
  leaf-here : arity_of k ≡ 0 → w.root ≡ leaf (leaf_of k f)
  leaf-here z = go w.root refl (sym arity_here ∙ z)
    where
      go : (s : Stmt) → w.root ≡ s → children_of s ≡ 0 → w.root ≡ leaf (leaf_of k f)
      go (leaf l) e y =
          let kind-is : k ≡ kind_of (kind (leaf l)) = kind-here ok o inside ek ef ec ∙ ap (λ s. kind_of (kind s)) e in
          let field_is : f ≡ field (leaf l) = ef ∙ field_byte t ok.readable i inside ∙ ap field (statement ∙ e) in
          e ∙ ap leaf (sym (ap₂ leaf_of kind-is field_is ∙ leaf-is l))
      go (one u p) e y = absurd (omega arith)
      go (two b p q) e y = absurd (omega arith)

  pub lies : f < 256 → Lies k f (unused - c) stack
  lies h =
      record {
        room = omega (arith, low ok o inside ek ef ec);
        low = rows.low;
        few = h;
        known = λ z. (let at = below-low 63 (leaf (leaf_of k f)) (subst (Below 63) (leaf-here z) low-codes) (leaf_code (leaf_of k f)) (own_code (leaf_of k f)) in omega arith);
      }

  on-top : On stack (children w.depth w.traps w.loops w.context w.root below)
  on-top = subst (On stack) (here ok o inside ek ef ec).is rows.on

  few-below : size w.root ≤ max_nodes
  few-below = omega (arith, spans t i inside, few-nodes t ok.readable, ap size statement)

  row_here : {row : List ℕ} → NextRow k f (unused - c) stack row → Holds (most_entries w.root) row
  row_here {row} (NextRow.of_leaf z h) = subst (λ s. Holds (most_entries s) row) (sym (leaf-here z)) h
  row_here (NextRow.of_children d is) =
      row_is w.root (kind-here ok o inside ek ef ec)
      (taken w.depth w.traps w.loops w.context w.root below (unused - c) (base_is ok o inside ek ef ec) (λ z. d (arity_here ∙ z)) low-codes on-top) is

  pub fits-here : unused - c < length stack
  fits-here = omega (arith, low ok o inside ek ef ec, rows.long)

  pub rows_next : {row : Row} → NextRow k f (unused - c) stack row.of → Rows (after ok o inside ek ef ec) (set stack (unused - c) row)
  rows_next {row} n =
      let is : Holds (most_entries w.root) row.of = row_here n in
      record {
        long = length-set stack (unused - c) row ∙ rows.long;
        low = stored_low stack row (unused - c) fits-here rows.low (holds-low Entries w.root is few-below);
        on = pushed stack row (unused - c) w below fits-here (base_is ok o inside ek ef ec) is (rest w.depth w.traps w.loops w.context w.root below on-top);
      }

-- after the last node
pub program-says : {p : Stmt} {us : List Waiting} {unused i : ℕ} {stack : List Row} → Before p us unused i → size p ≤ i → Rows us stack → Holds (most_entries p) (numbers_at stack 0)
program-says {p} {stack = stack} b le rows = go (subst (On stack) (at_last p b.waits le) rows.on)
  where
    go : On stack (program p ∷ []) → Holds (most_entries p) (numbers_at stack 0)
    go (more _ _ e h) = e
