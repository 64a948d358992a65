-- What the rows of a table say of its nodes' starts.
use mathlib.Core.Path.{◌≡◌, refl, sym, ap, ap₂, subst, ◌∙◌, fun_ext}
use mathlib.Core.Bool.{Bool, true, false}
use mathlib.Core.Option.{Option, some}
use mathlib.Core.List.{List, []}
use Prim.Native.Nat.{ℕ, zero, suc, ◌+◌, ◌-◌, ◌*◌, ◌<◌, ◌≤◌}
use native.Mathlib.Decide.{dec_lt}
use native.Mathlib.Omega.{arith}
use borrow.Author.Tests.{eqb-true, eqb-false}
use lib.Dec.{eqb}
use lib.ListN.{length, get_or, set, length-set, replicate, get_or-replicate, get_or-eq_default}
use lib.Seq.{get_or-set_same, get_or-set_other}
use Rattle.codes.proofs.Bools.{cannot_pass}
use Rattle.codes.proofs.Members.{only_in}
use Rattle.esterel.specs.Limits.{max_nodes}
use Rattle.esterel.specs.Statement.{Leaf, nothing, pause, emit, exit, Unary, signal, suspend, loop, trap, Binary, present, sequence, parallel, Stmt, leaf, one, two, kind, field, size}
use Rattle.esterel.specs.Sets.{start_set}
use Rattle.esterel.specs.Theorems.{WellFormed}
use Rattle.table.specs.Kinds.{kind_of, arity_of, leaf_of, leaf_code}
use Rattle.table.specs.Program.{program_of, Readable}
use Rattle.table.specs.Columns.{stmt_at}
use Rattle.table.specs.declared.Kind.{Kind}
use Rattle.table.proofs.Surveying.{few-nodes}
use Rattle.table.proofs.Bytes.{leaf-is, field_byte}
use Rattle.table.proofs.TreeViews.{kind-is, leaf_of_lem, one_of, two_of_lem}
use Rattle.table.proofs.Views.{spans}
use Rattle.starts.specs.declared.Weight.{Weight}
use Rattle.starts.specs.Summary.{given, only, weigh, weights, best}
use Rattle.starts.specs.Walk.{Low}
use Rattle.starts.proofs.Exact.{weighs}
use Rattle.starts.proofs.Triples.{lacking}
use Rattle.starts.proofs.Cost.{below-low}
use Rattle.starts.proofs.Theorems.{few-best, codes-below}
use Rattle.rows.specs.Rows.{value_of, values_of, max_number, LowRow, Holds}
use Rattle.rows.specs.Steps.{row_of, IsRow}
use Rattle.rows.specs.declared.Row.{Row}
use Rattle.rows.specs.Filled.{numbers_at, RowsTo}

-- ---- one node

module _ (w : Weight) where
  -- a leaf gives its own code alone
  leaf-said : (l : Leaf) (k : ℕ) → best w (leaf l) k ≡ only (weights w) (leaf_code l) k
  leaf-said nothing k = refl
  leaf-said pause k = refl
  leaf-said (emit s) k = refl
  leaf-said (exit level) k = refl

  -- one with children: its own entry, and what is in it
  one-row : (u : Unary) (p : Stmt) (g : ℕ → Option ℕ) (k : ℕ) → row_of w (kind_of (kind (one u p))) (best w p) g k ≡ best w (one u p) k
  unfolding kind_of
  one-row (signal s) p g k = refl
  one-row (suspend s) p g k = refl
  one-row loop p g k = refl
  one-row trap p g k = refl

  two-row : (b : Binary) (p q : Stmt) (k : ℕ) → row_of w (kind_of (kind (two b p q))) (best w p) (best w q) k ≡ best w (two b p q) k
  unfolding kind_of
  two-row (present s) p q k = refl
  two-row sequence p q k = refl
  two-row parallel p q k = refl

-- ---- bounds

-- n small numbers
pub list-low : {row : List ℕ} (n m : ℕ) → length row ≡ n → ((k : ℕ) → k < n → get_or row k 0 ≤ m) → LowRow m row
list-low {row} n m e f = record { at = λ k. go k (dec_lt k n) }
  where
    go : (k : ℕ) → Dec (k < n) → get_or row k 0 ≤ m
    go k (yes l) = f k l
    go k (no d) = let z : get_or row k 0 ≡ 0 = get_or-eq_default row 0 (omega arith) in omega arith

pub row_low : {row : List ℕ} (m : ℕ) → length row ≡ 64 → ((k : ℕ) → k < 64 → get_or row k 0 ≤ m) → LowRow m row
row_low m = list-low 64 m

value_low : (w m : ℕ) (x : Option ℕ) → value_of w ≡ x → ((n : ℕ) → x ≡ some n → n ≤ m) → w ≤ suc m
value_low zero m x e f = omega arith
value_low (suc w) m x e f = omega (arith, f w (sym e))

-- a row that says what is said of a statement: its numbers, and past the last code there is nothing to say
module _ (w : Weight) (p : Stmt) {row : List ℕ} (o : Holds (best w p) row) where
  holds-few : (m : ℕ) → ((k n : ℕ) → best w p k ≡ some n → n ≤ m) → LowRow (suc m) row
  holds-few m few = row_low (suc m) o.long (λ k l. value_low (get_or row k 0) m _ (o.at k l) (few k))

  pub holds-low : size p ≤ max_nodes → LowRow max_number row
  holds-low h = record { at = λ k. omega (arith, (holds-few (size p) (few-best w p)).at k) }

  pub holds-all : Low 63 p → values_of row ≡ best w p
  holds-all low = fun_ext (λ k. go k (dec_lt k 64))
    where
      go : (k : ℕ) → Dec (k < 64) → values_of row k ≡ best w p k
      go k (yes l) = o.at k l
      go k (no n) =
          ap value_of (get_or-eq_default row 0 (omega (arith, o.long))) ∙
          sym (lacking (weighs w) p k (cannot_pass (start_set p k) (λ e. omega (arith, low k e))))

-- the code of a leaf is in its start set
pub own_code : (l : Leaf) → start_set (leaf l) (leaf_code l) ≡ true
own_code nothing = refl
own_code pause = refl
own_code (emit s) = refl
own_code (exit level) = only_in (2 + level)

-- the row of a leaf
pub leaf-holds : (w : Weight) (l : Leaf) {c e : ℕ} → c ≡ leaf_code l → c < 64 → e ≡ suc (weigh w [] 1) → Holds (best w (leaf l)) (set (replicate 64 0) c e)
leaf-holds w l {c} {e} ec h ee = record { long = length-set (replicate 64 0) c e; at = λ k i. go k i (eqb c k) refl ∙ sym (leaf-said w l k) }
  where
    -- at its own code, or at another
    told : {b : Bool} (k : ℕ) → eqb c k ≡ b → given (weights w) b (some (weigh w [] 1)) ≡ only (weights w) (leaf_code l) k
    told k z = ap (λ x. given (weights w) x (some (weigh w [] 1))) (sym z ∙ ap (λ x. eqb x k) ec)

    go : (k : ℕ) → k < 64 → (b : Bool) → eqb c k ≡ b → value_of (get_or (set (replicate 64 0) c e) k 0) ≡ only (weights w) (leaf_code l) k
    go k i true z =
        ap (λ x. value_of (get_or (set (replicate 64 0) c e) x 0)) (sym (eqb-true c k z)) ∙ ap value_of (get_or-set_same (replicate 64 0) c e 0 h ∙ ee) ∙ told k z
    go k i false z =
        ap value_of (get_or-set_other (replicate 64 0) c k e 0 (λ y. eqb-false c k z (sym y)) ∙ get_or-replicate {A = ℕ} 64 k 0 0 i) ∙ told k z

-- the children of a statement have the rows f and g, an only one f
module _ (w : Weight) where
  abbrev pub OfChildren : Stmt → (f g : ℕ → Option ℕ) → Type 0
  OfChildren (leaf l) f g = ⊥
  OfChildren (one u p) f g = f ≡ best w p
  OfChildren (two b p q) f g = (f ≡ best w p) × (g ≡ best w q)

  row_step : (s : Stmt) (f g : ℕ → Option ℕ) (k : ℕ) → OfChildren s f g → row_of w (kind_of (kind s)) f g k ≡ best w s k
  row_step (leaf l) f g k c = absurd c
  row_step (one u p) f g k c = ap (λ x. row_of w (kind_of (kind (one u p))) x g k) c ∙ one-row w u p g k
  row_step (two b p q) f g k c = ap₂ (λ x y. row_of w (kind_of (kind (two b p q))) x y k) c.0 c.1 ∙ two-row w b p q k

pub row_is : {w : Weight} {k : Kind} {a b r : List ℕ} (s : Stmt) → k ≡ kind_of (kind s) → OfChildren w s (values_of a) (values_of b) → IsRow w k a b r → Holds (best w s) r
row_is {w} {k} {a} {b} s ek c o =
    record {
      long = o.is.long;
      at = λ j l. o.is.at j l ∙ ap (λ x. row_of w x (values_of a) (values_of b) j) ek ∙ row_step w s (values_of a) (values_of b) j c;
    }

module _ {t : List ℕ} (ok : WellFormed t (program_of t)) where
  pub readable : Readable t
  readable = record { reads = ok.reads }

  -- no node has a code above 63
  pub codes-low : (j : ℕ) → Low 63 (stmt_at t j)
  codes-low j = below-low 63 (stmt_at t j) (codes-below ok j)

  size_low : (j : ℕ) → j < size (program_of t) → size (stmt_at t j) ≤ max_nodes
  size_low j h = omega (arith, spans t j h, few-nodes t readable)

  -- the row of a node that is done
  module _ {w : Weight} {i : ℕ} {rows : List Row} (done : RowsTo w t i rows) (j : ℕ) (lt : j < i) where
    pub said-low : j < size (program_of t) → LowRow max_number (numbers_at rows j)
    said-low h = holds-low w (stmt_at t j) (done.at j lt) (size_low j h)

    pub said-few : LowRow (suc (size (stmt_at t j))) (numbers_at rows j)
    said-few = holds-few w (stmt_at t j) (done.at j lt) (size (stmt_at t j)) (few-best w (stmt_at t j))

    pub said-is : {p : Stmt} → stmt_at t j ≡ p → values_of (numbers_at rows j) ≡ best w p
    said-is {p} e = holds-all w (stmt_at t j) (done.at j lt) (codes-low j) ∙ ap (best w) e

  -- ---- the returns of `row_at`
  module _ {i : ℕ} (h : i < size (program_of t)) {k : Kind} {f n : ℕ} (ek : k ≡ kind_of (get_or t (2 * i) 0)) (ef : f ≡ get_or t (2 * i + 1) 0) (en : n ≡ arity_of k) where
    -- a leaf, as the code reads it
    leaf-at : n ≡ 0 → stmt_at t i ≡ leaf (leaf_of k f)
    leaf-at z =
        let (l, e) = leaf_of_lem readable h ek en z in
        e ∙ ap leaf (sym (ap₂ leaf_of (sym (kind-is readable h ek en e)) (ef ∙ field_byte t readable i h ∙ ap field e) ∙ leaf-is l))

    pub leaf-low : n ≡ 0 → leaf_code (leaf_of k f) < 64
    leaf-low z = let low = subst (Low 63) (leaf-at z) (codes-low i) in omega (arith, low (leaf_code (leaf_of k f)) (own_code (leaf_of k f)))

    pub no_child : (w : Weight) {r : List ℕ} → n ≡ 0 → Holds (best w (leaf (leaf_of k f))) r → Holds (best w (stmt_at t i)) r
    no_child w {r} z o = subst (λ x. Holds (best w x) r) (sym (leaf-at z)) o

  module _ {w : Weight} {i : ℕ} (h : i < size (program_of t)) {k : Kind} {n : ℕ} (ek : k ≡ kind_of (get_or t (2 * i) 0)) (en : n ≡ arity_of k) where
    as_read : {a b r : List ℕ} (s : Stmt) → stmt_at t i ≡ s → OfChildren w s (values_of a) (values_of b) → IsRow w k a b r → Holds (best w (stmt_at t i)) r
    as_read {r = r} s e c o = subst (λ x. Holds (best w x) r) (sym e) (row_is s (sym (kind-is readable h ek en e)) c o)

    module _ {rows : List Row} (done : RowsTo w t i rows) where
      pub one-child : {b r : List ℕ} → IsRow w k (numbers_at rows (i - 1)) b r → n ≡ 1 → Holds (best w (stmt_at t i)) r
      one-child o z =
          let (u, p, v) = one_of readable h ek en z in
          as_read (one u p) v.is (said-is done (i - 1) (omega (arith, v.ends, v.some)) v.child) o

      pub two-child : {s : ℕ} {r : List ℕ} → IsRow w k (numbers_at rows (i - 1 - s)) (numbers_at rows (i - 1)) r → s ≡ size (stmt_at t (i - 1)) → (n ≡ 0 → ⊥) → (n ≡ 1 → ⊥) → Holds (best w (stmt_at t i)) r
      two-child {s} o es z y =
          let (c, p, q, v) = two_of_lem readable h ek en es z y in
          as_read (two c p q) v.is
          (said-is done (i - 1 - s) (omega (arith, v.ends, v.some_right)) v.left, said-is done (i - 1) (omega (arith, v.ends, v.some_right)) v.right) o

-- ---- the loop of `fill_rows`

pub rows_next : {w : Weight} {t : List ℕ} {i : ℕ} {rows : List Row} {row : Row} → RowsTo w t i rows → i < length rows → Holds (best w (stmt_at t i)) row.of → RowsTo w t (i + 1) (set rows i row)
rows_next {w} {t} {i} {rows} {row} o l h = record { room = rw length-set o.room; at = λ j m. go j m (dec_lt j i) }
  where
    d : Row
    d = record { of = [] }

    go : (j : ℕ) → j < i + 1 → Dec (j < i) → Holds (best w (stmt_at t j)) (numbers_at (set rows i row) j)
    go j m (yes n) = rw (numbers_at, get_or-set_other rows i j row d (λ e. omega arith)) (o.at j n)
    go j m (no n) =
        let z : j ≡ i = omega arith in
        rw (z, numbers_at, get_or-set_same rows i row d l) h
