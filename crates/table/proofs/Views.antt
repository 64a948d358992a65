-- A node by its children, as the code has read it.
use mathlib.Core.Path.{◌≡◌, refl, sym, ap, ◌∙◌}
use mathlib.Core.List.{List}
use Prim.Native.Nat.{ℕ, suc, ◌+◌, ◌-◌, ◌*◌, ◌<◌, ◌≤◌}
use native.Mathlib.Omega.{arith}
use lib.ListN.{length, get_or}
use Rattle.esterel.specs.Limits.{max_nodes}
use Rattle.esterel.specs.Statement.{Leaf, Unary, Binary, Stmt, leaf, one, two, kind, size}
use Rattle.esterel.proofs.Sizes.{size_pos}
use Rattle.esterel.proofs.Subtrees.{only_child_lem, two-children, subtrees}
use Rattle.table.specs.Kinds.{kind_of, arity_of}
use Rattle.table.specs.Program.{program_of}
use Rattle.table.specs.Columns.{stmt_at, first_at, Measured}
use Rattle.table.specs.declared.Kind.{Kind}
use Rattle.table.proofs.Surveying.{few-nodes}
use Rattle.table.proofs.Bytes.{children_of, arity_of_lem, kind_byte, table-length}

-- a node ends its subtree
pub spans : (t : List ℕ) (i : ℕ) → i < size (program_of t) → first_at t i + size (stmt_at t i) ≡ suc i
spans t i h = let (pre, post, is, len) = subtrees.piece (program_of t) i h in omega arith

-- one statement beneath a node; s is its size
pub record Over (t : List ℕ) (i s : ℕ) (u : Unary) (p : Stmt) : Type 0 where
  pub is : stmt_at t i ≡ one u p
  pub child : stmt_at t (i - 1) ≡ p
  pub first : first_at t (i - 1) ≡ first_at t i
  pub ends : first_at t i + size p ≡ i
  pub sized : s ≡ size p
  pub some : 0 < size p

-- two; s is the size of the second
pub record Both (t : List ℕ) (i s : ℕ) (b : Binary) (p q : Stmt) : Type 0 where
  pub is : stmt_at t i ≡ two b p q
  pub left : stmt_at t (i - 1 - s) ≡ p
  pub right : stmt_at t (i - 1) ≡ q
  pub first : first_at t (i - 1 - s) ≡ first_at t i
  pub second : first_at t (i - 1) ≡ first_at t i + size p
  pub ends : first_at t i + (size p + size q) ≡ i
  pub sized : s ≡ size q
  pub some_left : 0 < size p
  pub some_right : 0 < size q

module _ {t sizes : List ℕ} (ok : Measured t sizes) (i : ℕ) (h : i < size (program_of t)) where
  pub over : (s : ℕ) (u : Unary) (p : Stmt) → s ≡ get_or sizes (i - 1) 0 → stmt_at t i ≡ one u p → Over t i s u p
  over s u p es e =
      let (le, c) = only_child_lem (program_of t) i u p e in
      let pos = size_pos p in
      let here = spans t i h in
      let here-size = ap size e in
      let there = spans t (i - 1) (omega arith) in
      let there-size = ap size c in
      record { is = e; child = c; first = omega arith; ends = omega arith; sized = es ∙ ok.sized (i - 1) (omega arith) ∙ there-size; some = pos }

  pub both : (s : ℕ) (b : Binary) (p q : Stmt) → s ≡ get_or sizes (i - 1) 0 → stmt_at t i ≡ two b p q → Both t i s b p q
  both s b p q es e =
      let (le, r, l) = two-children (program_of t) i b p q e in
      let pos = size_pos p in
      let pos' = size_pos q in
      let sz : s ≡ size q = es ∙ ok.sized (i - 1) (omega arith) ∙ ap size r in
      let l' : stmt_at t (i - 1 - s) ≡ p = rw sz l in
      let here = spans t i h in
      let here-size = ap size e in
      let last = spans t (i - 1) (omega arith) in
      let last-size = ap size r in
      let first = spans t (i - 1 - s) (omega arith) in
      let first-size = ap size l' in
      record { is = e; left = l'; right = r; first = omega arith; second = omega arith; ends = omega arith; sized = sz; some_left = pos; some_right = pos' }

module _ {t sizes : List ℕ} {node : ℕ} (ok : Measured t sizes) (h : node < size (program_of t)) where
  pub in_table : 2 * node + 1 < length t
  in_table = omega (arith, table-length t ok.readable)

  -- it has a place in the arrays of a call
  pub in_place : node < max_nodes
  in_place = omega (arith, few-nodes t ok.readable)

  -- the kind that was read, and the children that it has
  module _ {k : Kind} {n : ℕ} (ek : k ≡ kind_of (get_or t (2 * node) 0)) (en : n ≡ arity_of k) where
    pub kind-is : {w : Stmt} → stmt_at t node ≡ w → kind_of (kind w) ≡ k
    kind-is e = sym (ek ∙ ap kind_of (kind_byte t ok.readable node h) ∙ ap (λ w. kind_of (kind w)) e)

    count-is : {w : Stmt} → stmt_at t node ≡ w → n ≡ children_of w
    count-is {w} e = en ∙ ap arity_of (sym (kind-is e)) ∙ arity_of_lem w

    pub leaf_of_lem : n ≡ 0 → (l : Leaf) × (stmt_at t node ≡ leaf l)
    leaf_of_lem z = go (stmt_at t node) refl
      where
        go : (w : Stmt) → stmt_at t node ≡ w → (l : Leaf) × (stmt_at t node ≡ leaf l)
        go (leaf l) e = (l, e)
        go (one u p) e = absurd (omega (arith, count-is e))
        go (two b p q) e = absurd (omega (arith, count-is e))

    pub has_last : (n ≡ 0 → ⊥) → 0 < node
    has_last z = go (stmt_at t node) refl
      where
        go : (w : Stmt) → stmt_at t node ≡ w → 0 < node
        go (leaf l) e = absurd (z (count-is e))
        go (one u p) e = let v = over ok node h (get_or sizes (node - 1) 0) u p refl e in omega (arith, v.ends, v.some)
        go (two b p q) e = let v = both ok node h (get_or sizes (node - 1) 0) b p q refl e in omega (arith, v.ends, v.some_right)

    module _ {s : ℕ} (es : s ≡ get_or sizes (node - 1) 0) where
      pub one_of : n ≡ 1 → (u : Unary) × (p : Stmt) × Over t node s u p
      one_of z = go (stmt_at t node) refl
        where
          go : (w : Stmt) → stmt_at t node ≡ w → (u : Unary) × (p : Stmt) × Over t node s u p
          go (leaf l) e = absurd (omega (arith, count-is e))
          go (one u p) e = (u, p, over ok node h s u p es e)
          go (two b p q) e = absurd (omega (arith, count-is e))

      pub two_of_lem : (n ≡ 0 → ⊥) → (n ≡ 1 → ⊥) → (b : Binary) × (p q : Stmt) × Both t node s b p q
      two_of_lem z y = go (stmt_at t node) refl
        where
          go : (w : Stmt) → stmt_at t node ≡ w → (b : Binary) × (p q : Stmt) × Both t node s b p q
          go (leaf l) e = absurd (z (count-is e))
          go (one u p) e = absurd (y (count-is e))
          go (two b p q) e = (b, p, q, both ok node h s b p q es e)

      pub size_le : n ≡ 1 → s ≤ node
      size_le z = let (u, p, v) = one_of z in omega (arith, v.ends, v.sized)

      pub first_le : (n ≡ 0 → ⊥) → (n ≡ 1 → ⊥) → s ≤ node - 1
      first_le z y = let (b, p, q, v) = two_of_lem z y in omega (arith, v.sized, v.ends, v.some_left)
