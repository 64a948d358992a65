-- A node by its children, as the code has read it from a tree.
use mathlib.Core.Path.{◌≡◌, refl, sym, ◌∙◌}
use mathlib.Core.List.{List}
use Prim.Native.Nat.{ℕ, ◌-◌, ◌*◌, ◌<◌, ◌≤◌}
use native.Mathlib.Omega.{arith}
use lib.ListN.{get_or}
use Rattle.esterel.specs.Statement.{Leaf, Unary, Binary, Stmt, leaf, kind, size}
use Rattle.table.specs.Kinds.{kind_of, arity_of}
use Rattle.table.specs.Program.{program_of, Readable}
use Rattle.table.specs.Columns.{stmt_at, sizes_of, Measured}
use Rattle.table.specs.declared.Kind.{Kind}
use Rattle.table.proofs.Trees.{measured_alone}
use Rattle.table.proofs.Views as by_list
use Rattle.table.proofs.Views.{Over, Both}

module _ {t : List ℕ} (ok : Readable t) {node : ℕ} (h : node < size (program_of t)) {k : Kind} {n : ℕ} (ek : k ≡ kind_of (get_or t (2 * node) 0)) (en : n ≡ arity_of k) where
  measured : Measured t (sizes_of (program_of t))
  measured = measured_alone ok

  pub kind-is : {w : Stmt} → stmt_at t node ≡ w → kind_of (kind w) ≡ k
  kind-is e = by_list.kind-is measured h ek en e

  pub leaf_of_lem : n ≡ 0 → (l : Leaf) × (stmt_at t node ≡ leaf l)
  leaf_of_lem z = by_list.leaf_of_lem measured h ek en z

  pub has_last : (n ≡ 0 → ⊥) → 0 < node
  has_last z = by_list.has_last measured h ek en z

  -- the size of the node before, from the list
  listed : {s : ℕ} → s ≡ size (stmt_at t (node - 1)) → s ≡ get_or (sizes_of (program_of t)) (node - 1) 0
  listed es = es ∙ sym (measured.sized (node - 1) (omega arith))

  pub one_of : n ≡ 1 → (u : Unary) × (p : Stmt) × Over t node (size (stmt_at t (node - 1))) u p
  one_of z = by_list.one_of measured h ek en (listed refl) z

  -- s is the size of the second of two
  module _ {s : ℕ} (es : s ≡ size (stmt_at t (node - 1))) (z : n ≡ 0 → ⊥) (y : n ≡ 1 → ⊥) where
    pub two_of_lem : (b : Binary) × (p q : Stmt) × Both t node s b p q
    two_of_lem = by_list.two_of_lem measured h ek en (listed es) z y

    pub first_le : s ≤ node - 1
    first_le = by_list.first_le measured h ek en (listed es) z y
