-- A node's start set from those of its children, as the recursion computes it: one law for each number of children.
use mathlib.Core.Path.{◌≡◌, sym, ap, ap₂, ◌∙◌}
use mathlib.Core.Bool.{false}
use mathlib.Core.List.{List}
use Prim.Native.Nat.{ℕ, ◌+◌, ◌-◌, ◌*◌, ◌<◌}
use native.Mathlib.Omega.{arith}
use lib.ListN.{get_or}
use Rattle.codes.specs.Codes.{word}
use Rattle.codes.proofs.Bools.{cannot_pass}
use Rattle.esterel.specs.Statement.{Stmt, leaf, one, two, kind, field, size}
use Rattle.esterel.specs.Sets.{start_set}
use Rattle.table.specs.Kinds.{kind_of, arity_of}
use Rattle.table.specs.Program.{program_of}
use Rattle.table.specs.Columns.{stmt_at}
use Rattle.table.specs.declared.Kind.{Kind}
use Rattle.table.proofs.Bytes.{field_byte}
use Rattle.table.proofs.TreeViews.{kind-is, leaf_of_lem, one_of, two_of_lem}
use Rattle.analysis.specs.Passes.{Placed}
use Rattle.analysis.specs.Steps.{codes_of}
use Rattle.analysis.proofs.Nodes.{few, leaf-step, one-step, two-step}

abbrev word_at : List ℕ → ℕ → ℕ
word_at t i = word (start_set (stmt_at t i))

module _ {t : List ℕ} (ok : Placed t) {i : ℕ} (h : i < size (program_of t)) {k : Kind} {f n : ℕ} (ek : k ≡ kind_of (get_or t (2 * i) 0)) (ef : f ≡ get_or t (2 * i + 1) 0) (en : n ≡ arity_of k) where
  -- the statement that was read, in place of its kind and field
  read_as : (w : Stmt) → stmt_at t i ≡ w → (x y : ℕ) → codes_of false k f x y ≡ codes_of false (kind_of (kind w)) (field w) x y
  read_as w e x y = ap₂ (λ a b. codes_of false a b x y) (sym (kind-is ok.readable h ek en e)) (ef ∙ field_byte t ok.readable i h ∙ ap field e)

  here : (w : Stmt) → stmt_at t i ≡ w → word (start_set w) ≡ word_at t i
  here w e = sym (ap (λ s. word (start_set s)) e)

  pub leaf-word : {r : ℕ} → n ≡ 0 → r ≡ codes_of false k f 0 0 → r ≡ word_at t i
  leaf-word z er = let (l, e) = leaf_of_lem ok.readable h ek en z in er ∙ read_as (leaf l) e 0 0 ∙ leaf-step false l 0 0 ∙ here (leaf l) e

  pub one_word : {r last : ℕ} → n ≡ 1 → last ≡ word_at t (i - 1) → r ≡ codes_of false k f last 0 → r ≡ word_at t i
  one_word {r} {last} z el er =
      let (u, q, v) = one_of ok.readable h ek en z in
      let none : start_set q 64 ≡ false = cannot_pass (start_set q 64) (λ x. omega (arith, few ok false (i - 1) 64 (rw v.child x))) in
      er ∙ read_as (one u q) v.is last 0
      ∙ ap (λ x. codes_of false (kind_of (kind (one u q))) (field (one u q)) x 0) (el ∙ ap (λ s. word (start_set s)) v.child)
      ∙ one-step false u q q 0 none ∙ here (one u q) v.is

  pub two-word : {s r first last : ℕ} → s ≡ size (stmt_at t (i - 1)) → (n ≡ 0 → ⊥) → (n ≡ 1 → ⊥) → last ≡ word_at t (i - 1) → first ≡ word_at t (i - 1 - s) → r ≡ codes_of false k f first last → r ≡ word_at t i
  two-word {s} {r} {first} {last} es z y el ei er =
      let (b, p, q, v) = two_of_lem ok.readable h ek en es z y in
      er ∙ read_as (two b p q) v.is first last
      ∙ ap₂ (codes_of false (kind_of (kind (two b p q))) (field (two b p q))) (ei ∙ ap (λ s. word (start_set s)) v.left) (el ∙ ap (λ s. word (start_set s)) v.right)
      ∙ two-step false b p q p q ∙ here (two b p q) v.is
