-- What the bytes of a table that was read say of its nodes.
use mathlib.Core.Path.{◌≡◌, refl, ap, ◌∙◌}
use mathlib.Core.List.{List}
use Prim.Native.Nat.{ℕ, ◌+◌, ◌*◌, ◌<◌}
use lib.ListN.{length, get_or}
use Rattle.esterel.specs.Statement.{Leaf, nothing, pause, emit, exit, signal, suspend, loop, trap, present, sequence, parallel, Stmt, leaf, one, two, kind, field, size, nodes}
use Rattle.esterel.specs.Table.{postfix}
use Rattle.esterel.specs.Outcome.{statement_at}
use Rattle.esterel.proofs.Reading.{reads_only_lem, length-postfix}
use Rattle.esterel.proofs.Subtrees.{subtrees}
use Rattle.table.specs.Kinds.{kind_of, arity_of, leaf_of}
use Rattle.table.specs.Program.{program_of, Readable}

-- how many children a statement has
abbrev pub children_of : Stmt → ℕ
children_of (leaf l) = 0
children_of (one u q) = 1
children_of (two b q r) = 2

pub arity_of_lem : (w : Stmt) → arity_of (kind_of (kind w)) ≡ children_of w
unfolding kind_of
arity_of_lem (leaf nothing) = refl
arity_of_lem (leaf pause) = refl
arity_of_lem (leaf (emit s)) = refl
arity_of_lem (leaf (exit level)) = refl
arity_of_lem (one (signal s) q) = refl
arity_of_lem (one (suspend s) q) = refl
arity_of_lem (one loop q) = refl
arity_of_lem (one trap q) = refl
arity_of_lem (two (present s) q r) = refl
arity_of_lem (two sequence q r) = refl
arity_of_lem (two parallel q r) = refl

pub leaf-is : (l : Leaf) → leaf_of (kind_of (kind (leaf l))) (field (leaf l)) ≡ l
unfolding kind_of
leaf-is nothing = refl
leaf-is pause = refl
leaf-is (emit s) = refl
leaf-is (exit level) = refl

-- the bytes of a readable table are those of its program
module _ (t : List ℕ) (ok : Readable t) where
  pub is-postfix : t ≡ postfix (program_of t)
  is-postfix = reads_only_lem t (program_of t) ok.reads

  pub table-length : length t ≡ 2 * size (program_of t)
  table-length = ap length is-postfix ∙ length-postfix (program_of t)

  pub kind_byte : (i : ℕ) → i < size (program_of t) → get_or t (2 * i) 0 ≡ kind (statement_at (nodes (program_of t)) i)
  kind_byte i h = ap (λ l. get_or l (2 * i) 0) is-postfix ∙ subtrees.kind_at (program_of t) i h

  pub field_byte : (i : ℕ) → i < size (program_of t) → get_or t (2 * i + 1) 0 ≡ field (statement_at (nodes (program_of t)) i)
  field_byte i h = ap (λ l. get_or l (2 * i + 1) 0) is-postfix ∙ subtrees.field_at (program_of t) i h
