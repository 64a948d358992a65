-- What the walk down a program answers and writes.
use Rattle.std.specs.Prelude.{ℕ, suc, ◌+◌, ◌≤◌, ◌<◌, ◌≡◌, cond, List, length}
use Rattle.std.proofs.lemmas.List.Edits.{sets}
use Rattle.esterel.specs.Limits.{max_nodes}
use Rattle.esterel.specs.Codes.{catch_code}
use Rattle.esterel.specs.Statement.{Stmt, size}
use Rattle.esterel.specs.Theorems.{WellFormed}
use Rattle.table.specs.Kinds.{is_trap}
use Rattle.table.specs.Program.{program_of}
use Rattle.table.specs.Columns.{stmt_at}
use Rattle.table.specs.declared.Kind.{Kind}
use Rattle.starts.specs.declared.Weight.{Weight}
use Rattle.starts.specs.Ticks.{presents}
use Rattle.starts.specs.Walk.{walk, answers_of, code_of}
use Rattle.rows.specs.Rows.{values_of, LowRow}
use Rattle.rows.specs.Filled.{RowsTo}
use Rattle.walk.specs.declared.Walked.{Walked}
use Rattle.walk.specs.declared.Ground.{Ground}

-- a node with one child is left: a trap changes the code
pub record Leaves (k : Kind) (inner r : Walked) : Type 0 where
  pub code : r.code ≡ cond (is_trap k) (catch_code inner.code) inner.code
  pub at : r.at ≡ inner.at

-- what a walk at a node needs: the rows of the nodes below `top`, what is needed after each code, at most `most`, and room for the answers
pub record Walking (g : Ground) (need answers : List ℕ) (node at : ℕ) : Type 0 where
  pub well_formed : WellFormed g.tree.table.now (program_of g.tree.table.now)
  pub top : ℕ
  pub within : node < top
  pub known : top ≤ size (program_of g.tree.table.now)
  pub filled : RowsTo g.weight g.tree.table.now top g.rows.now
  pub most : ℕ
  pub low : LowRow (suc most) need
  pub few : most + size (stmt_at g.tree.table.now node) ≤ max_nodes
  pub room : at + presents (stmt_at g.tree.table.now node) ≤ length answers

-- the code and the answers of the walk of p, written from `at` on
pub record Walks (w : Weight) (p : Stmt) (need answers answers' : List ℕ) (at : ℕ) (r : Walked) : Type 0 where
  pub code : r.code ≡ code_of (walk w 63 p (values_of need))
  pub after : r.at ≡ at + length (answers_of (walk w 63 p (values_of need)))
  pub written : answers' ≡ sets answers at (answers_of (walk w 63 p (values_of need)))
