-- What a lent buffer holds, and the subtrees of a program with their sizes.
use Rattle.std.specs.Prelude.{ℕ, suc, ◌-◌, ◌<◌, ◌≤◌, ◌≡◌, Bool, true, false, List, ◌++◌, map, length, get_or, drop}
use Rattle.esterel.specs.Statement.{Stmt, size, nodes}
use Rattle.esterel.specs.Outcome.{statement_at}
use Rattle.esterel.specs.Table.{Verdict, passed, refused, read}
use Rattle.table.specs.Program.{program_of, Readable}

-- the first entries of a buffer, and behind them what stood there before
abbrev pub onto : List ℕ → List ℕ → List ℕ
onto column old = column ++ drop (length column) old

-- the statement at a node of a table's program, and its first node
abbrev pub stmt_at : List ℕ → ℕ → Stmt
stmt_at t node = statement_at (nodes (program_of t)) node

abbrev pub first_at : List ℕ → ℕ → ℕ
first_at t node = suc node - size (stmt_at t node)

-- the sizes of all subtrees
unfoldable pub sizes_of : Stmt → List ℕ
sizes_of p = map size (nodes p)

-- a table that was read, with the sizes of its subtrees
pub record Measured (t sizes : List ℕ) : Type 0 where
  pub readable : Readable t
  pub sized : (j : ℕ) → j < size (program_of t) → get_or sizes j 0 ≡ size (stmt_at t j)
  pub listed : size (program_of t) ≤ length sizes

-- The same as a type keeps it: that the table was read is told by a test, since a verdict is no proposition.
abbrev pub is_passed : Verdict → Bool
is_passed (passed p) = true
is_passed (refused number node) = false

pub record TreeOf (t sizes : List ℕ) : Type 0 where
  pub reads : is_passed (read t) ≡ true
  pub sized : (j : ℕ) → j < size (program_of t) → get_or sizes j 0 ≡ size (stmt_at t j)
  pub listed : size (program_of t) ≤ length sizes
