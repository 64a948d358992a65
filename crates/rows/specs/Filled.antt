-- The rows of a program's nodes.
use Rattle.std.specs.Prelude.{ℕ, ◌<◌, ◌≤◌, List, [], length, slice_index_or}
use Rattle.esterel.specs.Limits.{max_nodes}
use Rattle.table.specs.Columns.{stmt_at}
use Rattle.starts.specs.declared.Weight.{Weight}
use Rattle.starts.specs.Summary.{best}
use Rattle.rows.specs.declared.Row.{Row}
use Rattle.rows.specs.Rows.{Holds}

-- the numbers of the row at place j; past the end there are none
abbrev pub numbers_at : List Row → ℕ → List ℕ
numbers_at rows j = (slice_index_or rows j (record { of = [] })).of

-- the first i rows are those of the first i nodes
pub record RowsTo (w : Weight) (t : List ℕ) (i : ℕ) (rows : List Row) : Type 0 where
  pub room : max_nodes ≤ length rows
  pub at : (j : ℕ) → j < i → Holds (best w (stmt_at t j)) (numbers_at rows j)
