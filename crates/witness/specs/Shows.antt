-- What the contracts of the inner functions of `find_tick` speak of.
use Rattle.std.specs.Prelude.{ℕ, ◌≡◌, List, length}
use Rattle.esterel.specs.Table.{refused}
use Rattle.esterel.specs.Checks.{verdict}
use Rattle.table.specs.Columns.{onto}
use Rattle.starts.specs.Ticks.{ShownAt}
use Rattle.starts.specs.Walk.{goal}
use Rattle.rows.specs.Rows.{LowRow, Holds}

-- the row that says what `goal 0` does
pub record Goal (row : List ℕ) : Type 0 where
  pub holds : Holds (goal 0) row
  pub low : LowRow 1 row

-- check 11 refuses the table, at this node
pub record Faulty (t : List ℕ) (node : ℕ) : Type 0 where
  pub refuses : verdict t ≡ refused 11 node

-- a list that is shown, of the length r, and the bytes before and after
pub record Showing (t : List ℕ) (node : ℕ) (old new : List ℕ) (r : ℕ) : Type 0 where
  pub list : List ℕ
  pub shown : ShownAt t node list
  pub long : r ≡ length list
  pub written : new ≡ onto list old
