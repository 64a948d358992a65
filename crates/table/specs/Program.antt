-- The program of a table that was read.
use Rattle.std.specs.Prelude.{◌≡◌, List, ℕ}
use Rattle.esterel.specs.Statement.{nothing, Stmt, leaf}
use Rattle.esterel.specs.Table.{Verdict, passed, refused, read}

abbrev pub program_in : Verdict → Stmt
program_in (passed p) = p
program_in (refused number node) = leaf nothing

unfoldable pub program_of : List ℕ → Stmt
program_of t = program_in (read t)

-- the table passes checks 1, 2 and 4 to 7
pub record Readable (t : List ℕ) : Type 0 where
  pub reads : read t ≡ passed (program_of t)
