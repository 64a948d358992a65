-- The line that the program `first_tick` writes of a table (F-10), as bytes.
use Rattle.std.specs.Prelude.{ℕ, ◌≡◌, List, [], ◌∷◌}
use Rattle.esterel.specs.Statement.{Stmt}
use Rattle.esterel.specs.Table.{passed, refused}
use Rattle.esterel.specs.Checks.{verdict}
use Rattle.starts.specs.Entries.{Greatest}
use Rattle.listing.specs.Text.{decimal, fields, text_of}
use Rattle.listing.specs.Rendering.{WholeText}

-- the line of a table: the greatest number of entries, alone; "a refusal is printed as in the listing"
pub data IsLine (t line : List ℕ) : Type 0 where
  plans : (p : Stmt) (n : ℕ) → verdict t ≡ passed p → Greatest p n → line ≡ fields (decimal n ∷ []) → IsLine t line
  refuses : (number node : ℕ) → verdict t ≡ refused number node → line ≡ text_of (refused number node) → IsLine t line

-- no line is longer
abbrev pub max_line : ℕ
max_line = 16

-- the table's line at the front of a text, and the old bytes behind it
pub record LineWritten (t old new : List ℕ) (r : ℕ) : Type 0 where
  pub line : List ℕ
  pub is : IsLine t line
  pub whole : WholeText line old new r
