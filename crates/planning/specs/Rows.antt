-- What the contracts of the inner functions speak of: rows on a stack, and the row of a program.
use Rattle.std.specs.Prelude.{ℕ, ◌+◌, ◌-◌, ◌<◌, max, ◌≡◌, List, length, get_or}
use Rattle.esterel.specs.Limits.{max_depth}
use Rattle.esterel.specs.Statement.{leaf}
use Rattle.table.specs.Kinds.{leaf_of, leaf_code, arity_of}
use Rattle.table.specs.declared.Kind.{Kind}
use Rattle.starts.specs.declared.Weight.TheVariants.{Entries}
use Rattle.starts.specs.Summary.{most_entries}
use Rattle.starts.specs.Walk.{any_code}
use Rattle.rows.specs.Rows.{max_number, LowRow, Holds}
use Rattle.rows.specs.Steps.{IsRow}
use Rattle.rows.specs.declared.Row.{Row}
use Rattle.rows.specs.Filled.{numbers_at}

-- a node's children have their rows at two places from `base` on, of small numbers as all on the stack; a leaf has a code that a row has
pub record Lies (kind : Kind) (field base : ℕ) (stack : List Row) : Type 0 where
  pub room : base < max_depth
  pub low : (j : ℕ) → LowRow max_number (numbers_at stack j)
  pub few : field < 256
  pub known : arity_of kind ≡ 0 → leaf_code (leaf_of kind field) < 64

-- the node's own row: a leaf's, or from those of the children
pub data NextRow (kind : Kind) (field base : ℕ) (stack : List Row) (row : List ℕ) : Type 0 where
  of_leaf : arity_of kind ≡ 0 → Holds (most_entries (leaf (leaf_of kind field))) row → NextRow kind field base stack row
  of_children :
      (arity_of kind ≡ 0 → ⊥) → IsRow Entries kind (numbers_at stack base) (numbers_at stack (base + 1)) row → NextRow kind field base stack row

-- the larger number of codes 0 and 1, and what it says where there is one
abbrev pub larger01 : List ℕ → ℕ
larger01 row = max (get_or row 0 0) (get_or row 1 0)

abbrev pub top_of : List ℕ → ℕ
top_of row = larger01 row - 1

pub record Tops (row : List ℕ) : Type 0 where
  pub long : length row ≡ 64
  pub some : 0 < larger01 row

-- the row that says what `any_code` does
pub record AnyCode (row : List ℕ) : Type 0 where
  pub holds : Holds any_code row
  pub low : LowRow 1 row
