-- The line that the program `tick` writes of a table (F-2), as bytes.
use Rattle.std.specs.Prelude.{ℕ, ◌≡◌, cond, List, [], ◌∷◌, map, eqb}
use Rattle.esterel.specs.Table.{refused}
use Rattle.esterel.specs.Checks.{verdict}
use Rattle.starts.specs.Ticks.{ShownAt}
use Rattle.listing.specs.Text.{decimal, fields, text_of}

-- "one line, the node and then 0 or 1 for each answer"
unfoldable pub tick_text : (node : ℕ) (answers : List ℕ) → List ℕ
tick_text node answers = fields (decimal node ∷ map decimal answers)

-- the first line of a text, with its line feed
abbrev pub first_line : List ℕ → List ℕ
first_line [] = []
first_line (b ∷ bs) = b ∷ cond (eqb b 10) [] (first_line bs)

-- the line of a table: after refusal 11 the tick that is shown; "without refusal 11, the listing's first line"
pub data IsLine (t line : List ℕ) : Type 0 where
  shows : (node : ℕ) (answers : List ℕ) → verdict t ≡ refused 11 node → ShownAt t node answers → line ≡ tick_text node answers → IsLine t line
  lists : ((node : ℕ) → verdict t ≡ refused 11 node → ⊥) → line ≡ first_line (text_of (verdict t)) → IsLine t line

-- and no line is longer: 4 digits for the node, 511 answers, the line feed
abbrev pub max_line : ℕ
max_line = 1027
