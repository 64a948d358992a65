-- What the writers of a line leave in a text.
use Rattle.std.specs.Prelude.{ℕ, List, [], ◌∷◌, ◌++◌}
use Rattle.listing.specs.Text.{decimal}
use Rattle.listing.specs.Rendering.{WholeText}
use Rattle.tickline.specs.Line.{IsLine}

-- the table's line at the front, and the old bytes behind it
pub record LineWritten (t old new : List ℕ) (r : ℕ) : Type 0 where
  pub line : List ℕ
  pub is : IsLine t line
  pub whole : WholeText line old new r

-- the answers alone, each with the blank before it
abbrev pub answers_text : List ℕ → List ℕ
answers_text [] = []
answers_text (a ∷ answers) = 32 ∷ (decimal a ++ answers_text answers)
