-- The end of a line that tells whether what was lent is as it was: " =", or " changed", and the line feed.
use Rattle.std.specs.Prelude.{ℕ, Bool, true, false, List, [], ◌∷◌}

abbrev pub line_end : Bool → List ℕ
line_end true = 32 ∷ 61 ∷ 10 ∷ []
line_end false = 32 ∷ 99 ∷ 104 ∷ 97 ∷ 110 ∷ 103 ∷ 101 ∷ 100 ∷ 10 ∷ []
