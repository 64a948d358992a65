-- A byte of a text as line and column (F-9), both from 1: a line feed ends a line, and a column is a byte.
use Rattle.std.specs.Prelude.{ℕ, suc, ◌+◌, ◌≡◌, cond, List, [], ◌∷◌, eqb, ltb, length, take}
use Prim.Native.Char.{code}
use Rattle.grammar.specs.Ascii.{ascii}
use Rattle.listing.specs.Text.{decimal, fields}

-- the number of line feeds
abbrev pub line_feeds : List ℕ → ℕ
line_feeds [] = 0
line_feeds (b ∷ bytes) = cond (eqb b (code "\n")) (suc (line_feeds bytes)) (line_feeds bytes)

-- the bytes after the last line feed, or all where there is none
abbrev pub last_line : List ℕ → List ℕ
last_line [] = []
last_line (b ∷ bytes) = cond (ltb 0 (line_feeds (b ∷ bytes))) (last_line bytes) (b ∷ bytes)

-- the spot of the byte at a place is told by the bytes before it: the line feeds, and the bytes since the last of them
pub record SpotOf (text : List ℕ) (place line column : ℕ) : Type 0 where
  pub line_is : line ≡ 1 + line_feeds (take place text)
  pub column_is : column ≡ 1 + length (last_line (take place text))

-- `line`, the line, `column`, the column
unfoldable pub spot_text : (line column : ℕ) → List ℕ
spot_text line column = fields (ascii "line" ∷ decimal line ∷ ascii "column" ∷ decimal column ∷ [])

-- ---- for the contracts of the loop's steps: the line and the column after one byte more

abbrev pub line_after : (line byte : ℕ) → ℕ
line_after line byte = cond (eqb byte (code "\n")) (line + 1) line

abbrev pub column_after : (column byte : ℕ) → ℕ
column_after column byte = cond (eqb byte (code "\n")) 1 (column + 1)
