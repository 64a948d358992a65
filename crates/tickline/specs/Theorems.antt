-- What is proved of lines: the statement alone. The proof is in proofs/Rendering.antt.
use Rattle.std.specs.Prelude.{◌≡◌, List, ℕ}
use Rattle.tickline.specs.Line.{IsLine}

-- a table has one line
abbrev pub OneLine : Type 0
OneLine = (t x y : List ℕ) → IsLine t x → IsLine t y → x ≡ y
