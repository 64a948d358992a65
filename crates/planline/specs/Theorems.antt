-- What is proved of lines: the statement alone. The proof is in proofs/Rendering.antt.
use Rattle.std.specs.Prelude.{ℕ, ◌≤◌, ◌≡◌, List, length}
use Rattle.planline.specs.Line.{IsLine, max_line}

-- a table has one line, which is short
pub record OneLine : Type 0 where
  pub once : (t x y : List ℕ) → IsLine t x → IsLine t y → x ≡ y
  pub short : (t x : List ℕ) → IsLine t x → length x ≤ max_line
