-- What `render` answers and leaves in the lent text.
use Rattle.std.specs.Prelude.{ℕ, ◌≤◌, ◌≡◌, cond, Option, Some, None, List, ◌++◌, leb, length, drop}

-- the text at the front of the buffer, and the old bytes past it; where it does not fit, the answer says so and nothing has changed
pub record Rendering (text old new : List ℕ) (r : Option ℕ) : Type 0 where
  pub answer : r ≡ cond (leb (length text) (length old)) (Some (length text)) None
  pub content : new ≡ cond (leb (length text) (length old)) (text ++ drop (length text) old) old

-- the text at the front of a buffer in which it always fits
pub record WholeText (text old new : List ℕ) (r : ℕ) : Type 0 where
  pub end : r ≡ length text
  pub within : r ≤ length new
  pub content : new ≡ text ++ drop (length text) old
