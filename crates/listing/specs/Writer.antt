-- A text while it is written.
use Rattle.std.specs.Prelude.{ℕ, ◌+◌, ◌≤◌, ◌≡◌, List, length}
use Rattle.std.specs.Borrow.{MutBor}
use Rattle.listing.specs.Written.{Written}
use Rattle.listing.specs.declared.writer.Writer.{Writer}

-- the bytes fit in what is left
abbrev pub HasRoom : Writer → List ℕ → Type 0
HasRoom w bytes = w.at + length bytes ≤ length w.text.now

-- the bytes are written next, in the same text
pub record Puts (old : Writer) (bytes : List ℕ) (new : Writer) : Type 0 where
  pub written : Written old.text.now old.at bytes new.text.now new.at
  pub same : new.text.ghost_name ≡ old.text.ghost_name

-- nothing of a lent text is written
pub record Begins (text : MutBor (List ℕ)) (w : Writer) : Type 0 where
  pub at : w.at ≡ 0
  pub content : w.text.now ≡ text.now
  pub same : w.text.ghost_name ≡ text.ghost_name
