-- What a writer leaves in a text, and what the listing's writer reads.
use Rattle.std.specs.Prelude.{ℕ, ◌+◌, ◌≤◌, ◌<◌, ◌≡◌, List, length, get_or}
use Rattle.std.proofs.lemmas.List.Edits.{sets}
use Rattle.esterel.specs.Statement.{Stmt, size}
use Rattle.esterel.specs.Sets.{place_at}
use Rattle.esterel.specs.Checks.{Line, line_of}
use Rattle.table.specs.Program.{program_of, Readable}
use Rattle.analysis.specs.Analysis.{k_of, a_of, s_of, mark_of}

-- the bytes from a position on, all else as it was, and the position after them
pub record Written (old : List ℕ) (at : ℕ) (bytes new : List ℕ) (r : ℕ) : Type 0 where
  pub is : new ≡ sets old at bytes
  pub end : r ≡ at + length bytes

-- node i's line of the listing
unfoldable pub line_at : Stmt → ℕ → Line
line_at p i = line_of (place_at p i)

-- a buffer has one number of each line
pub record Column (f : Line → ℕ) (p : Stmt) (buffer : List ℕ) : Type 0 where
  pub room : size p ≤ length buffer
  pub entry : (i : ℕ) → i < size p → get_or buffer i 0 ≡ f (line_at p i)

-- a table that was read, and the columns K, A, S and marks of its program's listing
pub record Columns (t K A S M : List ℕ) : Type 0 where
  pub readable : Readable t
  pub starts : Column k_of (program_of t) K
  pub anys : Column a_of (program_of t) A
  pub contexts : Column s_of (program_of t) S
  pub marks : Column mark_of (program_of t) M
