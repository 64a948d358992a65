-- First tick, to the entry (F-10): of a program the greatest number of entries that any answers can give when it is started, and answers
-- that reach it.
use Rattle.std.specs.Prelude.{ℕ, ◌≤◌, ◌≡◌, ◌⊎◌, List, [], length}
use Rattle.esterel.specs.Statement.{Stmt}
use Rattle.esterel.specs.Instant.{Entry, closed, start}
use Rattle.starts.specs.Ticks.{Sooner}

-- p, started with these answers, closes, leaves the answers `rest`, and has made n entries
abbrev pub Makes : Stmt → (answers rest : List ℕ) → ℕ → Type 0
Makes p answers rest n =
    (k : ℕ) × (trail : List Entry) × (held : List ℕ) × (start 0 p answers ≡ closed k trail held rest) × (length trail ≡ n)

-- "the greatest number of entries that any answers can give when it is started: exactly that, reached by some answers and exceeded by none"
pub record Greatest (p : Stmt) (n : ℕ) : Type 0 where
  pub reached : (answers rest : List ℕ) × Makes p answers rest n
  pub exceeded : (answers rest : List ℕ) (m : ℕ) → Makes p answers rest m → m ≤ n

-- the answers that are handed out for n entries: all of them are taken, and any other list of which that holds has present at the first
-- difference, where this one has absent
pub record IsLongest (p : Stmt) (n : ℕ) (answers : List ℕ) : Type 0 where
  pub makes : Makes p answers [] n
  pub first : (other : List ℕ) → Makes p other [] n → (answers ≡ other) ⊎ Sooner answers other
