-- What is proved of the computation: the recursion gives what the starts do, its greatest numbers of entries are those of the starts, and the
-- walk finds the lists of Ticks and Entries.
use Rattle.std.specs.Prelude.{ℕ, ◌≤◌, ◌≡◌, ◌↔◌, true, List}
use Rattle.std.proofs.Math.Option.{some}
use Rattle.esterel.specs.Statement.{Stmt}
use Rattle.esterel.specs.Sets.{start_set}
use Rattle.esterel.specs.Instant.{start}
use Rattle.starts.specs.Ticks.{IsShown}
use Rattle.starts.specs.declared.Weight.TheVariants.{Answers, Entries}
use Rattle.starts.specs.Entries.{Greatest, IsLongest}
use Rattle.starts.specs.Summary.{Gives, Ran, up_to, weights, most_entries}
use Rattle.starts.specs.Walk.{walk, answers_of, code_of, goal, any_code, Low, Below}

-- the triples of code, answers and entries that the starts of a statement give
abbrev pub Triples : Type 0
Triples = (p : Stmt) (first k : ℕ) (u : List ℕ) (n : ℕ) → Gives p k u n ↔ Ran (start first p) k u n

-- the walk by answers for one code, where no code is above B
pub record WalkShows (B : ℕ) (p : Stmt) (k : ℕ) : Type 0 where
  pub code : code_of (walk Answers B p (goal k)) ≡ k
  pub shown : (first : ℕ) → IsShown first p k (answers_of (walk Answers B p (goal k)))

abbrev pub WalksRight : Type 0
WalksRight = (B : ℕ) (p : Stmt) → Below B p → (k : ℕ) → start_set p k ≡ true → WalkShows B p k

-- n is the greatest number of entries of the starts of p with code k
pub record GreatestOf (p : Stmt) (k n : ℕ) : Type 0 where
  pub reached : (answers : List ℕ) × Ran (start 0 p) k answers n
  pub exceeded : (answers : List ℕ) (m : ℕ) → Ran (start 0 p) k answers m → m ≤ n

-- F-10: the greatest number of entries for each code, and over all codes, is what the recursion composes, where no code is above B; and the
-- walk by entries for any code finds the answers
pub record Composed : Type 0 where
  pub each : (p : Stmt) (k n : ℕ) → GreatestOf p k n ↔ (most_entries p k ≡ some n)
  pub all : (B : ℕ) (p : Stmt) → Low B p → (n : ℕ) → Greatest p n ↔ (up_to (weights Entries) (most_entries p) B ≡ some n)
  pub found : (B : ℕ) (p : Stmt) → Below B p → (n : ℕ) → Greatest p n → IsLongest p n (answers_of (walk Entries B p any_code))
