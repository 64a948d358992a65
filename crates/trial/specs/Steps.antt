-- What the functions beneath `trial` need and answer.
use Rattle.std.specs.Prelude.{ℕ, ◌≤◌, ◌<◌, ◌≡◌, List, Option, Some, None}
use Rattle.codes.specs.Words.{singleton_of}
use Rattle.esterel.specs.Statement.{size}
use Rattle.table.specs.Program.{program_of}
use Rattle.table.specs.Columns.{stmt_at, first_at}
use Rattle.instant.specs.Run.{Runnable}
use Rattle.instant.specs.declared.Reaction.{Reaction}
use Rattle.starts.specs.Ticks.{presents}
use Rattle.trial.specs.Trials.{trial_answers}

-- a node of a tree's table, and the first node of its statement
pub record Countable (t : List ℕ) (first node : ℕ) : Type 0 where
  pub within : node < size (program_of t)
  pub starts : first ≡ first_at t node

-- a node of an accepted table that has no more presents than a list has answers
pub record Triable (t : List ℕ) (first node : ℕ) : Type 0 where
  pub runnable : Runnable t
  pub countable : Countable t first node
  pub few : presents (stmt_at t node) ≤ trial_answers

-- the code of a run as a set, if it closed
abbrev pub code_set : Option Reaction → ℕ
code_set (Some r) = singleton_of r.code
code_set None = 0

-- which needs that it has a place in 64 bits
abbrev pub LowCode : Option Reaction → Type 0
LowCode (Some r) = r.code < 64
LowCode None = Unit {0}
