-- What the runner's functions answer and leave.
use Rattle.std.specs.Prelude.{ℕ, suc, ◌+◌, ◌<◌, ◌≤◌, ◌≡◌, true, Option, Some, None, List, length, get_or, take, drop}
use Rattle.std.proofs.lemmas.List.Edits.{sets}
use Rattle.esterel.specs.Limits.{signals}
use Rattle.esterel.specs.Statement.{size, nodes}
use Rattle.esterel.specs.Table.{passed}
use Rattle.esterel.specs.Checks.{verdict}
use Rattle.esterel.specs.Instant.{Entry, Result, closed, starved, start, resume, admitted}
use Rattle.esterel.specs.Outcome.{emitted}
use Rattle.table.specs.Program.{program_of}
pub use Rattle.table.specs.Columns.{stmt_at, first_at}
use Rattle.instant.specs.Steps.{marked}
use Rattle.instant.specs.declared.Reaction.{Reaction}

-- an accepted table
pub record Runnable (t : List ℕ) : Type 0 where
  pub accepted : verdict t ≡ passed (program_of t)

-- the buffers of a run at a node, and the answers taken before it
pub record Room (t answers held emissions : List ℕ) (node taken : ℕ) : Type 0 where
  pub within : node < size (program_of t)
  pub places : size (program_of t) ≤ length held
  pub marks : signals ≤ length emissions
  pub lent : taken ≤ length answers

-- nothing is held beneath the node
unfoldable pub Clear : List ℕ → List ℕ → ℕ → Type 0
Clear t held node = (j : ℕ) → first_at t node ≤ j → j ≤ node → get_or held j 0 ≡ 0

-- the answer r, with the state turned from one list into another and the emissions too, is the rules' result x for the statement whose
-- first node is f. After a starved run nothing is said of the buffers.
pub data RanIs (t answers : List ℕ) (f : ℕ) (held held' emissions emissions' : List ℕ) : Result → Option Reaction → Type 0 where
  ran : (code taken : ℕ) (trail : List Entry) (h : List ℕ) → taken ≤ length answers → held' ≡ sets held f h → emissions' ≡ marked (emitted (nodes (program_of t)) trail) emissions → RanIs t answers f held held' emissions emissions' (closed code trail h (drop taken answers)) (Some (record { code = code; taken = taken; entries = length trail }))
  starves : RanIs t answers f held held' emissions emissions' starved None

-- a start of the statement at a node
abbrev pub Started : (t answers held held' emissions emissions' : List ℕ) (node taken : ℕ) → Option Reaction → Type 0
Started t answers held held' emissions emissions' node taken r =
    RanIs t answers (first_at t node) held held' emissions emissions' (start (first_at t node) (stmt_at t node) (drop taken answers)) r

-- the bytes of the statement at a node
abbrev pub bytes_at : List ℕ → List ℕ → ℕ → List ℕ
bytes_at t held node = take (size (stmt_at t node)) (drop (first_at t node) held)

-- what a resumption of the statement needs: its bytes are admitted, and between two of its nodes the counts tell what is held
pub record Holding (t counts held : List ℕ) (node : ℕ) : Type 0 where
  pub state : admitted (stmt_at t node) (bytes_at t held node) ≡ true
  pub listed : size (program_of t) < length counts
  pub counted : (j : ℕ) → first_at t node ≤ j → j ≤ node → get_or counts (suc j) 0 ≡ get_or counts j 0 + get_or held j 0

abbrev pub Resumed : (t answers held held' emissions emissions' : List ℕ) (node taken : ℕ) → Option Reaction → Type 0
Resumed t answers held held' emissions emissions' node taken r =
    RanIs t answers (first_at t node) held held' emissions emissions' (resume (first_at t node) (stmt_at t node) (bytes_at t held node) (drop taken answers)) r
