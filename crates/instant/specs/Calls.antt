-- What `start` and `resume` answer and leave in the lent buffers.
use Rattle.std.specs.Prelude.{ℕ, ◌≤◌, ◌≡◌, Bool, cond, ◌&&◌, Option, Some, None, List, leb, length}
use Rattle.esterel.specs.Limits.{max_nodes, signals}
use Rattle.esterel.specs.Statement.{size}
use Rattle.esterel.specs.Table.{Verdict, passed, refused}
use Rattle.esterel.specs.Refusal.{Reply, yields, rejects}
use Rattle.esterel.specs.Instant.{start, resume}
use Rattle.esterel.specs.Outcome.{Outcome, done, needs_answer, no_rule, outcome}
use Rattle.table.specs.Check.{answer_of as check_of}
use Rattle.table.specs.Program.{program_of}
use Rattle.packing.specs.Packing.{state_bytes, pack, unpack, admits}
use Rattle.analysis.specs.Passes.{onto}
use Rattle.table.specs.declared.Tree.{Tree}
use Rattle.analysis.specs.Analysis.{checked, told}
use Rattle.instant.specs.Run.{Runnable}
use Rattle.instant.specs.declared.Reaction.{Reaction}

-- check 3: 128 bytes of state (F-11), and a byte for each signal
abbrev pub room_for : (state emissions : ℕ) → Bool
room_for state emissions = leb state_bytes state && leb signals emissions

-- checks 1, 2, 3, 4 to 11, in this order
abbrev pub verdict_for : List ℕ → (state emissions : ℕ) → Verdict
verdict_for t state emissions = checked (room_for state emissions) t

-- what a call comes to: refused by number and node, or closed with what the instant hands back
pub data Call : Type 0 where
  refuses : (number node : ℕ) → Call
  closes : (code taken entries : ℕ) (state emissions : List ℕ) → Call

-- the pauses that an instant leaves are handed back as bits (F-11)
abbrev pub closing : Outcome → Call
closing (done code taken entries held emissions) = closes code taken entries (pack held) emissions
closing needs_answer = refuses 13 0
closing no_rule = refuses 0 0  -- never of an accepted program from an admitted state

-- a start looks at no byte of the state
unfoldable pub start_call : Verdict → (answers : List ℕ) → Call
start_call (passed p) answers = closing (outcome p (start 0 p answers))
start_call (refused number node) answers = refuses number node

-- check 12, then the instant from the pauses whose bits are 1 (F-11)
unfoldable pub resume_call : Verdict → (state answers : List ℕ) → Call
resume_call (passed p) state answers =
    cond (admits p state) (closing (outcome p (resume 0 p (unpack (size p) state) answers))) (refuses 12 0)
resume_call (refused number node) state answers = refuses number node

-- what a run comes to that left these bytes; after a starved one nothing is handed over
abbrev pub handed : Option Reaction → (held emissions : List ℕ) → Call
handed (Some r) held emissions = closes r.code r.taken r.entries (pack held) emissions
handed None held emissions = refuses 13 0

-- a call that closes answers its code, the answers taken and the entries
abbrev pub reacts : (code taken entries : ℕ) → Reply Reaction
reacts code taken entries = yields (record { code = code; taken = taken; entries = entries })

abbrev pub answer_of : Call → Reply Reaction
answer_of (refuses number node) = rejects number node
answer_of (closes code taken entries state emissions) = reacts code taken entries

-- a buffer after the call: after a refusal it is as it was
abbrev pub state_after : Call → List ℕ → List ℕ
state_after (refuses number node) old = old
state_after (closes code taken entries state emissions) old = onto state old

abbrev pub emissions_after : Call → List ℕ → List ℕ
emissions_after (refuses number node) old = old
emissions_after (closes code taken entries state emissions) old = onto emissions old

-- the answer, and the whole content of both buffers
pub record Reacts (call : Call) (state emissions state' emissions' : List ℕ) (r : Reply Reaction) : Type 0 where
  pub answer : r ≡ answer_of call
  pub state_is : state' ≡ state_after call state
  pub emissions_are : emissions' ≡ emissions_after call emissions

-- the contracts of `start` and `resume`: the answer and the buffers' contents are those of the call over the table, the answers and
-- the buffers' old contents
abbrev pub Starting : (t answers state emissions state' emissions' : List ℕ) → Reply Reaction → Type 0
Starting t answers state emissions state' emissions' r =
    Reacts (start_call (verdict_for t (length state) (length emissions)) answers) state emissions state' emissions' r

abbrev pub Resuming : (t answers state emissions state' emissions' : List ℕ) → Reply Reaction → Type 0
Resuming t answers state emissions state' emissions' r =
    Reacts (resume_call (verdict_for t (length state) (length emissions)) state answers) state emissions state' emissions' r

-- the tree of an accepted table t, and buffers that suffice
pub record Ready (t : List ℕ) (state emissions : ℕ) (x : Tree) : Type 0 where
  pub same : x.table.now ≡ t
  pub verdict : verdict_for t state emissions ≡ passed (program_of x.table.now)
  pub runnable : Runnable x.table.now
  pub few : size (program_of x.table.now) ≤ max_nodes
  pub places : state_bytes ≤ state
  pub marks : signals ≤ emissions

-- what checks 1 to 11 answer, and the tree that they hand out
pub record CallChecked (t : List ℕ) (state emissions : ℕ) (r : Reply Tree) : Type 0 where
  pub answer : told r ≡ check_of (verdict_for t state emissions)
  pub ready : (x : Tree) → r ≡ yields x → Ready t state emissions x
