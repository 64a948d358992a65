-- Held pauses as bits (document 02, F-11), of the calls: which bits are refused, which are left, and that the calls do what those with a
-- byte of state for each node did. The statements alone; the proofs are in proofs/Packed.antt.
use Rattle.std.specs.Prelude.{ℕ, ◌/◌, ◌≤◌, ◌<◌, ◌≡◌, cond, ◌&&◌, List, leb, length, get_or, take}
use Rattle.esterel.specs.Limits.{max_nodes, signals}
use Rattle.esterel.specs.Statement.{Stmt, kind, size, nodes}
use Rattle.esterel.specs.Table.{Verdict, passed, refused}
use Rattle.esterel.specs.Checks.{verdict}
use Rattle.esterel.specs.Instant.{Result, start, resume, admitted}
use Rattle.esterel.specs.Outcome.{Outcome, done, needs_answer, no_rule, outcome, statement_at}
use Rattle.packing.specs.Packing.{state_bytes, held_bit, pack}
use Rattle.analysis.specs.Analysis.{checked}
use Rattle.instant.specs.Calls.{Call, refuses, closes, reacts, Reacts, Starting, Resuming}
use Rattle.instant.specs.Theorems.{Lent, Instant}
use Rattle.instant.specs.declared.Reaction.{Reaction}
use Rattle.esterel.specs.Refusal.{Reply, rejects}

-- ---- the calls as they were before F-11

-- check 3 wanted a byte for each node
abbrev pub verdict_before : List ℕ → (bytes emissions : ℕ) → Verdict
verdict_before t bytes emissions = checked (leb (length t / 2) bytes && leb signals emissions) t

abbrev pub closing_before : Outcome → Call
closing_before (done code taken entries held emissions) = closes code taken entries held emissions
closing_before needs_answer = refuses 13 0
closing_before no_rule = refuses 0 0

unfoldable pub start_before : Verdict → (answers : List ℕ) → Call
start_before (passed p) answers = closing_before (outcome p (start 0 p answers))
start_before (refused number node) answers = refuses number node

unfoldable pub resume_before : Verdict → (bytes answers : List ℕ) → Call
resume_before (passed p) bytes answers =
    cond (admitted p (take (size p) bytes)) (closing_before (outcome p (resume 0 p (take (size p) bytes) answers))) (refuses 12 0)
resume_before (refused number node) bytes answers = refuses number node

abbrev pub StartingBefore : (t answers bytes emissions bytes' emissions' : List ℕ) → Reply Reaction → Type 0
StartingBefore t answers bytes emissions bytes' emissions' r =
    Reacts (start_before (verdict_before t (length bytes) (length emissions)) answers) bytes emissions bytes' emissions' r

abbrev pub ResumingBefore : (t answers bytes emissions bytes' emissions' : List ℕ) → Reply Reaction → Type 0
ResumingBefore t answers bytes emissions bytes' emissions' r =
    Reacts (resume_before (verdict_before t (length bytes) (length emissions)) bytes answers) bytes emissions bytes' emissions' r

-- ---- both beside each other

-- room for a state of either kind
pub record Rooms (t bytes state : List ℕ) : Type 0 where
  pub by_bytes : length t / 2 ≤ length bytes
  pub by_bits : state_bytes ≤ length state

-- the 128 bytes are what packs the bytes of the table's nodes
abbrev pub IsPacked : (t bytes state : List ℕ) → Type 0
IsPacked t bytes state = take state_bytes state ≡ pack (take (length t / 2) bytes)

pub record PackedCalls : Type 0 where
  -- a bit of another node than a pause, or from n on, is refused: 12
  pub strays :
      (t answers state emissions state' emissions' : List ℕ) (p : Stmt) (r : Reply Reaction) (i : ℕ) →
      Lent t p state emissions → i < max_nodes → held_bit state i ≡ 1 → (i < size p → kind (statement_at (nodes p) i) ≡ 2 → ⊥) →
      Resuming t answers state emissions state' emissions' r → r ≡ rejects 12 0
  -- and no closed call leaves one
  pub only_pauses :
      (answers state emissions state' emissions' : List ℕ) (p : Stmt) (run : List ℕ → Result) (code k entries i : ℕ) →
      Instant p run answers state emissions state' emissions' (reacts code k entries) →
      i < max_nodes → held_bit state' i ≡ 1 → (i < size p) × (kind (statement_at (nodes p) i) ≡ 2)
  -- `resume` looks at the 128 bytes alone: saved ones can be lent again as they are, in any buffer
  pub saved :
      (t answers state other emissions state' other' emissions' emissions'' : List ℕ) (r s : Reply Reaction) →
      state_bytes ≤ length state → state_bytes ≤ length other → take state_bytes state ≡ take state_bytes other →
      Resuming t answers state emissions state' emissions' r →
      Resuming t answers other emissions other' emissions'' s →
      (r ≡ s) × (emissions' ≡ emissions'') × (take state_bytes state' ≡ take state_bytes other')
  -- Whatever the table, the answers and the old bytes, a start answers as before, emits as before, and leaves what packs the bytes that
  -- were left.
  pub starts_as_before :
      (t answers bytes state emissions bytes' state' emissions' emissions'' : List ℕ) (r s : Reply Reaction) →
      Rooms t bytes state →
      StartingBefore t answers bytes emissions bytes' emissions' r →
      Starting t answers state emissions state' emissions'' s →
      (r ≡ s) × (emissions' ≡ emissions'') × ((code k entries : ℕ) → r ≡ reacts code k entries → IsPacked t bytes' state')
  -- So does a resumption from what packs the bytes, each 0 or 1.
  pub resumes_as_before :
      (t answers bytes state emissions bytes' state' emissions' emissions'' : List ℕ) (r s : Reply Reaction) →
      Rooms t bytes state → ((i : ℕ) → i < length t / 2 → get_or bytes i 0 ≤ 1) → IsPacked t bytes state →
      ResumingBefore t answers bytes emissions bytes' emissions' r →
      Resuming t answers state emissions state' emissions'' s →
      (r ≡ s) × (emissions' ≡ emissions'') × IsPacked t bytes' state'
  -- No bits stand for a byte above 1, from which the call of before was refused: 12.
  pub above_one_before :
      (t answers bytes emissions bytes' emissions' : List ℕ) (p : Stmt) (r : Reply Reaction) (i : ℕ) →
      verdict t ≡ passed p → size p ≤ length bytes → signals ≤ length emissions → i < size p → 1 < get_or bytes i 0 →
      ResumingBefore t answers bytes emissions bytes' emissions' r → r ≡ rejects 12 0
