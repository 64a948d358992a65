-- Demand 3 of the calls themselves: what follows for `start` and `resume` from their contracts and from the theory. The states are
-- packed (F-11): node i's bit is `held_bit state i`, and `unpack` lists those of the program's nodes. The statements alone; the proofs are
-- in proofs/Theorems.antt.
use Rattle.std.specs.Prelude.{ℕ, ◌≤◌, ◌<◌, ◌≡◌, ◌↔◌, true, false, List, leb, length, take, drop}
use Rattle.esterel.specs.Limits.{max_nodes, signals}
use Rattle.esterel.specs.Statement.{Stmt, size, nodes}
use Rattle.esterel.specs.Table.{passed}
use Rattle.esterel.specs.Checks.{verdict, planned}
use Rattle.esterel.specs.Instant.{Entry, Result, closed, zeros, start, resume}
use Rattle.esterel.specs.Outcome.{taken, emitted, emission_bytes, all_in, all_go_on}
use Rattle.esterel.specs.Theorems.{NeedsMore}
use Rattle.packing.specs.Packing.{state_bytes, pack, unpack, admits}
use Rattle.instant.specs.Calls.{reacts, Starting, Resuming}
use Rattle.instant.specs.declared.Reaction.{Reaction}
use Rattle.esterel.specs.Refusal.{Reply, rejects}

-- the table of the program p is accepted, and the lent buffers suffice
pub record Lent (t : List ℕ) (p : Stmt) (state emissions : List ℕ) : Type 0 where
  pub accepted : verdict t ≡ passed p
  pub places : state_bytes ≤ length state
  pub marks : signals ≤ length emissions

-- the call closes with code 0 or 1, unless it answers 13
pub data Ends : Reply Reaction → Type 0 where
  closes : (code k entries : ℕ) → code ≤ 1 → Ends (reacts code k entries)
  starves : Ends (rejects 13 0)

-- a closed call is the rules' instant: its code, the answers it took, its entries, at most n(1 + d), the pauses that it leaves and the
-- signals whose emits were entered
pub record Exact (p : Stmt) (x : Result) (state' emissions' : List ℕ) (code k entries : ℕ) : Type 0 where
  pub trail : List Entry
  pub rest : List ℕ
  -- the pauses that are held have bit 1, and no other bit of the 128 bytes is 1
  pub rules : x ≡ closed code trail (unpack (size p) state') rest
  pub packed : take state_bytes state' ≡ pack (unpack (size p) state')
  pub answers_taken : k ≡ taken (nodes p) trail
  pub entries_are : entries ≡ length trail
  pub few_entries : entries ≤ planned p
  -- byte s is 1 if an emit of s is in the trail, else 0
  pub emissions_are : take signals emissions' ≡ emission_bytes (emitted (nodes p) trail) 0 signals
  -- each started node's code is in its K, and no started child of a loop has code 0
  pub in_k : all_in (nodes p) trail ≡ true
  pub bodies : all_go_on (nodes p) trail ≡ true

-- what a call over an accepted program answers and leaves in the buffers; `run` is the rules' instant over the answers
pub record Instant (p : Stmt) (run : List ℕ → Result) (answers state emissions state' emissions' : List ℕ) (r : Reply Reaction) : Type 0 where
  pub same_length : length state' ≡ length state
  -- what lies past the 128 bytes of state, and past those of the signals, is as it was
  pub past_state : drop state_bytes state' ≡ drop state_bytes state
  pub past_emissions : drop signals emissions' ≡ drop signals emissions
  pub ends : Ends r
  -- 13 exactly if the rules need an answer after the last lent one
  pub needs : (r ≡ rejects 13 0) ↔ NeedsMore p run answers
  -- n(1 + d) answers are never too few
  pub enough : planned p ≤ length answers → r ≡ rejects 13 0 → ⊥
  pub exact : (code k entries : ℕ) → r ≡ reacts code k entries → Exact p (run answers) state' emissions' code k entries
  -- after code 0 nothing is held, after code 1 the state is admitted
  pub ended : (k entries : ℕ) → r ≡ reacts 0 k entries → take state_bytes state' ≡ zeros state_bytes
  pub paused : (k entries : ℕ) → r ≡ reacts 1 k entries → admits p state' ≡ true

-- a refusal has a number from 1 to 13 and a node that a table can have, and neither buffer has changed
pub record Unchanged (number node : ℕ) (state emissions state' emissions' : List ℕ) : Type 0 where
  pub some : 1 ≤ number
  pub known : number ≤ 13
  pub within : node < max_nodes
  pub same_state : state' ≡ state
  pub same_emissions : emissions' ≡ emissions

pub record Demand3OfCalls : Type 0 where
  -- a call that closes was lent the table of an accepted program and buffers that suffice
  pub start_lent :
      (t answers state emissions state' emissions' : List ℕ) (code k entries : ℕ) →
      Starting t answers state emissions state' emissions' (reacts code k entries) → (p : Stmt) × Lent t p state emissions
  pub resume_lent :
      (t answers state emissions state' emissions' : List ℕ) (code k entries : ℕ) →
      Resuming t answers state emissions state' emissions' (reacts code k entries) → (p : Stmt) × Lent t p state emissions
  pub starts :
      (t answers state emissions state' emissions' : List ℕ) (p : Stmt) (r : Reply Reaction) →
      Lent t p state emissions →
      Starting t answers state emissions state' emissions' r → Instant p (start 0 p) answers state emissions state' emissions' r
  pub resumes :
      (t answers state emissions state' emissions' : List ℕ) (p : Stmt) (r : Reply Reaction) →
      Lent t p state emissions →
      admits p state ≡ true →
      Resuming t answers state emissions state' emissions' r → Instant p (resume 0 p (unpack (size p) state)) answers state emissions state' emissions' r
  -- and from any other state it is refused: 12
  pub refuses :
      (t answers state emissions state' emissions' : List ℕ) (p : Stmt) (r : Reply Reaction) →
      Lent t p state emissions →
      admits p state ≡ false →
      Resuming t answers state emissions state' emissions' r → r ≡ rejects 12 0
  -- a start enters each node at most once
  pub start_entries :
      (t answers state emissions state' emissions' : List ℕ) (p : Stmt) (code k entries : ℕ) →
      Lent t p state emissions →
      Starting t answers state emissions state' emissions' (reacts code k entries) → entries ≤ size p
  -- a start looks at no byte of the state: where both buffers suffice, or neither does, the answer, the emissions and the 128 bytes that
  -- it leaves are the same
  pub blind :
      (t answers state other emissions state' other' emissions' emissions'' : List ℕ) (r s : Reply Reaction) →
      leb state_bytes (length state) ≡ leb state_bytes (length other) →
      Starting t answers state emissions state' emissions' r →
      Starting t answers other emissions other' emissions'' s →
      (r ≡ s) × (emissions' ≡ emissions'') × ((code k entries : ℕ) → r ≡ reacts code k entries → take state_bytes state' ≡ take state_bytes other')
  -- after code 1 the next `resume` takes the state that was left: it is an instant again
  pub onward :
      (t answers state emissions state' emissions' more next state'' next' : List ℕ) (p : Stmt) (run : List ℕ → Result) (k entries : ℕ) (r : Reply Reaction) →
      Lent t p state emissions →
      Instant p run answers state emissions state' emissions' (reacts 1 k entries) →
      signals ≤ length next →
      Resuming t more state' next state'' next' r → Instant p (resume 0 p (unpack (size p) state')) more state' next state'' next' r
  -- whatever the table and the buffers are, a refusal has changed nothing
  pub start_refusals :
      (t answers state emissions state' emissions' : List ℕ) (number node : ℕ) →
      Starting t answers state emissions state' emissions' (rejects number node) → Unchanged number node state emissions state' emissions'
  pub resume_refusals :
      (t answers state emissions state' emissions' : List ℕ) (number node : ℕ) →
      Resuming t answers state emissions state' emissions' (rejects number node) → Unchanged number node state emissions state' emissions'
