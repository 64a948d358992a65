-- No unmarked reentry (document 02, F-6) of the calls themselves: what follows for `analyse`, `start` and `resume` from their contracts and
-- from the theory. The statements alone; the proofs are in proofs/Theorems.antt.
use Rattle.std.specs.Prelude.{ℕ, ◌≡◌, ◌↔◌, List, take, get_or}
use Rattle.esterel.specs.Statement.{Stmt, size}
use Rattle.esterel.specs.Table.{passed}
use Rattle.esterel.specs.Checks.{verdict}
use Rattle.esterel.specs.Instant.{Result, zeros, start, resume}
use Rattle.esterel.specs.Reentry.{Reached, Happens, Twice, Holding, Started}
use Rattle.packing.specs.Packing.{state_bytes, pack, unpack}
use Rattle.analysis.specs.Analysis.{done, Analysis}
use Rattle.instant.specs.Calls.{reacts, Starting, Resuming}
use Rattle.instant.specs.Theorems.{Exact}

-- t is the table of the program p, and `marks'` is what `analyse` over it left in the buffer for the marks
pub record MarksOf (t : List ℕ) (p : Stmt) (marks' : List ℕ) : Type 0 where
  pub starts : List ℕ
  pub anys : List ℕ
  pub contexts : List ℕ
  pub marks : List ℕ
  pub starts' : List ℕ
  pub anys' : List ℕ
  pub contexts' : List ℕ
  pub nodes : ℕ
  pub depth : ℕ
  pub program : verdict t ≡ passed p
  pub analysed : Analysis t starts anys contexts marks starts' anys' contexts' marks' (done nodes depth)

-- What a sequence of calls over t leaves in the 128 bytes of state (F-11): a `start`, then any number of `resume`s, each from what the
-- call before left, and each answers code 1. The answers and the buffers may be others each time.
pub data Left (t : List ℕ) : List ℕ → Type 0 where
  fresh :
      (answers state emissions state' emissions' : List ℕ) (taken entries : ℕ) →
      Starting t answers state emissions state' emissions' (reacts 1 taken entries) → Left t (take state_bytes state')
  onward :
      (answers state emissions state' emissions' : List ℕ) (taken entries : ℕ) →
      Left t (take state_bytes state) →
      Resuming t answers state emissions state' emissions' (reacts 1 taken entries) → Left t (take state_bytes state')

-- A closed call is the rules' instant x and an instant of a run, in which `held` is held when it begins; so what `NoUnmarkedReentry` says of
-- such an instant is said of the call. Whichever node stands at two places of its trail has entry 1 in `marks`, and so has one that is held
-- and started.
pub record Marked (p : Stmt) (marks held : List ℕ) (x : Result) (state' emissions' : List ℕ) (code taken entries : ℕ) : Type 0 where
  pub exact : Exact p x state' emissions' code taken entries
  pub happens : Happens p held exact.trail
  pub twice : (n : ℕ) → Twice exact.trail n → get_or marks n 0 ≡ 1
  pub held_started : (n : ℕ) → Holding p held n → Started n exact.trail → get_or marks n 0 ≡ 1

pub record NoUnmarkedReentryOfCalls : Type 0 where
  pub starts :
      (t answers state emissions state' emissions' marks : List ℕ) (p : Stmt) (code taken entries : ℕ) →
      MarksOf t p marks →
      Starting t answers state emissions state' emissions' (reacts code taken entries) →
      Marked p marks (zeros (size p)) (start 0 p answers) state' emissions' code taken entries
  pub resumes :
      (t answers state emissions state' emissions' marks : List ℕ) (p : Stmt) (code taken entries : ℕ) →
      MarksOf t p marks →
      Left t (take state_bytes state) →
      Resuming t answers state emissions state' emissions' (reacts code taken entries) →
      Marked p marks (unpack (size p) state) (resume 0 p (unpack (size p) state) answers) state' emissions' code taken entries
  -- what calls can leave is what a run can reach, packed
  pub same :
      (t : List ℕ) (p : Stmt) → verdict t ≡ passed p → (state : List ℕ) →
      Left t state ↔ ((held : List ℕ) × Reached p held × (state ≡ pack held))
