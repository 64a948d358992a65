-- The node of a refusal is one of a table's, what a text is told, and the way in which an exported function returns.
use mathlib.Core.Path.{◌≡◌, refl, subst}
use mathlib.Core.List.{List}
use Prim.Native.Nat.{ℕ, ◌≤◌}
use native.Mathlib.Omega.{arith}
use lib.ListN.{length}
use Rattle.std.specs.Prelude.{Option, Result, Ok, Err, MatchResult}
use Rattle.std.specs.Result.{IsErrAnd, result_err}
use Rattle.std.proofs.lemmas.Result.{err_from_is_err_and}
use Rattle.esterel.specs.Refusal.{Reply, yields, rejects, reply}
use Rattle.esterel.specs.declared.Refusal.{Refusal}
use Rattle.esterel.specs.Checks.{verdict}
use Rattle.analysis.specs.Analysis.{Analysis}
use Rattle.analysis.specs.declared.Analysed.{Analysed}
use Rattle.analysis.proofs.Theorems.{demand2_of_call}
use Rattle.instant.specs.Calls.{Starting, Resuming}
use Rattle.instant.specs.declared.Reaction.{Reaction}
use Rattle.instant.proofs.Theorems.{demand3_of_calls}
use Rattle.text.specs.Reading.{Answer, reads, refuses, answer, ReadAs}
use Rattle.text.specs.declared.Reading.{Reading}
use Rattle.text.specs.declared.Fault.{Fault}
use Rattle.text.proofs.Theorems.{of_read}
use Rattle.witness.specs.Ticks.{Tells as TellsTick}
use Rattle.witness.specs.declared.Tick.{Tick}
use Rattle.witness.proofs.Theorems.{ticks_told}
use Rattle.blocks.specs.Fetching.{Fetching}
use Rattle.blocks.specs.declared.Fetched.{Fetched}
use Rattle.blocks.proofs.Theorems.{of_fetch}
use Rattle.tied.specs.Calls.{Narrowing}
use Rattle.tied.proofs.OfNarrow.{of_narrow}
use Rattle.planning.specs.Planning.{Plans, Hands}
use Rattle.planning.specs.declared.Longest.{Longest}
use Rattle.planning.proofs.Theorems.{of_most_entries, of_find_longest}
use Rattle.question.specs.Calls.{asked_of}
use Rattle.question.specs.declared.Asked.{Asked}
use Rattle.question.proofs.OfAsk.{numbered}
use Rattle.trial.specs.Calls.{tried_of}
use Rattle.trial.specs.declared.Tried.{Tried}
use Rattle.trial.proofs.OfTrial.{numbered as trial-numbered}
use Rattle.abi.specs.Figures.{number_figures, analysed_figures, reaction_figures, reading_figures, fault_figures, tick_figures, longest_figures, asked_figures, tried_figures}
use Rattle.abi.specs.Exported.{Told, Tells, Small, tell, tell_reading, tell_place, tell_fetched, Exported}

pub small-analysed : {t k a s m k' a' s' m' : List ℕ} (r : Reply Analysed) → Analysis t k a s m k' a' s' m' r → Small (tell analysed_figures r)
small-analysed (yields a) o = tt
small-analysed {t} {k} {a} {s} {m} {k'} {a'} {s'} {m'} (rejects number node) o =
    omega (arith, (demand2_of_call.refusals t k a s m k' a' s' m' number node o).within)

module _ (t answers : List ℕ) {state emissions state' emissions' : List ℕ} where
  pub small_started : (r : Reply Reaction) → Starting t answers state emissions state' emissions' r → Small (tell reaction_figures r)
  small_started (yields a) o = tt
  small_started (rejects number node) o =
      omega (arith, (demand3_of_calls.start_refusals t answers state emissions state' emissions' number node o).within)

  pub small_resumed : (r : Reply Reaction) → Resuming t answers state emissions state' emissions' r → Small (tell reaction_figures r)
  small_resumed (yields a) o = tt
  small_resumed (rejects number node) o =
      omega (arith, (demand3_of_calls.resume_refusals t answers state emissions state' emissions' number node o).within)

pub small-read : (text old new : List ℕ) (r : Answer) → ReadAs text old new r → Small (tell_reading r)
small-read text old new (reads nodes n) o = tt
small-read text old new (refuses number node place) o = omega (arith, (of_read.refused text old new number node place o).2)

pub small_tick : (t old new : List ℕ) (r : Reply Tick) → TellsTick t old new r → Small (tell tick_figures r)
small_tick t old new (yields a) o = tt
small_tick t old new (rejects number node) o = omega (arith, (ticks_told.refuses t old new number node o).2)

pub small-fetched : (file : List ℕ) (p : ℕ) (old new : List ℕ) (r : Result Fetched Refusal) → Fetching file p old new r → Small (tell_fetched r)
small-fetched file p old new (Ok a) o = tt
small-fetched file p old new (Err f) o = omega (arith, ((of_fetch.refused file p old new f.check f.node).0 o).1)

pub small-narrowed : (t ties old new : List ℕ) (r : Reply ℕ) → Narrowing t ties old new r → Small (tell number_figures r)
small-narrowed t ties old new (yields a) o = tt
small-narrowed t ties old new (rejects number node) o = omega (arith, (of_narrow.refusals t ties old new number node o).2)

pub small-planned : (t : List ℕ) (r : Reply ℕ) → Plans t r → Small (tell number_figures r)
small-planned t (yields a) o = tt
small-planned t (rejects number node) o = omega (arith, (of_most_entries.refusals t number node o).2)

pub small-longest : (t old new : List ℕ) (r : Reply Longest) → Hands t old new r → Small (tell longest_figures r)
small-longest t old new (yields a) o = tt
small-longest t old new (rejects number node) o = omega (arith, (of_find_longest.refusals t old new number node o).2)

pub small-asked : (t : List ℕ) (node code : ℕ) (r : Reply Asked) → r ≡ asked_of (verdict t) node code → Small (tell asked_figures r)
small-asked t node code (yields a) o = tt
small-asked t node code (rejects number at) o = omega (arith, (numbered t node code number at o).2)

pub small-tried : (t : List ℕ) (node : ℕ) (r : Reply Tried) → r ≡ tried_of (verdict t) node → Small (tell tried_figures r)
small-tried t node (yields a) o = tt
small-tried t node (rejects number at) o = omega (arith, (trial-numbered t node number at o).2)

-- the refusal of a fault, without its place
pub read-told : (x : Result Reading Fault) (y : Result Reading Refusal) → MatchResult x (λ r. y ≡ Ok r) (λ f. IsErrAnd y (λ e. e ≡ f.refusal)) → tell reading_figures (reply y) ≡ tell_reading (answer x)
read-told (Ok r) y h = rw h refl
read-told (Err f) y h = let p = err_from_is_err_and y h in rw (p.1, p.2) refl

-- a fault with its place, or none
pub place-told : (x : Result Reading Fault) (o : Option Fault) → o ≡ result_err x → yields (fault_figures o) ≡ tell_place (answer x)
place-told (Ok r) o h = rw h refl
place-told (Err f) o h = rw h refl

-- where the answer is long enough, what the call answers is told
pub answered : {A : Type 0} (before : Reply (Unit {0})) (Same : Type 0) (Call : A → Type 0) (tell : A → Told) {answer answer' : List ℕ} {r : ℕ} (x : A) {told : Told} → 3 ≤ length answer → Call x → told ≡ tell x → Tells told answer answer' r → Exported before Same Call tell answer answer' r
answered before Same Call tell {answer} {answer'} {r} x h call e o =
    record { short = λ k. absurd (omega arith); whole = λ _. (x, call, subst (λ z. Tells z answer answer' r) e o) }
