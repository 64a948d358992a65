-- What the exported functions return and leave in the lent buffers.
use Rattle.std.specs.Prelude.{ℕ, ◌+◌, ◌*◌, ◌<◌, ◌≤◌, ◌≡◌, Option, Some, None, Result, List, [], ◌∷◌, length}
use Rattle.esterel.specs.Limits.{max_nodes}
use Rattle.esterel.specs.Refusal.{Reply, yields, rejects, reply}
use Rattle.esterel.specs.declared.Refusal.{Refusal}
use Rattle.esterel.specs.Checks.{verdict}
use Rattle.table.specs.Check.{length_check}
use Rattle.analysis.specs.Passes.{onto}
use Rattle.analysis.specs.Analysis.{Analysis}
use Rattle.instant.specs.Calls.{Starting, Resuming}
use Rattle.listing.specs.Text.{text_of}
use Rattle.listing.specs.Rendering.{Rendering}
use Rattle.text.specs.Reading.{Answer, reads, refuses, ReadAs}
use Rattle.witness.specs.Ticks.{Tells as TellsTick}
use Rattle.blocks.specs.Fetching.{Locating, Fetching}
use Rattle.blocks.specs.declared.Span.{Span}
use Rattle.blocks.specs.declared.Fetched.{Fetched}
use Rattle.tied.specs.Calls.{Narrowing}
use Rattle.planning.specs.Planning.{Plans, Hands}
use Rattle.question.specs.Calls.{asked_of}
use Rattle.trial.specs.Calls.{tried_of}
use Rattle.abi.specs.Figures.{number_figures, analysed_figures, reaction_figures, tick_figures, fetched_figures, span_figures, longest_figures, asked_figures, tried_figures}

-- what a call tells: its figures, or the number and the node of a refusal
abbrev pub Told : Type 0
Told = Reply (List ℕ)

-- what is returned: 0, or number + 256 * node
abbrev pub returned : Told → ℕ
returned (yields figures) = 0
returned (rejects number node) = number + 256 * node

-- the answer afterwards: the figures in front, and the old entries past them; after a refusal it is as it was
abbrev pub answer_after : Told → List ℕ → List ℕ
answer_after (yields figures) old = onto figures old
answer_after (rejects number node) old = old

pub record Tells (told : Told) (answer answer' : List ℕ) (r : ℕ) : Type 0 where
  pub returns : r ≡ returned told
  pub answered : answer' ≡ answer_after told answer

-- the most that a node can be with its number in 32 bits
abbrev pub max_node : ℕ
max_node = 16777215

abbrev pub Small : Told → Type 0
Small (yields figures) = Unit {0}
Small (rejects number node) = node ≤ max_node

-- what a call's answer tells
abbrev pub tell : {A : Type 0} → (A → List ℕ) → Reply A → Told
tell figures (yields a) = yields (figures a)
tell figures (rejects number node) = rejects number node

-- too short a text is refused as check 3 refuses too short a buffer
abbrev pub tell_rendered : Option ℕ → Told
tell_rendered (Some length) = yields (number_figures length)
tell_rendered None = rejects 3 0

abbrev pub tell_reading : Answer → Told
tell_reading (reads nodes signals) = yields (nodes ∷ signals ∷ 0 ∷ [])
tell_reading (refuses number node place) = rejects number node

-- the refusal of a text as figures, with its place (F-9)
abbrev pub tell_place : Answer → Told
tell_place (reads nodes signals) = yields (0 ∷ 0 ∷ 0 ∷ [])
tell_place (refuses number node place) = yields (number ∷ node ∷ place ∷ [])

abbrev pub tell_fetched : Result Fetched Refusal → Told
tell_fetched r = tell fetched_figures (reply r)

-- a part of the file is always told
abbrev pub tell_span : Span → Told
tell_span span = yields (span_figures span)

-- an answer of fewer than three entries fails check 3, which comes after the call's checks before it
abbrev pub short_answer : (before : Reply (Unit {0})) → Told
short_answer (yields passed) = rejects 3 0
short_answer (rejects number node) = rejects number node

-- an exported function over a call whose checks before 3 come to `before`: with too short an answer that is told and every buffer is
-- `Same`; else the call's own contract holds, and its answer is told
pub record Exported {A : Type 0} (before : Reply (Unit {0})) (Same : Type 0) (Call : A → Type 0) (tell : A → Told) (answer answer' : List ℕ) (r : ℕ) : Type 0 where
  pub short : length answer < 3 → Same × Tells (short_answer before) answer answer' r
  pub whole : 3 ≤ length answer → (x : A) × Call x × Tells (tell x) answer answer' r

abbrev pub Analysing : (t k a s m answer k' a' s' m' answer' : List ℕ) → ℕ → Type 0
Analysing t k a s m answer k' a' s' m' answer' r =
    Exported (length_check t) ((k' ≡ k) × (a' ≡ a) × (s' ≡ s) × (m' ≡ m)) (Analysis t k a s m k' a' s' m') (tell analysed_figures) answer answer' r

abbrev pub StartingC : (t answers state emissions answer state' emissions' answer' : List ℕ) → ℕ → Type 0
StartingC t answers state emissions answer state' emissions' answer' r =
    Exported (length_check t) ((state' ≡ state) × (emissions' ≡ emissions)) (Starting t answers state emissions state' emissions') (tell reaction_figures) answer answer' r

abbrev pub ResumingC : (t answers state emissions answer state' emissions' answer' : List ℕ) → ℕ → Type 0
ResumingC t answers state emissions answer state' emissions' answer' r =
    Exported (length_check t) ((state' ≡ state) × (emissions' ≡ emissions)) (Resuming t answers state emissions state' emissions') (tell reaction_figures) answer answer' r

-- a refused table is a text as any other: no check comes before 3
abbrev pub RenderingC : (t text answer text' answer' : List ℕ) → ℕ → Type 0
RenderingC t text answer text' answer' r = Exported (yields tt) (text' ≡ text) (Rendering (text_of (verdict t)) text text') tell_rendered answer answer' r

-- check 3 comes first (F-1)
abbrev pub ReadingC : (text table answer table' answer' : List ℕ) → ℕ → Type 0
ReadingC text table answer table' answer' r = Exported (yields tt) (table' ≡ table) (ReadAs text table table') tell_reading answer answer' r

-- what a text is told where the lent table has room
abbrev pub PlacedAs : List ℕ → Answer → Type 0
PlacedAs text x = (table table' : List ℕ) × (2 * max_nodes ≤ length table) × ReadAs text table table' x

-- no other buffer is written, and only check 3 of the answer refuses
abbrev pub PlacingC : (text answer answer' : List ℕ) → ℕ → Type 0
PlacingC text answer answer' r = Exported (yields tt) (Unit {0}) (PlacedAs text) tell_place answer answer' r

abbrev pub TickingC : (t answers answer answers' answer' : List ℕ) → ℕ → Type 0
TickingC t answers answer answers' answer' r = Exported (length_check t) (answers' ≡ answers) (TellsTick t answers answers') (tell tick_figures) answer answer' r

-- check 3 comes first (F-4)
abbrev pub FetchingC : (file : List ℕ) (program : ℕ) (table answer table' answer' : List ℕ) → ℕ → Type 0
FetchingC file p table answer table' answer' r = Exported (yields tt) (table' ≡ table) (Fetching file p table table') tell_fetched answer answer' r

-- no other buffer is written, and only check 3 of the answer refuses
abbrev pub LocatingC : (file : List ℕ) (program edition part : ℕ) (answer answer' : List ℕ) → ℕ → Type 0
LocatingC file p e k answer answer' r = Exported (yields tt) (Unit {0}) (Locating file p e k) tell_span answer answer' r

abbrev pub NarrowingC : (t ties sets answer sets' answer' : List ℕ) → ℕ → Type 0
NarrowingC t ties sets answer sets' answer' r = Exported (length_check t) (sets' ≡ sets) (Narrowing t ties sets sets') (tell number_figures) answer answer' r

-- no other buffer is written
abbrev pub PlanningC : (t answer answer' : List ℕ) → ℕ → Type 0
PlanningC t answer answer' r = Exported (length_check t) (Unit {0}) (Plans t) (tell number_figures) answer answer' r

abbrev pub HandingC : (t answers answer answers' answer' : List ℕ) → ℕ → Type 0
HandingC t answers answer answers' answer' r = Exported (length_check t) (answers' ≡ answers) (Hands t answers answers') (tell longest_figures) answer answer' r

-- no other buffer is written
abbrev pub AskingC : (t : List ℕ) (node code : ℕ) (answer answer' : List ℕ) → ℕ → Type 0
AskingC t node code answer answer' r = Exported (length_check t) (Unit {0}) (λ x. x ≡ asked_of (verdict t) node code) (tell asked_figures) answer answer' r

abbrev pub TryingC : (t : List ℕ) (node : ℕ) (answer answer' : List ℕ) → ℕ → Type 0
TryingC t node answer answer' r = Exported (length_check t) (Unit {0}) (λ x. x ≡ tried_of (verdict t) node) (tell tried_figures) answer answer' r
