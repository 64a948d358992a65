-- Demand 1 of the exported functions: what follows from their contracts. The statements alone; the proofs are in proofs/Theorems.antt.
use Rattle.std.specs.Prelude.{ℕ, Some, None, Ok, Err, ◌+◌, ◌*◌, ◌/◌, ◌%◌, ◌≤◌, ◌<◌, ◌≡◌, ◌⊎◌, Bool, List, [], ◌∷◌, length}
use Rattle.esterel.specs.Limits.{max_nodes}
use Rattle.esterel.specs.Codes.{bit}
use Rattle.esterel.specs.Checks.{verdict}
use Rattle.esterel.specs.Refusal.{number_of, Reply, yields, rejects}
use Rattle.esterel.specs.declared.Check.{Check}
use Rattle.table.specs.Check.{length_check}
use Rattle.analysis.specs.Passes.{onto}
use Rattle.analysis.specs.Analysis.{done, Analysis}
use Rattle.instant.specs.Calls.{Starting, Resuming}
use Rattle.instant.specs.declared.Reaction.{Reaction}
use Rattle.listing.specs.Text.{text_of}
use Rattle.listing.specs.Rendering.{Rendering}
use Rattle.text.specs.Reading.{Answer, reads, refuses, ReadAs}
use Rattle.witness.specs.Ticks.{Tells as TellsTick}
use Rattle.witness.specs.declared.Tick.TheVariants.{Ends, Accepted}
use Rattle.blocks.specs.Fetching.{Locating, fetched_as, refused_at, Fetching}
use Rattle.blocks.specs.declared.Span.{Span}
use Rattle.tied.specs.Calls.{Narrowing}
use Rattle.planning.specs.Planning.{reaches, Plans, Hands}
use Rattle.question.specs.Calls.{tells, asked_of}
use Rattle.trial.specs.Calls.{tells as tells_tried, tried_of}
use Rattle.abi.specs.Exported.{returned, short_answer, Analysing, StartingC, ResumingC, RenderingC, ReadingC, PlacedAs, PlacingC, TickingC, FetchingC, LocatingC, NarrowingC, PlanningC, HandingC, AskingC, TryingC}

-- after 0 the call has closed with these figures
abbrev pub closed : (code taken entries : ℕ) → Reply Reaction
closed code taken entries = yields (record { code = code; taken = taken; entries = entries })

abbrev pub Ran : (Reply Reaction → Type 0) → (answer answer' : List ℕ) → Type 0
Ran Call answer answer' = (code taken entries : ℕ) × Call (closed code taken entries) × (answer' ≡ onto (code ∷ taken ∷ entries ∷ []) answer)

-- after 0 a tick is told, or that the table is accepted, and then no byte of the answers has changed
abbrev pub TickShown : (t answers answers' answer answer' : List ℕ) → Type 0
TickShown t answers answers' answer answer' =
    (node n : ℕ) × TellsTick t answers answers' (yields (Ends node n)) × (answer' ≡ onto (1 ∷ node ∷ n ∷ []) answer)

abbrev pub NoTick : (t answers answers' answer answer' : List ℕ) → Type 0
NoTick t answers answers' answer answer' =
    (nodes loops : ℕ) × TellsTick t answers answers' (yields (Accepted nodes loops)) × (answers' ≡ answers) × (answer' ≡ onto (0 ∷ nodes ∷ loops ∷ []) answer)

-- a fetch is refused by a check of this number
abbrev pub FetchRefused : (file : List ℕ) (p : ℕ) (table table' : List ℕ) (number node : ℕ) → Type 0
FetchRefused file p table table' number node = (check : Check) × (number_of check ≡ number) × Fetching file p table table' (Err (refused_at check node))

-- x is what `read` answers of a text, whatever table with room it is lent
abbrev pub AnswerOf : (text : List ℕ) → Answer → Type 0
AnswerOf text x =
    PlacedAs text x × ((table table' : List ℕ) (y : Answer) → 2 * max_nodes ≤ length table → ReadAs text table table' y → y ≡ x)

-- after 0 the place of a refused text is told, or that the text is read
abbrev pub PlaceShown : (text answer answer' : List ℕ) → Type 0
PlaceShown text answer answer' =
    (number node place : ℕ) × AnswerOf text (refuses number node place) × (answer' ≡ onto (number ∷ node ∷ place ∷ []) answer)

abbrev pub NoPlace : (text answer answer' : List ℕ) → Type 0
NoPlace text answer answer' = (nodes signals : ℕ) × AnswerOf text (reads nodes signals) × (answer' ≡ onto (0 ∷ 0 ∷ 0 ∷ []) answer)

-- the figures tell the refusal that another function returned as r, with its place; zeros, if that returned 0
pub record SameRefusal (r : ℕ) (answer answer' : List ℕ) : Type 0 where
  pub refusal : 0 < r → (number node place : ℕ) × (number < 256) × (number + 256 * node ≡ r) × (answer' ≡ onto (number ∷ node ∷ place ∷ []) answer)
  pub zeros : r ≡ 0 → answer' ≡ onto (0 ∷ 0 ∷ 0 ∷ []) answer

-- a function that returned r, and not 0, was refused: r is number + 256 * node of the call's own refusal or, where the answer is too
-- short, of the first that fails of the checks up to 3, and no number is above `most`. The answer has not changed
pub record IsRefused (most : ℕ) (before : Reply (Unit {0})) (Refuses : (number node : ℕ) → Type 0) (answer answer' : List ℕ) (r : ℕ) : Type 0 where
  pub number : ℕ
  pub node : ℕ
  pub returns : r ≡ returned (rejects number node)
  pub some : 1 ≤ number
  pub known : number ≤ most
  pub within : node < max_nodes
  pub own : 3 ≤ length answer → Refuses number node
  pub short : length answer < 3 → short_answer before ≡ rejects number node
  pub same_answer : answer' ≡ answer

pub record Demand1OfExports : Type 0 where
  -- number and node come back from what is returned
  pub back : (number node : ℕ) → number < 256 → (returned (rejects number node) % 256 ≡ number) × (returned (rejects number node) / 256 ≡ node)
  -- where something else than 0 is returned, the call was refused and no buffer has changed
  pub analyse_refused :
      (t k a s m answer k' a' s' m' answer' : List ℕ) (r : ℕ) →
      Analysing t k a s m answer k' a' s' m' answer' r → 0 < r →
      ((k' ≡ k) × (a' ≡ a) × (s' ≡ s) × (m' ≡ m)) ×
      IsRefused 13 (length_check t) (λ number node. Analysis t k a s m k' a' s' m' (rejects number node)) answer answer' r
  pub start_refused :
      (t answers state emissions answer state' emissions' answer' : List ℕ) (r : ℕ) →
      StartingC t answers state emissions answer state' emissions' answer' r → 0 < r →
      ((state' ≡ state) × (emissions' ≡ emissions)) ×
      IsRefused 13 (length_check t) (λ number node. Starting t answers state emissions state' emissions' (rejects number node)) answer answer' r
  pub resume_refused :
      (t answers state emissions answer state' emissions' answer' : List ℕ) (r : ℕ) →
      ResumingC t answers state emissions answer state' emissions' answer' r → 0 < r →
      ((state' ≡ state) × (emissions' ≡ emissions)) ×
      IsRefused 13 (length_check t) (λ number node. Resuming t answers state emissions state' emissions' (rejects number node)) answer answer' r
  pub render_refused :
      (t text answer text' answer' : List ℕ) (r : ℕ) →
      RenderingC t text answer text' answer' r → 0 < r →
      (text' ≡ text) × IsRefused 13 (yields tt) (λ number node. Rendering (text_of (verdict t)) text text' None) answer answer' r
  pub read_refused :
      (text table answer table' answer' : List ℕ) (r : ℕ) →
      ReadingC text table answer table' answer' r → 0 < r →
      (table' ≡ table) × IsRefused 20 (yields tt) (λ number node. (place : ℕ) × ReadAs text table table' (refuses number node place)) answer answer' r
  -- the place of a refusal is refused only for too short an answer
  pub place_refused :
      (text answer answer' : List ℕ) (r : ℕ) →
      PlacingC text answer answer' r → 0 < r →
      (length answer < 3) × (r ≡ returned (rejects 3 0)) × (answer' ≡ answer)
  pub tick_refused :
      (t answers answer answers' answer' : List ℕ) (r : ℕ) →
      TickingC t answers answer answers' answer' r → 0 < r →
      (answers' ≡ answers) × IsRefused 10 (length_check t) (λ number node. TellsTick t answers answers' (rejects number node)) answer answer' r
  pub fetch_refused :
      (file : List ℕ) (p : ℕ) (table answer table' answer' : List ℕ) (r : ℕ) →
      FetchingC file p table answer table' answer' r → 0 < r →
      (table' ≡ table) × IsRefused 18 (yields tt) (FetchRefused file p table table') answer answer' r
  -- a part is refused only for too short an answer
  pub part_refused :
      (file : List ℕ) (p e k : ℕ) (answer answer' : List ℕ) (r : ℕ) →
      LocatingC file p e k answer answer' r → 0 < r →
      (length answer < 3) × (r ≡ returned (rejects 3 0)) × (answer' ≡ answer)
  pub narrow_refused :
      (t ties sets answer sets' answer' : List ℕ) (r : ℕ) →
      NarrowingC t ties sets answer sets' answer' r → 0 < r →
      (sets' ≡ sets) × IsRefused 19 (length_check t) (λ number node. Narrowing t ties sets sets' (rejects number node)) answer answer' r
  pub first_tick_refused :
      (t answer answer' : List ℕ) (r : ℕ) →
      PlanningC t answer answer' r → 0 < r →
      IsRefused 11 (length_check t) (λ number node. Plans t (rejects number node)) answer answer' r
  pub first_tick_answers_refused :
      (t answers answer answers' answer' : List ℕ) (r : ℕ) →
      HandingC t answers answer answers' answer' r → 0 < r →
      (answers' ≡ answers) × IsRefused 11 (length_check t) (λ number node. Hands t answers answers' (rejects number node)) answer answer' r
  pub ask_refused :
      (t : List ℕ) (node code : ℕ) (answer answer' : List ℕ) (r : ℕ) →
      AskingC t node code answer answer' r → 0 < r →
      IsRefused 21 (length_check t) (λ number at. rejects number at ≡ asked_of (verdict t) node code) answer answer' r
  pub trial_refused :
      (t : List ℕ) (node : ℕ) (answer answer' : List ℕ) (r : ℕ) →
      TryingC t node answer answer' r → 0 < r →
      IsRefused 22 (length_check t) (λ number at. rejects number at ≡ tried_of (verdict t) node) answer answer' r
  -- where 0 is returned, the call was not refused, and its figures stand in the answer
  pub analyse_done :
      (t k a s m answer k' a' s' m' answer' : List ℕ) →
      Analysing t k a s m answer k' a' s' m' answer' 0 →
      (n d : ℕ) × Analysis t k a s m k' a' s' m' (done n d) × (answer' ≡ onto (n ∷ d ∷ 0 ∷ []) answer)
  pub start_done :
      (t answers state emissions answer state' emissions' answer' : List ℕ) →
      StartingC t answers state emissions answer state' emissions' answer' 0 → Ran (Starting t answers state emissions state' emissions') answer answer'
  pub resume_done :
      (t answers state emissions answer state' emissions' answer' : List ℕ) →
      ResumingC t answers state emissions answer state' emissions' answer' 0 → Ran (Resuming t answers state emissions state' emissions') answer answer'
  pub render_done :
      (t text answer text' answer' : List ℕ) →
      RenderingC t text answer text' answer' 0 →
      (n : ℕ) × Rendering (text_of (verdict t)) text text' (Some n) × (answer' ≡ onto (n ∷ 0 ∷ 0 ∷ []) answer)
  pub read_done :
      (text table answer table' answer' : List ℕ) →
      ReadingC text table answer table' answer' 0 →
      (nodes signals : ℕ) × ReadAs text table table' (reads nodes signals) × (answer' ≡ onto (nodes ∷ signals ∷ 0 ∷ []) answer)
  pub place_done :
      (text answer answer' : List ℕ) →
      PlacingC text answer answer' 0 → PlaceShown text answer answer' ⊎ NoPlace text answer answer'
  -- of one text the two functions tell the same, where the lent buffers have room: bavzhrono_read returned r, bavzhrono_read_place s
  pub same_place :
      (text table answer table' answer' figures figures' : List ℕ) (r s : ℕ) →
      2 * max_nodes ≤ length table → 3 ≤ length answer → 3 ≤ length figures →
      ReadingC text table answer table' answer' r → PlacingC text figures figures' s →
      (s ≡ 0) × SameRefusal r figures figures'
  pub tick_done :
      (t answers answer answers' answer' : List ℕ) →
      TickingC t answers answer answers' answer' 0 → TickShown t answers answers' answer answer' ⊎ NoTick t answers answers' answer answer'
  pub fetch_done :
      (file : List ℕ) (p : ℕ) (table answer table' answer' : List ℕ) →
      FetchingC file p table answer table' answer' 0 →
      (n e m : ℕ) × Fetching file p table table' (Ok (fetched_as n e m)) × (answer' ≡ onto (n ∷ e ∷ m ∷ []) answer)
  pub part_done :
      (file : List ℕ) (p e k : ℕ) (answer answer' : List ℕ) →
      LocatingC file p e k answer answer' 0 →
      (s : Span) × Locating file p e k s × (answer' ≡ onto (s.from ∷ s.length ∷ 0 ∷ []) answer)
  pub narrow_done :
      (t ties sets answer sets' answer' : List ℕ) →
      NarrowingC t ties sets answer sets' answer' 0 →
      (n : ℕ) × Narrowing t ties sets sets' (yields n) × (answer' ≡ onto (n ∷ 0 ∷ 0 ∷ []) answer)
  pub first_tick_done :
      (t answer answer' : List ℕ) →
      PlanningC t answer answer' 0 →
      (n : ℕ) × Plans t (yields n) × (answer' ≡ onto (n ∷ 0 ∷ 0 ∷ []) answer)
  pub first_tick_answers_done :
      (t answers answer answers' answer' : List ℕ) →
      HandingC t answers answer answers' answer' 0 →
      (n l : ℕ) × Hands t answers answers' (reaches n l) × (answer' ≡ onto (n ∷ l ∷ 0 ∷ []) answer)
  pub ask_done :
      (t : List ℕ) (node code : ℕ) (answer answer' : List ℕ) →
      AskingC t node code answer answer' 0 →
      (b : Bool) × (n : ℕ) × (tells b n ≡ asked_of (verdict t) node code) × (answer' ≡ onto (bit b ∷ n ∷ 0 ∷ []) answer)
  pub trial_done :
      (t : List ℕ) (node : ℕ) (answer answer' : List ℕ) →
      TryingC t node answer answer' 0 →
      (set n : ℕ) × (tells_tried set n ≡ tried_of (verdict t) node) × (answer' ≡ onto (set ∷ n ∷ 0 ∷ []) answer)
