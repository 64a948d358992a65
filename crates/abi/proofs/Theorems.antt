-- Demand 1 of the exported functions: each contract by what was told.
use mathlib.Core.Path.{◌≡◌, refl, sym, ap, ◌∙◌}
use mathlib.Core.Logic.{◌⊎◌, inl, inr, ⊎_elim}
use mathlib.Core.Bool.{Bool, true, false, cond}
use mathlib.Core.List.{List, [], ◌∷◌, ◌++◌}
use Prim.Native.Nat.{ℕ, ◌*◌, ◌≤◌, ◌<◌}
use native.Mathlib.Decide.{dec_lt}
use native.Mathlib.Omega.{arith}
use lib.Dec.{leb}
use lib.ListN.{length, drop}
use Rattle.std.specs.Prelude.{Option, Some, None, Result, Ok, Err}
use Rattle.esterel.specs.Limits.{max_nodes}
use Rattle.esterel.specs.Refusal.{number_of, Reply, yields, rejects}
use Rattle.esterel.specs.declared.Refusal.{Refusal}
use Rattle.esterel.proofs.Replies.{rejects≢yields}
use Rattle.esterel.specs.Checks.{verdict}
use Rattle.table.specs.Check.{length_check}
use Rattle.table.proofs.Found.{length-refusal}
use Rattle.analysis.specs.Passes.{onto}
use Rattle.analysis.specs.Analysis.{Analysis}
use Rattle.analysis.proofs.Theorems.{demand2_of_call}
use Rattle.instant.specs.Calls.{Starting, Resuming}
use Rattle.instant.specs.Theorems.{Unchanged}
use Rattle.instant.proofs.Theorems.{demand3_of_calls}
use Rattle.listing.specs.Text.{text_of}
use Rattle.listing.specs.Rendering.{Rendering}
use Rattle.text.specs.Reading.{Answer, reads, refuses, ReadAs}
use Rattle.text.proofs.Theorems.{of_read, number-known}
use Rattle.witness.specs.Ticks.{Tells as TellsTick}
use Rattle.witness.specs.declared.Tick.{Tick}
use Rattle.witness.specs.declared.Tick.TheVariants.{Ends, Accepted}
use Rattle.witness.proofs.Theorems.{ticks_told}
use Rattle.blocks.specs.Fetching.{fetched_as, Fetching}
use Rattle.blocks.specs.declared.Fetched.{Fetched}
use Rattle.blocks.proofs.Theorems.{of_fetch, reason_known}
use Rattle.tied.specs.Calls.{Narrowing}
use Rattle.tied.proofs.OfNarrow.{of_narrow}
use Rattle.planning.specs.Planning.{Plans, Hands}
use Rattle.planning.proofs.Theorems.{of_most_entries, of_find_longest}
use Rattle.question.specs.Calls.{asked_of}
use Rattle.question.proofs.OfAsk.{numbered}
use Rattle.trial.specs.Calls.{tried_of}
use Rattle.trial.proofs.OfTrial.{numbered as trial-numbered}
use Rattle.abi.specs.Figures.{number_figures, analysed_figures, reaction_figures, tick_figures, longest_figures, asked_figures, tried_figures}
use Rattle.abi.specs.Exported.{Told, returned, answer_after, Tells, tell, tell_rendered, tell_reading, tell_place, tell_fetched, tell_span, short_answer, Exported, ReadingC, PlacedAs, PlacingC, LocatingC}
use Rattle.abi.specs.Theorems.{TickShown, NoTick, AnswerOf, PlaceShown, NoPlace, SameRefusal, FetchRefused, IsRefused, Demand1OfExports}

-- ---- what is told by the number returned

-- a refusal of these checks, by number and node
pub record Known (most : ℕ) (told : Told) : Type 0 where
  pub number : ℕ
  pub node : ℕ
  pub is : told ≡ rejects number node
  pub some : 1 ≤ number
  pub known : number ≤ most
  pub within : node < max_nodes

-- checks 1 to 3 come to one
short-known : (most : ℕ) → 3 ≤ most → (before : Reply (Unit {0})) → ((number node : ℕ) → before ≡ rejects number node → (1 ≤ number) × (number ≤ 2) × (0 ≡ node)) → Known most (short_answer before)
short-known most m (yields passed) h = record { number = 3; node = 0; is = refl; some = omega arith; known = omega arith; within = omega arith }
short-known most m (rejects number node) h =
    let (some, known, none) = h number node refl in
    record { number = number; node = node; is = refl; some = some; known = omega arith; within = omega arith }

module _ {A : Type 0} (before : Reply (Unit {0})) (Same : Type 0) (Call : A → Type 0) (tell : A → Told) (Refuses : ℕ → ℕ → Type 0) (answer answer' : List ℕ) (most : ℕ) (first : Known most (short_answer before)) where
  -- a call that tells of a refusal is refused, and leaves its buffers the same
  pub record Own (x : A) : Type 0 where
    pub known : Known most (tell x)
    pub refuses : Refuses known.number known.node
    pub same : Same

  is-refused : {r : ℕ} {told : Told} (k : Known most told) → (3 ≤ length answer → Refuses k.number k.node) → (length answer < 3 → short_answer before ≡ told) → Tells told answer answer' r → IsRefused most before Refuses answer answer' r
  is-refused {r} k own short o =
      record {
        number = k.number;
        node = k.node;
        returns = o.returns ∙ ap returned k.is;
        some = k.some;
        known = k.known;
        within = k.within;
        own = own;
        short = λ l. short l ∙ k.is;
        same_answer = o.answered ∙ ap (λ z. answer_after z answer) k.is;
      }

  refused-is : ((x : A) → Call x → 0 < returned (tell x) → Own x) → (r : ℕ) → Exported before Same Call tell answer answer' r → 0 < r → Same × IsRefused most before Refuses answer answer' r
  refused-is by r o h = go (dec_lt (length answer) 3)
    where
      go : Dec (length answer < 3) → Same × IsRefused most before Refuses answer answer' r
      go (yes l) =
          let (same, told) = o.short l in
          (same, is-refused first (λ m. absurd (omega arith)) (λ _. refl) told)
      go (no l) =
          let (x, call, told) = o.whole (omega arith) in
          let own = by x call (omega (arith, told.returns)) in
          (own.same, is-refused own.known (λ _. own.refuses) (λ m. absurd (omega arith)) told)

  -- after 0 the answer was long enough, and the call told of figures
  done-told : Exported before Same Call tell answer answer' 0 → (x : A) × Call x × (returned (tell x) ≡ 0) × (answer' ≡ answer_after (tell x) answer)
  done-told o = go (dec_lt (length answer) 3)
    where
      go : Dec (length answer < 3) → (x : A) × Call x × (returned (tell x) ≡ 0) × (answer' ≡ answer_after (tell x) answer)
      go (yes l) = absurd (omega (arith, (o.short l).1.returns, ap returned first.is, first.some))
      go (no l) = let (x, call, told) = o.whole (omega arith) in (x, call, sym told.returns, told.answered)

-- calls that answer a result: what is known where one is refused
pub record Fails (most : ℕ) (Same : Type 0) (number node : ℕ) : Type 0 where
  pub some : 1 ≤ number
  pub known : number ≤ most
  pub within : node < max_nodes
  pub same : Same

module _ {A : Type 0} (before : Reply (Unit {0})) (Same : Type 0) (Call : Reply A → Type 0) (figures : A → List ℕ) (answer answer' : List ℕ) (most : ℕ) (first : Known most (short_answer before)) (fails : (number node : ℕ) → Call (rejects number node) → Fails most Same number node) where
  abbrev Refuses : ℕ → ℕ → Type 0
  Refuses number node = Call (rejects number node)

  own_reply : (x : Reply A) → Call x → 0 < returned (tell figures x) → Own before Same Call (tell figures) Refuses answer answer' most first x
  own_reply (yields a) o h = absurd (omega arith)
  own_reply (rejects number node) o h =
      let f = fails number node o in
      record {
        known = record { number = number; node = node; is = refl; some = f.some; known = f.known; within = f.within };
        refuses = o;
        same = f.same;
      }

  reply_refused : (r : ℕ) → Exported before Same Call (tell figures) answer answer' r → 0 < r → Same × IsRefused most before Refuses answer answer' r
  reply_refused r o h = refused-is before Same Call (tell figures) Refuses answer answer' most first own_reply r o h

  reply_done : Exported before Same Call (tell figures) answer answer' 0 → (a : A) × Call (yields a) × (answer' ≡ onto (figures a) answer)
  reply_done o =
      let (x, call, z, e) = done-told before Same Call (tell figures) Refuses answer answer' most first o in
      go x call z e
    where
      go : (x : Reply A) → Call x → returned (tell figures x) ≡ 0 → answer' ≡ answer_after (tell figures x) answer → (a : A) × Call (yields a) × (answer' ≡ onto (figures a) answer)
      go (yields a) call z e = (a, call, e)
      go (rejects number node) call z e = absurd (omega (arith, (fails number node call).some))

-- ---- the functions

first-known : (most : ℕ) → 3 ≤ most → (t : List ℕ) → Known most (short_answer (length_check t))
first-known most m t = short-known most m (length_check t) (length-refusal t)

length-known : (t : List ℕ) → Known 13 (short_answer (length_check t))
length-known t = first-known 13 (omega arith) t

tick_known : (t : List ℕ) → Known 10 (short_answer (length_check t))
tick_known t = first-known 10 (omega arith) t

narrow_known : (t : List ℕ) → Known 19 (short_answer (length_check t))
narrow_known t = first-known 19 (omega arith) t

plan_known : (t : List ℕ) → Known 11 (short_answer (length_check t))
plan_known t = first-known 11 (omega arith) t

ask_known : (t : List ℕ) → Known 21 (short_answer (length_check t))
ask_known t = first-known 21 (omega arith) t

trial_known : (t : List ℕ) → Known 22 (short_answer (length_check t))
trial_known t = first-known 22 (omega arith) t

none-known : (most : ℕ) → 3 ≤ most → Known most (short_answer (yields tt))
none-known most m = short-known most m (yields tt) (λ number node e. absurd (rejects≢yields (sym e)))

render_known : Known 13 (short_answer (yields tt))
render_known = none-known 13 (omega arith)

read_known : Known 20 (short_answer (yields tt))
read_known = none-known 20 (omega arith)

fetch_known : Known 18 (short_answer (yields tt))
fetch_known = none-known 18 (omega arith)

analyse_fails : (t k a s m k' a' s' m' : List ℕ) (number node : ℕ) → Analysis t k a s m k' a' s' m' (rejects number node) → Fails 13 ((k' ≡ k) × (a' ≡ a) × (s' ≡ s) × (m' ≡ m)) number node
analyse_fails t k a s m k' a' s' m' number node o =
    let u = demand2_of_call.refusals t k a s m k' a' s' m' number node o in
    record { some = u.some; known = omega (arith, u.known); within = u.within; same = (u.same_starts, u.same_anys, u.same_contexts, u.same_marks) }

-- either kind of instant, by what its refusals are
react_fails : {state emissions state' emissions' : List ℕ} (number node : ℕ) → Unchanged number node state emissions state' emissions' → Fails 13 ((state' ≡ state) × (emissions' ≡ emissions)) number node
react_fails number node u = record { some = u.some; known = u.known; within = u.within; same = (u.same_state, u.same_emissions) }

tick_fails : (t old new : List ℕ) (number node : ℕ) → TellsTick t old new (rejects number node) → Fails 10 (new ≡ old) number node
tick_fails t old new number node o =
    let (some, known, below, same) = ticks_told.refuses t old new number node o in
    record { some = some; known = known; within = below; same = same }

narrow_fails : (t ties old new : List ℕ) (number node : ℕ) → Narrowing t ties old new (rejects number node) → Fails 19 (new ≡ old) number node
narrow_fails t ties old new number node o =
    let (some, known, below, same) = of_narrow.refusals t ties old new number node o in
    record { some = some; known = ⊎_elim (λ k. omega arith) (λ k. omega arith) known; within = below; same = same }

plan_fails : (t : List ℕ) (number node : ℕ) → Plans t (rejects number node) → Fails 11 (Unit {0}) number node
plan_fails t number node o =
    let (some, known, below) = of_most_entries.refusals t number node o in
    record { some = some; known = known; within = below; same = tt }

longest_fails : (t old new : List ℕ) (number node : ℕ) → Hands t old new (rejects number node) → Fails 11 (new ≡ old) number node
longest_fails t old new number node o =
    let (some, known, below, same) = of_find_longest.refusals t old new number node o in
    record { some = some; known = known; within = below; same = same }

ask_fails : (t : List ℕ) (node code number at : ℕ) → rejects number at ≡ asked_of (verdict t) node code → Fails 21 (Unit {0}) number at
ask_fails t node code number at o =
    let (some, known, below) = numbered t node code number at o in
    record { some = some; known = known; within = below; same = tt }

trial_fails : (t : List ℕ) (node number at : ℕ) → rejects number at ≡ tried_of (verdict t) node → Fails 22 (Unit {0}) number at
trial_fails t node number at o =
    let (some, known, below) = trial-numbered t node number at o in
    record { some = some; known = known; within = below; same = tt }

-- a tick is shown, or the table is accepted
tick_done_lem : (t old new answer answer' : List ℕ) (x : Tick) → TellsTick t old new (yields x) → answer' ≡ onto (tick_figures x) answer → TickShown t old new answer answer' ⊎ NoTick t old new answer answer'
tick_done_lem t old new answer answer' (Ends node n) o e = inl (node, n, o, e)
tick_done_lem t old new answer answer' (Accepted nodes loops) o e =
    let (p, v, n, d, same) = ticks_told.accepts t old new nodes loops o in
    inr (nodes, loops, o, same, e)

module _ (text old new answer answer' : List ℕ) where
  too_short_same : Rendering text old new None → new ≡ old
  too_short_same o = go (leb (length text) (length old)) o.answer o.content
    where
      go : (b : Bool) → None ≡ cond b (Some (length text)) None → new ≡ cond b (text ++ drop (length text) old) old → new ≡ old
      go true e c = cc
      go false e c = c

  render_own : (x : Option ℕ) → Rendering text old new x → 0 < returned (tell_rendered x) → Own (yields tt) (new ≡ old) (Rendering text old new) tell_rendered (λ number node. Rendering text old new None) answer answer' 13 render_known x
  render_own (Some n) o h = absurd (omega arith)
  render_own None o h =
      record {
        known = record { number = 3; node = 0; is = refl; some = omega arith; known = omega arith; within = omega arith };
        refuses = o;
        same = too_short_same o;
      }

  render_done_lem : (x : Option ℕ) → Rendering text old new x → returned (tell_rendered x) ≡ 0 → answer' ≡ answer_after (tell_rendered x) answer → (n : ℕ) × Rendering text old new (Some n) × (answer' ≡ onto (n ∷ 0 ∷ 0 ∷ []) answer)
  render_done_lem (Some n) o z e = (n, o, e)
  render_done_lem None o z e = absurd (omega arith)

module _ (text old new answer answer' : List ℕ) where
  read-own : (x : Answer) → ReadAs text old new x → 0 < returned (tell_reading x) → Own (yields tt) (new ≡ old) (ReadAs text old new) tell_reading (λ number node. (place : ℕ) × ReadAs text old new (refuses number node place)) answer answer' 20 read_known x
  read-own (reads nodes n) o h = absurd (omega arith)
  read-own (refuses number node place) o h =
      let (same, is, below, inside, within) = of_read.refused text old new number node place o in
      let (some, known) = number-known is in
      record {
        known = record { number = number; node = node; is = refl; some = some; known = known; within = below };
        refuses = (place, o);
        same = same;
      }

  read_done_lem : (x : Answer) → ReadAs text old new x → returned (tell_reading x) ≡ 0 → answer' ≡ answer_after (tell_reading x) answer → (nodes n : ℕ) × ReadAs text old new (reads nodes n) × (answer' ≡ onto (nodes ∷ n ∷ 0 ∷ []) answer)
  read_done_lem (reads nodes n) o z e = (nodes, n, o, e)
  read_done_lem (refuses number node place) o z e = absurd (omega (arith, (number-known (of_read.refused text old new number node place o).1).0))

module _ (file : List ℕ) (p : ℕ) (old new answer answer' : List ℕ) where
  fetch_own : (x : Result Fetched Refusal) → Fetching file p old new x → 0 < returned (tell_fetched x) → Own (yields tt) (new ≡ old) (Fetching file p old new) tell_fetched (FetchRefused file p old new) answer answer' 18 fetch_known x
  fetch_own (Ok a) o h = absurd (omega arith)
  fetch_own (Err f) o h =
      let (same, no_node, reason) = (of_fetch.refused file p old new f.check f.node).0 o in
      let (some, known) = reason_known reason in
      record {
        known = record { number = number_of f.check; node = f.node; is = refl; some = some; known = known; within = omega arith };
        refuses = (f.check, refl, o);
        same = same;
      }

  fetch_done_lem : (x : Result Fetched Refusal) → Fetching file p old new x → returned (tell_fetched x) ≡ 0 → answer' ≡ answer_after (tell_fetched x) answer → (n e m : ℕ) × Fetching file p old new (Ok (fetched_as n e m)) × (answer' ≡ onto (n ∷ e ∷ m ∷ []) answer)
  fetch_done_lem (Ok a) o z e = (a.length, a.edition, a.parts, o, e)
  fetch_done_lem (Err f) o z e = absurd (omega (arith, (reason_known ((of_fetch.refused file p old new f.check f.node).0 o).2).0))

part-refused : (file : List ℕ) (p e k : ℕ) (answer answer' : List ℕ) (r : ℕ) → LocatingC file p e k answer answer' r → 0 < r → (length answer < 3) × (r ≡ returned (rejects 3 0)) × (answer' ≡ answer)
part-refused file p e k answer answer' r o h = go (dec_lt (length answer) 3)
  where
    go : Dec (length answer < 3) → (length answer < 3) × (r ≡ returned (rejects 3 0)) × (answer' ≡ answer)
    go (yes l) = let (same, told) = o.short l in (l, told.returns, told.answered)
    go (no l) = let (x, call, told) = o.whole (omega arith) in absurd (omega (arith, told.returns))

-- the place of a refusal: the call itself refuses nothing
place-returned : (x : Answer) → returned (tell_place x) ≡ 0
place-returned (reads nodes n) = refl
place-returned (refuses number node place) = refl

place-refused : (text answer answer' : List ℕ) (r : ℕ) → PlacingC text answer answer' r → 0 < r → (length answer < 3) × (r ≡ returned (rejects 3 0)) × (answer' ≡ answer)
place-refused text answer answer' r o h = go (dec_lt (length answer) 3)
  where
    go : Dec (length answer < 3) → (length answer < 3) × (r ≡ returned (rejects 3 0)) × (answer' ≡ answer)
    go (yes l) = let (same, told) = o.short l in (l, told.returns, told.answered)
    go (no l) = let (x, call, told) = o.whole (omega arith) in absurd (omega (arith, told.returns, place-returned x))

-- what is told of a text with one table that has room is told with each
answer_of_lem : (text : List ℕ) (x : Answer) → PlacedAs text x → AnswerOf text x
answer_of_lem text x call =
    let (table, table', room, told) = call in
    (call, (λ other other' y h r. of_read.same_answer text other other' table table' y x h room r told))

place-done : (text answer answer' : List ℕ) (x : Answer) → PlacedAs text x → answer' ≡ answer_after (tell_place x) answer → PlaceShown text answer answer' ⊎ NoPlace text answer answer'
place-done text answer answer' (reads nodes n) call e = inr (nodes, n, answer_of_lem text (reads nodes n) call, e)
place-done text answer answer' (refuses number node place) call e = inl (number, node, place, answer_of_lem text (refuses number node place) call, e)

-- beside what `read` returns
module _ (text table table' figures figures' : List ℕ) (r : ℕ) where
  same-refusal : (x : Answer) → ReadAs text table table' x → r ≡ returned (tell_reading x) → figures' ≡ answer_after (tell_place x) figures → SameRefusal r figures figures'
  same-refusal (reads nodes n) o z e = record { refusal = λ h. absurd (omega arith); zeros = λ _. e }
  same-refusal (refuses number node place) o z e =
      let (some, known) = number-known (of_read.refused text table table' number node place o).1 in
      record { refusal = λ h. (number, node, place, omega arith, sym z, e); zeros = λ k. absurd (omega arith) }

  same_place_lem : {answer answer' : List ℕ} {s : ℕ} → 2 * max_nodes ≤ length table → 3 ≤ length answer → 3 ≤ length figures → ReadingC text table answer table' answer' r → PlacingC text figures figures' s → (s ≡ 0) × SameRefusal r figures figures'
  same_place_lem room h k o p =
      let (x, read, told) = o.whole h in
      let (y, placed, shown) = p.whole k in
      let e = (answer_of_lem text y placed).1 table table' x room read in
      (shown.returns ∙ place-returned y, same-refusal x read told.returns (shown.answered ∙ ap (λ z. answer_after (tell_place z) figures) (sym e)))

pub demand1_of_exports : Demand1OfExports
demand1_of_exports =
    record {
      back = λ number node h. (omega arith, omega arith);
      analyse_refused = λ t k a s m answer k' a' s' m' answer' r o h.
          reply_refused (length_check t) _ (Analysis t k a s m k' a' s' m') analysed_figures answer answer' 13 (length-known t) (analyse_fails t k a s m k' a' s' m') r o h;
      start_refused = λ t answers state emissions answer state' emissions' answer' r o h.
          reply_refused (length_check t) _ (Starting t answers state emissions state' emissions') reaction_figures answer answer' 13 (length-known t) (λ number node c. react_fails number node (demand3_of_calls.start_refusals t answers state emissions state' emissions' number node c)) r o h;
      resume_refused = λ t answers state emissions answer state' emissions' answer' r o h.
          reply_refused (length_check t) _ (Resuming t answers state emissions state' emissions') reaction_figures answer answer' 13 (length-known t) (λ number node c. react_fails number node (demand3_of_calls.resume_refusals t answers state emissions state' emissions' number node c)) r o h;
      render_refused = λ t text answer text' answer' r o h.
          refused-is (yields tt) _ _ tell_rendered _ answer answer' 13 render_known (render_own (text_of (verdict t)) text text' answer answer') r o h;
      analyse_done = λ t k a s m answer k' a' s' m' answer' o.
          (let (a, call, e) = reply_done (length_check t) _ (Analysis t k a s m k' a' s' m') analysed_figures answer answer' 13 (length-known t) (analyse_fails t k a s m k' a' s' m') o in (a.nodes, a.loops, call, e));
      start_done = λ t answers state emissions answer state' emissions' answer' o.
          (let (a, call, e) = reply_done (length_check t) _ (Starting t answers state emissions state' emissions') reaction_figures answer answer' 13 (length-known t) (λ number node c. react_fails number node (demand3_of_calls.start_refusals t answers state emissions state' emissions' number node c)) o in (a.code, a.taken, a.entries, call, e));
      resume_done = λ t answers state emissions answer state' emissions' answer' o.
          (let (a, call, e) = reply_done (length_check t) _ (Resuming t answers state emissions state' emissions') reaction_figures answer answer' 13 (length-known t) (λ number node c. react_fails number node (demand3_of_calls.resume_refusals t answers state emissions state' emissions' number node c)) o in (a.code, a.taken, a.entries, call, e));
      render_done = λ t text answer text' answer' o.
          (let (x, call, z, e) = done-told (yields tt) _ _ tell_rendered (λ number node. Unit {0}) answer answer' 13 render_known o in
          render_done_lem (text_of (verdict t)) text text' answer answer' x call z e);
      read_refused = λ text table answer table' answer' r o h.
          refused-is (yields tt) _ _ tell_reading _ answer answer' 20 read_known (read-own text table table' answer answer') r o h;
      place_refused = place-refused;
      place_done = λ text answer answer' o.
          (let (x, call, z, e) = done-told (yields tt) _ _ tell_place (λ number node. Unit {0}) answer answer' 3 (none-known 3 (omega arith)) o in
          place-done text answer answer' x call e);
      same_place = λ text table answer table' answer' figures figures' r s room h k o p.
          same_place_lem text table table' figures figures' r room h k o p;
      read_done = λ text table answer table' answer' o.
          (let (x, call, z, e) = done-told (yields tt) _ _ tell_reading (λ number node. Unit {0}) answer answer' 20 read_known o in
          read_done_lem text table table' answer answer' x call z e);
      tick_refused = λ t answers answer answers' answer' r o h.
          reply_refused (length_check t) _ (TellsTick t answers answers') tick_figures answer answer' 10 (tick_known t) (tick_fails t answers answers') r o h;
      tick_done = λ t answers answer answers' answer' o.
          (let (a, call, e) = reply_done (length_check t) _ (TellsTick t answers answers') tick_figures answer answer' 10 (tick_known t) (tick_fails t answers answers') o in tick_done_lem t answers answers' answer answer' a call e);
      fetch_refused = λ file p table answer table' answer' r o h.
          refused-is (yields tt) _ _ tell_fetched _ answer answer' 18 fetch_known (fetch_own file p table table' answer answer') r o h;
      fetch_done = λ file p table answer table' answer' o.
          (let (x, call, z, e) = done-told (yields tt) _ _ tell_fetched (λ number node. Unit {0}) answer answer' 18 fetch_known o in
          fetch_done_lem file p table table' answer answer' x call z e);
      narrow_refused = λ t ties sets answer sets' answer' r o h.
          reply_refused (length_check t) _ (Narrowing t ties sets sets') number_figures answer answer' 19 (narrow_known t) (narrow_fails t ties sets sets') r o h;
      narrow_done = λ t ties sets answer sets' answer' o.
          (let (a, call, e) = reply_done (length_check t) _ (Narrowing t ties sets sets') number_figures answer answer' 19 (narrow_known t) (narrow_fails t ties sets sets') o in (a, call, e));
      first_tick_refused = λ t answer answer' r o h.
          (reply_refused (length_check t) _ (Plans t) number_figures answer answer' 11 (plan_known t) (plan_fails t) r o h).1;
      first_tick_done = λ t answer answer' o.
          (let (a, call, e) = reply_done (length_check t) _ (Plans t) number_figures answer answer' 11 (plan_known t) (plan_fails t) o in (a, call, e));
      first_tick_answers_refused = λ t answers answer answers' answer' r o h.
          reply_refused (length_check t) _ (Hands t answers answers') longest_figures answer answer' 11 (plan_known t) (longest_fails t answers answers') r o h;
      first_tick_answers_done = λ t answers answer answers' answer' o.
          (let (a, call, e) = reply_done (length_check t) _ (Hands t answers answers') longest_figures answer answer' 11 (plan_known t) (longest_fails t answers answers') o in (a.entries, a.length, call, e));
      ask_refused = λ t node code answer answer' r o h.
          (reply_refused (length_check t) _ (λ x. x ≡ asked_of (verdict t) node code) asked_figures answer answer' 21 (ask_known t) (ask_fails t node code) r o h).1;
      ask_done = λ t node code answer answer' o.
          (let (a, call, e) = reply_done (length_check t) _ (λ x. x ≡ asked_of (verdict t) node code) asked_figures answer answer' 21 (ask_known t) (ask_fails t node code) o in (a.answer, a.count, call, e));
      trial_refused = λ t node answer answer' r o h.
          (reply_refused (length_check t) _ (λ x. x ≡ tried_of (verdict t) node) tried_figures answer answer' 22 (trial_known t) (trial_fails t node) r o h).1;
      trial_done = λ t node answer answer' o.
          (let (a, call, e) = reply_done (length_check t) _ (λ x. x ≡ tried_of (verdict t) node) tried_figures answer answer' 22 (trial_known t) (trial_fails t node) o in (a.set, a.presents, call, e));
      part_refused = part-refused;
      part_done = λ file p e k answer answer' o.
          (let (x, call, z, a) = done-told (yields tt) _ _ tell_span (λ number node. Unit {0}) answer answer' 3 (none-known 3 (omega arith)) o in (x, call, a));
    }
