-- Demand 3 of the calls: each contract joined with the theory's theorems.
use mathlib.Core.Path.{◌≡◌, refl, sym, ap, ap₂, subst, ◌∙◌}
use mathlib.Core.Logic.{◌↔◌}
use mathlib.Core.Bool.{Bool, true, false, cond, ◌&&◌}
use mathlib.Core.List.{List}
use Prim.Native.Nat.{ℕ, ◌≤◌, ◌<◌}
use native.Mathlib.Omega.{arith}
use borrow.Author.Tests.{le-leb, leb-true}
use lib.Dec.{leb}
use lib.ListN.{length, take, drop, length-append, length-drop}
use lib.Seq.{take_at, drop_at}
use Rattle.codes.proofs.Bools.{both, left, right}
use Rattle.esterel.specs.Limits.{max_nodes, signals}
use Rattle.esterel.specs.Statement.{Stmt, size, nodes}
use Rattle.esterel.specs.Table.{Verdict, passed, refused}
use Rattle.esterel.specs.Instant.{Result, closed, starved, stuck, start, resume, admitted}
use Rattle.esterel.specs.Outcome.{Outcome, done, needs_answer, no_rule, emitted, emission_bytes, outcome}
use Rattle.esterel.specs.Theorems.{Accepted, Closes, NeedsMore}
use Rattle.esterel.proofs.Accepted.{acceptance}
use Rattle.esterel.proofs.Refusals.{Numbered, Told, told-numbered}
use Rattle.esterel.proofs.Theorems.{demand3, starving}
use Rattle.packing.specs.Packing.{state_bytes, pack, unpack, is_clear_from, admits}
use Rattle.packing.proofs.Bits.{length-pack}
use Rattle.packing.proofs.Theorems.{unpack_of, clear_of, pack-zeros}
use Rattle.table.proofs.Surveying.{few-accepted}
use Rattle.analysis.specs.Analysis.{checked}
use Rattle.analysis.proofs.Analyses.{checked-program}
use Rattle.analysis.proofs.Theorems.{checked-room, checked-passed, checked-told}
use Rattle.instant.specs.declared.Reaction.{Reaction}
use Rattle.esterel.specs.Refusal.{Reply, yields, rejects}
use Rattle.instant.specs.Calls.{reacts, room_for, verdict_for, Call, closing, refuses, answer_of, state_after, emissions_after, start_call, resume_call, Reacts, Starting, Resuming}
use Rattle.instant.specs.Calls.{closes as closes_call}
use Rattle.instant.specs.Theorems.{Lent, Ends, closes, starves, Instant, Unchanged, Demand3OfCalls}
use Rattle.instant.proofs.Emissions.{length_emissions}
use Rattle.instant.proofs.Closing.{held-length, held_small, reacts_as}

module _ {t state emissions : List ℕ} {p : Stmt} (l : Lent t p state emissions) where
  passes : verdict_for t (length state) (length emissions) ≡ passed p
  passes =
      let enough : room_for (length state) (length emissions) ≡ true = both (le-leb state_bytes (length state) l.places) (le-leb signals (length emissions) l.marks) in
      ap (λ b. checked b t) enough ∙ checked-room t ∙ l.accepted

  sound : Accepted p
  sound = (acceptance t p l.accepted).1

  few_of : size p ≤ max_nodes
  few_of = few-accepted t p l.accepted

-- a call that passes checks 1 to 11
lent_of : (t state emissions : List ℕ) (p : Stmt) → verdict_for t (length state) (length emissions) ≡ passed p → Lent t p state emissions
lent_of t state emissions p e =
    let accepted = checked-passed _ t p e in
    let (room, program) = checked-program _ t p e in
    record {
      accepted = accepted;
      places = leb-true state_bytes (length state) (left (leb state_bytes (length state)) (leb signals (length emissions)) room);
      marks = leb-true signals (length emissions) (right (leb state_bytes (length state)) room);
    }

-- a call that closes passes them, where a refused table refuses it
closed-lent : (t state emissions : List ℕ) (call : Verdict → Call) (code k entries : ℕ) → ((a b : ℕ) → call (refused a b) ≡ refuses a b) → reacts code k entries ≡ answer_of (call (verdict_for t (length state) (length emissions))) → (p : Stmt) × Lent t p state emissions
closed-lent t state emissions call code k entries by = go (verdict_for t (length state) (length emissions)) refl
  where
    go : (v : Verdict) → verdict_for t (length state) (length emissions) ≡ v → reacts code k entries ≡ answer_of (call v) → (p : Stmt) × Lent t p state emissions
    go (passed p) e z = (p, lent_of t state emissions p e)
    go (refused a b) e z =
        let r : reacts code k entries ≡ rejects a b = z ∙ ap answer_of (by a b) in
        let y : ◌≡◌ {A = ℕ} 0 1 = cc in
        absurd (omega arith)

start-by : (answers : List ℕ) (a b : ℕ) → start_call (refused a b) answers ≡ refuses a b
unfolding start_call
start-by answers a b = refl

resume-by : (state answers : List ℕ) (a b : ℕ) → resume_call (refused a b) state answers ≡ refuses a b
unfolding resume_call
resume-by state answers a b = refl

-- what a closed instant leaves in the 128 bytes does not depend on what was there
closing-front : (x : Outcome) (old other : List ℕ) (code k entries : ℕ) → reacts code k entries ≡ answer_of (closing x) → take state_bytes (state_after (closing x) old) ≡ take state_bytes (state_after (closing x) other)
closing-front (done c a e h m) old other code k entries z =
    take_at (pack h) (drop (length (pack h)) old) state_bytes (length-pack h) ∙ sym (take_at (pack h) (drop (length (pack h)) other) state_bytes (length-pack h))
closing-front needs_answer old other code k entries z = let y : ◌≡◌ {A = ℕ} 0 1 = cc in absurd (omega arith)
closing-front no_rule old other code k entries z = let y : ◌≡◌ {A = ℕ} 0 1 = cc in absurd (omega arith)

start-front : (v : Verdict) (answers old other : List ℕ) (code k entries : ℕ) → reacts code k entries ≡ answer_of (start_call v answers) → take state_bytes (state_after (start_call v answers) old) ≡ take state_bytes (state_after (start_call v answers) other)
unfolding start_call
start-front (passed p) answers old other code k entries z = closing-front (outcome p (start 0 p answers)) old other code k entries z
start-front (refused a b) answers old other code k entries z = let y : ◌≡◌ {A = ℕ} 0 1 = cc in absurd (omega arith)

-- an answer that closes is of one code, one count of answers and one of entries
abbrev pub value : Reply Reaction → Reaction
value (yields r) = r
value (rejects number node) = record { code = 0; taken = 0; entries = 0 }

pub reacts-once : {c k l c' k' l' : ℕ} → reacts c k l ≡ reacts c' k' l' → (c ≡ c') × (k ≡ k') × (l ≡ l')
reacts-once e = (ap (λ r. (value r).code) e, ap (λ r. (value r).taken) e, ap (λ r. (value r).entries) e)

-- a call that comes to the rules' outcome of x
module _ (p : Stmt) (few : size p ≤ max_nodes) (run : List ℕ → Result) (answers state emissions state' emissions' : List ℕ) (room : state_bytes ≤ length state) where
  instant_of : (x : Result) {r : Reply Reaction} → run answers ≡ x → Closes p answers x → ((run answers ≡ starved) ↔ NeedsMore p run answers) → Reacts (closing (outcome p x)) state emissions state' emissions' r → Instant p run answers state emissions state' emissions' r
  instant_of (closed c u h rest) {r} e sure st o =
      let long = held-length sure in
      let small = held_small sure in
      let wide-state = length-pack h in
      let front : take state_bytes state' ≡ pack h = ap (take state_bytes) o.state_is ∙ take_at (pack h) (drop (length (pack h)) state) state_bytes wide-state in
      let own : unpack (size p) state' ≡ h = unpack_of state' (size p) few h long front small in
      let bytes = emission_bytes (emitted (nodes p) u) 0 signals in
      let wide : length bytes ≡ signals = length_emissions (emitted (nodes p) u) 0 signals in
      record {
        past_state = ap (drop state_bytes) o.state_is ∙ drop_at (pack h) (drop (length (pack h)) state) state_bytes wide-state ∙ ap (λ i. drop i state) wide-state;
        past_emissions = ap (drop signals) o.emissions_are ∙ drop_at bytes (drop (length bytes) emissions) signals wide ∙ ap (λ i. drop i emissions) wide;
        same_length = ap length o.state_is ∙ length-append (pack h) (drop (length (pack h)) state) ∙ (let z = length-drop (length (pack h)) state in omega arith);
        ends = subst Ends (sym o.answer) (closes c _ _ sure.code);
        needs = (λ z. absurd (let a = o.answer in let x : ◌≡◌ {A = ℕ} 0 1 = cc in omega arith), λ z. absurd (let a = st.1 z in let x : ◌≡◌ {A = ℕ} 0 1 = cc in omega arith));
        enough = λ z y. (let a = o.answer in let x : ◌≡◌ {A = ℕ} 0 1 = cc in omega arith);
        exact = λ code k entries z. record {
          trail = u;
          rest = rest;
          rules = e ∙ ap₂ (λ x y. closed x u y rest) (sym (reacts-once (sym z ∙ o.answer)).0) (sym own);
          packed = front ∙ ap pack (sym own);
          answers_taken = (reacts-once (sym z ∙ o.answer)).1;
          entries_are = (reacts-once (sym z ∙ o.answer)).2;
          few_entries = let b : entries ≡ length u = (reacts-once (sym z ∙ o.answer)).2 in omega (arith, sure.entries);
          emissions_are = ap (take signals) o.emissions_are ∙ take_at bytes (drop (length bytes) emissions) signals wide;
          in_k = sure.in_k;
          bodies = sure.bodies;
        };
        ended = λ k entries z. front ∙ ap pack (sure.ended (sym (reacts-once (sym z ∙ o.answer)).0)) ∙ pack-zeros (size p);
        paused = λ k entries z. both (clear_of state' (size p) few h long front) (ap (admitted p) own ∙ sure.paused (sym (reacts-once (sym z ∙ o.answer)).0));
      }
  instant_of starved {r} e sure st o =
      record {
        same_length = ap length o.state_is;
        past_state = ap (drop state_bytes) o.state_is;
        past_emissions = ap (drop signals) o.emissions_are;
        ends = subst Ends (sym o.answer) starves;
        needs = (λ z. st.0 e, λ z. o.answer);
        enough = λ z y. omega (arith, sure);
        exact = λ code k entries z. absurd (let a = o.answer in let x : ◌≡◌ {A = ℕ} 0 1 = cc in omega arith);
        ended = λ k entries z. absurd (let a = o.answer in let x : ◌≡◌ {A = ℕ} 0 1 = cc in omega arith);
        paused = λ k entries z. absurd (let a = o.answer in let x : ◌≡◌ {A = ℕ} 0 1 = cc in omega arith);
      }
  instant_of stuck e sure st o = absurd sure

module _ (t answers state emissions state' emissions' : List ℕ) (p : Stmt) (r : Reply Reaction) (l : Lent t p state emissions) where
  pub starts_as : start_call (verdict_for t (length state) (length emissions)) answers ≡ closing (outcome p (start 0 p answers))
  unfolding start_call
  starts_as = ap (λ v. start_call v answers) (passes l)

  starts_instant : Starting t answers state emissions state' emissions' r → Instant p (start 0 p) answers state emissions state' emissions' r
  starts_instant o =
      instant_of p (few_of l) (start 0 p) answers state emissions state' emissions' l.places (start 0 p answers) refl (demand3.starts p (sound l) answers) (starving.starts p (sound l) answers) (reacts_as starts_as o)

  module _ {b : Bool} (a : admits p state ≡ b) where
    pub resumes_as : resume_call (verdict_for t (length state) (length emissions)) state answers ≡ cond b (closing (outcome p (resume 0 p (unpack (size p) state) answers))) (refuses 12 0)
    unfolding resume_call
    resumes_as = ap (λ v. resume_call v state answers) (passes l) ∙ ap (λ x. cond x (closing (outcome p (resume 0 p (unpack (size p) state) answers))) (refuses 12 0)) a

  resumes_instant : admits p state ≡ true → Resuming t answers state emissions state' emissions' r → Instant p (resume 0 p (unpack (size p) state)) answers state emissions state' emissions' r
  resumes_instant a o =
      let fits = right (is_clear_from (size p) state) a in
      instant_of p (few_of l) (resume 0 p (unpack (size p) state)) answers state emissions state' emissions' l.places (resume 0 p (unpack (size p) state) answers) refl (demand3.resumes p (sound l) (unpack (size p) state) answers fits) (starving.resumes p (sound l) (unpack (size p) state) answers fits) (reacts_as (resumes_as a) o)

  resumes-refused : admits p state ≡ false → Resuming t answers state emissions state' emissions' r → r ≡ rejects 12 0
  resumes-refused a o = (reacts_as (resumes_as a) o).answer

-- ---- refusals

-- a call that is refused with this number and node
abbrev Numbers : (number node : ℕ) → Type 0
Numbers number node = (1 ≤ number) × (number ≤ 13) × (node < max_nodes)

module _ (number node : ℕ) where
  closing-told : (p : Stmt) (answers : List ℕ) (x : Result) → Closes p answers x → closing (outcome p x) ≡ refuses number node → Numbers number node
  closing-told p answers (closed c u h rest) sure e = let z : ◌≡◌ {A = ℕ} 0 1 = cc in absurd (omega arith)
  closing-told p answers starved sure e =
      let a : 13 ≡ number = cc in
      let b : 0 ≡ node = cc in
      (omega arith, omega arith, omega arith)
  closing-told p answers stuck sure e = absurd sure

  refused-told : {a b : ℕ} → Numbered 11 a b → refuses a b ≡ refuses number node → Numbers number node
  refused-told {a} {b} o e =
      let x : a ≡ number = cc in
      let y : b ≡ node = cc in
      (omega (arith, o.some), omega (arith, o.known), omega (arith, o.within))

module _ (t answers state emissions : List ℕ) (number node : ℕ) where
  -- a program that the call accepts passes all checks
  sound_of : {p : Stmt} → verdict_for t (length state) (length emissions) ≡ passed p → Accepted p
  sound_of {p} e = (acceptance t p (checked-passed _ t p e)).1

  start-told : start_call (verdict_for t (length state) (length emissions)) answers ≡ refuses number node → Numbers number node
  unfolding start_call
  start-told = go (verdict_for t (length state) (length emissions)) refl (checked-told _ t)
    where
      go : (v : Verdict) → verdict_for t (length state) (length emissions) ≡ v → Told 11 v → start_call v answers ≡ refuses number node → Numbers number node
      go (passed p) ev o e = closing-told number node p answers (start 0 p answers) (demand3.starts p (sound_of ev) answers) e
      go (refused a b) ev o e = refused-told number node (told-numbered o) e

  resume-told : resume_call (verdict_for t (length state) (length emissions)) state answers ≡ refuses number node → Numbers number node
  unfolding resume_call
  resume-told = go (verdict_for t (length state) (length emissions)) refl (checked-told _ t)
    where
      by : (p : Stmt) → Accepted p → (b : Bool) → admits p state ≡ b → cond b (closing (outcome p (resume 0 p (unpack (size p) state) answers))) (refuses 12 0) ≡ refuses number node → Numbers number node
      by p a true z e = closing-told number node p answers (resume 0 p (unpack (size p) state) answers) (demand3.resumes p a (unpack (size p) state) answers (right (is_clear_from (size p) state) z)) e
      by p a false z e =
          let x : 12 ≡ number = cc in
          let y : 0 ≡ node = cc in
          (omega arith, omega arith, omega arith)

      go : (v : Verdict) → verdict_for t (length state) (length emissions) ≡ v → Told 11 v → resume_call v state answers ≡ refuses number node → Numbers number node
      go (passed p) ev o e = by p (sound_of ev) (admits p state) refl e
      go (refused a b) ev o e = refused-told number node (told-numbered o) e

-- an answer is of one call
refused_call : (call : Call) (number node : ℕ) → rejects number node ≡ answer_of call → call ≡ refuses number node
refused_call (refuses a b) number node e = cc
refused_call (closes_call code taken entries state emissions) number node e = cc

unchanged : {call : Call} {state emissions state' emissions' : List ℕ} {number node : ℕ} → (call ≡ refuses number node → Numbers number node) → Reacts call state emissions state' emissions' (rejects number node) → Unchanged number node state emissions state' emissions'
unchanged {call} {state} {emissions} {state'} {emissions'} {number} {node} told o =
    let e = refused_call call number node o.answer in
    record {
      some = (told e).0;
      known = (told e).1;
      within = (told e).2;
      same_state = o.state_is ∙ ap (λ c. state_after c state) e;
      same_emissions = o.emissions_are ∙ ap (λ c. emissions_after c emissions) e;
    }

pub demand3_of_calls : Demand3OfCalls
demand3_of_calls =
    record {
      start_lent = λ t answers state emissions state' emissions' code k entries o.
          closed-lent t state emissions (λ v. start_call v answers) code k entries (start-by answers) o.answer;
      resume_lent = λ t answers state emissions state' emissions' code k entries o.
          closed-lent t state emissions (λ v. resume_call v state answers) code k entries (resume-by state answers) o.answer;
      starts = starts_instant;
      resumes = resumes_instant;
      refuses = resumes-refused;
      start_entries = λ t answers state emissions state' emissions' p code k entries l o.
          (let x = (starts_instant t answers state emissions state' emissions' p (reacts code k entries) l o).exact code k entries refl in
          omega (arith, x.entries_are, demand3.start_entries p answers code x.trail _ x.rest x.rules));
      blind = λ t answers state other emissions state' other' emissions' emissions'' r s e o w.
          (let same : start_call (verdict_for t (length state) (length emissions)) answers ≡ start_call (verdict_for t (length other) (length emissions)) answers = ap (λ b. start_call (checked (b && leb signals (length emissions)) t) answers) e in
          let alike : r ≡ s = o.answer ∙ ap answer_of same ∙ sym w.answer in (
            alike,
            o.emissions_are ∙ ap (λ c. emissions_after c emissions) same ∙ sym w.emissions_are,
            λ code k entries z.
                (let v = verdict_for t (length state) (length emissions) in
                let first : take state_bytes state' ≡ take state_bytes (state_after (start_call v answers) state) = ap (take state_bytes) o.state_is in
                first ∙ start-front v answers state other code k entries (sym z ∙ o.answer) ∙ sym (ap (take state_bytes) (w.state_is ∙ ap (λ c. state_after c other) (sym same)))),
          ));
      onward = λ t answers state emissions state' emissions' more next state'' next' p run k entries r l i m o.
          resumes_instant t more state' next state'' next' p r (record { accepted = l.accepted; places = omega (arith, l.places, i.same_length); marks = m }) (i.paused k entries refl) o;
      start_refusals = λ t answers state emissions state' emissions' number node o. unchanged (start-told t answers state emissions number node) o;
      resume_refusals = λ t answers state emissions state' emissions' number node o. unchanged (resume-told t answers state emissions number node) o;
    }
