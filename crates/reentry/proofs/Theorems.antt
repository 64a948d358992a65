-- No unmarked reentry of the calls: each contract joined with the theory's theorem.
use Prim.Native.Nat.{ℕ, ◌<◌, ◌≤◌}
use native.Mathlib.Decide.{dec_lt}
use native.Mathlib.Omega.{arith}
use mathlib.Core.Path.{◌≡◌, refl, sym, ap, subst, ◌∙◌}
use mathlib.Core.Bool.{true}
use mathlib.Core.List.{List}
use native.Mathlib.Nat.{le_refl}
use lib.ListN.{length, take, get_or, length-replicate, get_or-eq_default}
use lib.Seq.{take_all}
use Rattle.codes.proofs.Bools.{both}
use Rattle.esterel.specs.Limits.{max_nodes, signals}
use Rattle.esterel.specs.Statement.{Stmt, size, nodes}
use Rattle.esterel.specs.Codes.{empty}
use Rattle.esterel.specs.Sets.{places_of, outside, place_at, mark}
use Rattle.esterel.specs.Table.{passed}
use Rattle.esterel.specs.Checks.{verdict}
use Rattle.esterel.specs.Instant.{Entry, Result, closed, zeros, start, resume, admitted}
use Rattle.esterel.specs.Outcome.{taken, outcome}
use Rattle.esterel.specs.Reentry.{Reached, Happens, mark_at}
use Rattle.esterel.specs.Theorems.{Accepted}
use Rattle.esterel.proofs.Accepted.{acceptance, length-places}
use Rattle.esterel.proofs.Held.{fits-length}
use Rattle.esterel.proofs.Run.{closed-held}
use Rattle.esterel.proofs.Admitted.{admitted-fits}
use Rattle.esterel.proofs.Reentry.Theorem.{runs, no_unmarked_reentry}
use Rattle.table.proofs.Surveying.{few-accepted}
use Rattle.packing.specs.Packing.{state_bytes, pack, unpack, admits}
use Rattle.packing.proofs.Bits.{length-pack, length-unpack}
use Rattle.packing.proofs.Theorems.{pack-clear, unpack_of, clear_of}
use Rattle.analysis.proofs.Theorems.{demand2_of_call}
use Rattle.instant.specs.Calls.{reacts, verdict_for, closing, start_call, resume_call, answer_of, state_after, emissions_after, Starting, Resuming}
use Rattle.instant.specs.Theorems.{Lent, Exact}
use Rattle.esterel.specs.Refusal.{rejects}
use Rattle.instant.proofs.Entering.{admitted-small}
use Rattle.instant.proofs.Theorems.{starts_as, resumes_as, demand3_of_calls}
use Rattle.reentry.specs.Theorems.{MarksOf, Left, fresh, onward, Marked, NoUnmarkedReentryOfCalls}

-- a node with a mark is one of the program's
marked-inside : (p : Stmt) (n : ℕ) → mark_at p n ≡ 1 → n < size p
marked-inside p n e = go (dec_lt n (size p))
  where
    go : Dec (n < size p) → n < size p
    go (yes h) = h
    go (no h) =
        let past : place_at p n ≡ outside = get_or-eq_default (places_of p) outside (rw (length-places p 1 0 empty) (omega arith)) in
        let z : ◌≡◌ {A = ℕ} 0 1 = sym (ap mark past) ∙ e in
        absurd (omega arith)

module _ (t : List ℕ) (p : Stmt) where
  -- the marks that `analyse` leaves
  mark-left : {marks : List ℕ} → MarksOf t p marks → (n : ℕ) → mark_at p n ≡ 1 → get_or marks n 0 ≡ 1
  mark-left o n e =
      let s = demand2_of_call.sets t o.starts o.anys o.contexts o.marks o.starts' o.anys' o.contexts' _ o.nodes o.depth o.analysed in
      let same : s.program ≡ p = cc (s.accepted, o.program) in
      let e' : mark_at s.program n ≡ 1 = rw same e in
      s.node_marks n (omega (arith, s.nodes_are, marked-inside s.program n e')) ∙ e'

  module _ (program : verdict t ≡ passed p) where
    sound : Accepted p
    sound = (acceptance t p program).1

    few : size p ≤ max_nodes
    few = few-accepted t p program

    lent_as : {state emissions : List ℕ} → ((q : Stmt) × Lent t q state emissions) → Lent t p state emissions
    lent_as {state} {emissions} (q, l) = let same : q ≡ p = cc (l.accepted, program) in subst (λ w. Lent t w state emissions) same l

    module _ (answers : List ℕ) {state emissions state' emissions' : List ℕ} {code taken entries : ℕ} where
      start-exact : Starting t answers state emissions state' emissions' (reacts code taken entries) → Exact p (start 0 p answers) state' emissions' code taken entries
      start-exact o =
          let l = lent_as (demand3_of_calls.start_lent t answers state emissions state' emissions' code taken entries o) in
          (demand3_of_calls.starts t answers state emissions state' emissions' p (reacts code taken entries) l o).exact code taken entries refl

      resume-exact : Reached p (unpack (size p) state) → take state_bytes state ≡ pack (unpack (size p) state) → Resuming t answers state emissions state' emissions' (reacts code taken entries) → Exact p (resume 0 p (unpack (size p) state) answers) state' emissions' code taken entries
      resume-exact w front o =
          let l = lent_as (demand3_of_calls.resume_lent t answers state emissions state' emissions' code taken entries o) in
          let fits = runs.admits p sound (unpack (size p) state) w in
          let clear = clear_of state (size p) few (unpack (size p) state) (length-unpack (size p) state) front in
          (demand3_of_calls.resumes t answers state emissions state' emissions' p (reacts code taken entries) l (both clear fits) o).exact code taken entries refl

    -- what is reached has a byte for each node, 0 or 1
    module _ {held : List ℕ} (w : Reached p held) where
      reached-admitted : admitted p held ≡ true
      reached-admitted = runs.admits p sound held w

      reached-long : length held ≡ size p
      reached-long = fits-length (admitted-fits p held reached-admitted)

      reached-unpacked : (state : List ℕ) → take state_bytes state ≡ pack held → unpack (size p) state ≡ held
      reached-unpacked state front = unpack_of state (size p) few held reached-long front (admitted-small p held reached-admitted)

    unpacked_of : (state : List ℕ) → ((held : List ℕ) × Reached p held × (take state_bytes state ≡ pack held)) → Reached p (unpack (size p) state) × (take state_bytes state ≡ pack (unpack (size p) state))
    unpacked_of state (held, z, front) =
        let own = reached-unpacked z state front in
        (subst (Reached p) (sym own) z, front ∙ ap pack (sym own))

    -- what calls leave is reached, packed
    left-reached : {s : List ℕ} → Left t s → (held : List ℕ) × Reached p held × (s ≡ pack held)
    left-reached (fresh answers state emissions state' emissions' taken entries o) =
        let x = start-exact answers o in
        (unpack (size p) state', Reached.fresh answers x.trail (unpack (size p) state') x.rest x.rules, x.packed)
    left-reached (onward answers state emissions state' emissions' taken entries w o) =
        let (z, front) = unpacked_of state (left-reached w) in
        let x = resume-exact answers z front o in
        (unpack (size p) state', Reached.onward (unpack (size p) state) answers x.trail (unpack (size p) state') x.rest z x.rules, x.packed)

    -- and what is reached, calls leave: a start with buffers of zeros, and a resumption from the packed bytes themselves
    module _ (answers : List ℕ) {trail : List Entry} {held rest : List ℕ} where
      left_as : {x : Result} {state' emissions' : List ℕ} {k entries : ℕ} → x ≡ closed 1 trail held rest → Exact p x state' emissions' 1 k entries → take state_bytes state' ≡ pack held
      left_as e x = x.packed ∙ ap pack (closed-held (sym x.rules ∙ e))

      started_left : start 0 p answers ≡ closed 1 trail held rest → Left t (pack held)
      started_left e =
          let state = zeros state_bytes in
          let emissions = zeros signals in
          let l : Lent t p state emissions = record { accepted = program; places = rw length-replicate (le_refl state_bytes); marks = rw length-replicate (le_refl signals) } in
          let call = start_call (verdict_for t (length state) (length emissions)) answers in
          let is : call ≡ closing (outcome p (closed 1 trail held rest)) = starts_as t answers state emissions state emissions p (rejects 0 0) l ∙ ap (λ x. closing (outcome p x)) e in
          let o : Starting t answers state emissions (state_after call state) (emissions_after call emissions) (reacts 1 (taken (nodes p) trail) (length trail)) =
          record { answer = sym (ap answer_of is); state_is = refl; emissions_are = refl } in
          subst (Left t) (left_as e (start-exact answers o)) (fresh answers state emissions _ _ _ _ o)

      resumed_left : {before : List ℕ} → Reached p before → Left t (pack before) → resume 0 p before answers ≡ closed 1 trail held rest → Left t (pack held)
      resumed_left {before} w y e =
          let state = pack before in
          let whole : take state_bytes state ≡ state = take_all state_bytes state (omega (arith, length-pack before)) in
          let own : unpack (size p) state ≡ before = reached-unpacked w state whole in
          let emissions = zeros signals in
          let l : Lent t p state emissions = record { accepted = program; places = omega (arith, length-pack before); marks = rw length-replicate (le_refl signals) } in
          let admits' : admits p state ≡ true = both (pack-clear (size p) before (omega (arith, reached-long w))) (ap (admitted p) own ∙ reached-admitted w) in
          let ran : resume 0 p (unpack (size p) state) answers ≡ closed 1 trail held rest = ap (λ s. resume 0 p s answers) own ∙ e in
          let call = resume_call (verdict_for t (length state) (length emissions)) state answers in
          let is : call ≡ closing (outcome p (closed 1 trail held rest)) = resumes_as t answers state emissions state emissions p (rejects 0 0) l {b = true} admits' ∙ ap (λ x. closing (outcome p x)) ran in
          let o : Resuming t answers state emissions (state_after call state) (emissions_after call emissions) (reacts 1 (taken (nodes p) trail) (length trail)) =
          record { answer = sym (ap answer_of is); state_is = refl; emissions_are = refl } in
          let x = resume-exact answers (subst (Reached p) (sym own) w) (whole ∙ ap pack (sym own)) o in
          subst (Left t) (left_as ran x) (onward answers state emissions _ _ _ _ (subst (Left t) (sym whole) y) o)

    reached-left : {held : List ℕ} → Reached p held → Left t (pack held)
    reached-left (Reached.fresh answers trail held rest e) = started_left answers e
    reached-left (Reached.onward before answers trail held rest w e) = resumed_left answers w (reached-left w) e

-- a closed call whose trail is that of an instant of a run
marked_of : {t : List ℕ} {p : Stmt} {marks held state' emissions' : List ℕ} {x : Result} {code taken entries : ℕ} → MarksOf t p marks → (e : Exact p x state' emissions' code taken entries) → Happens p held e.trail → Marked p marks held x state' emissions' code taken entries
marked_of {t} {p} {marks} {held} o e h =
    record {
      exact = e;
      happens = h;
      twice = λ n w. mark-left t p o n (no_unmarked_reentry.marked p (sound t p o.program) held e.trail h n w);
      held_started = λ n y s. mark-left t p o n (no_unmarked_reentry.held_marked p (sound t p o.program) held e.trail h n y s);
    }

pub no_unmarked_reentry_of_calls : NoUnmarkedReentryOfCalls
no_unmarked_reentry_of_calls =
    record {
      starts = λ t answers state emissions state' emissions' marks p code taken entries d o.
          (let x = start-exact t p d.program answers o in
          marked_of d x (Happens.starts answers code x.trail (unpack (size p) state') x.rest x.rules));
      resumes = λ t answers state emissions state' emissions' marks p code taken entries d w o.
          (let (z, front) = unpacked_of t p d.program state (left-reached t p d.program w) in
          let x = resume-exact t p d.program answers z front o in
          marked_of d x (Happens.resumes (unpack (size p) state) answers code x.trail (unpack (size p) state') x.rest z x.rules));
      same = λ t p e state. (left-reached t p e, λ w. subst (Left t) (sym w.2) (reached-left t p e w.1));
    }
