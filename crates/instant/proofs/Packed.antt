-- F-11 of the calls.
use mathlib.Core.Path.{◌≡◌, refl, sym, ap, ap₂, ◌∙◌}
use mathlib.Core.Bool.{Bool, true, false, cond, ◌&&◌}
use mathlib.Core.List.{List}
use Prim.Native.Nat.{ℕ, zero, suc, ◌/◌, ◌≤◌, ◌<◌}
use native.Mathlib.Decide.{dec_lt}
use native.Mathlib.Omega.{arith}
use borrow.Author.Tests.{le-leb}
use lib.Dec.{leb, eqb, eqb→eq}
use lib.ListN.{length, get_or, take, drop, length-take, get_or-eq_default}
use lib.Seq.{take_at, get_or-take, length-take-le}
use Rattle.codes.proofs.Bools.{both as both_pass, left, right, to_t, cannot_pass}
use Rattle.esterel.specs.Limits.{max_nodes, signals}
use Rattle.esterel.specs.Statement.{Stmt, kind, size, nodes}
use Rattle.esterel.specs.Table.{Verdict, passed, refused}
use Rattle.esterel.specs.Checks.{verdict}
use Rattle.esterel.specs.Instant.{Result, closed, starved, stuck, holds, at_pauses, one_branch, start, resume, admitted}
use Rattle.esterel.specs.Outcome.{Outcome, done, needs_answer, no_rule, outcome, statement_at}
use Rattle.esterel.specs.Theorems.{Accepted, Closes}
use Rattle.esterel.proofs.Accepted.{acceptance}
use Rattle.esterel.proofs.Sizes.{length-nodes}
use Rattle.esterel.proofs.Theorems.{demand3}
use Rattle.table.proofs.Surveying.{few-accepted}
use Rattle.packing.specs.Packing.{state_bytes, held_bit, pack, unpack, is_clear_from, admits}
use Rattle.packing.proofs.Bits.{length-pack, unpack-at}
use Rattle.packing.proofs.Clearing.{clear_at}
use Rattle.packing.proofs.Theorems.{unpack_of, clear_of, zero_held, same-unpacked, same-admits}
use Rattle.analysis.specs.Analysis.{checked}
use Rattle.analysis.proofs.Theorems.{verdict-nodes, checked-room, checked-passed}
use Rattle.instant.specs.declared.Reaction.{Reaction}
use Rattle.esterel.specs.Refusal.{Reply, rejects}
use Rattle.instant.specs.Admission.{byte_fits}
use Rattle.instant.specs.Calls.{reacts, verdict_for, Call, refuses, closes, closing, answer_of, state_after, emissions_after, start_call, resume_call, Reacts}
use Rattle.instant.specs.Theorems.{Ends, Instant}
use Rattle.instant.specs.Packed.{verdict_before, closing_before, start_before, resume_before, ResumingBefore, Rooms, IsPacked, PackedCalls}
use Rattle.instant.proofs.Admits.{byte_of}
use Rattle.instant.proofs.Entering.{admitted-small}
use Rattle.instant.proofs.Closing.{held-length, reacts_as}
use Rattle.instant.proofs.Theorems.{reacts-once, demand3_of_calls}

-- ---- which bits

module _ (p : Stmt) (s : List ℕ) (e : admits p s ≡ true) (i : ℕ) (hi : i < max_nodes) (one : held_bit s i ≡ 1) where
  inside : i < size p
  inside = go (dec_lt i (size p))
    where
      go : Dec (i < size p) → i < size p
      go (yes h) = h
      go (no h) = absurd (let z = clear_at (size p) s (left (is_clear_from (size p) s) (admitted p (unpack (size p) s)) e) i (omega arith) hi in omega arith)

  at_pause : kind (statement_at (nodes p) i) ≡ 2
  at_pause =
      let h = unpack (size p) s in
      let rest = right (holds h) {b = at_pauses (nodes p) h && one_branch p h} (right (is_clear_from (size p) s) e) in
      let byte : get_or h i 0 ≡ 1 = unpack-at (size p) s i inside ∙ one in
      let fits = byte_of (nodes p) h (left (at_pauses (nodes p) h) (one_branch p h) rest) i (omega (arith, length-nodes p, inside)) in
      let here : byte_fits (statement_at (nodes p) i) 1 ≡ true = ap (byte_fits (statement_at (nodes p) i)) (sym byte) ∙ fits in
      eqb→eq (kind (statement_at (nodes p) i)) 2 (to_t (eqb (kind (statement_at (nodes p) i)) 2) here)

left-pauses : {answers state emissions state' emissions' : List ℕ} (p : Stmt) {run : List ℕ → Result} {r : Reply Reaction} (code k entries i : ℕ) → r ≡ reacts code k entries → Ends r → Instant p run answers state emissions state' emissions' r → i < max_nodes → held_bit state' i ≡ 1 → (i < size p) × (kind (statement_at (nodes p) i) ≡ 2)
left-pauses {state' = state'} p zero k entries i e x o hi one =
    absurd (let z = zero_held state' (o.ended k entries e) i hi in omega arith)
left-pauses {state' = state'} p (suc zero) k entries i e x o hi one =
    let a = o.paused k entries e in
    (inside p state' a i hi one, at_pause p state' a i hi one)
left-pauses p (suc (suc c)) k entries i e (Ends.closes code m n le) o hi one = absurd (let z = (reacts-once e).0 in omega arith)
left-pauses p (suc (suc c)) k entries i e Ends.starves o hi one = let z : ◌≡◌ {A = ℕ} 0 1 = cc in absurd (omega arith)

-- ---- two calls beside each other

-- what packing makes of a call's bytes
abbrev packed : Call → Call
packed (refuses number node) = refuses number node
packed (closes code taken entries held emissions) = closes code taken entries (pack held) emissions

-- a call that closes leaves n bytes
data Places (n : ℕ) : Call → Type 0 where
  none : (number node : ℕ) → Places n (refuses number node)
  some : (code taken entries : ℕ) (held emissions : List ℕ) → length held ≡ n → Places n (closes code taken entries held emissions)

-- what each leaves, where both are lent the same emissions
module _ {n : ℕ} {bytes state emissions bytes' state' emissions' emissions'' : List ℕ} {r s : Reply Reaction} where
  alike : {c : Call} → Places n c → Reacts c bytes emissions bytes' emissions' r → Reacts (packed c) state emissions state' emissions'' s → (r ≡ s) × (emissions' ≡ emissions'')
  alike (none number node) o w = (o.answer ∙ sym w.answer, o.emissions_are ∙ sym w.emissions_are)
  alike (some code taken entries held m long) o w = (o.answer ∙ sym w.answer, o.emissions_are ∙ sym w.emissions_are)

  left-packed : {c : Call} → Places n c → Reacts c bytes emissions bytes' emissions' r → Reacts (packed c) state emissions state' emissions'' s → (code k entries : ℕ) → r ≡ reacts code k entries → take state_bytes state' ≡ pack (take n bytes')
  left-packed (none number node) o w code k entries e = let a = o.answer in let y : ◌≡◌ {A = ℕ} 0 1 = cc in absurd (omega arith)
  left-packed (some code taken entries held m long) o w c k e z =
      ap (take state_bytes) w.state_is
      ∙ take_at (pack held) (drop (length (pack held)) state) state_bytes (length-pack held)
      ∙ ap pack (sym (ap (take n) o.state_is ∙ take_at held (drop (length held) bytes) n long))

  kept-packed : {c : Call} → Places n c → Reacts c bytes emissions bytes' emissions' r → Reacts (packed c) state emissions state' emissions'' s → take state_bytes state ≡ pack (take n bytes) → take state_bytes state' ≡ pack (take n bytes')
  kept-packed (none number node) o w e = ap (take state_bytes) w.state_is ∙ e ∙ ap (λ l. pack (take n l)) (sym o.state_is)
  kept-packed (some code taken entries held m long) o w e = left-packed (some code taken entries held m long) o w code taken entries o.answer

closing-packed : (x : Outcome) → closing x ≡ packed (closing_before x)
closing-packed (done code taken entries held emissions) = refl
closing-packed needs_answer = refl
closing-packed no_rule = refl

start-packed : (v : Verdict) (answers : List ℕ) → start_call v answers ≡ packed (start_before v answers)
unfolding start_call start_before
start-packed (passed p) answers = closing-packed (outcome p (start 0 p answers))
start-packed (refused a b) answers = refl

packed-cond : (b : Bool) (x : Outcome) → cond b (closing x) (refuses 12 0) ≡ packed (cond b (closing_before x) (refuses 12 0))
packed-cond true x = closing-packed x
packed-cond false x = refl

module _ (p : Stmt) (bytes state answers : List ℕ) (own : unpack (size p) state ≡ take (size p) bytes) (clear : is_clear_from (size p) state ≡ true) where
  resume-packed : resume_call (passed p) state answers ≡ packed (resume_before (passed p) bytes answers)
  unfolding resume_call resume_before
  resume-packed =
      let same : admits p state ≡ admitted p (take (size p) bytes) = ap₂ (λ a h. a && admitted p h) clear own in
      ap₂ (λ b h. cond b (closing (outcome p (resume 0 p h answers))) (refuses 12 0)) same own
      ∙ packed-cond (admitted p (take (size p) bytes)) (outcome p (resume 0 p (take (size p) bytes) answers))

refused-both : (bytes state answers : List ℕ) (a b : ℕ) → resume_call (refused a b) state answers ≡ packed (resume_before (refused a b) bytes answers)
unfolding resume_call resume_before
refused-both bytes state answers a b = refl

-- a closed call leaves as many bytes as the program has nodes
places_of : (p : Stmt) (answers : List ℕ) (n : ℕ) → size p ≡ n → (x : Result) → Closes p answers x → Places n (closing_before (outcome p x))
places_of p answers n e (closed c u h rest) sure = some _ _ _ h _ (held-length sure ∙ e)
places_of p answers n e starved sure = none 13 0
places_of p answers n e stuck sure = absurd sure

start-places : (v : Verdict) (answers : List ℕ) (n : ℕ) → ((p : Stmt) → v ≡ passed p → Accepted p × (size p ≡ n)) → Places n (start_before v answers)
unfolding start_before
start-places (passed p) answers n f = places_of p answers n (f p refl).1 (start 0 p answers) (demand3.starts p (f p refl).0 answers)
start-places (refused a b) answers n f = none a b

resume-places : (v : Verdict) (bytes answers : List ℕ) (n : ℕ) → ((p : Stmt) → v ≡ passed p → Accepted p × (size p ≡ n)) → Places n (resume_before v bytes answers)
unfolding resume_before
resume-places (passed p) bytes answers n f = go (admitted p (take (size p) bytes)) refl
  where
    go : (b : Bool) → admitted p (take (size p) bytes) ≡ b → Places n (cond b (closing_before (outcome p (resume 0 p (take (size p) bytes) answers))) (refuses 12 0))
    go true e = places_of p answers n (f p refl).1 (resume 0 p (take (size p) bytes) answers) (demand3.resumes p (f p refl).0 (take (size p) bytes) answers e)
    go false e = none 12 0
resume-places (refused a b) bytes answers n f = none a b

-- with room for both, both have the same verdict
module _ {t bytes state : List ℕ} (o : Rooms t bytes state) (emissions : List ℕ) where
  one-verdict : verdict_before t (length bytes) (length emissions) ≡ verdict_for t (length state) (length emissions)
  one-verdict =
      ap (λ b. checked (b && leb signals (length emissions)) t) (le-leb (length t / 2) (length bytes) o.by_bytes ∙ sym (le-leb state_bytes (length state) o.by_bits))

  of_program : (p : Stmt) → verdict_before t (length bytes) (length emissions) ≡ passed p → Accepted p × (size p ≡ length t / 2)
  of_program p e =
      let accepted = checked-passed _ t p e in
      ((acceptance t p accepted).1, sym (verdict-nodes t p accepted))

  module _ (answers : List ℕ) (small : (i : ℕ) → i < length t / 2 → get_or bytes i 0 ≤ 1) (is : IsPacked t bytes state) where
    both-resume : (v : Verdict) → verdict_before t (length bytes) (length emissions) ≡ v → resume_call v state answers ≡ packed (resume_before v bytes answers)
    both-resume (passed p) e =
        let accepted = checked-passed _ t p e in
        let nodes : length t / 2 ≡ size p = verdict-nodes t p accepted in
        let few = few-accepted t p accepted in
        let front : take state_bytes state ≡ pack (take (size p) bytes) = is ∙ ap (λ k. pack (take k bytes)) nodes in
        let long : length (take (size p) bytes) ≡ size p = length-take-le (size p) bytes (omega (arith, o.by_bytes)) in
        resume-packed p bytes state answers (unpack_of state (size p) few (take (size p) bytes) long front (small-front (size p) nodes)) (clear_of state (size p) few (take (size p) bytes) long front)
      where
        small-front : (n : ℕ) → length t / 2 ≡ n → (i : ℕ) → get_or (take n bytes) i 0 ≤ 1
        small-front n en i = go (dec_lt i n)
          where
            go : Dec (i < n) → get_or (take n bytes) i 0 ≤ 1
            go (yes h) = omega (arith, get_or-take n bytes i 0 h, small i (omega arith))
            go (no h) = let z = get_or-eq_default (take n bytes) 0 {n = i} (let y = length-take n bytes in omega arith) in omega arith
    both-resume (refused a b) e = refused-both bytes state answers a b

-- ---- a state that was saved

closing-places : (x : Outcome) → Places state_bytes (closing x)
closing-places (done code taken entries held emissions) = some code taken entries (pack held) emissions (length-pack held)
closing-places needs_answer = none 13 0
closing-places no_rule = none 0 0

cond-places : (b : Bool) (x : Outcome) → Places state_bytes (cond b (closing x) (refuses 12 0))
cond-places true x = closing-places x
cond-places false x = none 12 0

call_places : (v : Verdict) (state answers : List ℕ) → Places state_bytes (resume_call v state answers)
unfolding resume_call
call_places (passed p) state answers = cond-places (admits p state) (outcome p (resume 0 p (unpack (size p) state) answers))
call_places (refused a b) state answers = none a b

left-same : {c : Call} (state other : List ℕ) → Places state_bytes c → take state_bytes state ≡ take state_bytes other → take state_bytes (state_after c state) ≡ take state_bytes (state_after c other)
left-same state other (none number node) e = e
left-same state other (some code taken entries held m long) e =
    take_at held (drop (length held) state) state_bytes long ∙ sym (take_at held (drop (length held) other) state_bytes long)

module _ (state other : List ℕ) (same : take state_bytes state ≡ take state_bytes other) (answers : List ℕ) where
  same_call : (v : Verdict) → ((p : Stmt) → v ≡ passed p → size p ≤ max_nodes) → resume_call v state answers ≡ resume_call v other answers
  unfolding resume_call
  same_call (passed p) f =
      ap₂ (λ b h. cond b (closing (outcome p (resume 0 p h answers))) (refuses 12 0)) (same-admits state other same p (f p refl)) (same-unpacked state other same (size p) (f p refl))
  same_call (refused a b) f = refl

-- a byte above 1 was refused
above-one : (t answers bytes emissions bytes' emissions' : List ℕ) (p : Stmt) (r : Reply Reaction) (i : ℕ) → verdict t ≡ passed p → size p ≤ length bytes → signals ≤ length emissions → i < size p → 1 < get_or bytes i 0 → ResumingBefore t answers bytes emissions bytes' emissions' r → r ≡ rejects 12 0
unfolding resume_before
above-one t answers bytes emissions bytes' emissions' p r i v room wide hi one o =
    let fails : admitted p (take (size p) bytes) ≡ false = cannot_pass (admitted p (take (size p) bytes)) (λ e. omega (arith, admitted-small p (take (size p) bytes) e i, get_or-take (size p) bytes i 0 hi)) in
    let enough : (leb (length t / 2) (length bytes) && leb signals (length emissions)) ≡ true = both_pass (le-leb (length t / 2) (length bytes) (omega (arith, verdict-nodes t p v))) (le-leb signals (length emissions) wide) in
    let passes : verdict_before t (length bytes) (length emissions) ≡ passed p = ap (λ b. checked b t) enough ∙ checked-room t ∙ v in
    (reacts_as (ap (λ x. resume_before x bytes answers) passes ∙ ap (λ b. cond b (closing_before (outcome p (resume 0 p (take (size p) bytes) answers))) (refuses 12 0)) fails) o).answer

pub packed_calls : PackedCalls
packed_calls =
    record {
      strays = λ t answers state emissions state' emissions' p r i l hi one other o.
          demand3_of_calls.refuses t answers state emissions state' emissions' p r l (cannot_pass (admits p state) (λ e. other (inside p state e i hi one) (at_pause p state e i hi one))) o;
      only_pauses = λ answers state emissions state' emissions' p run code k entries i o hi one.
          left-pauses p code k entries i refl o.ends o hi one;
      saved = λ t answers state other emissions state' other' emissions' emissions'' r s room room' same o w.
          (let v = verdict_for t (length state) (length emissions) in
          let rooms : v ≡ verdict_for t (length other) (length emissions) =
          ap (λ b. checked (b && leb signals (length emissions)) t) (le-leb state_bytes (length state) room ∙ sym (le-leb state_bytes (length other) room')) in
          let call : resume_call v state answers ≡ resume_call (verdict_for t (length other) (length emissions)) other answers =
          same_call state other same answers v (λ p e. few-accepted t p (checked-passed _ t p e)) ∙ ap (λ x. resume_call x other answers) rooms in (
            o.answer ∙ ap answer_of call ∙ sym w.answer,
            o.emissions_are ∙ ap (λ c. emissions_after c emissions) call ∙ sym w.emissions_are,
            ap (take state_bytes) o.state_is ∙ left-same state other (call_places v state answers) same ∙ sym (ap (take state_bytes) (w.state_is ∙ ap (λ c. state_after c other) (sym call))),
          ));
      starts_as_before = λ t answers bytes state emissions bytes' state' emissions' emissions'' r s room o w.
          (let v = verdict_before t (length bytes) (length emissions) in
          let places = start-places v answers (length t / 2) (of_program room emissions) in
          let w' = reacts_as (ap (λ x. start_call x answers) (sym (one-verdict room emissions)) ∙ start-packed v answers) w in
          let both = alike places o w' in
          (both.0, both.1, left-packed places o w'));
      resumes_as_before = λ t answers bytes state emissions bytes' state' emissions' emissions'' r s room small is o w.
          (let v = verdict_before t (length bytes) (length emissions) in
          let places = resume-places v bytes answers (length t / 2) (of_program room emissions) in
          let w' = reacts_as (ap (λ x. resume_call x state answers) (sym (one-verdict room emissions)) ∙ both-resume room emissions answers small is v refl) w in
          let both = alike places o w' in
          (both.0, both.1, kept-packed places o w' is));
      above_one_before = above-one;
    }
