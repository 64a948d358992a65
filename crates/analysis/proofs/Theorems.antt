-- Demands 1 and 2 of `analyse`: its contract joined with the theory's theorems.
use mathlib.Core.Path.{◌≡◌, refl, sym, ap, subst, ◌∙◌}
use mathlib.Core.Logic.{◌↔◌}
use mathlib.Core.Bool.{Bool, true, false}
use mathlib.Core.Option.{Option, none, some}
use mathlib.Core.List.{List, [], map}
use Prim.Native.Nat.{ℕ, suc, ◌-◌, ◌/◌, ◌≤◌, ◌<◌}
use native.Mathlib.Omega.{arith}
use borrow.Author.Tests.{le-leb}
use lib.Dec.{leb}
use lib.ListN.{length, get_or, get_or-append}
use Rattle.esterel.specs.Refusal.{Reply, yields, rejects}
use Rattle.codes.specs.Codes.{Codes, word}
use Rattle.codes.specs.Theorems.{Represents}
use Rattle.codes.proofs.Bools.{both}
use Rattle.esterel.specs.Statement.{Stmt, size, nodes, loop_depth}
use Rattle.esterel.specs.Sets.{start_set, any_instant_set, Place, context_of, stmt_of, places_of, place_at}
use Rattle.esterel.specs.Table.{Verdict, passed, refused, scan}
use Rattle.esterel.specs.Checks.{ends_at_once, first_node, refuse_at, verdict, Line, line_of, listing}
use Rattle.esterel.specs.Outcome.{statement_at}
use Rattle.esterel.proofs.Reading.{length-postfix, reads_only_lem, length-passed}
use Rattle.esterel.specs.Theorems.{NoneLost}
use Rattle.esterel.proofs.Accepted.{acceptance, place-statement}
use Rattle.esterel.proofs.Caught.{low_codes}
use Rattle.esterel.proofs.LoopCheck.{decides}
use Rattle.esterel.proofs.Refusals.{Told, refuses, told-numbered, length-told, program-told, length-first}
use Rattle.esterel.proofs.Figure9.{figure9}
use Rattle.esterel.proofs.Theorems.{exactness, loop_check}
use Rattle.analysis.specs.Passes.{onto}
use Rattle.analysis.specs.Analysis.{done, checked, room_for, verdict_for, answer_of, k_of, a_of, s_of, mark_of, column, Analysis}
use Rattle.analysis.specs.Theorems.{Lent, ByLoops, ExactSets, Unchanged, Demand2OfCall}
use Rattle.analysis.specs.declared.Analysed.{Analysed}
use Rattle.analysis.proofs.Contexts.{length-by-place, by-place-at}
use Rattle.analysis.proofs.Analyses.{map_lines, line_k, line-a, line-s, line-mark}

-- ---- the call's verdict and the table's

pub verdict-nodes : (t : List ℕ) (p : Stmt) → verdict t ≡ passed p → length t / 2 ≡ size p
verdict-nodes t p e = omega (arith, ap length (acceptance t p e).0, length-postfix p)

pub checked-room : (t : List ℕ) → checked true t ≡ verdict t
unfolding checked
checked-room t = sym (length-first t (scan t 0 []))

-- where the room suffices, check 3 passes
pub enough-room : (t : List ℕ) {m n : ℕ} → m ≤ n → checked (leb m n) t ≡ verdict t
enough-room t {m} {n} h = ap (λ b. checked b t) (le-leb m n h) ∙ checked-room t

pub checked-passed : (room : Bool) (t : List ℕ) (p : Stmt) → checked room t ≡ passed p → verdict t ≡ passed p
unfolding checked
checked-passed true t p e = sym (checked-room t) ∙ e
checked-passed false t p e = let z = length-passed t (refused 3 0) p e in cc

-- a refusal of checks 1 to 11
pub checked-told : (room : Bool) (t : List ℕ) → Told 11 (checked room t)
unfolding checked
checked-told true t = length-told t _ 11 (omega arith) (program-told t)
checked-told false t = length-told t _ 11 (omega arith) (λ h. refuses 3 0 record { some = omega arith; known = omega arith; within = omega arith })

-- one by a later check than 3 is the table's own, and the buffers suffice
pub refused_late : (room : Bool) (t : List ℕ) (number node : ℕ) → checked room t ≡ refused number node → 3 < number → (room ≡ true) × (verdict t ≡ refused number node)
unfolding checked
refused_late true t number node e h = (refl, sym (checked-room t) ∙ e)
refused_late false t number node e h =
    let short : Told 3 (checked false t) = length-told t _ 3 (omega arith) (λ l. refuses 3 0 record { some = omega arith; known = omega arith; within = omega arith }) in
    absurd (omega (arith, (told-numbered (subst (Told 3) e short)).known))

-- an answer is of one verdict
refused_of : (v : Verdict) (number node : ℕ) → rejects number node ≡ answer_of v → v ≡ refused number node
unfolding answer_of
refused_of (passed p) number node e = cc
refused_of (refused a b) number node e = cc

done_of : (v : Verdict) (n d : ℕ) → done n d ≡ answer_of v → (p : Stmt) × (v ≡ passed p) × (n ≡ size p) × (d ≡ loop_depth p)
unfolding answer_of
done_of (passed p) n d e = (p, refl, ap nodes_in e, ap loops_in e)
  where
    nodes_in : Reply Analysed → ℕ
    nodes_in (yields a) = a.nodes
    nodes_in (rejects x y) = 0

    loops_in : Reply Analysed → ℕ
    loops_in (yields a) = a.loops
    loops_in (rejects x y) = 0
done_of (refused a b) n d e = let z : ◌≡◌ {A = ℕ} 0 1 = cc in absurd (omega arith)

-- ---- refusal for a loop

module _ {t k a s m k' a' s' m' : List ℕ} {p : Stmt} {r : Reply Analysed} (l : Lent t p k a s m) (o : Analysis t k a s m k' a' s' m' r) where
  count : length t / 2 ≡ size p
  count = omega (arith, ap length (reads_only_lem t p l.well_formed.reads), length-postfix p)

  room : room_for (length t / 2) (length k) (length a) (length s) (length m) ≡ true
  room =
      both (both (both (le-leb _ (length k) (omega (arith, count, l.starts_room))) (le-leb _ (length a) (omega (arith, count, l.anys_room)))) (le-leb _ (length s) (omega (arith, count, l.contexts_room))))
      (le-leb _ (length m) (omega (arith, count, l.marks_room)))

  answer-is : r ≡ answer_of (verdict t)
  answer-is = o.answer ∙ ap answer_of (ap (λ b. checked b t) room ∙ checked-room t)

  refused_as : (i : ℕ) → (r ≡ rejects 11 i) ↔ (verdict t ≡ refused 11 i)
  unfolding answer_of
  refused_as i = (λ e. refused_of (verdict t) 11 i (sym e ∙ answer-is), λ e. answer-is ∙ ap answer_of e)

  done_as : (r ≡ done (size p) (loop_depth p)) ↔ (verdict t ≡ passed p)
  unfolding answer_of
  done_as = (λ e. decides l.well_formed ∙ only (first_node ends_at_once (places_of p) 0) (sym e ∙ answer-is ∙ ap answer_of (decides l.well_formed)), λ e. answer-is ∙ ap answer_of e)
    where
      only : (x : Option ℕ) → done (size p) (loop_depth p) ≡ answer_of (refuse_at 11 x (passed p)) → refuse_at 11 x (passed p) ≡ passed p
      only none e = refl
      only (some i) e = cc

  by_loops : ByLoops p r
  by_loops =
      record {
        refuses = λ i. joined (refused_as i) (loop_check.refuses t p l.well_formed i);
        refuses_exactly = λ i. joined (refused_as i) (loop_check.refuses_exactly t p l.well_formed i);
        accepts = joined done_as (loop_check.accepts t p l.well_formed);
        accepts_exactly = joined done_as (loop_check.accepts_exactly t p l.well_formed);
      }
    where
      joined : {A B C : Type 0} → (A ↔ B) → (B ↔ C) → A ↔ C
      joined f g = (λ x. g.0 (f.0 x), λ x. f.1 (g.1 x))

-- ---- the sets

-- a buffer that a column of the listing was written to has the node's own figure at each node
entry-is : (f : Line → ℕ) (p : Stmt) (old : List ℕ) (i : ℕ) → i < size p → get_or (onto (map f (listing p)) old) i 0 ≡ f (line_of (place_at p i))
entry-is f p old i h =
    let g : Place → ℕ = λ x. f (line_of x) in
    ap (λ l. get_or (onto l old) i 0) (map_lines f g (λ x. refl) (places_of p)) ∙ get_or-append (map g (places_of p)) _ 0 i (rw (length-by-place g p) h) ∙ by-place-at g p i h

-- and represents the node's set, where the figure is the word of a set that loses none
module _ (f : Line → ℕ) (set : Place → Codes) (is_IsWord : (x : Place) → f (line_of x) ≡ word (set x)) (p : Stmt) (old : List ℕ) {new : List ℕ} (is : new ≡ onto (map f (listing p)) old) where
  entry-represents : (i : ℕ) → i < size p → Represents (word (set (place_at p i))) (set (place_at p i)) → Represents (get_or new i 0) (set (place_at p i))
  entry-represents i h whole = rw (ap (λ l. get_or l i 0) is ∙ entry-is f p old i h ∙ is_IsWord (place_at p i)) whole

module _ {t k a s m k' a' s' m' : List ℕ} {n d : ℕ} (o : Analysis t k a s m k' a' s' m' (done n d)) where
  exact-sets : ExactSets t s m k' a' s' m' n d
  unfolding column
  exact-sets =
      let (p, v, en, ed) = done_of (verdict_for t k a s m) n d o.answer in
      let accepted = checked-passed _ t p v in
      let sound = (acceptance t p accepted).1 in
      let kept : (i : ℕ) → i < n → NoneLost (place_at p i) = λ i h. low_codes p sound i (omega arith) in
      let starts : (i : ℕ) → i < n → Represents (get_or k' i 0) (start_set (statement_at (nodes p) i)) = λ i h. rw (place-statement p i) at (entry-represents k_of (λ x. start_set (stmt_of x)) line_k p k (o.starts_are ∙ ap (λ x. column k_of x k) v) i (omega arith) (kept i h).word_k) in
      record {
        program = p;
        accepted = accepted;
        nodes_are = en;
        loops_are = ed;
        bits = λ i j h.
            (let (there, back) = exactness (statement_at (nodes p) i) (suc i - size (statement_at (nodes p) i)) j in
            (λ e. there (sym ((starts i h).bits j) ∙ e), λ f. (starts i h).bits j ∙ back f));
        contexts_are = o.contexts_are ∙ ap (λ x. column s_of x s) v ∙ ap (λ x. onto (map s_of x) s) (figure9 p sound);
        marks_are = o.marks_are ∙ ap (λ x. column mark_of x m) v ∙ ap (λ x. onto (map mark_of x) m) (figure9 p sound);
        start_words = starts;
        any_words = λ i h.
            rw (place-statement p i) at (entry-represents a_of (λ x. any_instant_set (stmt_of x)) line-a p a (o.anys_are ∙ ap (λ x. column a_of x a) v) i (omega arith) (kept i h).word_a);
        context_words = λ i h. entry-represents s_of context_of line-s p s (o.contexts_are ∙ ap (λ x. column s_of x s) v) i (omega arith) (kept i h).word_s;
        none_lost = kept;
        node_marks = λ i h. ap (λ l. get_or l i 0) (o.marks_are ∙ ap (λ x. column mark_of x m) v) ∙ entry-is mark_of p m i (omega arith) ∙ line-mark (place_at p i);
      }

-- ---- refusals

module _ {t k a s m k' a' s' m' : List ℕ} {number node : ℕ} (o : Analysis t k a s m k' a' s' m' (rejects number node)) where
  unchanged : Unchanged number node k a s m k' a' s' m'
  unfolding column
  unchanged =
      let v = refused_of (verdict_for t k a s m) number node o.answer in
      let told = told-numbered (subst (Told 11) v (checked-told _ t)) in
      record {
        some = told.some;
        known = told.known;
        within = told.within;
        same_starts = o.starts_are ∙ ap (λ x. column k_of x k) v;
        same_anys = o.anys_are ∙ ap (λ x. column a_of x a) v;
        same_contexts = o.contexts_are ∙ ap (λ x. column s_of x s) v;
        same_marks = o.marks_are ∙ ap (λ x. column mark_of x m) v;
      }

pub demand2_of_call : Demand2OfCall
demand2_of_call =
    record {
      loops = λ t k a s m k' a' s' m' p r l o. by_loops l o;
      sets = λ t k a s m k' a' s' m' n d o. exact-sets o;
      refusals = λ t k a s m k' a' s' m' number node o. unchanged o;
    }
