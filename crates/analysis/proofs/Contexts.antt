-- The children's contexts on words, and the walk from the last node to the first that fills in the contexts and the marks.
use mathlib.Core.Path.{◌≡◌, refl, sym, ap, ap₂, subst, ◌∙◌}
use mathlib.Core.Bool.{Bool, true, false, cond, or-false}
use mathlib.Core.List.{List, [], ◌∷◌, map}
use Prim.Native.Nat.{ℕ, zero, suc, ◌+◌, ◌-◌, ◌*◌, ◌≤◌, ◌<◌}
use native.Mathlib.Omega.{arith}
use lib.Dec.{eqb-zero-suc}
use lib.ListN.{length, get_or, set, length-append, length-map}
use Rattle.codes.specs.Codes.{Codes, empty, only, union, given, without_ended, meets, bit, word}
use Rattle.codes.specs.Words.{meets_of}
use Rattle.codes.proofs.Laws.{singleton_word, union-word, without-ended-word, meets_word, under-trap-word, under-parallel-word, given_word, word_same}
use Rattle.esterel.specs.Limits.{max_nodes, max_depth, max_traps}
use Rattle.esterel.specs.Statement.{Unary, signal, suspend, loop, trap, Binary, present, sequence, parallel, Stmt, leaf, one, two, kind, size, nodes}
use Rattle.esterel.specs.Sets.{start_set, any_instant_set, Place, places_of, outside, place_at, under, under_first, under_left, under_right, mark}
use Rattle.esterel.specs.Outcome.{statement_at}
use Rattle.esterel.proofs.Accepted.{length-places}
use Rattle.esterel.proofs.Caught.{Caught, caught-at}
use Rattle.esterel.proofs.Sizes.{size_pos}
use Rattle.esterel.proofs.Subtrees.{two-children}
use Rattle.table.specs.Kinds.{kind_of, arity_of, is_trap}
use Rattle.table.specs.Program.{program_of}
use Rattle.table.specs.declared.Kind.{Kind}
use Rattle.table.proofs.Buffers.{back, back_none, back_pred, length_back, back_at}
use Rattle.table.proofs.Said.{said, traps-below, count-below}
use Rattle.table.proofs.Stacks.{none, here, Last, At, hand-is, descended, moves-length}
use Rattle.table.proofs.Surveying.{few-nodes}
use Rattle.table.proofs.Bytes.{children_of, arity_of_lem, kind_byte, table-length}
use Rattle.table.proofs.Walk.{Waiting, Walk, Next, program, begin, next, descend, place_of, places_in}
use Rattle.analysis.specs.Steps.{set_of_stmt, under_first_of, under_second_of, first_of, last_of}
use Rattle.analysis.specs.Contexts.{Descended}
use Rattle.analysis.specs.declared.Surroundings.{Surroundings}
use Rattle.analysis.specs.Passes.{Placed, Filled, onto, first_ends, context_word, contexts_of, marks_of}
use Rattle.analysis.proofs.Nodes.{PlacesPass, places-pass, not-deep}

first_word : (P K : Codes) → under_first_of (word P) (word K) ≡ word (under_first P K)
unfolding under_first_of
first_word P K = rw (meets_word K P, without-ended-word P, singleton_word 0, union-word (without_ended P) (only 0)) (go (meets K P) refl)
  where
    go : (b : Bool) → meets K P ≡ b → cond b (word (union (without_ended P) (only 0))) (word (without_ended P)) ≡ word (under_first P K)
    go true e = word_same _ _ at_true
      where
        at_true : (k : ℕ) → k < 64 → union (without_ended P) (only 0) k ≡ under_first P K k
        at_true zero h = sym e
        at_true (suc k) h = rw (eqb-zero-suc k) (or-false (P (suc k)))
    go false e = word_same _ _ at-false
      where
        at-false : (k : ℕ) → k < 64 → without_ended P k ≡ under_first P K k
        at-false zero h = sym e
        at-false (suc k) h = refl

second_word : (P : Codes) (b : Bool) → under_second_of (word P) (bit b) ≡ word (given b P)
second_word P true = given_word P true
second_word P false = given_word P false

-- the word of each child's context
last_one : (u : Unary) (q : Stmt) (P : Codes) (t ends : ℕ) → last_of (kind_of (kind (one u q))) (word P) t ends ≡ word (under u P)
unfolding kind_of
last_one (signal s) q P t ends = refl
last_one (suspend s) q P t ends = refl
last_one loop q P t ends = rw (singleton_word 0) (union-word P (only 0))
last_one trap q P t ends = under-trap-word P

first_two : (b : Binary) (q r : Stmt) (P : Codes) (t : ℕ) → first_of (kind_of (kind (two b q r))) (word P) t (word (start_set r)) ≡ word (under_left b t P r)
unfolding kind_of
first_two (present s) q r P t = refl
first_two sequence q r P t = first_word P (start_set r)
first_two parallel q r P t = under-parallel-word P t

last-two : (b : Binary) (q r : Stmt) (P : Codes) (t : ℕ) → last_of (kind_of (kind (two b q r))) (word P) t (first_ends (two b q r)) ≡ word (under_right b t P q)
unfolding kind_of
last-two (present s) q r P t = refl
last-two sequence q r P t = second_word P (start_set q 0)
last-two parallel q r P t = under-parallel-word P t

-- a column of the listing, by its places
module _ (f : Place → ℕ) (p : Stmt) where
  pub length-by-place : length (map f (places_of p)) ≡ size p
  length-by-place = length-map (places_of p) f ∙ length-places p 1 0 empty

  pub by-place-at : (i : ℕ) → i < size p → get_or (map f (places_of p)) i 0 ≡ f (place_at p i)
  by-place-at i h = go (places_of p) i (rw (length-places p 1 0 empty) h)
    where
      go : (l : List Place) (i : ℕ) → i < length l → get_or (map f l) i 0 ≡ f (get_or l i outside)
      go [] i h = absurd (omega arith)
      go (x ∷ l) zero h = refl
      go (x ∷ l) (suc i) h = go l i (omega arith)

pub length-contexts : (p : Stmt) → length (contexts_of p) ≡ size p
unfolding contexts_of
length-contexts p = length-by-place context_word p

pub length-marks : (p : Stmt) → length (marks_of p) ≡ size p
unfolding marks_of
length-marks p = length-by-place mark p

contexts-at : (p : Stmt) (i : ℕ) → i < size p → get_or (contexts_of p) i 0 ≡ context_word (place_at p i)
unfolding contexts_of
contexts-at p i h = by-place-at context_word p i h

marks-at : (p : Stmt) (i : ℕ) → i < size p → get_or (marks_of p) i 0 ≡ mark (place_at p i)
unfolding marks_of
marks-at p i h = by-place-at mark p i h

-- what holds when the nodes from i on are done
pub record Walking (p : Stmt) (pending counts : List ℕ) (node : Surroundings) (contexts₀ contexts marks₀ marks : List ℕ) (i : ℕ) : Type 0 where
  pub ws : List Waiting
  pub walk : Walk p i ws
  pub count : node.waiting ≡ length ws
  pub pending_long : length pending ≡ max_depth + 1
  pub counts_long : length counts ≡ max_depth + 1
  pub context_at : At (λ w. word w.context) node.context pending ws
  pub traps_at : At (λ w. w.traps) node.traps counts ws
  pub contexts_are : contexts ≡ back (contexts_of p) contexts₀ i
  pub marks_are : marks ≡ back (marks_of p) marks₀ i

empty-word : word empty ≡ 0
unfolding word
empty-word = refl

-- at the beginning the program waits, with the empty context
pub walk_start : (p : Stmt) (pending counts contexts marks : List ℕ) (i : ℕ) → i ≡ size p → length pending ≡ max_depth + 1 → length counts ≡ max_depth + 1
    → Walking p pending counts (record { context = 0; traps = 0; waiting = 1 }) contexts contexts marks marks i
unfolding begin
walk_start p pending counts contexts marks i e lp lc =
    rw e
    record {
      ws = program p ∷ [];
      walk = begin p;
      count = refl;
      pending_long = lp;
      counts_long = lc;
      context_at = here (program p) [] (sym empty-word) none;
      traps_at = here (program p) [] refl none;
      contexts_are = sym (ap (back (contexts_of p) contexts) (sym (length-contexts p)) ∙ back_none (contexts_of p) contexts);
      marks_are = sym (ap (back (marks_of p) marks) (sym (length-marks p)) ∙ back_none (marks_of p) marks);
    }

module _ {p : Stmt} {pending counts : List ℕ} {node : Surroundings} {contexts₀ contexts marks₀ marks : List ℕ} {i : ℕ} (o : Walking p pending counts node contexts₀ contexts marks₀ marks i) where
  pub walk-bound : i ≤ size p
  walk-bound =
      let total : length (places_of p) ≡ length (places_in o.ws) + length o.walk.seen = ap length o.walk.are ∙ length-append (places_in o.ws) o.walk.seen in
      omega (arith, total, length-places p 1 0 empty, o.walk.left)

  pub contexts-long : size p ≤ length contexts₀ → length contexts ≡ length contexts₀
  contexts-long room = ap length o.contexts_are ∙ length_back (contexts_of p) contexts₀ (omega (arith, length-contexts p)) i (omega (arith, walk-bound, length-contexts p))

  pub marks-long : size p ≤ length marks₀ → length marks ≡ length marks₀
  marks-long room = ap length o.marks_are ∙ length_back (marks_of p) marks₀ (omega (arith, length-marks p)) i (omega (arith, walk-bound, length-marks p))

  pub stepped : 0 < i → Walking p pending counts node contexts₀ contexts marks₀ marks (suc (i - 1))
  stepped h =
      let e : i ≡ suc (i - 1) = omega arith in
      subst (λ n. Walking p pending counts node contexts₀ contexts marks₀ marks n) e o

  -- the whole columns stand there at the end
  pub contexts-end : i ≡ 0 → contexts ≡ onto (contexts_of p) contexts₀
  contexts-end e = o.contexts_are ∙ ap (back (contexts_of p) contexts₀) e

  pub marks-end : i ≡ 0 → marks ≡ onto (marks_of p) marks₀
  marks-end e = o.marks_are ∙ ap (back (marks_of p) marks₀) e

-- what a turn at the node i needs
pub record Turn (t : List ℕ) (node : Surroundings) (contexts marks : List ℕ) (i : ℕ) : Type 0 where
  pub inside : i < size (program_of t)
  pub table : 2 * i + 1 < length t
  pub waits : 0 < node.waiting
  pub fits : node.waiting ≤ max_depth
  pub traps : node.traps ≤ max_traps
  pub in_contexts : i < length contexts
  pub in_marks : i < length marks
  pub low : i < max_nodes

module _ {t : List ℕ} (ok : Placed t) {pending counts : List ℕ} {node : Surroundings} {contexts₀ contexts marks₀ marks : List ℕ} {i : ℕ} (room_s : size (program_of t) ≤ length contexts₀) (room_m : size (program_of t) ≤ length marks₀) (o : Walking (program_of t) pending counts node contexts₀ contexts marks₀ marks (suc i)) where
  ahead : Next (program_of t) i o.ws o.walk.seen
  ahead = next (program_of t) i o.ws o.walk

  abbrev w : Waiting
  w = ahead.top

  count : node.waiting ≡ suc (length ahead.below)
  count = o.count ∙ ap length ahead.is

  inside : i < size (program_of t)
  inside = walk-bound o

  pass : PlacesPass (places_of (program_of t))
  pass = places-pass (places_of (program_of t)) ok.passes

  few-traps : w.traps ≤ max_traps
  few-traps =
      let y : Caught (place_of w) = rw ahead.place at (caught-at (program_of t) pass.traps pass.exits i) in
      y.few

  fits : node.waiting ≤ max_depth
  fits = omega (arith, count, ahead.depth, not-deep ok i w ahead.place)

  context-at : At (λ w. word w.context) node.context pending (w ∷ ahead.below)
  context-at = rw ahead.is at o.context_at

  traps-at : At (λ w. w.traps) node.traps counts (w ∷ ahead.below)
  traps-at = rw ahead.is at o.traps_at

  context-is : node.context ≡ word w.context
  context-is = hand-is (λ w. word w.context) w ahead.below context-at

  traps-is : node.traps ≡ w.traps
  traps-is = hand-is (λ w. w.traps) w ahead.below traps-at

  pub turn : Turn t node contexts marks i
  turn =
      record {
        inside = inside;
        table = omega (arith, inside, table-length t ok.readable);
        waits = omega (arith, count);
        fits = fits;
        traps = omega (arith, traps-is, few-traps);
        in_contexts = omega (arith, inside, contexts-long o room_s);
        in_marks = omega (arith, inside, marks-long o room_m);
        low = omega (arith, inside, few-nodes t ok.readable);
      }

  flag-kept : get_or marks i 0 ≡ get_or marks₀ i 0
  flag-kept = ap (λ l. get_or l i 0) o.marks_are ∙ back_at (marks_of (program_of t)) marks₀ (omega (arith, length-marks (program_of t))) (suc i) i (omega (arith, inside, length-marks (program_of t))) (omega arith)

  -- what the turn has read, the kind k, the last child's start set K and the flag, and what it computes, the mark m
  module _ {k : Kind} {K ends m : ℕ} (sets anys : List ℕ) (done : Filled false (program_of t) sets) (any : Filled true (program_of t) anys) (flagged : (j : ℕ) → j < size (program_of t) → get_or marks₀ j 0 ≡ first_ends (statement_at (nodes (program_of t)) j)) (ek : k ≡ kind_of (get_or t (2 * i) 0)) (el : (i ≡ 0 → ⊥) → K ≡ get_or sets (i - 1) 0) (ee : ends ≡ get_or marks i 0) (em : m ≡ bit (meets_of (get_or anys i 0) node.context)) where
    kind-is : k ≡ kind_of (kind w.root)
    kind-is = ek ∙ ap kind_of (kind_byte t ok.readable i inside ∙ ap kind ahead.statement)

    children : arity_of k ≡ children_of w.root
    children = ap arity_of kind-is ∙ arity_of_lem w.root

    ends_is : ends ≡ first_ends w.root
    ends_is = ee ∙ flag-kept ∙ flagged i inside ∙ ap first_ends ahead.statement

    contexts-below : Last (λ c. word c.context) w.depth w.traps w.loops w.context w.root (first_of k node.context node.traps K) (last_of k node.context node.traps ends)
    unfolding Filled
    contexts-below = go w.root ahead.statement kind-is ends_is
      where
        go : (s : Stmt) → statement_at (nodes (program_of t)) i ≡ s → k ≡ kind_of (kind s) → ends ≡ first_ends s → Last (λ c. word c.context) w.depth w.traps w.loops w.context s (first_of k node.context node.traps K) (last_of k node.context node.traps ends)
        go (leaf l) e kk ke = tt
        go (one u q) e kk ke = ap (λ j. last_of j node.context node.traps ends) kk ∙ ap₂ (λ x y. last_of (kind_of (kind (one u q))) x y ends) context-is traps-is ∙ last_one u q w.context w.traps ends
        go (two b q r) e kk ke =
            let (le, right, left) = two-children (program_of t) i b q r e in
            let pos : i ≡ 0 → ⊥ = λ n. omega (arith, size_pos q) in
            let last : K ≡ word (start_set r) = el pos ∙ done (i - 1) (omega (arith, inside)) ∙ ap (λ s. word (set_of_stmt false s)) right in (
              ap (λ j. first_of j node.context node.traps K) kk ∙ ap₂ (λ x y. first_of (kind_of (kind (two b q r))) x y K) context-is traps-is ∙ ap (first_of (kind_of (kind (two b q r))) (word w.context) w.traps) last ∙ first_two b q r w.context w.traps,
              ap (λ j. last_of j node.context node.traps ends) kk ∙ ap₂ (λ x y. last_of (kind_of (kind (two b q r))) x y ends) context-is traps-is ∙ ap (last_of (kind_of (kind (two b q r))) (word w.context) w.traps) ke ∙ last-two b q r w.context w.traps,
            )

    mark-is : m ≡ mark (place_at (program_of t) i)
    unfolding Filled
    mark-is =
        em ∙ ap₂ (λ u v. bit (meets_of u v)) (any i inside ∙ ap (λ s. word (any_instant_set s)) ahead.statement) context-is
        ∙ ap bit (meets_word (any_instant_set w.root) w.context) ∙ sym (ap mark ahead.place)

    pub walk-on : {pending' counts' : List ℕ} {node' : Surroundings} → Descended k node K ends pending counts pending' counts' node' → Walking (program_of t) pending' counts' node' contexts₀ (set contexts i node.context) marks₀ (set marks i m) i
    walk-on n =
        record {
          ws = descend w ahead.below;
          walk = ahead.on;
          count = omega (arith, n.waits, children, count, count-below w.depth w.traps w.loops w.context w.root ahead.below);
          pending_long = moves-length n.context ∙ o.pending_long;
          counts_long = moves-length n.traps ∙ o.counts_long;
          context_at = descended (λ c. word c.context) w ahead.below context-at count children (omega (arith, fits, o.pending_long)) contexts-below n.context;
          traps_at =
              descended (λ c. c.traps) w ahead.below traps-at count children (omega (arith, fits, o.counts_long))
              (traps-below w.depth w.traps w.loops w.context w.root (node.traps + bit (is_trap k)) (omega (arith, traps-is, ap (λ j. bit (is_trap j)) kind-is ∙ (said w.root).traps))) n.traps;
          contexts_are =
              ap (λ l. set l i node.context) o.contexts_are
              ∙ back_pred (contexts_of (program_of t)) contexts₀ (omega (arith, length-contexts (program_of t))) i node.context (omega (arith, inside, length-contexts (program_of t))) (context-is ∙ sym (contexts-at (program_of t) i inside ∙ ap context_word ahead.place));
          marks_are =
              ap (λ l. set l i m) o.marks_are
              ∙ back_pred (marks_of (program_of t)) marks₀ (omega (arith, length-marks (program_of t))) i m (omega (arith, inside, length-marks (program_of t))) (mark-is ∙ sym (marks-at (program_of t) i inside));
        }
