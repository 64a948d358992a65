-- What holds at each turn of the survey: the walk from the last node to the first, with the stacks and the answers that go with it.
use mathlib.Core.Path.{◌≡◌, refl, sym, ap, ap₂, subst, ◌∙◌}
use mathlib.Core.Bool.{Bool, true, false, ◌&&◌, cond}
use mathlib.Core.List.{List, [], ◌∷◌}
use Prim.Native.Nat.{ℕ, suc, ◌+◌, ◌-◌, ◌*◌, ◌/◌, max, ◌≤◌, ◌<◌}
use native.Mathlib.Omega.{arith}
use lib.ListN.{length, get_or, length-append}
use lib.Dec.{leb, ltb}
use borrow.Author.Tests.{ltb-false}
use Rattle.esterel.specs.Limits.{max_nodes, max_depth, max_traps}
use Rattle.esterel.specs.Statement.{signal, suspend, loop, trap, Stmt, leaf, one, two, kind, field, size, loop_depth}
use Rattle.esterel.specs.Table.{Verdict, passed, refused}
use Rattle.esterel.specs.Codes.{Codes, bit, empty}
use Rattle.esterel.specs.Sets.{places}
use Rattle.esterel.specs.Checks.{too_deep, too_many_traps, uncaught, verdict}
use Rattle.esterel.proofs.Sizes.{size_pos}
use Rattle.table.specs.Kinds.{kind_of, arity_of, is_trap, is_loop, is_exit}
use Rattle.table.specs.Program.{program_in, program_of, Readable}
use Rattle.table.specs.Stacks.{Moves}
use Rattle.table.specs.Check.{refuse_below, places_check, Shallow, Descended, Seen, Surveyed}
use Rattle.table.specs.declared.Kind.{Kind}
use Rattle.std.specs.Prelude.{Result}
use Rattle.esterel.specs.Refusal.{yields, reply}
use Rattle.esterel.specs.declared.Refusal.{Refusal}
use Rattle.table.specs.declared.Faults.{Faults}
use Rattle.table.specs.declared.Nesting.{Nesting}
use Rattle.table.proofs.Bytes.{children_of, arity_of_lem, table-length, kind_byte, field_byte}
use Rattle.table.proofs.Walk.{Waiting, Walk, Next, program, begin, next, ended, children, descend, place_of, places_in}
use Rattle.esterel.proofs.Accepted.{length-places, accepted-read}
use Rattle.table.proofs.Stacks.{none, more, here, Low, low-top, descend-low, moves-down, Held, Hand, in_hand, descend-held}
use Rattle.table.proofs.Said.{said, traps_of, loops_of, loop-body, bit-small, depth_below, traps-below, loops-below, count-below}
use Rattle.table.proofs.Found.{Answers, answer-more, together}

-- a table that was read has at most 1,024 nodes
few_bytes : (b : Bool) (next : Verdict) (p : Stmt) → cond b (refused 1 0) next ≡ passed p → b ≡ false
few_bytes true next p e = cc
few_bytes false next p e = refl

pub few-nodes : (t : List ℕ) → Readable t → size (program_of t) ≤ max_nodes
few-nodes t ok =
    let z = few_bytes (ltb (2 * max_nodes) (length t)) _ (program_of t) ok.reads in
    omega (arith, ltb-false (2 * max_nodes) (length t) z, table-length t ok)

-- and so has one that is accepted
pub few-accepted : (t : List ℕ) (p : Stmt) → verdict t ≡ passed p → size p ≤ max_nodes
unfolding program_of
few-accepted t p e =
    let reads = (accepted-read t p e).0 in
    let is : program_of t ≡ p = ap program_in reads in
    rw is at (few-nodes t record { reads = reads ∙ ap passed (sym is) })

-- the loop depth that the ones that wait come to
abbrev deepest : List Waiting → ℕ
deepest [] = 0
deepest (w ∷ ws) = max (deepest ws) (w.loops + loop_depth w.root)

-- The node on top gives way to its children, and m has the loops around them too. Past a leaf nothing is lost, since m has those around it.
module _ (d t l : ℕ) (P : Codes) (ws : List Waiting) {m : ℕ} (le : l ≤ m) where
  deepest-below : (s : Stmt) → max (max m (l + loops_of s)) (deepest (children d t l P s ws)) ≡ max m (max (deepest ws) (l + loop_depth s))
  deepest-below (leaf x) = omega arith
  deepest-below (one (signal s) p) = omega arith
  deepest-below (one (suspend s) p) = omega arith
  deepest-below (one loop p) = omega arith
  deepest-below (one trap p) = omega arith
  deepest-below (two b p q) =
      let same : max m (l + 0) ≡ m = omega arith in
      let joined : max (max (deepest ws) (l + loop_depth p)) (l + loop_depth q) ≡ max (deepest ws) (l + max (loop_depth p) (loop_depth q)) = omega arith in
      ap₂ max same joined

-- before the node i − 1. With each node seen, what waits is at most one deeper, in one more trap and in one more loop.
pub record State (p : Stmt) (depths traps loops : List ℕ) (node : Nesting) (faults : Faults) (most i : ℕ) : Type 0 where
  pub ws : List Waiting
  pub walk : Walk p i ws
  pub count : node.waiting ≡ length ws
  pub low : ℕ
  pub sum : low + i ≡ size p + 1
  pub depths_are : Held (λ w. w.depth) low node.depth depths ws
  pub traps_are : Held (λ w. w.traps) low node.traps traps ws
  pub loops_are : Held (λ w. w.loops) low node.loops loops ws
  pub answers : Answers walk.seen i faults
  pub around : Low (λ w. w.loops) most ws
  pub most_is : max most (deepest ws) ≡ loop_depth p

-- at the beginning the program waits
pub start : (p : Stmt) (depths traps loops : List ℕ) (faults : Faults) (i : ℕ) → i ≡ size p
    → length depths ≡ max_nodes / 2 + 1 → length traps ≡ max_nodes / 2 + 1 → length loops ≡ max_nodes / 2 + 1
    → faults.depths ≡ max_nodes → faults.traps ≡ max_nodes → faults.exits ≡ max_nodes
    → State p depths traps loops (record { depth = 1; traps = 0; loops = 0; waiting = 1 }) faults 0 i
unfolding begin
start p depths traps loops faults i e ld lt ll fd ft fe =
    rw e
    record {
      ws = program p ∷ [];
      walk = begin p;
      count = refl;
      low = 1;
      sum = omega arith;
      depths_are = record { long = ld; at = here (program p) [] refl none; low = more (program p) [] (omega arith) none };
      traps_are = record { long = lt; at = here (program p) [] refl none; low = more (program p) [] (omega arith) none };
      loops_are = record { long = ll; at = here (program p) [] refl none; low = more (program p) [] (omega arith) none };
      answers = record { depths = fd; traps = ft; exits = fe };
      around = more (program p) [] (omega arith) none;
      most_is = omega arith;
    }

-- each that waits has a node
nodes_wait : (ws : List Waiting) → length ws ≤ length (places_in ws)
nodes_wait [] = omega arith
nodes_wait (w ∷ ws) =
    omega (arith, nodes_wait ws, length-append (places_in ws) (places w.depth w.traps w.context w.root), length-places w.root w.depth w.traps w.context, size_pos w.root)

-- what a turn at the node i needs
pub record Turn (t : List ℕ) (node : Nesting) (i : ℕ) : Type 0 where
  pub waits : 0 < node.waiting
  pub low : i < max_nodes
  pub inside : 2 * i + 1 < length t
  pub room : node.waiting ≤ max_nodes / 2
  pub shallow : Shallow max_nodes node

module _ {p : Stmt} {depths traps loops : List ℕ} {node : Nesting} {faults : Faults} {m : ℕ} where
  pub back : (i : ℕ) → 0 < i → State p depths traps loops node faults m i → State p depths traps loops node faults m (suc (i - 1))
  back i lt o =
      let e : i ≡ suc (i - 1) = omega arith in
      subst (λ n. State p depths traps loops node faults m n) e o

  pub few_wait : {i : ℕ} → State p depths traps loops node faults m i → node.waiting ≤ i
  few_wait o = omega (arith, o.count, o.walk.left, nodes_wait o.ws)

  -- at the end all are seen
  pub finish : State p depths traps loops node faults m 0 → size p ≤ max_nodes → (check : Result (Unit {0}) Refusal) → reply check ≡ refuse_below 8 faults.depths (refuse_below 9 faults.traps (refuse_below 10 faults.exits (yields tt)))
      → Surveyed p (record { check = check; loops = m })
  finish o few check e =
      let z = ended p o.ws o.walk in
      record {
        check = e ∙ together o.walk.seen 0 faults (omega (arith, ap length z.are, length-places p 1 0 empty)) o.answers ∙ ap (λ ps. places_check ps 0) z.are;
        loops = omega (arith, rw z.none_wait at o.most_is);
      }

-- a turn, at the node i
module _ (t : List ℕ) (ok : Readable t) {depths traps loops : List ℕ} {node : Nesting} {faults : Faults} {m i : ℕ} (o : State (program_of t) depths traps loops node faults m (suc i)) where
  ahead : Next (program_of t) i o.ws o.walk.seen
  ahead = next (program_of t) i o.ws o.walk

  abbrev w : Waiting
  w = ahead.top

  count : node.waiting ≡ suc (length ahead.below)
  count = o.count ∙ ap length ahead.is

  hand : (f : Waiting → ℕ) {v : ℕ} {xs : List ℕ} → Held f o.low v xs o.ws → Hand f o.low v w
  hand f s = in_hand f o.low w ahead.below (rw ahead.is at s)

  depth_is : Hand (λ w. w.depth) o.low node.depth w
  depth_is = hand (λ w. w.depth) o.depths_are

  traps-is : Hand (λ w. w.traps) o.low node.traps w
  traps-is = hand (λ w. w.traps) o.traps_are

  loops_is : Hand (λ w. w.loops) o.low node.loops w
  loops_is = hand (λ w. w.loops) o.loops_are

  in_table : i < size (program_of t)
  in_table = omega (arith, o.sum, ahead.depth, depth_is.low)

  low_fits : o.low ≤ max_nodes
  low_fits = omega (arith, o.sum, few-nodes t ok)

  -- as deep as the stack is high or deeper: so no more wait than half of the nodes
  room : node.waiting ≤ max_nodes / 2
  room = omega (arith, o.sum, few-nodes t ok, ahead.depth, depth_is.low, few_wait o, count)

  pub turn : Turn t node i
  turn =
      record {
        waits = omega (arith, count);
        low = omega (arith, in_table, few-nodes t ok);
        inside = omega (arith, in_table, table-length t ok);
        room = room;
        shallow =
            record {
              depth = omega (arith, depth_is.is, depth_is.low, low_fits);
              traps = omega (arith, traps-is.is, traps-is.low, low_fits);
              loops = omega (arith, loops_is.is, loops_is.low, low_fits);
            };
      }

  -- the answers with the node, where k is its kind and f its field
  answers-more : (k : Kind) (f : ℕ) (faults' : Faults) → k ≡ kind_of (kind w.root) → f ≡ field w.root
      → Seen faults k f i node faults' → Answers (place_of w ∷ o.walk.seen) i faults'
  answers-more k f faults' ek ef s =
      let q = said w.root in
      let more-traps : node.traps + 1 ≡ suc w.traps = omega (arith, traps-is.is) in
      record {
        depths = answer-more too_deep o.walk.seen i (place_of w) _ _ _ (ap (λ d. ltb max_depth d) depth_is.is) o.answers.depths s.depths;
        traps = answer-more too_many_traps o.walk.seen i (place_of w) (is_trap k && ltb max_traps (node.traps + 1)) _ _ (ap₂ (λ j n. is_trap j && ltb max_traps n) ek more-traps ∙ q.many w.depth w.traps w.context) o.answers.traps s.traps;
        exits = answer-more uncaught o.walk.seen i (place_of w) (is_exit k && leb node.traps f) _ _ (ap₂ (λ j b. is_exit j && b) ek (ap₂ leb traps-is.is ef) ∙ q.loose w.depth w.traps w.context) o.answers.exits s.exits;
      }

  -- a loop is counted when the walk goes into its body
  most-grows : {m' v c : ℕ} {zs : List ℕ} (b : Bool) → bit b ≡ loops_of w.root → c ≡ children_of w.root → Moves c node.waiting (node.loops + bit b) (node.loops + bit b) loops v zs
      → m' ≡ cond b (max m v) m → m' ≡ max m (w.loops + loops_of w.root)
  most-grows true e ec n em =
      let down = moves-down w.root (omega (arith, loop-body w.root)) (rw ec at n) in
      omega (arith, loops_is.is)
  most-grows false e ec n em = omega (arith, low-top (λ w. w.loops) (rw ahead.is at o.around))

  -- the state after the turn
  pub turned : (k : Kind) (f : ℕ) (node' : Nesting) (faults' : Faults) (m' : ℕ) (xs ys zs : List ℕ)
      → k ≡ kind_of (get_or t (2 * i) 0) → f ≡ get_or t (2 * i + 1) 0
      → Seen faults k f i node faults' → Descended k node depths traps loops xs ys zs node'
      → (b : Bool) → is_loop k ≡ b → m' ≡ cond b (max m node'.loops) m
      → State (program_of t) xs ys zs node' faults' m' i
  turned k f node' faults' m' xs ys zs ek ef s n b eb em =
      let q = said w.root in
      let kw : k ≡ kind_of (kind w.root) = ek ∙ ap kind_of (kind_byte t ok i in_table ∙ ap kind ahead.statement) in
      let fw : f ≡ field w.root = ef ∙ field_byte t ok i in_table ∙ ap field ahead.statement in
      let children : arity_of k ≡ children_of w.root = ap arity_of kw ∙ arity_of_lem w.root in
      let catches : bit (is_trap k) ≡ traps_of w.root = ap (λ j. bit (is_trap j)) kw ∙ q.traps in
      let repeats : bit (is_loop k) ≡ loops_of w.root = ap (λ j. bit (is_loop j)) kw ∙ q.loops in
      let low : Low (λ w. w.loops) m (w ∷ ahead.below) = rw ahead.is at o.around in
      let grown = most-grows (is_loop k) repeats children n.loops (em ∙ ap (λ b. cond b (max m node'.loops) m) (sym eb)) in
      record {
        ws = descend w ahead.below;
        walk = ahead.on;
        count = omega (arith, n.waits, children, count, count-below w.depth w.traps w.loops w.context w.root ahead.below);
        low = suc o.low;
        sum = omega (arith, o.sum);
        depths_are =
            descend-held (λ w. w.depth) o.low w ahead.below (rw ahead.is at o.depths_are) count children room n.depth
            (omega (arith, depth_is.is, depth_is.low)) (depth_below w.depth w.traps w.loops w.context w.root (node.depth + 1) (omega (arith, depth_is.is)));
        traps_are =
            descend-held (λ w. w.traps) o.low w ahead.below (rw ahead.is at o.traps_are) count children room n.traps
            (omega (arith, traps-is.is, traps-is.low, bit-small (is_trap k))) (traps-below w.depth w.traps w.loops w.context w.root (node.traps + bit (is_trap k)) (omega (arith, traps-is.is, catches)));
        loops_are =
            descend-held (λ w. w.loops) o.low w ahead.below (rw ahead.is at o.loops_are) count children room n.loops
            (omega (arith, loops_is.is, loops_is.low, bit-small (is_loop k))) (loops-below w.depth w.traps w.loops w.context w.root (node.loops + bit (is_loop k)) (omega (arith, loops_is.is, repeats)));
        answers = rw ahead.on_seen (answers-more k f faults' kw fw s);
        around = descend-low (λ w. w.loops) (omega (arith, grown)) (omega (arith, grown)) (loops-below w.depth w.traps w.loops w.context w.root (w.loops + loops_of w.root) refl) low;
        most_is = rw grown (deepest-below w.depth w.traps w.loops w.context ahead.below (low-top (λ w. w.loops) low) w.root) ∙ rw ahead.is at o.most_is;
      }
