-- What the checks answer.
use Rattle.std.specs.Prelude.{ℕ, zero, suc, ◌+◌, ◌-◌, ◌*◌, ◌%◌, ◌<◌, ◌≤◌, ◌≡◌, Bool, true, false, not, ◌&&◌, ◌||◌, cond, List, [], map, length, get_or, set, eqb, leb, ltb}
use Rattle.std.proofs.Math.Option.{Option, none, some}
use Rattle.esterel.specs.Limits.{max_nodes, max_depth, max_traps}
use Rattle.esterel.specs.Statement.{Stmt, loop_depth}
use Rattle.esterel.specs.Codes.{bit}
use Rattle.esterel.specs.Sets.{Place, places_of}
use Rattle.esterel.specs.Table.{Verdict, passed, refused, scan}
use Rattle.esterel.specs.Checks.{too_deep, too_many_traps, uncaught, first_node}
use Rattle.table.specs.Kinds.{arity_of, plain_of, is_trap, is_loop, is_exit}
use Rattle.table.specs.Stacks.{Moves}
use Rattle.table.specs.declared.Kind.{Kind}
use Rattle.table.specs.declared.Kind.TheVariants.{Nothing, Pause, Emit, Exit, Signal, Present, Suspend, Loop, Sequence, Parallel, Trap, Unknown}
use Rattle.esterel.specs.Refusal.{Reply, yields, rejects, reply}
use Rattle.table.specs.declared.Survey.{Survey}
use Rattle.table.specs.declared.Faults.{Faults}
use Rattle.table.specs.declared.Nesting.{Nesting}
use Rattle.table.specs.declared.Level.{Level}

-- the number and the node of an answer, where it refuses, before what comes next
abbrev pub refuse : Reply (Unit {0}) → Verdict → Verdict
refuse (yields done) next = next
refuse (rejects number node) next = refused number node

-- the answer for a verdict
abbrev pub answer_of : Verdict → Reply (Unit {0})
answer_of (passed p) = yields tt
answer_of (refused number node) = rejects number node

-- a check that names no node: passed if the test holds
abbrev pub pass_if : (number : ℕ) → Bool → Reply (Unit {0})
pass_if number true = yields tt
pass_if number false = rejects number 0

-- checks 1 and 2
unfoldable pub length_check : List ℕ → Reply (Unit {0})
length_check t =
    cond (ltb (2 * max_nodes) (length t)) (rejects 1 0) (cond (eqb (length t) 0 || eqb (length t % 2) 1) (rejects 2 0) (yields tt))

-- and what a table that passes them is
pub record WellSized (t : List ℕ) : Type 0 where
  pub some : 0 < length t
  pub even : length t % 2 ≡ 0
  pub few : length t ≤ 2 * max_nodes

abbrev pub known_of : Kind → Bool
known_of Nothing = true
known_of Pause = true
known_of Emit = true
known_of Exit = true
known_of Signal = true
known_of Present = true
known_of Suspend = true
known_of Loop = true
known_of Sequence = true
known_of Parallel = true
known_of Trap = true
known_of Unknown = false

-- checks 4, 5 and 6 of one node, before which so many statements are unused
unfoldable pub node_check : Kind → (field unused node : ℕ) → Reply (Unit {0})
node_check k field unused node =
    cond (known_of k)
    (cond (plain_of k && not (eqb field 0)) (rejects 5 node) (cond (ltb unused (arity_of k)) (rejects 6 node) (yields tt)))
    (rejects 4 node)

-- the size of the subtree at a node with so many children, from that of the node before it and from the sizes before it
unfoldable pub span_of : (sizes : List ℕ) (node children last : ℕ) → ℕ
span_of sizes i zero last = 1
span_of sizes i (suc zero) last = last + 1
span_of sizes i (suc (suc c)) last = get_or sizes (i - 1 - last) 0 + last + 1

-- and the children stand before it
pub record Room (sizes : List ℕ) (node children last : ℕ) : Type 0 where
  pub within : node ≤ length sizes
  pub few : children ≤ 2
  pub two : 1 < children → last < node
  pub fits : span_of sizes node children last ≤ node + 1

-- checks 4 to 7 of a table
unfoldable pub nodes_check : List ℕ → Reply (Unit {0})
nodes_check t = answer_of (scan t 0 [])

-- a refusal at a node that was found, before what comes next
abbrev pub refuse_found : ℕ → Option ℕ → Reply (Unit {0}) → Reply (Unit {0})
refuse_found number none next = next
refuse_found number (some node) next = rejects number node

-- checks 8, 9 and 10, each over all places before the next
unfoldable pub places_check : List Place → ℕ → Reply (Unit {0})
places_check ps n =
    refuse_found 8 (first_node too_deep ps n) (refuse_found 9 (first_node too_many_traps ps n) (refuse_found 10 (first_node uncaught ps n) (yields tt)))

-- the node that was found, or max_nodes
abbrev pub lowest : Option ℕ → ℕ
lowest none = max_nodes
lowest (some node) = node

-- a refusal at a node below max_nodes, before what comes next
abbrev pub refuse_below : (number node : ℕ) → Reply (Unit {0}) → Reply (Unit {0})
refuse_below number node next = cond (ltb node max_nodes) (rejects number node) next

-- the nodes at which checks 8, 9 and 10 fail, with one more seen, the lowest
pub record Seen (o : Faults) (k : Kind) (field node : ℕ) (n : Nesting) (r : Faults) : Type 0 where
  pub depths : r.depths ≡ cond (ltb max_depth n.depth) node o.depths
  pub traps : r.traps ≡ cond (is_trap k && ltb max_traps (n.traps + 1)) node o.traps
  pub exits : r.exits ≡ cond (is_exit k && leb n.traps field) node o.exits

pub record Shallow (m : ℕ) (n : Nesting) : Type 0 where
  pub depth : n.depth ≤ m
  pub traps : n.traps ≤ m
  pub loops : n.loops ≤ m

-- what is on the stack, as three
abbrev pub depths_of : List Level → List ℕ
depths_of = map (λ x. x.depth)

abbrev pub traps_of : List Level → List ℕ
traps_of = map (λ x. x.traps)

abbrev pub loops_of : List Level → List ℕ
loops_of = map (λ x. x.loops)

-- Where the walk goes on from a node, with the depths xs, the traps ys and the loops zs on the stacks. Past a leaf: what is on top
pub record TopOf (xs ys zs : List ℕ) (waiting : ℕ) (r : Nesting) : Type 0 where
  pub depth : r.depth ≡ get_or xs (waiting - 1) 0
  pub traps : r.traps ≡ get_or ys (waiting - 1) 0
  pub loops : r.loops ≡ get_or zs (waiting - 1) 0
  pub waits : r.waiting ≡ waiting - 1

-- into the only child
pub record OnlyOf (n : Nesting) (t l : ℕ) (r : Nesting) : Type 0 where
  pub depth : r.depth ≡ n.depth + 1
  pub traps : r.traps ≡ t
  pub loops : r.loops ≡ l
  pub waits : r.waiting ≡ n.waiting

-- into the second of two, while the first waits
pub record SecondOf (n : Nesting) (xs ys zs xs' ys' zs' : List ℕ) (r : Nesting) : Type 0 where
  pub depth : r.depth ≡ n.depth + 1
  pub traps : r.traps ≡ n.traps
  pub loops : r.loops ≡ n.loops
  pub waits : r.waiting ≡ n.waiting + 1
  pub depths_are : xs' ≡ set xs n.waiting (n.depth + 1)
  pub traps_are : ys' ≡ set ys n.waiting n.traps
  pub loops_are : zs' ≡ set zs n.waiting n.loops

-- by the node's kind; both children have one number
pub record Descended (k : Kind) (n : Nesting) (xs ys zs xs' ys' zs' : List ℕ) (r : Nesting) : Type 0 where
  pub depth : Moves (arity_of k) n.waiting (n.depth + 1) (n.depth + 1) xs r.depth xs'
  pub traps : Moves (arity_of k) n.waiting (n.traps + bit (is_trap k)) (n.traps + bit (is_trap k)) ys r.traps ys'
  pub loops : Moves (arity_of k) n.waiting (n.loops + bit (is_loop k)) (n.loops + bit (is_loop k)) zs r.loops zs'
  pub waits : r.waiting ≡ n.waiting + arity_of k - 1

-- what a survey of a program finds
pub record Surveyed (p : Stmt) (r : Survey) : Type 0 where
  pub check : reply r.check ≡ places_check (places_of p) 0
  pub loops : r.loops ≡ loop_depth p
