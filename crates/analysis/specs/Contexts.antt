-- The step of the walk over the contexts, from a node to the node before it, with the contexts xs and the traps ys of the other subtrees
-- that wait on the stack.
use Rattle.std.specs.Prelude.{ℕ, ◌+◌, ◌-◌, ◌≡◌, List, map, get_or, set}
use Rattle.codes.specs.Codes.{bit}
use Rattle.table.specs.Kinds.{arity_of, is_trap}
use Rattle.table.specs.Stacks.{Moves}
use Rattle.table.specs.declared.Kind.{Kind}
use Rattle.analysis.specs.Steps.{first_of, last_of}
use Rattle.analysis.specs.declared.Pending.{Pending}
use Rattle.analysis.specs.declared.Surroundings.{Surroundings}

-- what is on the stack, as two
abbrev pub contexts_in : List Pending → List ℕ
contexts_in = map (λ x. x.context)

abbrev pub traps_in : List Pending → List ℕ
traps_in = map (λ x. x.traps)

-- past a leaf: what is on top
pub record TopOf (xs ys : List ℕ) (waiting : ℕ) (r : Surroundings) : Type 0 where
  pub context : r.context ≡ get_or xs (waiting - 1) 0
  pub traps : r.traps ≡ get_or ys (waiting - 1) 0
  pub waits : r.waiting ≡ waiting - 1

-- into the only child
pub record OnlyOf (n : Surroundings) (P t : ℕ) (r : Surroundings) : Type 0 where
  pub context : r.context ≡ P
  pub traps : r.traps ≡ t
  pub waits : r.waiting ≡ n.waiting

-- into the second of two, while the first waits
pub record SecondOf (n : Surroundings) (first second : ℕ) (xs ys xs' ys' : List ℕ) (r : Surroundings) : Type 0 where
  pub context : r.context ≡ second
  pub traps : r.traps ≡ n.traps
  pub waits : r.waiting ≡ n.waiting + 1
  pub pending_is : xs' ≡ set xs n.waiting first
  pub counts_are : ys' ≡ set ys n.waiting n.traps

-- by the node's kind; K is the start set of its last child, if it has one
pub record Descended (k : Kind) (n : Surroundings) (K ends : ℕ) (xs ys xs' ys' : List ℕ) (r : Surroundings) : Type 0 where
  pub context : Moves (arity_of k) n.waiting (first_of k n.context n.traps K) (last_of k n.context n.traps ends) xs r.context xs'
  pub traps : Moves (arity_of k) n.waiting (n.traps + bit (is_trap k)) (n.traps + bit (is_trap k)) ys r.traps ys'
  pub waits : r.waiting ≡ n.waiting + arity_of k - 1
