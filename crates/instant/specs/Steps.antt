-- What the small functions around the calls of a run answer.
use Rattle.std.specs.Prelude.{ℕ, zero, suc, ◌+◌, ◌-◌, max, ◌≡◌, Option, Some, None, Bool, true, false, ◌&&◌, cond, List, [], ◌∷◌, eqb, ltb, length, get_or, set}
use Rattle.std.proofs.lemmas.List.Edits.{sets}
use Rattle.esterel.specs.Statement.{Leaf, nothing, pause, emit, exit, leaf}
use Rattle.esterel.specs.Codes.{catch_code}
use Rattle.esterel.specs.Instant.{zeros}
use Rattle.esterel.specs.Outcome.{emission}
use Rattle.table.specs.Columns.{first_at}
use Rattle.table.specs.Kinds.{leaf_code, is_trap}
use Rattle.table.specs.declared.Kind.{Kind}
use Rattle.instant.specs.declared.Reaction.{Reaction}

-- byte 1 for each of the signals
abbrev pub marked : List ℕ → List ℕ → List ℕ
marked [] bytes = bytes
marked (s ∷ ss) bytes = marked ss (set bytes s 1)

-- a run of a node that enters none beneath it
abbrev pub alone : (code taken : ℕ) → Reaction
alone code taken = record { code = code; taken = taken; entries = 1 }

-- the node's own entry
abbrev pub one_more : Reaction → Reaction
one_more r = record { code = r.code; taken = r.taken; entries = r.entries + 1 }

-- what a trap makes of an answer
abbrev pub catch_ran : Reaction → Reaction
catch_ran r = record { code = catch_code r.code; taken = r.taken; entries = r.entries }

abbrev pub catches : Reaction → Bool
catches r = eqb r.code 2

-- a node with one child is left, with the nodes from `first` on beneath it: a trap that catches drops all pauses there
pub record Left (k : Kind) (inner : Reaction) (first node : ℕ) (held held' : List ℕ) (r : Reaction) : Type 0 where
  pub answer : r ≡ one_more (cond (is_trap k) (catch_ran inner) inner)
  pub state : held' ≡ cond (is_trap k && catches inner) (sets held first (zeros (node - first))) held

-- two runs, one after the other
abbrev pub both : Reaction → Reaction → Reaction
both left right = record { code = max left.code right.code; taken = right.taken; entries = left.entries + right.entries }

-- what a suspend makes of an answer: its child is resumed for 0
abbrev pub kept : (answer taken : ℕ) → Reaction
kept zero taken = record { code = 0; taken = taken; entries = 0 }
kept (suc a) taken = alone 1 taken

-- what a suspend, or another node, asks before its child is resumed: the child is resumed if this ends, with code 0
abbrev pub asked : Bool → List ℕ → ℕ → Option Reaction
asked false answers taken = Some (record { code = 0; taken = taken; entries = 0 })
asked true answers taken = cond (ltb taken (length answers)) (Some (kept (get_or answers taken 0) (taken + 1))) None

-- whether a pause is held in the subtree at a node: the counts grow over it
abbrev pub holds_beneath : (t counts : List ℕ) → ℕ → Bool
holds_beneath t counts node = ltb (get_or counts (first_at t node) 0) (get_or counts (node + 1) 0)

-- the byte of a node without children
abbrev pub leaf_state : Leaf → ℕ → List ℕ → List ℕ
leaf_state nothing node held = held
leaf_state pause node held = set held node 1
leaf_state (emit s) node held = held
leaf_state (exit level) node held = held

-- a start of it
pub record LeafRan (l : Leaf) (node taken : ℕ) (held held' emissions emissions' : List ℕ) (r : Reaction) : Type 0 where
  pub answer : r ≡ alone (leaf_code l) taken
  pub state : held' ≡ leaf_state l node held
  pub marks : emissions' ≡ marked (emission (leaf l)) emissions
