-- What has been written after a part of the text: the bytes of its nodes so far, the signals seen, and whether an exit had no trap.
-- A node's field is told when the node is written, in text order. For the readers' contracts: that this comes to the table of the statement is proved
-- (proofs/Writing).
use Rattle.std.specs.Prelude.{ℕ, Bool, false, ◌||◌, not, List, [], ◌∷◌, ◌++◌}
use Rattle.grammar.specs.Tree as T
use Rattle.grammar.specs.Tree.{Name}
use Rattle.grammar.specs.Kernel.{Kernel, leaf, one, two, added, expand}
use Rattle.grammar.specs.Machine.{Before, alone, after, Frame, branch, body, then_branch, else_branch, suspended, aborted}
use Rattle.grammar.specs.Names.{place, has, see}

pub record Progress : Type 0 where
  pub bytes : List ℕ
  pub seen : List Name
  pub lost : Bool

abbrev pub node : (kind field : ℕ) → Progress → Progress
node k f g = record { bytes = g.bytes ++ (k ∷ f ∷ []); seen = g.seen; lost = g.lost }

-- a signal's name is met
abbrev pub note : Name → Progress → Progress
note s g = record { bytes = g.bytes; seen = see g.seen s; lost = g.lost }

-- an exit's name is met, where ts are the names of the traps around
abbrev pub leave : List Name → Name → Progress → Progress
leave ts t g = record { bytes = g.bytes; seen = g.seen; lost = g.lost || not (has ts t) }

-- the node of a signal's name
abbrev pub named : ℕ → Name → Progress → Progress
named k s g = node k (place g.seen s) g

abbrev pub leaf_done : List Name → T.Leaf → Progress → Progress
leaf_done ts T.nothing g = node 1 0 g
leaf_done ts T.pause g = node 2 0 g
leaf_done ts (T.emit s) g = named 3 s (note s g)
leaf_done ts (T.exit t) g = node 4 (place ts t) (leave ts t g)

-- the traps around a body, and what is done before and after it
abbrev pub traps_in : T.Unary → List Name → List Name
traps_in (T.signal s) ts = ts
traps_in (T.suspend s) ts = ts
traps_in T.loop ts = ts
traps_in (T.trap t) ts = t ∷ ts

abbrev pub begun : T.Unary → Progress → Progress
begun (T.signal s) g = note s g
begun (T.suspend s) g = g
begun T.loop g = g
begun (T.trap t) g = g

abbrev pub ended : T.Unary → Progress → Progress
ended (T.signal s) g = named 5 s g
ended (T.suspend s) g = named 7 s (note s g)
ended T.loop g = node 8 0 g
ended (T.trap t) g = node 11 0 g

abbrev pub begun_two : T.Binary → Progress → Progress
begun_two (T.present s) g = note s g
begun_two T.sequence g = g
begun_two T.parallel g = g

abbrev pub ended_two : T.Binary → Progress → Progress
ended_two (T.present s) g = named 6 s g
ended_two T.sequence g = node 9 0 g
ended_two T.parallel g = node 10 0 g

abbrev pub past : List Name → Kernel → Progress → Progress
past ts (leaf l) g = leaf_done ts l g
past ts (one u p) g = ended u (past (traps_in u ts) p (begun u g))
past ts (two b p q) g = ended_two b (past ts q (past ts p (begun_two b g)))

-- the parts of an open statement that stand before the sequence that is read
abbrev pub past_before : List Name → Before → Progress → Progress
past_before ts alone g = g
past_before ts (after p) g = past ts (expand p) g

abbrev pub traps_within : Frame → List Name → List Name
traps_within (branch l) ts = ts
traps_within (body u) ts = traps_in u ts
traps_within (then_branch s) ts = ts
traps_within (else_branch s p) ts = ts
traps_within suspended ts = ts
traps_within (aborted w) ts = added ∷ ts

abbrev pub past_open : List Name → Frame → Progress → Progress
past_open ts (branch l) g = past_before ts l g
past_open ts (body u) g = begun u g
past_open ts (then_branch s) g = note s g
past_open ts (else_branch s p) g = past ts (expand p) (note s g)
past_open ts suspended g = g
past_open ts (aborted w) g = g

-- nothing yet
abbrev pub blank : Progress
blank = record { bytes = []; seen = []; lost = false }
