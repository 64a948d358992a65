-- What the readers answer, in terms of the machine of crates/grammar: how it goes on from the tokens where a reader begins to those where it ends,
-- and what is written on the sheet meanwhile.
use Rattle.std.specs.Prelude.{ℕ, suc, ◌+◌, ◌*◌, ◌<◌, ◌≤◌, ◌≡◌, Option, Some, None, List, length}
use Rattle.grammar.specs.Limits.{max_source, max_levels}
use Rattle.grammar.specs.Tokens as G
use Rattle.grammar.specs.Tree as T
use Rattle.grammar.specs.Tree.{Tree, Name, leaf, levels}
use Rattle.grammar.specs.Kernel.{expand}
use Rattle.grammar.specs.Machine.{Before, alone, join, Frame, branch, body, then_branch, else_branch, suspended, aborted, Open, within, State, expect, have, accepted, run, height}
use Rattle.grammar.specs.Progress.{Progress, note, named, ended, past, traps_within, past_open}
use Rattle.scan.specs.Scanning.{rest, Lexed, NameAt, Lacks}
use Rattle.scan.specs.declared.Part.{Part}
use Rattle.sheet.specs.declared.Sheet.{Sheet}
use Rattle.sheet.specs.Sheet.{name_at, InText, Filled}
use Rattle.reader.specs.declared.Leaf.{Leaf}
use Rattle.reader.specs.declared.Leaf.TheVariants as L
use Rattle.reader.specs.declared.Strength.{Strength}
use Rattle.reader.specs.declared.Strength.TheVariants as S
use Rattle.reader.specs.declared.Frame as R
use Rattle.reader.specs.declared.Frame.TheVariants as F
use Rattle.reader.specs.declared.Opened.{Opened}
use Rattle.reader.specs.declared.Opened.TheVariants.{Whole, Inside}

-- the statements without children, and that their names stand in the text
abbrev pub leaf_of : List ℕ → Leaf → Tree
leaf_of x L.Nothing = leaf T.nothing
leaf_of x L.Pause = leaf T.pause
leaf_of x (L.Emit p) = leaf (T.emit (name_at x p))
leaf_of x (L.Exit p) = leaf (T.exit (name_at x p))
leaf_of x L.Halt = T.halt
leaf_of x (L.Sustain p) = T.sustain (name_at x p)
leaf_of x (L.Await p) = T.await (name_at x p)

abbrev pub LeafIn : List ℕ → Leaf → Type 0
LeafIn x L.Nothing = Unit {0}
LeafIn x L.Pause = Unit {0}
LeafIn x (L.Emit p) = InText x p
LeafIn x (L.Exit p) = InText x p
LeafIn x L.Halt = Unit {0}
LeafIn x (L.Sustain p) = InText x p
LeafIn x (L.Await p) = InText x p

-- the open statements, and that their names stand in the text
abbrev pub strength_of : Strength → T.Strength
strength_of S.Strong = T.strong
strength_of S.Weak = T.weak

abbrev pub frame_of : List ℕ → R.Frame → Frame
frame_of x F.Bracket = branch alone
frame_of x (F.Signal p) = body (T.signal (name_at x p))
frame_of x F.Loop = body T.loop
frame_of x (F.Trap p) = body (T.trap (name_at x p))
frame_of x (F.Then p) = then_branch (name_at x p)
frame_of x (F.Else p) = else_branch (name_at x p) (leaf T.nothing)
frame_of x F.Suspend = suspended
frame_of x (F.Abort w) = aborted (strength_of w)

abbrev pub FrameIn : List ℕ → R.Frame → Type 0
FrameIn x F.Bracket = Unit {0}
FrameIn x (F.Signal p) = InText x p
FrameIn x F.Loop = Unit {0}
FrameIn x (F.Trap p) = InText x p
FrameIn x (F.Then p) = InText x p
FrameIn x (F.Else p) = InText x p
FrameIn x F.Suspend = Unit {0}
FrameIn x (F.Abort w) = Unit {0}

-- from the states s at a place the machine accepts nothing
abbrev pub NoWay : (Before → Open → State) → List ℕ → ℕ → Type 0
NoWay s x at = (b : Before) (k : Open) (p : Tree) → run (s b k) (rest x at) ≡ accepted p → ⊥

-- from there it goes on to e, where a statement without children has been read
pub record LeafRead (s : Before → Open → State) (x : List ℕ) (at : ℕ) (l : Leaf) (e : ℕ) : Type 0 where
  pub bounds : LeafIn x l
  pub from : at < e
  pub to : e ≤ length x
  pub moves : (b : Before) (k : Open) → run (s b k) (rest x at) ≡ run (have (join b (leaf_of x l)) k) (rest x e)

-- or where one with children is open
pub record Entered (s : Before → Open → State) (x : List ℕ) (at : ℕ) (f : R.Frame) (e : ℕ) : Type 0 where
  pub bounds : FrameIn x f
  pub from : at < e
  pub to : e ≤ length x
  pub moves : (b : Before) (k : Open) → run (s b k) (rest x at) ≡ run (expect alone (within (frame_of x f) b k)) (rest x e)

abbrev pub OpenedFrom : (Before → Open → State) → List ℕ → ℕ → Option Opened → Type 0
OpenedFrom s x at (Some (Whole l e)) = LeafRead s x at l e
OpenedFrom s x at (Some (Inside f e)) = Entered s x at f e
OpenedFrom s x at None = NoWay s x at

-- a name and `in` stand from a place on, up to e; or no name does, or no `in` after it
pub record NameAndIn (x : List ℕ) (at : ℕ) (p : Part) (e : ℕ) : Type 0 where
  pub name : NameAt x at p.start p.stop
  pub mark : Lexed x p.stop e (G.mark G.in-mark)

pub data NoNameIn (x : List ℕ) (at : ℕ) : Type 0 where
  no_name : ((n : Name) → Lacks x at (G.name n)) → NoNameIn x at
  no_in : {start stop : ℕ} → NameAt x at start stop → Lacks x stop (G.mark G.in-mark) → NoNameIn x at

abbrev pub NamedIn : List ℕ → ℕ → Option (Part × ℕ) → Type 0
NamedIn x at (Some r) = NameAndIn x at r.0 r.1
NamedIn x at None = NoNameIn x at

-- a place of a text within the length, where n nodes have been written
pub record Room (x : List ℕ) (at n : ℕ) : Type 0 where
  pub within : at ≤ length x
  pub short : length x ≤ max_source
  pub few : n ≤ 8 * at

-- and no semicolon comes next: the sequence before it is whole
pub record Ready (x : List ℕ) (at n : ℕ) : Type 0 where
  pub room : Room x at n
  pub stops : Lacks x at (G.mark G.semicolon)

-- the traps around leave room for so many levels
abbrev pub High : List Name → ℕ → Type 0
High ts depth = length ts + depth ≤ max_levels

-- where a reader that may go `depth` levels deep has failed: whatever the machine accepts with k open has more levels
abbrev pub Deeper : State → Open → List ℕ → ℕ → ℕ → Type 0
Deeper s k x at depth = (p : Tree) → run s (rest x at) ≡ accepted p → height k + depth < levels p

-- a statement stands from `at` to e, and its nodes were written: the sheet w became w'
pub record StatementIs (x : List ℕ) (at depth : ℕ) (w w' : Sheet) (e : ℕ) : Type 0 where
  pub from : at < e
  pub few : w'.nodes + 8 * at ≤ w.nodes + 8 * e
  pub to : e ≤ length x
  pub tree : Tree
  pub moves : (b : Before) (k : Open) → run (expect b k) (rest x at) ≡ run (have (join b tree) k) (rest x e)
  pub wrote : (ts : List Name) (g : Progress) → High ts depth → Filled x w ts g → Filled x w' ts (past ts (expand tree) g)

abbrev pub StatementRead : List ℕ → ℕ → ℕ → Sheet → Sheet → Option ℕ → Type 0
StatementRead x at depth w w' (Some e) = StatementIs x at depth w w' e
StatementRead x at depth w w' None = (b : Before) (k : Open) → Deeper (expect b k) k x at depth

-- a sequence, after which no semicolon comes
pub record SequenceIs (x : List ℕ) (at depth : ℕ) (w w' : Sheet) (e : ℕ) : Type 0 where
  pub from : at < e
  pub few : w'.nodes + 8 * at ≤ w.nodes + 8 * e
  pub to : e ≤ length x
  pub stops : Lacks x e (G.mark G.semicolon)
  pub tree : Tree
  pub moves : (k : Open) → run (expect alone k) (rest x at) ≡ run (have tree k) (rest x e)
  pub wrote : (ts : List Name) (g : Progress) → High ts depth → Filled x w ts g → Filled x w' ts (past ts (expand tree) g)

abbrev pub SequenceRead : List ℕ → ℕ → ℕ → Sheet → Sheet → Option ℕ → Type 0
SequenceRead x at depth w w' (Some e) = SequenceIs x at depth w w' e
SequenceRead x at depth w w' None = (k : Open) → Deeper (expect alone k) k x at depth

-- an open statement, whose last sequence is p, ends
pub record Ended (f : Frame) (x : List ℕ) (at depth : ℕ) (w w' : Sheet) (e : ℕ) (p : Tree) : Type 0 where
  pub tree : Tree
  pub moves : (b : Before) (k : Open) → run (have p (within f b k)) (rest x at) ≡ run (have (join b tree) k) (rest x e)
  pub wrote :
      (ts : List Name) (g : Progress) → High ts (suc depth) →
      Filled x w (traps_within f ts) (past (traps_within f ts) (expand p) (past_open ts f g)) → Filled x w' ts (past ts (expand tree) g)

pub record RestIs (f : Frame) (x : List ℕ) (at depth : ℕ) (w w' : Sheet) (e : ℕ) : Type 0 where
  pub from : at < e
  pub few : w'.nodes + 8 * at ≤ w.nodes + 8 * e
  pub to : e ≤ length x
  pub goes : (p : Tree) → Ended f x at depth w w' e p

abbrev pub RestRead : Frame → List ℕ → ℕ → ℕ → Sheet → Sheet → Option ℕ → Type 0
RestRead f x at depth w w' (Some e) = RestIs f x at depth w w' e
RestRead f x at depth w w' None = (p : Tree) (b : Before) (k : Open) → Deeper (have p (within f b k)) (within f b k) x at depth

-- what is done before the first sequence of an open statement
abbrev pub Enters : List ℕ → Sheet → Sheet → Frame → Type 0
Enters x w w' f = (ts : List Name) (g : Progress) → length ts < max_levels → Filled x w ts g → Filled x w' (traps_within f ts) (past_open ts f g)

-- what is done when a body, or an only else branch, has ended
abbrev pub end_of : Frame → Progress → Progress
end_of (branch l) g = g
end_of (body u) g = ended u g
end_of (then_branch s) g = g
end_of (else_branch s p) g = named 6 s g
end_of suspended g = g
end_of (aborted w) g = g

-- what is done of an abort's own right after its body: a suspend, or nothing
abbrev pub guard_done : T.Strength → Name → Progress → Progress
guard_done T.strong s g = named 7 s (note s g)
guard_done T.weak s g = g

-- the open statements that have one sequence, and those of them that `end` closes
abbrev pub Plain : R.Frame → Type 0
Plain F.Bracket = ⊥
Plain (F.Signal p) = Unit {0}
Plain F.Loop = Unit {0}
Plain (F.Trap p) = Unit {0}
Plain (F.Then p) = ⊥
Plain (F.Else p) = Unit {0}
Plain F.Suspend = Unit {0}
Plain (F.Abort w) = Unit {0}

abbrev pub PlainEnd : R.Frame → Type 0
PlainEnd F.Bracket = ⊥
PlainEnd (F.Signal p) = Unit {0}
PlainEnd F.Loop = Unit {0}
PlainEnd (F.Trap p) = Unit {0}
PlainEnd (F.Then p) = ⊥
PlainEnd (F.Else p) = Unit {0}
PlainEnd F.Suspend = ⊥
PlainEnd (F.Abort w) = ⊥
