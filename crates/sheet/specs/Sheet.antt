-- What a sheet holds: the table, the number of signals and their names in order of first appearance, whether an exit had no trap, the number of
-- traps around and their names, which stand at the end of their array, the nearest first.
use Rattle.std.specs.Prelude.{ℕ, suc, ◌+◌, ◌*◌, ◌<◌, ◌≤◌, ◌-◌, ◌≡◌, false, cond, Option, Some, None, List, [], ◌∷◌, length, get_or, take, drop}
use Rattle.esterel.specs.Limits.{max_nodes, signals as max_signals}
use Rattle.grammar.specs.Limits.{max_source, max_levels}
use Rattle.grammar.specs.Tree.{Name}
use Rattle.grammar.specs.Names.{place, has, see}
use Rattle.grammar.specs.Progress.{Progress, note}
use Rattle.scan.specs.declared.Part as S
use Rattle.sheet.specs.declared.Kept.{Kept}
use Rattle.sheet.specs.declared.Node.{Node}
use Rattle.sheet.specs.declared.Kind.{Kind}
use Rattle.sheet.specs.declared.Kind.TheVariants.{Nothing, Pause, Emit, Exit, Signal, Present, Suspend, Loop, Sequence, Parallel, Trap}
use Rattle.sheet.specs.declared.Sheet.{Sheet}

-- more nodes than a text within the length has: so far they are counted
abbrev pub max_counted : ℕ
max_counted = 140000

-- the kinds as document 01 numbers them
abbrev pub number_of : Kind → ℕ
number_of Nothing = 1
number_of Pause = 2
number_of Emit = 3
number_of Exit = 4
number_of Signal = 5
number_of Present = 6
number_of Suspend = 7
number_of Loop = 8
number_of Sequence = 9
number_of Parallel = 10
number_of Trap = 11

-- nodes as two numbers each
abbrev pub numbers_of : List Node → List ℕ
numbers_of [] = []
numbers_of (n ∷ ns) = number_of n.kind ∷ n.field ∷ numbers_of ns

abbrev pub nothing_yet : Node
nothing_yet = record { kind = Nothing; field = 0 }

-- a node of the table as the bytes have it at its place i
pub record NodeIs (n : Node) (bytes : List ℕ) (i : ℕ) : Type 0 where
  pub kind : number_of n.kind ≡ get_or bytes (2 * i) 0
  pub field : n.field ≡ get_or bytes (2 * i + 1) 0

-- a part of the text
abbrev pub part : List ℕ → ℕ → ℕ → Name
part x a e = take (e - a) (drop a x)

-- the places a and e bound a part of the text
pub record Part (x : List ℕ) (a e : ℕ) : Type 0 where
  pub order : a ≤ e
  pub within : e ≤ length x

-- the same of a part as the code has it
abbrev pub name_at : List ℕ → S.Part → Name
name_at x p = part x p.start p.stop

abbrev pub InText : List ℕ → S.Part → Type 0
InText x p = Part x p.start p.stop

-- a name is kept
pub record Entry (x : List ℕ) (k : Kept) (s : Name) : Type 0 where
  pub bounds : Part x k.start k.stop
  pub is : part x k.start k.stop ≡ s

abbrev pub nowhere : Kept
nowhere = record { start = 0; stop = 0 }

-- names are kept one after another
pub record Listed (x : List ℕ) (ks : List Kept) (ns : List Name) : Type 0 where
  pub at : (i : ℕ) → i < length ns → Entry x (get_or ks i nowhere) (get_or ns i [])

-- an exit's level, if its trap is one of those around
abbrev pub level_in : List Name → Name → Option ℕ
level_in ts n = cond (has ts n) (Some (place ts n)) None

-- what a search finds
abbrev pub FoundAs : List ℕ → List Kept → S.Part → Option ℕ → Type 0
FoundAs x ks p (Some i) = (i < length ks) × ((ns : List Name) → InText x p → Listed x ks ns → length ns ≡ length ks → i ≡ place ns (name_at x p))
FoundAs x ks p None = (ns : List Name) → InText x p → Listed x ks ns → length ns ≡ length ks → length ns ≡ place ns (name_at x p)

-- the lengths of a sheet's arrays
pub record Rooms (w : Sheet) : Type 0 where
  pub table : length w.table ≡ max_nodes
  pub signals : length w.signals ≡ max_signals
  pub traps : length w.traps ≡ max_levels

-- The text's nodes were counted, ts are the names of the traps around. With more than 256 signals the table and the names of signals do not matter:
-- the text is refused 16
pub record Filled (x : List ℕ) (w : Sheet) (ts : List Name) (g : Progress) : Type 0 where
  pub rooms : Rooms w
  pub short : length x ≤ max_source
  pub long : length g.bytes ≡ 2 * w.nodes
  pub holds : length g.seen ≤ max_signals → (i : ℕ) → i < max_nodes → i < w.nodes → NodeIs (get_or w.table i nothing_yet) g.bytes i
  pub counted : length g.seen ≤ max_signals → w.signal_count ≡ length g.seen
  pub many : max_signals < length g.seen → w.signal_count ≡ suc max_signals
  pub names : length g.seen ≤ max_signals → Listed x w.signals g.seen
  pub lost : w.is_untrapped ≡ g.lost
  pub traps : w.trap_count ≡ length ts
  pub few : length ts ≤ max_levels
  pub around : Listed x (drop (max_levels - length ts) w.traps) ts

-- from one sheet to another, whatever was there before, f is done
abbrev pub Adds : List ℕ → Sheet → Sheet → (List Name → Progress → Progress) → Type 0
Adds x w w' f = (ts : List Name) (g : Progress) → Filled x w ts g → Filled x w' ts (f ts g)

-- a signal's name is met, and its number is r while the signals are no more than they may be
pub record Notes (x : List ℕ) (p : S.Part) (w w' : Sheet) (r : ℕ) : Type 0 where
  pub adds : InText x p → Adds x w w' (λ ts g. note (name_at x p) g)
  pub number : (ts : List Name) (g : Progress) → InText x p → Filled x w ts g → length (see g.seen (name_at x p)) ≤ max_signals → r ≡ place (see g.seen (name_at x p)) (name_at x p)

-- a sheet on which nothing is written
pub record Fresh (w : Sheet) : Type 0 where
  pub rooms : Rooms w
  pub nodes : w.nodes ≡ 0
  pub signals : w.signal_count ≡ 0
  pub lost : w.is_untrapped ≡ false
  pub traps : w.trap_count ≡ 0
