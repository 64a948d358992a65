-- What the functions that go over a text's tokens answer, in terms of the machine of crates/grammar.
use Rattle.std.specs.Prelude.{ℕ, ◌+◌, ◌≤◌, ◌≡◌, Bool, true, false, List, [], ◌∷◌, ◌++◌, length, get_or, Option, Some, None, Result, Ok, Err}
use Rattle.grammar.specs.Limits.{max_source}
use Rattle.grammar.specs.Tokens as G
use Rattle.grammar.specs.Tokens.{tokens, beginnings, byte_of}
use Rattle.grammar.specs.Tree.{Tree, Name as Word}
use Rattle.grammar.specs.Grammar.{Program}
use Rattle.grammar.specs.Faults.{Fault, number_of_fault, lost_from, opens_signal, marks_signal, crowded_from}
use Rattle.grammar.specs.Progress.{Progress}
use Rattle.grammar.specs.Search.{Want, no_name, a_trap, an_exit, look, Room}
use Rattle.sheet.specs.declared.Sheet.{Sheet}
use Rattle.sheet.specs.Sheet.{Filled}
use Rattle.grammar.specs.Machine.{alone, after, Frame, branch, body, then_branch, else_branch, suspended, aborted, Open, top, within, Wanting, an_emit, an_exit, a_signal, a_trap, a_present, a_suspend, a_sustain, an_await, an_abort, State, expect, have, want_name, want_in, want_branch, want_end, want_abort, Next, to, no_way, next, run, parse, height as opens}
use Rattle.scan.specs.Scanning.{rest, starts, token_is}
use Rattle.scan.specs.declared.Token.{Token}
use Rattle.scan.specs.declared.Tokens.{Tokens}
use Rattle.fault.specs.declared.Named.{Named}
use Rattle.fault.specs.declared.Named.TheVariants.{Leaf, Body, Present, Abort as AbortName}
use Rattle.fault.specs.declared.Mode.{Mode}
use Rattle.fault.specs.declared.Mode.TheVariants.{Statement, More, Name, In, Branch, End, Abort}
use Rattle.fault.specs.declared.stack.Frame.{Frame as Kind}
use Rattle.fault.specs.declared.stack.Frame.TheVariants as F
use Rattle.fault.specs.declared.stack.Stack.{Stack}
use Rattle.fault.specs.declared.Wanted.{Wanted}
use Rattle.fault.specs.declared.Wanted.TheVariants.{TrapName, ExitName}
use Rattle.fault.specs.declared.Lost.{Lost}

-- an open statement as the code has it
abbrev pub frame_of : Frame → Kind
frame_of (branch alone) = F.First
frame_of (branch (after l)) = F.Branch
frame_of (body u) = F.Body
frame_of (then_branch s) = F.Then
frame_of (else_branch s p) = F.Else
frame_of suspended = F.Suspended
frame_of (aborted w) = F.Aborted

-- the innermost one
abbrev pub top_of : Open → Option Kind
top_of top = None
top_of (within f b k) = Some (frame_of f)

-- the open statements are kept from the outermost on, with room for as many as a text has bytes
abbrev pub Framed : List Kind → Open → Type 0
Framed w top = length w ≡ max_source
Framed w (within f b k) = (get_or w (opens k) F.First ≡ frame_of f) × Framed w k

pub record Stacked (w : Stack) (k : Open) : Type 0 where
  pub frames : Framed w.frames k
  pub height : w.height ≡ opens k

-- all but the innermost, if there is one
abbrev pub StackedBelow : Stack → Open → Type 0
StackedBelow w top = Unit {0}
StackedBelow w (within f b k) = Stacked w k

-- what a name is wanted for
abbrev pub named_of : Wanting → Named
named_of an_emit = Leaf
named_of an_exit = Leaf
named_of a_signal = Body
named_of a_trap = Body
named_of a_present = Present
named_of (a_suspend p) = Leaf
named_of a_sustain = Leaf
named_of an_await = Leaf
named_of (an_abort w p) = AbortName

-- what may come next in a state, and what is open
abbrev pub mode_of : State → Mode
mode_of (expect b k) = Statement
mode_of (have p k) = More
mode_of (want_name w b k) = Name (named_of w)
mode_of (want_in u b k) = In
mode_of (want_branch s b k) = Branch
mode_of (want_end p b k) = End
mode_of (want_abort b k) = Abort

abbrev pub open_of : State → Open
open_of (expect b k) = k
open_of (have p k) = k
open_of (want_name w b k) = k
open_of (want_in u b k) = k
open_of (want_branch s b k) = k
open_of (want_end p b k) = k
open_of (want_abort b k) = k

-- a state as the code keeps it
pub record Kept (w : Stack) (m : Mode) (s : State) : Type 0 where
  pub mode : m ≡ mode_of s
  pub stack : Stacked w (open_of s)

-- the next state, or none
abbrev pub Stepped : Next → Stack → Option Mode → Type 0
Stepped (to s) w' (Some m) = Kept w' m s
Stepped (to s) w' None = ⊥
Stepped no_way w' (Some m) = ⊥
Stepped no_way w' None = Unit {0}

-- what is done with a token t in the states that are kept so
abbrev pub Steps : Stack → Mode → G.Token → Stack → Option Mode → Type 0
Steps w mode t w' r = (s : State) → Kept w mode s → Stepped (next s t) w' r

-- with one of the code's tokens, whatever its bytes
abbrev pub StepsOn : Stack → Mode → Token → Stack → Option Mode → Type 0
StepsOn w mode token w' r = (v : List ℕ) (t : G.Token) → token_is token v ≡ t ∷ [] → Steps w mode t w' r

-- a place of the text that was reached token by token
pub record Reached (x : List ℕ) (at : ℕ) : Type 0 where
  pub before : List ℕ
  pub split : beginnings x ≡ before ++ starts x at
  pub count : length before + length (rest x at) ≡ length (tokens x)

-- the tokens of the text x are gone through, and those of it come next
pub record Going (x : List ℕ) (it : Tokens) : Type 0 where
  pub text : it.text.now ≡ x
  pub within : it.at ≤ length x
  pub reached : Reached x it.at

-- the text up to a place leads to a state that is kept
pub record OnWay (x : List ℕ) (w : Stack) (m : Mode) (it : Tokens) : Type 0 where
  pub going : Going x it
  pub state : State
  pub kept : Kept w m state
  pub moved : parse (tokens x) ≡ run state (rest x it.at)
  pub low : w.height ≤ it.at
  pub short : length x ≤ max_source

-- the fault that is told: the first token with which the text can't go on
abbrev pub FaultTold : List ℕ → ℕ → ℕ → Type 0
FaultTold x number place = (us : List G.Token) → Fault (tokens x) us → (number ≡ number_of_fault us) × (place ≡ byte_of x us)

-- the place that is told of a text of the grammar: the name of the first exit without its trap
abbrev pub ExitTold : List ℕ → ℕ → Type 0
ExitTold x place = (t : Tree) (d : Program t (tokens x)) → place ≡ byte_of x (lost_from [] d [])

-- nothing was written, and signals ns were met
abbrev pub met : List Word → Progress
met ns = record { bytes = []; seen = ns; lost = false }

-- levels as the code keeps them, on a sheet
abbrev pub Levels : List ℕ → Sheet → List Word → Type 0
Levels x w ls = Filled x w ls (met [])

abbrev pub want_is : Option Wanted → Want
want_is None = no_name
want_is (Some TrapName) = a_trap
want_is (Some ExitName) = an_exit

-- a token is passed, or it is the name of an exit that is lost
pub record PassedTo (x : List ℕ) (want : Want) (t : G.Token) (w' : Sheet) (ls : List Word) (want' : Want) : Type 0 where
  pub levels : List Word
  pub kept : Levels x w' levels
  pub on : (us : List G.Token) → look want ls (t ∷ us) ≡ look want' levels us
  pub room : (us : List G.Token) → Room want ls (t ∷ us) → Room want' levels us

abbrev pub PassedAs : List ℕ → Want → G.Token → Sheet → List Word → Result (Option Wanted) Lost → Type 0
PassedAs x want t w' ls (Ok wanted) = PassedTo x want t w' ls (want_is wanted)
PassedAs x want t w' ls (Err e) = (us : List G.Token) → look want ls (t ∷ us) ≡ t ∷ us

-- whether a signal's name comes after a token
abbrev pub before_signal : G.Token → Bool
before_signal (G.opening o) = opens_signal o
before_signal (G.mark m) = marks_signal m
before_signal (G.name n) = false
before_signal G.foreign = false
before_signal G.stray = false

-- with a token's name there are too many signals; or it is passed
pub record Uncrowded (x : List ℕ) (ns : List Word) (is_signal : Bool) (t : G.Token) (w' : Sheet) : Type 0 where
  pub signals : List Word
  pub kept : Filled x w' [] (met signals)
  pub on : (us : List G.Token) → crowded_from ns is_signal (t ∷ us) ≡ crowded_from signals (before_signal t) us

abbrev pub CrowdedAs : List ℕ → List Word → Bool → G.Token → Sheet → Bool → Type 0
CrowdedAs x ns is_signal t w' true = (us : List G.Token) → crowded_from ns is_signal (t ∷ us) ≡ t ∷ us
CrowdedAs x ns is_signal t w' false = Uncrowded x ns is_signal t w'

-- an exit is looked for from a place on, if there is room for the levels
pub record Looked (x : List ℕ) (w : Sheet) (want : Want) (at : ℕ) : Type 0 where
  pub levels : List Word
  pub kept : Levels x w levels
  pub room : Room want levels (rest x at)
  pub same : look no_name [] (tokens x) ≡ look want levels (rest x at)

pub record Looking (x : List ℕ) (w : Sheet) (want : Want) (it : Tokens) : Type 0 where
  pub going : Going x it
  pub looked : Room no_name [] (tokens x) → Looked x w want it.at

-- signals are counted up to a place
pub record Counting (x : List ℕ) (w : Sheet) (is_signal : Bool) (it : Tokens) : Type 0 where
  pub going : Going x it
  pub signals : List Word
  pub kept : Filled x w [] (met signals)
  pub same : crowded_from [] false (tokens x) ≡ crowded_from signals is_signal (rest x it.at)
