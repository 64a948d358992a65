-- Reading token by token: what has been read so far is a state, and a token takes it to the next one or to none. The readers' contracts speak of
-- this machine, which is proved to accept exactly what the grammar derives; what a text means does not rest on it.
use Rattle.std.specs.Prelude.{ℕ, suc, List, [], ◌∷◌}
use Rattle.grammar.specs.Tokens.{Token, opening, mark, name, foreign, stray, Opening, Mark, nothing, pause, emit, exit, signal, trap, loop, present, suspend, bracket, halt, sustain, await, abort, weak, semicolon, bars, close, in-mark, then, else, end, when}
use Rattle.grammar.specs.Tree as T
use Rattle.grammar.specs.Tree.{Tree, Name, leaf, one, two}

-- the sequence, or the branches, that stand before
pub data Before : Type 0 where
  alone : Before
  after : (p : Tree) → Before

abbrev pub join : Before → Tree → Tree
join alone q = q
join (after p) q = two T.sequence p q

abbrev pub beside : Before → Tree → Tree
beside alone q = q
beside (after p) q = two T.parallel p q

-- statements that are open: a branch of a bracket with those before it, a body that `end` closes, a then branch, an else branch with the then branch
-- before it, a body that `when` closes, one that `when` and `end` close
pub data Frame : Type 0 where
  branch : (l : Before) → Frame
  body : (u : T.Unary) → Frame
  then_branch : (s : Name) → Frame
  else_branch : (s : Name) (p : Tree) → Frame
  suspended : Frame
  aborted : (w : T.Strength) → Frame

-- the open statements, the innermost first, each with the sequence before it
pub data Open : Type 0 where
  top : Open
  within : (f : Frame) (b : Before) (k : Open) → Open

-- what a name is wanted for
pub data Wanting : Type 0 where
  an_emit an_exit a_signal a_trap a_present : Wanting
  a_suspend : (p : Tree) → Wanting
  a_sustain an_await : Wanting
  an_abort : (w : T.Strength) (p : Tree) → Wanting

pub data State : Type 0 where
  expect : (b : Before) (k : Open) → State  -- a statement
  have : (p : Tree) (k : Open) → State  -- a sequence has been read
  want_name : (w : Wanting) (b : Before) (k : Open) → State
  want_in : (u : T.Unary) (b : Before) (k : Open) → State
  want_branch : (s : Name) (b : Before) (k : Open) → State  -- then or else
  want_end : (p : Tree) (b : Before) (k : Open) → State  -- the end of an abort
  want_abort : (b : Before) (k : Open) → State  -- after weak

abbrev pub begin : Opening → Before → Open → State
begin nothing b k = have (join b (leaf T.nothing)) k
begin pause b k = have (join b (leaf T.pause)) k
begin emit b k = want_name an_emit b k
begin exit b k = want_name an_exit b k
begin signal b k = want_name a_signal b k
begin trap b k = want_name a_trap b k
begin loop b k = expect alone (within (body T.loop) b k)
begin present b k = want_name a_present b k
begin suspend b k = expect alone (within suspended b k)
begin halt b k = have (join b T.halt) k
begin sustain b k = want_name a_sustain b k
begin await b k = want_name an_await b k
begin abort b k = expect alone (within (aborted T.strong) b k)
begin weak b k = want_abort b k
begin bracket b k = expect alone (within (branch alone) b k)

abbrev pub named : Wanting → Name → Before → Open → State
named an_emit n b k = have (join b (leaf (T.emit n))) k
named an_exit n b k = have (join b (leaf (T.exit n))) k
named a_signal n b k = want_in (T.signal n) b k
named a_trap n b k = want_in (T.trap n) b k
named a_present n b k = want_branch n b k
named (a_suspend p) n b k = have (join b (one (T.suspend n) p)) k
named a_sustain n b k = have (join b (T.sustain n)) k
named an_await n b k = have (join b (T.await n)) k
named (an_abort w p) n b k = want_end (T.abort w n p) b k

-- the next state, if there is one
pub data Next : Type 0 where
  to : (s : State) → Next
  no_way : Next

abbrev pub at_bars : Tree → Open → Next
at_bars p top = no_way
at_bars p (within (branch l) b k) = to (expect alone (within (branch (after (beside l p))) b k))
at_bars p (within (body u) b k) = no_way
at_bars p (within (then_branch s) b k) = no_way
at_bars p (within (else_branch s q) b k) = no_way
at_bars p (within suspended b k) = no_way
at_bars p (within (aborted w) b k) = no_way

abbrev pub at_close : Tree → Open → Next
at_close p top = no_way
at_close p (within (branch alone) b k) = no_way
at_close p (within (branch (after l)) b k) = to (have (join b (two T.parallel l p)) k)
at_close p (within (body u) b k) = no_way
at_close p (within (then_branch s) b k) = no_way
at_close p (within (else_branch s q) b k) = no_way
at_close p (within suspended b k) = no_way
at_close p (within (aborted w) b k) = no_way

abbrev pub at_else : Tree → Open → Next
at_else p top = no_way
at_else p (within (branch l) b k) = no_way
at_else p (within (body u) b k) = no_way
at_else p (within (then_branch s) b k) = to (expect alone (within (else_branch s p) b k))
at_else p (within (else_branch s q) b k) = no_way
at_else p (within suspended b k) = no_way
at_else p (within (aborted w) b k) = no_way

abbrev pub at_end : Tree → Open → Next
at_end p top = no_way
at_end p (within (branch l) b k) = no_way
at_end p (within (body u) b k) = to (have (join b (one u p)) k)
at_end p (within (then_branch s) b k) = to (have (join b (two (T.present s) p (leaf T.nothing))) k)
at_end p (within (else_branch s q) b k) = to (have (join b (two (T.present s) q p)) k)
at_end p (within suspended b k) = no_way
at_end p (within (aborted w) b k) = no_way

abbrev pub at_when : Tree → Open → Next
at_when p top = no_way
at_when p (within (branch l) b k) = no_way
at_when p (within (body u) b k) = no_way
at_when p (within (then_branch s) b k) = no_way
at_when p (within (else_branch s q) b k) = no_way
at_when p (within suspended b k) = to (want_name (a_suspend p) b k)
at_when p (within (aborted w) b k) = to (want_name (an_abort w p) b k)

abbrev pub go_on : Mark → Tree → Open → Next
go_on semicolon p k = to (expect (after p) k)
go_on bars p k = at_bars p k
go_on close p k = at_close p k
go_on in-mark p k = no_way
go_on then p k = no_way
go_on else p k = at_else p k
go_on end p k = at_end p k
go_on when p k = at_when p k

abbrev pub at_in : Mark → T.Unary → Before → Open → Next
at_in semicolon u b k = no_way
at_in bars u b k = no_way
at_in close u b k = no_way
at_in in-mark u b k = to (expect alone (within (body u) b k))
at_in then u b k = no_way
at_in else u b k = no_way
at_in end u b k = no_way
at_in when u b k = no_way

abbrev pub at_branch : Mark → Name → Before → Open → Next
at_branch semicolon s b k = no_way
at_branch bars s b k = no_way
at_branch close s b k = no_way
at_branch in-mark s b k = no_way
at_branch then s b k = to (expect alone (within (then_branch s) b k))
at_branch else s b k = to (expect alone (within (else_branch s (leaf T.nothing)) b k))
at_branch end s b k = no_way
at_branch when s b k = no_way

abbrev pub at_abort_end : Mark → Tree → Before → Open → Next
at_abort_end semicolon p b k = no_way
at_abort_end bars p b k = no_way
at_abort_end close p b k = no_way
at_abort_end in-mark p b k = no_way
at_abort_end then p b k = no_way
at_abort_end else p b k = no_way
at_abort_end end p b k = to (have (join b p) k)
at_abort_end when p b k = no_way

abbrev pub at_abort : Opening → Before → Open → Next
at_abort nothing b k = no_way
at_abort pause b k = no_way
at_abort emit b k = no_way
at_abort exit b k = no_way
at_abort signal b k = no_way
at_abort trap b k = no_way
at_abort loop b k = no_way
at_abort present b k = no_way
at_abort suspend b k = no_way
at_abort bracket b k = no_way
at_abort halt b k = no_way
at_abort sustain b k = no_way
at_abort await b k = no_way
at_abort abort b k = to (expect alone (within (aborted T.weak) b k))
at_abort weak b k = no_way

abbrev pub next : State → Token → Next
next (expect b k) (opening o) = to (begin o b k)
next (expect b k) (mark m) = no_way
next (expect b k) (name n) = no_way
next (expect b k) stray = no_way
next (expect b k) foreign = no_way
next (have p k) (opening o) = no_way
next (have p k) (mark m) = go_on m p k
next (have p k) (name n) = no_way
next (have p k) stray = no_way
next (have p k) foreign = no_way
next (want_name w b k) (opening o) = no_way
next (want_name w b k) (mark m) = no_way
next (want_name w b k) (name n) = to (named w n b k)
next (want_name w b k) stray = no_way
next (want_name w b k) foreign = no_way
next (want_in u b k) (opening o) = no_way
next (want_in u b k) (mark m) = at_in m u b k
next (want_in u b k) (name n) = no_way
next (want_in u b k) stray = no_way
next (want_in u b k) foreign = no_way
next (want_branch s b k) (opening o) = no_way
next (want_branch s b k) (mark m) = at_branch m s b k
next (want_branch s b k) (name n) = no_way
next (want_branch s b k) stray = no_way
next (want_branch s b k) foreign = no_way
next (want_end p b k) (opening o) = no_way
next (want_end p b k) (mark m) = at_abort_end m p b k
next (want_end p b k) (name n) = no_way
next (want_end p b k) stray = no_way
next (want_end p b k) foreign = no_way
next (want_abort b k) (opening o) = at_abort o b k
next (want_abort b k) (mark m) = no_way
next (want_abort b k) (name n) = no_way
next (want_abort b k) stray = no_way
next (want_abort b k) foreign = no_way

-- what reading comes to: the tree, or the tokens from the first one with which the text can't go on
pub data Outcome : Type 0 where
  accepted : (p : Tree) → Outcome
  stuck : (rest : List Token) → Outcome

abbrev pub finish : State → Outcome
finish (expect b k) = stuck []
finish (have p top) = accepted p
finish (have p (within f b k)) = stuck []
finish (want_name w b k) = stuck []
finish (want_in u b k) = stuck []
finish (want_branch s b k) = stuck []
finish (want_end p b k) = stuck []
finish (want_abort b k) = stuck []

abbrev pub take_step : Next → List Token → (State → Outcome) → Outcome
take_step (to s) ts go = go s
take_step no_way ts go = stuck ts

abbrev pub run : State → List Token → Outcome
run s [] = finish s
run s (t ∷ ts) = take_step (next s t) (t ∷ ts) (λ s'. run s' ts)

abbrev pub parse : List Token → Outcome
parse ts = run (expect alone top) ts

-- the number of open statements
abbrev pub height : Open → ℕ
height top = 0
height (within f b k) = suc (height k)
