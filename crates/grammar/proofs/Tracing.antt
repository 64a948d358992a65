-- The productions of a derivation, told from the tokens alone: a machine that keeps no trees tells a production where a statement, a sequence or a
-- branch is over.
use mathlib.Core.Path.{◌≡◌, refl, ap, ◌∙◌}
use mathlib.Core.List.{List, [], ◌∷◌}
use Rattle.grammar.specs.Tokens.{Token, opening, mark, name, foreign, stray, Opening, Mark, nothing, pause, emit, exit, signal, trap, loop, present, suspend, bracket, halt, sustain, await, abort, weak, semicolon, bars, close, in-mark, then, else, end, when}
use Rattle.grammar.specs.Tree.{Tree}
use Rattle.grammar.specs.Grammar.{Category, statement, sequence, branches, Derives, a-nothing, a-pause, an-emit, an-exit, a-signal, a-trap, a-loop, a-suspend, a_then_else, a-then, an_else, a_bracket, a-halt, a-sustain, an-await, an-abort, a_weak_abort, a-single, a-sequence, a_pair, a-branch, Production, of-nothing, of-pause, of-emit, of_exit, of-signal, of-trap, of-loop, of-suspend, of-then-else, of-then, of-else, of-bracket, of-halt, of-sustain, of-await, of-abort, of-weak-abort, of-single, of-sequence, of_pair, of-branch, productions}

-- whether a statement is the first of its sequence, and what is told of the sequence when it is over
pub data Place : Type 0 where
  first later : Place

abbrev closing : Place → Production
closing first = of-single
closing later = of-sequence

-- what is open; where it is known already, with the production that is told at its end
pub data Frame : Type 0 where
  branch_one in_then in_suspend : Frame
  branch_next in_body in_else in_abort : (l : Production) → Frame

pub data Stack : Type 0 where
  top : Stack
  within : (f : Frame) (b : Place) (k : Stack) → Stack

pub data Want : Type 0 where
  a_leaf a_body : (l : Production) → Want
  a_present a_suspend : Want
  an_abort : (l : Production) → Want

pub data State : Type 0 where
  expect : (b : Place) (k : Stack) → State
  have : (k : Stack) → State
  want_name : (w : Want) (b : Place) (k : Stack) → State
  want_in : (l : Production) (b : Place) (k : Stack) → State
  want_branch : (b : Place) (k : Stack) → State
  want_end : (l : Production) (b : Place) (k : Stack) → State
  want_abort : (b : Place) (k : Stack) → State

abbrev begin : Opening → Place → Stack → (State → List Production) → List Production
begin nothing b k go = of-nothing ∷ closing b ∷ go (have k)
begin pause b k go = of-pause ∷ closing b ∷ go (have k)
begin emit b k go = go (want_name (a_leaf of-emit) b k)
begin exit b k go = go (want_name (a_leaf of_exit) b k)
begin signal b k go = go (want_name (a_body of-signal) b k)
begin trap b k go = go (want_name (a_body of-trap) b k)
begin loop b k go = go (expect first (within (in_body of-loop) b k))
begin present b k go = go (want_name a_present b k)
begin suspend b k go = go (expect first (within in_suspend b k))
begin bracket b k go = go (expect first (within branch_one b k))
begin halt b k go = of-halt ∷ closing b ∷ go (have k)
begin sustain b k go = go (want_name (a_leaf of-sustain) b k)
begin await b k go = go (want_name (a_leaf of-await) b k)
begin abort b k go = go (expect first (within (in_abort of-abort) b k))
begin weak b k go = go (want_abort b k)

abbrev named : Want → Place → Stack → (State → List Production) → List Production
named (a_leaf l) b k go = l ∷ closing b ∷ go (have k)
named (a_body l) b k go = go (want_in l b k)
named a_present b k go = go (want_branch b k)
named a_suspend b k go = of-suspend ∷ closing b ∷ go (have k)
named (an_abort l) b k go = go (want_end l b k)

abbrev at_bars : Stack → (State → List Production) → List Production
at_bars top go = []
at_bars (within branch_one b k) go = go (expect first (within (branch_next of_pair) b k))
at_bars (within (branch_next l) b k) go = l ∷ go (expect first (within (branch_next of-branch) b k))
at_bars (within (in_body l) b k) go = []
at_bars (within in_then b k) go = []
at_bars (within (in_else l) b k) go = []
at_bars (within in_suspend b k) go = []
at_bars (within (in_abort l) b k) go = []

abbrev at_close : Stack → (State → List Production) → List Production
at_close top go = []
at_close (within branch_one b k) go = []
at_close (within (branch_next l) b k) go = l ∷ of-bracket ∷ closing b ∷ go (have k)
at_close (within (in_body l) b k) go = []
at_close (within in_then b k) go = []
at_close (within (in_else l) b k) go = []
at_close (within in_suspend b k) go = []
at_close (within (in_abort l) b k) go = []

abbrev at_else : Stack → (State → List Production) → List Production
at_else top go = []
at_else (within branch_one b k) go = []
at_else (within (branch_next l) b k) go = []
at_else (within (in_body l) b k) go = []
at_else (within in_then b k) go = go (expect first (within (in_else of-then-else) b k))
at_else (within (in_else l) b k) go = []
at_else (within in_suspend b k) go = []
at_else (within (in_abort l) b k) go = []

abbrev at_end : Stack → (State → List Production) → List Production
at_end top go = []
at_end (within branch_one b k) go = []
at_end (within (branch_next l) b k) go = []
at_end (within (in_body l) b k) go = l ∷ closing b ∷ go (have k)
at_end (within in_then b k) go = of-then ∷ closing b ∷ go (have k)
at_end (within (in_else l) b k) go = l ∷ closing b ∷ go (have k)
at_end (within in_suspend b k) go = []
at_end (within (in_abort l) b k) go = []

abbrev at_when : Stack → (State → List Production) → List Production
at_when top go = []
at_when (within branch_one b k) go = []
at_when (within (branch_next l) b k) go = []
at_when (within (in_body l) b k) go = []
at_when (within in_then b k) go = []
at_when (within (in_else l) b k) go = []
at_when (within in_suspend b k) go = go (want_name a_suspend b k)
at_when (within (in_abort l) b k) go = go (want_name (an_abort l) b k)

abbrev go_on : Mark → Stack → (State → List Production) → List Production
go_on semicolon k go = go (expect later k)
go_on bars k go = at_bars k go
go_on close k go = at_close k go
go_on in-mark k go = []
go_on then k go = []
go_on else k go = at_else k go
go_on end k go = at_end k go
go_on when k go = at_when k go

abbrev at_in : Mark → Production → Place → Stack → (State → List Production) → List Production
at_in semicolon l b k go = []
at_in bars l b k go = []
at_in close l b k go = []
at_in in-mark l b k go = go (expect first (within (in_body l) b k))
at_in then l b k go = []
at_in else l b k go = []
at_in end l b k go = []
at_in when l b k go = []

abbrev at_branch : Mark → Place → Stack → (State → List Production) → List Production
at_branch semicolon b k go = []
at_branch bars b k go = []
at_branch close b k go = []
at_branch in-mark b k go = []
at_branch then b k go = go (expect first (within in_then b k))
at_branch else b k go = go (expect first (within (in_else of-else) b k))
at_branch end b k go = []
at_branch when b k go = []

abbrev at_abort_end : Mark → Production → Place → Stack → (State → List Production) → List Production
at_abort_end semicolon l b k go = []
at_abort_end bars l b k go = []
at_abort_end close l b k go = []
at_abort_end in-mark l b k go = []
at_abort_end then l b k go = []
at_abort_end else l b k go = []
at_abort_end end l b k go = l ∷ closing b ∷ go (have k)
at_abort_end when l b k go = []

abbrev at_abort : Opening → Place → Stack → (State → List Production) → List Production
at_abort nothing b k go = []
at_abort pause b k go = []
at_abort emit b k go = []
at_abort exit b k go = []
at_abort signal b k go = []
at_abort trap b k go = []
at_abort loop b k go = []
at_abort present b k go = []
at_abort suspend b k go = []
at_abort bracket b k go = []
at_abort halt b k go = []
at_abort sustain b k go = []
at_abort await b k go = []
at_abort abort b k go = go (expect first (within (in_abort of-weak-abort) b k))
at_abort weak b k go = []

abbrev step : State → Token → (State → List Production) → List Production
step (expect b k) (opening o) go = begin o b k go
step (expect b k) (mark m) go = []
step (expect b k) (name n) go = []
step (expect b k) foreign go = []
step (expect b k) stray go = []
step (have k) (opening o) go = []
step (have k) (mark m) go = go_on m k go
step (have k) (name n) go = []
step (have k) foreign go = []
step (have k) stray go = []
step (want_name w b k) (opening o) go = []
step (want_name w b k) (mark m) go = []
step (want_name w b k) (name n) go = named w b k go
step (want_name w b k) foreign go = []
step (want_name w b k) stray go = []
step (want_in l b k) (opening o) go = []
step (want_in l b k) (mark m) go = at_in m l b k go
step (want_in l b k) (name n) go = []
step (want_in l b k) foreign go = []
step (want_in l b k) stray go = []
step (want_branch b k) (opening o) go = []
step (want_branch b k) (mark m) go = at_branch m b k go
step (want_branch b k) (name n) go = []
step (want_branch b k) foreign go = []
step (want_branch b k) stray go = []
step (want_end l b k) (opening o) go = []
step (want_end l b k) (mark m) go = at_abort_end m l b k go
step (want_end l b k) (name n) go = []
step (want_end l b k) foreign go = []
step (want_end l b k) stray go = []
step (want_abort b k) (opening o) go = at_abort o b k go
step (want_abort b k) (mark m) go = []
step (want_abort b k) (name n) go = []
step (want_abort b k) foreign go = []
step (want_abort b k) stray go = []

abbrev trace : State → List Token → List Production
trace s [] = []
trace s (t ∷ ts) = step s t (λ s'. trace s' ts)

-- after the branches of a bracket so far: another one, or its end
abbrev after : List Token → Place → Stack → List Production
after [] b k = []
after (opening o ∷ ts) b k = []
after (mark semicolon ∷ ts) b k = []
after (mark bars ∷ ts) b k = trace (expect first (within (branch_next of-branch) b k)) ts
after (mark close ∷ ts) b k = of-bracket ∷ closing b ∷ trace (have k) ts
after (mark in-mark ∷ ts) b k = []
after (mark then ∷ ts) b k = []
after (mark else ∷ ts) b k = []
after (mark end ∷ ts) b k = []
after (mark when ∷ ts) b k = []
after (name n ∷ ts) b k = []
after (foreign ∷ ts) b k = []
after (stray ∷ ts) b k = []

-- a double bar or a closing bracket comes next
pub data Closes : List Token → Type 0 where
  by-bars : {ts : List Token} → Closes (mark bars ∷ ts)
  by-close : {ts : List Token} → Closes (mark close ∷ ts)

next-branch : (l : Production) (b : Place) (k : Stack) {r : List Token} → Closes r → trace (have (within (branch_next l) b k)) r ≡ l ∷ after r b k
next-branch l b k by-bars = refl
next-branch l b k by-close = refl

-- what is told of a derivation's tokens
abbrev pub Traced : (what : Category) → (List Production → List Production) → List Token → List Token → Type 0
Traced statement told ts r = (b : Place) (k : Stack) → trace (expect b k) ts ≡ told (closing b ∷ trace (have k) r)
Traced sequence told ts r = (k : Stack) → trace (expect first k) ts ≡ told (trace (have k) r)
Traced branches told ts r = (b : Place) (k : Stack) → Closes r → trace (expect first (within branch_one b k)) ts ≡ told (after r b k)

pub traced : {what : Category} {p : Tree} {ts r : List Token} (d : Derives what p ts r) → Traced what (productions d) ts r
traced a-nothing = λ b k. refl
traced a-pause = λ b k. refl
traced an-emit = λ b k. refl
traced an-exit = λ b k. refl
traced (a-signal d) = λ b k. traced d (within (in_body of-signal) b k)
traced (a-trap d) = λ b k. traced d (within (in_body of-trap) b k)
traced (a-loop d) = λ b k. traced d (within (in_body of-loop) b k)
traced (a-suspend d) = λ b k. traced d (within in_suspend b k)
traced (a_then_else d e) = λ b k. traced d (within in_then b k) ∙ ap (productions d) (traced e (within (in_else of-then-else) b k))
traced (a-then d) = λ b k. traced d (within in_then b k)
traced (an_else d) = λ b k. traced d (within (in_else of-else) b k)
traced (a_bracket d) = λ b k. traced d b k by-close
traced a-halt = λ b k. refl
traced a-sustain = λ b k. refl
traced an-await = λ b k. refl
traced (an-abort d) = λ b k. traced d (within (in_abort of-abort) b k)
traced (a_weak_abort d) = λ b k. traced d (within (in_abort of-weak-abort) b k)
traced (a-single d) = λ k. traced d first k
traced (a-sequence d e) = λ k. traced d k ∙ ap (productions d) (traced e later k)
traced (a_pair d e) = λ b k c. traced d (within branch_one b k) ∙
    ap (productions d) (traced e (within (branch_next of_pair) b k) ∙ ap (productions e) (next-branch of_pair b k c))
traced (a-branch d e) = λ b k c. traced d b k by-bars ∙ ap (productions d) (traced e (within (branch_next of-branch) b k) ∙ ap (productions e) (next-branch of-branch b k c))
