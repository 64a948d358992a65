-- What the machine has read is a beginning of a derivation, so what it accepts has one.
use mathlib.Core.Path.{◌≡◌, subst}
use mathlib.Core.List.{List, [], ◌∷◌}
use Prim.Native.Nat.{ℕ}
use native.Mathlib.Omega.{arith}
use Rattle.grammar.specs.Tokens.{Token, opening, mark, name, stray, foreign, Opening, Mark, nothing, pause, emit, exit, signal, trap, loop, present, suspend, bracket, halt, sustain, await, abort, weak, semicolon, bars, close, in-mark, then, else, end, when}
use Rattle.grammar.specs.Tree as T
use Rattle.grammar.specs.Tree.{Tree, Name, Strength, leaf, one}
use Rattle.grammar.specs.Grammar.{statement, sequence, branches, Derives, a-nothing, a-pause, an-emit, an-exit, a-signal, a-trap, a-loop, a-suspend, a_then_else, a-then, an_else, a-halt, a-sustain, an-await, an-abort, a_weak_abort, a_bracket, a-single, a-sequence, a_pair, a-branch, Program}
use Rattle.grammar.specs.Machine.{Before, alone, after, join, Open, top, within, Frame, branch, body, then_branch, else_branch, suspended, aborted, Wanting, an_emit, an_exit, a_signal, a_trap, a_present, a_suspend, a_sustain, an_await, an_abort, State, expect, have, want_name, want_in, want_branch, want_end, want_abort, at_abort, at_abort_end, Next, to, no_way, next, begin, named, go_on, at_bars, at_close, at_else, at_end, at_when, at_in, at_branch, Outcome, accepted, stuck, finish, take_step, run, parse}

-- from ts to r stands the sequence before, with its semicolon
data Sofar : Before → List Token → List Token → Type 0 where
  start : {r : List Token} → Sofar alone r r
  follows : {p : Tree} {ts r : List Token} → Derives sequence p ts (mark semicolon ∷ r) → Sofar (after p) ts r

-- from ts to r stands the beginning of an open statement
data Header : T.Unary → List Token → List Token → Type 0 where
  h_signal : {s : Name} {r : List Token} → Header (T.signal s) (opening signal ∷ name s ∷ r) r
  h_trap : {t : Name} {r : List Token} → Header (T.trap t) (opening trap ∷ name t ∷ r) r

data Aborts : Strength → List Token → List Token → Type 0 where
  plain-abort : {r : List Token} → Aborts T.strong (opening abort ∷ r) r
  weak_abort : {r : List Token} → Aborts T.weak (opening weak ∷ opening abort ∷ r) r

data Heads : Frame → List Token → List Token → Type 0 where
  first-branch : {r : List Token} → Heads (branch alone) (opening bracket ∷ r) r
  second-branch : {p : Tree} {ts r : List Token} → Derives sequence p ts (mark bars ∷ r) → Heads (branch (after p)) (opening bracket ∷ ts) r
  later-branch : {p : Tree} {ts r : List Token} → Derives branches p ts (mark bars ∷ r) → Heads (branch (after p)) (opening bracket ∷ ts) r
  in_body_lem : {u : T.Unary} {ts r : List Token} → Header u ts (mark in-mark ∷ r) → Heads (body u) ts r
  in_loop : {r : List Token} → Heads (body T.loop) (opening loop ∷ r) r
  in_then : {s : Name} {r : List Token} → Heads (then_branch s) (opening present ∷ name s ∷ mark then ∷ r) r
  in-else : {s : Name} {p : Tree} {ts r : List Token} → Derives sequence p ts (mark else ∷ r) → Heads (else_branch s p) (opening present ∷ name s ∷ mark then ∷ ts) r
  only_else : {s : Name} {r : List Token} → Heads (else_branch s (leaf T.nothing)) (opening present ∷ name s ∷ mark else ∷ r) r
  in-suspend : {r : List Token} → Heads suspended (opening suspend ∷ r) r
  in-abort : {w : Strength} {ts r : List Token} → Aborts w ts r → Heads (aborted w) ts r

data Wants : Wanting → List Token → List Token → Type 0 where
  w-emit : {r : List Token} → Wants an_emit (opening emit ∷ r) r
  w-exit : {r : List Token} → Wants an_exit (opening exit ∷ r) r
  w-signal : {r : List Token} → Wants a_signal (opening signal ∷ r) r
  w-trap : {r : List Token} → Wants a_trap (opening trap ∷ r) r
  w-present : {r : List Token} → Wants a_present (opening present ∷ r) r
  w-suspend : {p : Tree} {ts r : List Token} → Derives sequence p ts (mark when ∷ r) → Wants (a_suspend p) (opening suspend ∷ ts) r
  w-sustain : {r : List Token} → Wants a_sustain (opening sustain ∷ r) r
  w-await : {r : List Token} → Wants an_await (opening await ∷ r) r
  w-abort : {w : Strength} {p : Tree} {ts us r : List Token} → Aborts w ts us → Derives sequence p us (mark when ∷ r) → Wants (an_abort w p) ts r

data Ending : Tree → List Token → List Token → Type 0 where
  ending : {w : Strength} {s : Name} {p : Tree} {ts us r : List Token} → Aborts w ts us → Derives sequence p us (mark when ∷ name s ∷ r) → Ending (T.abort w s p) ts r

data Opened : Open → List Token → List Token → Type 0 where
  outside : {r : List Token} → Opened top r r
  inside : {f : Frame} {b : Before} {k : Open} {ts us vs r : List Token} → Opened k ts us → Sofar b us vs → Heads f vs r → Opened (within f b k) ts r

data Reached : State → List Token → List Token → Type 0 where
  expects : {b : Before} {k : Open} {ts us r : List Token} → Opened k ts us → Sofar b us r → Reached (expect b k) ts r
  has : {p : Tree} {k : Open} {ts us r : List Token} → Opened k ts us → Derives sequence p us r → Reached (have p k) ts r
  wants-name : {w : Wanting} {b : Before} {k : Open} {ts us vs r : List Token} → Opened k ts us → Sofar b us vs → Wants w vs r → Reached (want_name w b k) ts r
  wants_in : {u : T.Unary} {b : Before} {k : Open} {ts us vs r : List Token} → Opened k ts us → Sofar b us vs → Header u vs r → Reached (want_in u b k) ts r
  wants-branch : {s : Name} {b : Before} {k : Open} {ts us r : List Token} → Opened k ts us → Sofar b us (opening present ∷ name s ∷ r) → Reached (want_branch s b k) ts r
  wants-end : {p : Tree} {b : Before} {k : Open} {ts us vs r : List Token} → Opened k ts us → Sofar b us vs → Ending p vs r → Reached (want_end p b k) ts r
  wants-abort : {b : Before} {k : Open} {ts us r : List Token} → Opened k ts us → Sofar b us (opening weak ∷ r) → Reached (want_abort b k) ts r

-- a statement after what stands before it
joins : {b : Before} {p : Tree} {k : Open} {ts us vs r : List Token} → Opened k ts us → Sofar b us vs → Derives statement p vs r → Reached (have (join b p) k) ts r
joins o start d = has o (a-single d)
joins o (follows e) d = has o (a-sequence e d)

begins : (o : Opening) {b : Before} {k : Open} {ts us r : List Token} → Opened k ts us → Sofar b us (opening o ∷ r) → Reached (begin o b k) ts r
begins nothing o s = joins o s a-nothing
begins pause o s = joins o s a-pause
begins emit o s = wants-name o s w-emit
begins exit o s = wants-name o s w-exit
begins signal o s = wants-name o s w-signal
begins trap o s = wants-name o s w-trap
begins loop o s = expects (inside o s in_loop) start
begins present o s = wants-name o s w-present
begins suspend o s = expects (inside o s in-suspend) start
begins halt o s = joins o s a-halt
begins sustain o s = wants-name o s w-sustain
begins await o s = wants-name o s w-await
begins abort o s = expects (inside o s (in-abort plain-abort)) start
begins weak o s = wants-abort o s
begins bracket o s = expects (inside o s first-branch) start

names : {w : Wanting} (n : Name) {b : Before} {k : Open} {ts us vs r : List Token} → Opened k ts us → Sofar b us vs → Wants w vs (name n ∷ r) → Reached (named w n b k) ts r
names n o s w-emit = joins o s an-emit
names n o s w-exit = joins o s an-exit
names n o s w-signal = wants_in o s h_signal
names n o s w-trap = wants_in o s h_trap
names n o s w-present = wants-branch o s
names n o s (w-suspend d) = joins o s (a-suspend d)
names n o s w-sustain = joins o s a-sustain
names n o s w-await = joins o s an-await
names n o s (w-abort a d) = wants-end o s (ending a d)

-- a state that was reached leads on to what can be reached
data Goes (ts r : List Token) : Next → Type 0 where
  goes : {s : State} → Reached s ts r → Goes ts r (to s)
  ends : Goes ts r no_way

bars-step : {p : Tree} {f : Frame} {b : Before} {k : Open} {ts us vs ws r : List Token} → Opened k ts us → Sofar b us vs → Heads f vs ws → Derives sequence p ws (mark bars ∷ r) → Goes ts r (at_bars p (within f b k))
bars-step o s first-branch d = goes (expects (inside o s (second-branch d)) start)
bars-step o s (second-branch e) d = goes (expects (inside o s (later-branch (a_pair e d))) start)
bars-step o s (later-branch e) d = goes (expects (inside o s (later-branch (a-branch e d))) start)
bars-step o s (in_body_lem h) d = ends
bars-step o s in_loop d = ends
bars-step o s in_then d = ends
bars-step o s (in-else e) d = ends
bars-step o s only_else d = ends
bars-step o s in-suspend d = ends
bars-step o s (in-abort a) d = ends

close-step : {p : Tree} {f : Frame} {b : Before} {k : Open} {ts us vs ws r : List Token} → Opened k ts us → Sofar b us vs → Heads f vs ws → Derives sequence p ws (mark close ∷ r) → Goes ts r (at_close p (within f b k))
close-step o s first-branch d = ends
close-step o s (second-branch e) d = goes (joins o s (a_bracket (a_pair e d)))
close-step o s (later-branch e) d = goes (joins o s (a_bracket (a-branch e d)))
close-step o s (in_body_lem h) d = ends
close-step o s in_loop d = ends
close-step o s in_then d = ends
close-step o s (in-else e) d = ends
close-step o s only_else d = ends
close-step o s in-suspend d = ends
close-step o s (in-abort a) d = ends

else_step : {p : Tree} {f : Frame} {b : Before} {k : Open} {ts us vs ws r : List Token} → Opened k ts us → Sofar b us vs → Heads f vs ws → Derives sequence p ws (mark else ∷ r) → Goes ts r (at_else p (within f b k))
else_step o s first-branch d = ends
else_step o s (second-branch e) d = ends
else_step o s (later-branch e) d = ends
else_step o s (in_body_lem h) d = ends
else_step o s in_loop d = ends
else_step o s in_then d = goes (expects (inside o s (in-else d)) start)
else_step o s (in-else e) d = ends
else_step o s only_else d = ends
else_step o s in-suspend d = ends
else_step o s (in-abort a) d = ends

body_end : {p : Tree} {u : T.Unary} {ts us r : List Token} → Header u ts (mark in-mark ∷ us) → Derives sequence p us (mark end ∷ r) → Derives statement (one u p) ts r
body_end h_signal d = a-signal d
body_end h_trap d = a-trap d

end_step : {p : Tree} {f : Frame} {b : Before} {k : Open} {ts us vs ws r : List Token} → Opened k ts us → Sofar b us vs → Heads f vs ws → Derives sequence p ws (mark end ∷ r) → Goes ts r (at_end p (within f b k))
end_step o s first-branch d = ends
end_step o s (second-branch e) d = ends
end_step o s (later-branch e) d = ends
end_step o s (in_body_lem h) d = goes (joins o s (body_end h d))
end_step o s in_loop d = goes (joins o s (a-loop d))
end_step o s in_then d = goes (joins o s (a-then d))
end_step o s (in-else e) d = goes (joins o s (a_then_else e d))
end_step o s only_else d = goes (joins o s (an_else d))
end_step o s in-suspend d = ends
end_step o s (in-abort a) d = ends

when_step : {p : Tree} {f : Frame} {b : Before} {k : Open} {ts us vs ws r : List Token} → Opened k ts us → Sofar b us vs → Heads f vs ws → Derives sequence p ws (mark when ∷ r) → Goes ts r (at_when p (within f b k))
when_step o s first-branch d = ends
when_step o s (second-branch e) d = ends
when_step o s (later-branch e) d = ends
when_step o s (in_body_lem h) d = ends
when_step o s in_loop d = ends
when_step o s in_then d = ends
when_step o s (in-else e) d = ends
when_step o s only_else d = ends
when_step o s in-suspend d = goes (wants-name o s (w-suspend d))
when_step o s (in-abort a) d = goes (wants-name o s (w-abort a d))

go_on_lem : (m : Mark) {p : Tree} {k : Open} {ts us r : List Token} → Opened k ts us → Derives sequence p us (mark m ∷ r) → Goes ts r (go_on m p k)
go_on_lem semicolon o d = goes (expects o (follows d))
go_on_lem bars outside d = ends
go_on_lem bars (inside o s h) d = bars-step o s h d
go_on_lem close outside d = ends
go_on_lem close (inside o s h) d = close-step o s h d
go_on_lem in-mark o d = ends
go_on_lem then o d = ends
go_on_lem else outside d = ends
go_on_lem else (inside o s h) d = else_step o s h d
go_on_lem end outside d = ends
go_on_lem end (inside o s h) d = end_step o s h d
go_on_lem when outside d = ends
go_on_lem when (inside o s h) d = when_step o s h d

in_step : (m : Mark) {u : T.Unary} {b : Before} {k : Open} {ts us vs r : List Token} → Opened k ts us → Sofar b us vs → Header u vs (mark m ∷ r) → Goes ts r (at_in m u b k)
in_step semicolon o s h = ends
in_step bars o s h = ends
in_step close o s h = ends
in_step in-mark o s h = goes (expects (inside o s (in_body_lem h)) start)
in_step then o s h = ends
in_step else o s h = ends
in_step end o s h = ends
in_step when o s h = ends

branch-step : (m : Mark) {n : Name} {b : Before} {k : Open} {ts us r : List Token} → Opened k ts us → Sofar b us (opening present ∷ name n ∷ mark m ∷ r) → Goes ts r (at_branch m n b k)
branch-step semicolon o s = ends
branch-step bars o s = ends
branch-step close o s = ends
branch-step in-mark o s = ends
branch-step then o s = goes (expects (inside o s in_then) start)
branch-step else o s = goes (expects (inside o s only_else) start)
branch-step end o s = ends
branch-step when o s = ends

abort-ends : {w : Strength} {s : Name} {p : Tree} {ts us r : List Token} → Aborts w ts us → Derives sequence p us (mark when ∷ name s ∷ mark end ∷ r) → Derives statement (T.abort w s p) ts r
abort-ends plain-abort d = an-abort d
abort-ends weak_abort d = a_weak_abort d

ended : {p : Tree} {ts r : List Token} → Ending p ts (mark end ∷ r) → Derives statement p ts r
ended (ending a d) = abort-ends a d

abort-end-step : (m : Mark) {p : Tree} {b : Before} {k : Open} {ts us vs r : List Token} → Opened k ts us → Sofar b us vs → Ending p vs (mark m ∷ r) → Goes ts r (at_abort_end m p b k)
abort-end-step semicolon o s e = ends
abort-end-step bars o s e = ends
abort-end-step close o s e = ends
abort-end-step in-mark o s e = ends
abort-end-step then o s e = ends
abort-end-step else o s e = ends
abort-end-step when o s e = ends
abort-end-step end o s e = goes (joins o s (ended e))

abort-step : (x : Opening) {b : Before} {k : Open} {ts us r : List Token} → Opened k ts us → Sofar b us (opening weak ∷ opening x ∷ r) → Goes ts r (at_abort x b k)
abort-step nothing o s = ends
abort-step pause o s = ends
abort-step emit o s = ends
abort-step exit o s = ends
abort-step signal o s = ends
abort-step trap o s = ends
abort-step loop o s = ends
abort-step present o s = ends
abort-step suspend o s = ends
abort-step bracket o s = ends
abort-step halt o s = ends
abort-step sustain o s = ends
abort-step await o s = ends
abort-step weak o s = ends
abort-step abort o s = goes (expects (inside o s (in-abort weak_abort)) start)

steps : (t : Token) {s : State} {ts r : List Token} → Reached s ts (t ∷ r) → Goes ts r (next s t)
steps (opening x) (expects o s) = goes (begins x o s)
steps (mark m) (expects o s) = ends
steps (name n) (expects o s) = ends
steps stray (expects o s) = ends
steps foreign (expects o s) = ends
steps (opening x) (has o d) = ends
steps (mark m) (has o d) = go_on_lem m o d
steps (name n) (has o d) = ends
steps stray (has o d) = ends
steps foreign (has o d) = ends
steps (opening x) (wants-name o s w) = ends
steps (mark m) (wants-name o s w) = ends
steps (name n) (wants-name o s w) = goes (names n o s w)
steps stray (wants-name o s w) = ends
steps foreign (wants-name o s w) = ends
steps (opening x) (wants_in o s h) = ends
steps (mark m) (wants_in o s h) = in_step m o s h
steps (name n) (wants_in o s h) = ends
steps stray (wants_in o s h) = ends
steps foreign (wants_in o s h) = ends
steps (opening x) (wants-branch o s) = ends
steps (mark m) (wants-branch o s) = branch-step m o s
steps (name n) (wants-branch o s) = ends
steps stray (wants-branch o s) = ends
steps foreign (wants-branch o s) = ends
steps (opening x) (wants-end o s e) = ends
steps (mark m) (wants-end o s e) = abort-end-step m o s e
steps (name n) (wants-end o s e) = ends
steps stray (wants-end o s e) = ends
steps foreign (wants-end o s e) = ends
steps (opening x) (wants-abort o s) = abort-step x o s
steps (mark m) (wants-abort o s) = ends
steps (name n) (wants-abort o s) = ends
steps stray (wants-abort o s) = ends
steps foreign (wants-abort o s) = ends

-- what is accepted
data Came (ts : List Token) : Outcome → Type 0 where
  came : {p : Tree} → Program p ts → Came ts (accepted p)
  stays : {rest : List Token} → Came ts (stuck rest)

finishes : {s : State} {ts : List Token} → Reached s ts [] → Came ts (finish s)
finishes (expects o s) = stays
finishes (has outside d) = came d
finishes (has (inside o s h) d) = stays
finishes (wants-name o s w) = stays
finishes (wants_in o s h) = stays
finishes (wants-branch o s) = stays
finishes (wants-end o s e) = stays
finishes (wants-abort o s) = stays

runs : (r : List Token) {s : State} {ts : List Token} → Reached s ts r → Came ts (run s r)
runs [] x = finishes x
runs (t ∷ r) {ts = ts} x = go (steps t x) (λ s y. runs r y)
  where
    go : {n : Next} → Goes ts r n → ((s : State) → Reached s ts r → Came ts (run s r)) → Came ts (take_step n (t ∷ r) (λ s. run s r))
    go (goes {s = s} y) rest = rest s y
    go ends rest = stays

accepted-program : {o : Outcome} {ts : List Token} → Came ts o → (p : Tree) → o ≡ accepted p → Program p ts
accepted-program {ts = ts} (came {p = q} d) p e = let f : q ≡ p = cc in subst (λ (x : Tree). Program x ts) f d
accepted-program stays p e = let z : ◌≡◌ {A = ℕ} 0 1 = cc in absurd (omega arith)

pub sound : (p : Tree) (ts : List Token) → parse ts ≡ accepted p → Program p ts
sound p ts e = accepted-program (runs ts (expects outside start)) p e
