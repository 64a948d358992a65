-- A token opens at most one statement more.
use Prim.Native.Nat.{ℕ, suc, ◌≤◌}
use native.Mathlib.Omega.{arith}
use Rattle.grammar.specs.Tokens.{Token, opening, mark, name, foreign, stray, Opening, Mark, nothing, pause, emit, exit, signal, trap, loop, present, suspend, bracket, halt, sustain, await, abort, weak, semicolon, bars, close, in-mark, then, else, end, when}
use Rattle.grammar.specs.Tree as T
use Rattle.grammar.specs.Tree.{Tree, Name}
use Rattle.grammar.specs.Machine.{Before, alone, after, branch, body, then_branch, else_branch, suspended, aborted, Open, top, within, Wanting, an_emit, an_exit, a_signal, a_trap, a_present, a_suspend, a_sustain, an_await, an_abort, State, expect, have, want_name, want_in, want_branch, want_end, want_abort, Next, to, no_way, next, begin, named, at_bars, at_close, at_else, at_end, at_when, go_on, at_in, at_branch, at_abort_end, at_abort, height as opens}
use Rattle.fault.specs.Walking.{open_of}

abbrev pub Climbs : ℕ → Next → Type 0
Climbs n (to s) = opens (open_of s) ≤ suc n
Climbs n no_way = Unit {0}

begins : (o : Opening) (b : Before) (k : Open) → opens (open_of (begin o b k)) ≤ suc (opens k)
begins nothing b k = omega arith
begins pause b k = omega arith
begins emit b k = omega arith
begins exit b k = omega arith
begins signal b k = omega arith
begins trap b k = omega arith
begins loop b k = omega arith
begins present b k = omega arith
begins suspend b k = omega arith
begins bracket b k = omega arith
begins halt b k = omega arith
begins sustain b k = omega arith
begins await b k = omega arith
begins abort b k = omega arith
begins weak b k = omega arith

names : (w : Wanting) (n : Name) (b : Before) (k : Open) → opens (open_of (named w n b k)) ≤ suc (opens k)
names an_emit n b k = omega arith
names an_exit n b k = omega arith
names a_signal n b k = omega arith
names a_trap n b k = omega arith
names a_present n b k = omega arith
names (a_suspend p) n b k = omega arith
names a_sustain n b k = omega arith
names an_await n b k = omega arith
names (an_abort v p) n b k = omega arith

barred : (p : Tree) (k : Open) → Climbs (opens k) (at_bars p k)
barred p top = tt
barred p (within (branch alone) b k) = omega arith
barred p (within (branch (after l)) b k) = omega arith
barred p (within (body u) b k) = tt
barred p (within (then_branch s) b k) = tt
barred p (within (else_branch s q) b k) = tt
barred p (within suspended b k) = tt
barred p (within (aborted w) b k) = tt

closes : (p : Tree) (k : Open) → Climbs (opens k) (at_close p k)
closes p top = tt
closes p (within (branch alone) b k) = tt
closes p (within (branch (after l)) b k) = omega arith
closes p (within (body u) b k) = tt
closes p (within (then_branch s) b k) = tt
closes p (within (else_branch s q) b k) = tt
closes p (within suspended b k) = tt
closes p (within (aborted w) b k) = tt

elses : (p : Tree) (k : Open) → Climbs (opens k) (at_else p k)
elses p top = tt
elses p (within (branch alone) b k) = tt
elses p (within (branch (after l)) b k) = tt
elses p (within (body u) b k) = tt
elses p (within (then_branch s) b k) = omega arith
elses p (within (else_branch s q) b k) = tt
elses p (within suspended b k) = tt
elses p (within (aborted w) b k) = tt

ends : (p : Tree) (k : Open) → Climbs (opens k) (at_end p k)
ends p top = tt
ends p (within (branch alone) b k) = tt
ends p (within (branch (after l)) b k) = tt
ends p (within (body u) b k) = omega arith
ends p (within (then_branch s) b k) = omega arith
ends p (within (else_branch s q) b k) = omega arith
ends p (within suspended b k) = tt
ends p (within (aborted w) b k) = tt

whens : (p : Tree) (k : Open) → Climbs (opens k) (at_when p k)
whens p top = tt
whens p (within (branch alone) b k) = tt
whens p (within (branch (after l)) b k) = tt
whens p (within (body u) b k) = tt
whens p (within (then_branch s) b k) = tt
whens p (within (else_branch s q) b k) = tt
whens p (within suspended b k) = omega arith
whens p (within (aborted w) b k) = omega arith

goes_on_lem : (m : Mark) (p : Tree) (k : Open) → Climbs (opens k) (go_on m p k)
goes_on_lem semicolon p k = omega arith
goes_on_lem bars p k = barred p k
goes_on_lem close p k = closes p k
goes_on_lem in-mark p k = tt
goes_on_lem then p k = tt
goes_on_lem else p k = elses p k
goes_on_lem end p k = ends p k
goes_on_lem when p k = whens p k

ins : (m : Mark) (u : T.Unary) (b : Before) (k : Open) → Climbs (opens k) (at_in m u b k)
ins semicolon u b k = tt
ins bars u b k = tt
ins close u b k = tt
ins in-mark u b k = omega arith
ins then u b k = tt
ins else u b k = tt
ins end u b k = tt
ins when u b k = tt

branches : (m : Mark) (s : Name) (b : Before) (k : Open) → Climbs (opens k) (at_branch m s b k)
branches semicolon s b k = tt
branches bars s b k = tt
branches close s b k = tt
branches in-mark s b k = tt
branches then s b k = omega arith
branches else s b k = omega arith
branches end s b k = tt
branches when s b k = tt

abort-ends : (m : Mark) (p : Tree) (b : Before) (k : Open) → Climbs (opens k) (at_abort_end m p b k)
abort-ends semicolon p b k = tt
abort-ends bars p b k = tt
abort-ends close p b k = tt
abort-ends in-mark p b k = tt
abort-ends then p b k = tt
abort-ends else p b k = tt
abort-ends end p b k = omega arith
abort-ends when p b k = tt

aborts : (o : Opening) (b : Before) (k : Open) → Climbs (opens k) (at_abort o b k)
aborts nothing b k = tt
aborts pause b k = tt
aborts emit b k = tt
aborts exit b k = tt
aborts signal b k = tt
aborts trap b k = tt
aborts loop b k = tt
aborts present b k = tt
aborts suspend b k = tt
aborts bracket b k = tt
aborts halt b k = tt
aborts sustain b k = tt
aborts await b k = tt
aborts abort b k = omega arith
aborts weak b k = tt

pub climbs : (s : State) (t : Token) → Climbs (opens (open_of s)) (next s t)
climbs (expect b k) (opening o) = begins o b k
climbs (expect b k) (mark m) = tt
climbs (expect b k) (name n) = tt
climbs (expect b k) foreign = tt
climbs (expect b k) stray = tt
climbs (have p k) (opening o) = tt
climbs (have p k) (mark m) = goes_on_lem m p k
climbs (have p k) (name n) = tt
climbs (have p k) foreign = tt
climbs (have p k) stray = tt
climbs (want_name w b k) (opening o) = tt
climbs (want_name w b k) (mark m) = tt
climbs (want_name w b k) (name n) = names w n b k
climbs (want_name w b k) foreign = tt
climbs (want_name w b k) stray = tt
climbs (want_in u b k) (opening o) = tt
climbs (want_in u b k) (mark m) = ins m u b k
climbs (want_in u b k) (name n) = tt
climbs (want_in u b k) foreign = tt
climbs (want_in u b k) stray = tt
climbs (want_branch s b k) (opening o) = tt
climbs (want_branch s b k) (mark m) = branches m s b k
climbs (want_branch s b k) (name n) = tt
climbs (want_branch s b k) foreign = tt
climbs (want_branch s b k) stray = tt
climbs (want_end p b k) (opening o) = tt
climbs (want_end p b k) (mark m) = abort-ends m p b k
climbs (want_end p b k) (name n) = tt
climbs (want_end p b k) foreign = tt
climbs (want_end p b k) stray = tt
climbs (want_abort b k) (opening o) = aborts o b k
climbs (want_abort b k) (mark m) = tt
climbs (want_abort b k) (name n) = tt
climbs (want_abort b k) foreign = tt
climbs (want_abort b k) stray = tt
