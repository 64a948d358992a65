-- A tree that the machine accepts has at least as many levels as statements are open on the way, so that a text within the length opens
-- at most `max_levels` of them.
use mathlib.Core.Path.{◌≡◌}
use mathlib.Core.List.{List, [], ◌∷◌}
use Prim.Native.Nat.{ℕ, suc, ◌+◌, ◌≤◌, ◌<◌, max}
use native.Mathlib.Omega.{arith}
use lib.ListN.{length}
use Rattle.grammar.specs.Limits.{max_source, max_levels}
use Rattle.grammar.specs.Tokens.{Token, opening, mark, name, stray, foreign, Opening, Mark, nothing, pause, emit, exit, signal, trap, loop, present, suspend, bracket, halt, sustain, await, abort, weak, semicolon, bars, close, in-mark, then, else, end, when, tokens}
use Rattle.grammar.specs.Tree as T
use Rattle.grammar.specs.Tree.{Tree, Name, leaf, one, two, levels}
use Rattle.grammar.specs.Machine.{Before, alone, after, join, beside, Open, top, within, Frame, branch, body, then_branch, else_branch, suspended, aborted, Wanting, an_emit, an_exit, a_signal, a_trap, a_present, a_suspend, a_sustain, an_await, an_abort, State, expect, have, want_name, want_in, want_branch, want_end, want_abort, at_abort, at_abort_end, Next, to, no_way, next, begin, named, go_on, at_bars, at_close, at_else, at_end, at_when, at_in, at_branch, Outcome, accepted, stuck, finish, take_step, run, parse, height}
use Rattle.grammar.proofs.Soundness.{sound}
use Rattle.grammar.proofs.Nesting.{takes}
use Rattle.grammar.proofs.Weighing.{weighs}

abbrev levels_before : Before → ℕ
levels_before alone = 0
levels_before (after p) = levels p

abbrev levels_in : Frame → ℕ
levels_in (branch l) = levels_before l
levels_in (body u) = 0
levels_in (then_branch s) = 0
levels_in (else_branch s p) = levels p
levels_in suspended = 0
levels_in (aborted w) = 0

-- the levels that the whole has at least, if what is read under k has l
reach : Open → ℕ → ℕ
reach top l = l
reach (within f b k) l = reach k (max (levels_before b) (suc (max (levels_in f) l)))

rises : (k : Open) (l m : ℕ) → l ≤ m → reach k l ≤ reach k m
unfolding reach
rises top l m h = h
rises (within f b k) l m h = rises k _ _ (omega arith)

counts : (k : Open) (l : ℕ) → height k + l ≤ reach k l
unfolding reach
counts top l = omega arith
counts (within f b k) l = omega (arith, counts k (max (levels_before b) (suc (max (levels_in f) l))))

abbrev levels_wanted : Wanting → ℕ
levels_wanted an_emit = 0
levels_wanted an_exit = 0
levels_wanted a_signal = 0
levels_wanted a_trap = 0
levels_wanted a_present = 0
levels_wanted (a_suspend p) = suc (levels p)
levels_wanted a_sustain = 0
levels_wanted an_await = 0
levels_wanted (an_abort w p) = suc (levels p)

abbrev low : State → ℕ
low (expect b k) = reach k (levels_before b)
low (have p k) = reach k (levels p)
low (want_name w b k) = reach k (max (levels_before b) (levels_wanted w))
low (want_in u b k) = reach k (levels_before b)
low (want_branch s b k) = reach k (levels_before b)
low (want_end p b k) = reach k (max (levels_before b) (levels p))
low (want_abort b k) = reach k (levels_before b)

joined : (b : Before) (p : Tree) → max (levels_before b) (levels p) ≤ levels (join b p)
joined alone p = omega arith
joined (after q) p = omega arith

branched : (b : Before) (p : Tree) → max (levels_before b) (levels p) ≤ levels (beside b p)
branched alone p = omega arith
branched (after q) p = omega arith

begins : (o : Opening) (b : Before) (k : Open) → reach k (levels_before b) ≤ low (begin o b k)
unfolding reach
begins nothing b k = rises k _ _ (omega (arith, joined b (leaf T.nothing)))
begins pause b k = rises k _ _ (omega (arith, joined b (leaf T.pause)))
begins emit b k = rises k _ _ (omega arith)
begins exit b k = rises k _ _ (omega arith)
begins signal b k = rises k _ _ (omega arith)
begins trap b k = rises k _ _ (omega arith)
begins loop b k = rises k _ _ (omega arith)
begins present b k = rises k _ _ (omega arith)
begins suspend b k = rises k _ _ (omega arith)
begins halt b k = rises k _ _ (omega (arith, joined b (T.halt)))
begins sustain b k = rises k _ _ (omega arith)
begins await b k = rises k _ _ (omega arith)
begins abort b k = rises k _ _ (omega arith)
begins weak b k = rises k _ _ (omega arith)
begins bracket b k = rises k _ _ (omega arith)

names : (w : Wanting) (n : Name) (b : Before) (k : Open) → reach k (max (levels_before b) (levels_wanted w)) ≤ low (named w n b k)
names an_emit n b k = rises k _ _ (omega (arith, joined b (leaf (T.emit n))))
names an_exit n b k = rises k _ _ (omega (arith, joined b (leaf (T.exit n))))
names a_signal n b k = rises k _ _ (omega arith)
names a_trap n b k = rises k _ _ (omega arith)
names a_present n b k = rises k _ _ (omega arith)
names (a_suspend p) n b k = rises k _ _ (omega (arith, joined b (one (T.suspend n) p)))
names a_sustain n b k = rises k _ _ (omega (arith, joined b (T.sustain n)))
names an_await n b k = rises k _ _ (omega (arith, joined b (T.await n)))
names (an_abort w p) n b k = rises k _ _ (omega arith)

-- the next state, if there is one, has no fewer
abbrev Higher : ℕ → Next → Type 0
Higher l (to s) = l ≤ low s
Higher l no_way = Unit {0}

bars-step : (p : Tree) (k : Open) → Higher (reach k (levels p)) (at_bars p k)
unfolding reach
bars-step p top = tt
bars-step p (within (branch l) b k) = rises k _ _ (omega (arith, branched l p))
bars-step p (within (body u) b k) = tt
bars-step p (within (then_branch s) b k) = tt
bars-step p (within (else_branch s q) b k) = tt
bars-step p (within suspended b k) = tt
bars-step p (within (aborted w) b k) = tt

close-step : (p : Tree) (k : Open) → Higher (reach k (levels p)) (at_close p k)
unfolding reach
close-step p top = tt
close-step p (within (branch alone) b k) = tt
close-step p (within (branch (after l)) b k) = rises k _ _ (omega (arith, joined b (two T.parallel l p)))
close-step p (within (body u) b k) = tt
close-step p (within (then_branch s) b k) = tt
close-step p (within (else_branch s q) b k) = tt
close-step p (within suspended b k) = tt
close-step p (within (aborted w) b k) = tt

else_step : (p : Tree) (k : Open) → Higher (reach k (levels p)) (at_else p k)
unfolding reach
else_step p top = tt
else_step p (within (branch l) b k) = tt
else_step p (within (body u) b k) = tt
else_step p (within (then_branch s) b k) = rises k _ _ (omega arith)
else_step p (within (else_branch s q) b k) = tt
else_step p (within suspended b k) = tt
else_step p (within (aborted w) b k) = tt

end_step : (p : Tree) (k : Open) → Higher (reach k (levels p)) (at_end p k)
unfolding reach
end_step p top = tt
end_step p (within (branch l) b k) = tt
end_step p (within (body u) b k) = rises k _ _ (omega (arith, joined b (one u p)))
end_step p (within (then_branch s) b k) = rises k _ _ (omega (arith, joined b (two (T.present s) p (leaf T.nothing))))
end_step p (within (else_branch s q) b k) = rises k _ _ (omega (arith, joined b (two (T.present s) q p)))
end_step p (within suspended b k) = tt
end_step p (within (aborted w) b k) = tt

when_step : (p : Tree) (k : Open) → Higher (reach k (levels p)) (at_when p k)
unfolding reach
when_step p top = tt
when_step p (within (branch l) b k) = tt
when_step p (within (body u) b k) = tt
when_step p (within (then_branch s) b k) = tt
when_step p (within (else_branch s q) b k) = tt
when_step p (within suspended b k) = rises k _ _ (omega arith)
when_step p (within (aborted w) b k) = rises k _ _ (omega arith)

go_on_lem : (m : Mark) (p : Tree) (k : Open) → Higher (reach k (levels p)) (go_on m p k)
go_on_lem semicolon p k = rises k _ _ (omega arith)
go_on_lem bars p k = bars-step p k
go_on_lem close p k = close-step p k
go_on_lem in-mark p k = tt
go_on_lem then p k = tt
go_on_lem else p k = else_step p k
go_on_lem end p k = end_step p k
go_on_lem when p k = when_step p k

in_step : (m : Mark) (u : T.Unary) (b : Before) (k : Open) → Higher (reach k (levels_before b)) (at_in m u b k)
unfolding reach
in_step semicolon u b k = tt
in_step bars u b k = tt
in_step close u b k = tt
in_step in-mark u b k = rises k _ _ (omega arith)
in_step then u b k = tt
in_step else u b k = tt
in_step end u b k = tt
in_step when u b k = tt

branch-step : (m : Mark) (s : Name) (b : Before) (k : Open) → Higher (reach k (levels_before b)) (at_branch m s b k)
unfolding reach
branch-step semicolon s b k = tt
branch-step bars s b k = tt
branch-step close s b k = tt
branch-step in-mark s b k = tt
branch-step then s b k = rises k _ _ (omega arith)
branch-step else s b k = rises k _ _ (omega arith)
branch-step end s b k = tt
branch-step when s b k = tt

abort-end-step : (m : Mark) (p : Tree) (b : Before) (k : Open) → Higher (reach k (max (levels_before b) (levels p))) (at_abort_end m p b k)
abort-end-step semicolon p b k = tt
abort-end-step bars p b k = tt
abort-end-step close p b k = tt
abort-end-step in-mark p b k = tt
abort-end-step then p b k = tt
abort-end-step else p b k = tt
abort-end-step when p b k = tt
abort-end-step end p b k = rises k _ _ (joined b p)

abort-step : (o : Opening) (b : Before) (k : Open) → Higher (reach k (levels_before b)) (at_abort o b k)
unfolding reach
abort-step nothing b k = tt
abort-step pause b k = tt
abort-step emit b k = tt
abort-step exit b k = tt
abort-step signal b k = tt
abort-step trap b k = tt
abort-step loop b k = tt
abort-step present b k = tt
abort-step suspend b k = tt
abort-step bracket b k = tt
abort-step halt b k = tt
abort-step sustain b k = tt
abort-step await b k = tt
abort-step weak b k = tt
abort-step abort b k = rises k _ _ (omega arith)

steps : (t : Token) (s : State) → Higher (low s) (next s t)
steps (opening o) (expect b k) = begins o b k
steps (mark m) (expect b k) = tt
steps (name n) (expect b k) = tt
steps stray (expect b k) = tt
steps foreign (expect b k) = tt
steps (opening o) (have p k) = tt
steps (mark m) (have p k) = go_on_lem m p k
steps (name n) (have p k) = tt
steps stray (have p k) = tt
steps foreign (have p k) = tt
steps (opening o) (want_name w b k) = tt
steps (mark m) (want_name w b k) = tt
steps (name n) (want_name w b k) = names w n b k
steps stray (want_name w b k) = tt
steps foreign (want_name w b k) = tt
steps (opening o) (want_in u b k) = tt
steps (mark m) (want_in u b k) = in_step m u b k
steps (name n) (want_in u b k) = tt
steps stray (want_in u b k) = tt
steps foreign (want_in u b k) = tt
steps (opening o) (want_branch s b k) = tt
steps (mark m) (want_branch s b k) = branch-step m s b k
steps (name n) (want_branch s b k) = tt
steps stray (want_branch s b k) = tt
steps foreign (want_branch s b k) = tt
steps (opening o) (want_end p b k) = tt
steps (mark m) (want_end p b k) = abort-end-step m p b k
steps (name n) (want_end p b k) = tt
steps stray (want_end p b k) = tt
steps foreign (want_end p b k) = tt
steps (opening o) (want_abort b k) = abort-step o b k
steps (mark m) (want_abort b k) = tt
steps (name n) (want_abort b k) = tt
steps stray (want_abort b k) = tt
steps foreign (want_abort b k) = tt

abbrev Deep : ℕ → Outcome → Type 0
Deep l (accepted p) = l ≤ levels p
Deep l (stuck rest) = Unit {0}

finishes : (s : State) → Deep (low s) (finish s)
unfolding reach
finishes (expect b k) = tt
finishes (have p top) = omega arith
finishes (have p (within f b k)) = tt
finishes (want_name w b k) = tt
finishes (want_in u b k) = tt
finishes (want_branch s b k) = tt
finishes (want_end p b k) = tt
finishes (want_abort b k) = tt

raise : {l m : ℕ} (o : Outcome) → l ≤ m → Deep m o → Deep l o
raise (accepted p) h d = omega arith
raise (stuck rest) h d = tt

runs : (ts : List Token) (s : State) → Deep (low s) (run s ts)
runs [] s = finishes s
runs (t ∷ ts) s = go (next s t) (steps t s) (λ s'. runs ts s')
  where
    go : (n : Next) → Higher (low s) n → ((s' : State) → Deep (low s') (run s' ts)) → Deep (low s) (take_step n (t ∷ ts) (λ s'. run s' ts))
    go (to s') h rest = raise (run s' ts) h (rest s')
    go no_way h rest = tt

-- what is accepted has as many levels as statements are open
pub open_levels : (ts : List Token) (b : Before) (k : Open) (p : Tree) → run (expect b k) ts ≡ accepted p → height k ≤ levels p
open_levels ts b k p e = omega (arith, rw e at (runs ts (expect b k)), counts k (levels_before b))

-- and within the length at most `max_levels`
pub few-levels : (bytes : List ℕ) (p : Tree) → length bytes ≤ max_source → parse (tokens bytes) ≡ accepted p → levels p < max_levels
few-levels bytes p h e = omega (arith, takes (sound p (tokens bytes) e), weighs bytes)
