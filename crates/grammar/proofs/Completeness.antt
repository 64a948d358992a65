-- A derivation is read by the machine, so a text has at most one tree.
use mathlib.Core.Path.{◌≡◌, refl, sym, ap, ◌∙◌}
use mathlib.Core.List.{List, ◌∷◌}
use Rattle.grammar.specs.Tokens.{Token, opening, mark, bracket, bars, close}
use Rattle.grammar.specs.Tree as T
use Rattle.grammar.specs.Tree.{Tree, leaf, two}
use Rattle.grammar.specs.Grammar.{Category, statement, sequence, branches, Derives, a-nothing, a-pause, an-emit, an-exit, a-signal, a-trap, a-loop, a-suspend, a_then_else, a-then, an_else, a-halt, a-sustain, an-await, an-abort, a_weak_abort, a_bracket, a-single, a-sequence, a_pair, a-branch, Program}
use Rattle.grammar.specs.Machine.{Before, alone, after, join, Open, top, within, branch, body, then_branch, else_branch, suspended, aborted, expect, have, accepted, run, parse}

-- branches that end in q, after those of l
pub record Branches (p : Tree) (ts r : List Token) : Type 0 where
  pub left : Tree
  pub right : Tree
  pub same : p ≡ two T.parallel left right
  pub moves : (b : Before) (k : Open) → run (expect alone (within (branch alone) b k)) ts ≡ run (have right (within (branch (after left)) b k)) r

abbrev pub Reads : Category → Tree → List Token → List Token → Type 0
Reads statement p ts r = (b : Before) (k : Open) → run (expect b k) ts ≡ run (have (join b p) k) r
Reads sequence p ts r = (k : Open) → run (expect alone k) ts ≡ run (have p k) r
Reads branches p ts r = Branches p ts r

close_bracket : {p : Tree} {ts r : List Token} → Branches p ts (mark close ∷ r) → Reads statement p (opening bracket ∷ ts) r
close_bracket {r = r} d b k = d.moves b k ∙ ap (λ (x : Tree). run (have (join b x) k) r) (sym d.same)

more_branches : {p q : Tree} {ts us r : List Token} → Branches p ts (mark bars ∷ us) → Reads sequence q us r → Branches (two T.parallel p q) ts r
more_branches {p = p} {q = q} {us = us} d e = record {
  left = p;
  right = q;
  same = refl;
  moves = λ b k.
      d.moves b k
      ∙ ap (λ (x : Tree). run (expect alone (within (branch (after x)) b k)) us) (sym d.same)
      ∙ e (within (branch (after p)) b k);
}

pub reads : {w : Category} {p : Tree} {ts r : List Token} → Derives w p ts r → Reads w p ts r
reads a-nothing = λ b k. refl
reads a-pause = λ b k. refl
reads an-emit = λ b k. refl
reads an-exit = λ b k. refl
reads (a-signal {s = s} d) = λ b k. reads d (within (body (T.signal s)) b k)
reads (a-trap {t = t} d) = λ b k. reads d (within (body (T.trap t)) b k)
reads (a-loop d) = λ b k. reads d (within (body T.loop) b k)
reads (a-suspend d) = λ b k. reads d (within suspended b k)
reads (a_then_else {s = s} {p = p} d e) = λ b k. reads d (within (then_branch s) b k) ∙ reads e (within (else_branch s p) b k)
reads (a-then {s = s} d) = λ b k. reads d (within (then_branch s) b k)
reads (an_else {s = s} d) = λ b k. reads d (within (else_branch s (leaf T.nothing)) b k)
reads a-halt = λ b k. refl
reads a-sustain = λ b k. refl
reads an-await = λ b k. refl
reads (an-abort d) = λ b k. reads d (within (aborted T.strong) b k)
reads (a_weak_abort d) = λ b k. reads d (within (aborted T.weak) b k)
reads (a_bracket d) = close_bracket (reads d)
reads (a-single d) = λ k. reads d alone k
reads (a-sequence {p = p} d e) = λ k. reads d k ∙ reads e (after p) k
reads (a_pair {p = p} {q = q} d e) = record {
  left = p;
  right = q;
  same = refl;
  moves = λ b k. reads d (within (branch alone) b k) ∙ reads e (within (branch (after p)) b k);
}
reads (a-branch d e) = more_branches (reads d) (reads e)

pub complete : (p : Tree) (ts : List Token) → Program p ts → parse ts ≡ accepted p
complete p ts d = reads d top

pub one-tree : (p q : Tree) (ts : List Token) → Program p ts → Program q ts → p ≡ q
one-tree p q ts d e =
    let f = complete p ts d in
    let g = complete q ts e in
    cc
