-- Where the machine has no way on.
use mathlib.Core.Path.{◌≡◌, refl}
use mathlib.Core.List.{List, [], ◌∷◌}
use Prim.Native.Nat.{ℕ}
use native.Mathlib.Omega.{arith}
use Rattle.grammar.specs.Tokens.{Token, opening, mark, name, foreign, stray, Opening, nothing, pause, emit, exit, signal, trap, loop, present, suspend, bracket, halt, sustain, await, abort, weak, semicolon, bars, close, in-mark, then, else, end, when}
use Rattle.grammar.specs.Tree as T
use Rattle.grammar.specs.Tree.{Tree, Name}
use Rattle.grammar.specs.Machine.{Before, alone, after, Open, top, within, branch, body, then_branch, else_branch, suspended, aborted, Wanting, expect, have, want_name, want_in, want_branch, want_end, want_abort, Outcome, accepted, stuck, run}

-- a list does not begin with a token
abbrev pub Without : List Token → Token → Type 0
Without ts t = (us : List Token) → ts ≡ t ∷ us → ⊥

pub wants-name : (w : Wanting) (b : Before) (k : Open) (ts : List Token) → ((n : Name) → Without ts (name n)) → run (want_name w b k) ts ≡ stuck ts
wants-name w b k [] h = refl
wants-name w b k (opening o ∷ ts) h = refl
wants-name w b k (mark m ∷ ts) h = refl
wants-name w b k (name n ∷ ts) h = absurd (h n ts refl)
wants-name w b k (foreign ∷ ts) h = refl
wants-name w b k (stray ∷ ts) h = refl

pub wants_in : (u : T.Unary) (b : Before) (k : Open) (ts : List Token) → Without ts (mark in-mark) → run (want_in u b k) ts ≡ stuck ts
wants_in u b k [] h = refl
wants_in u b k (opening o ∷ ts) h = refl
wants_in u b k (mark semicolon ∷ ts) h = refl
wants_in u b k (mark bars ∷ ts) h = refl
wants_in u b k (mark close ∷ ts) h = refl
wants_in u b k (mark in-mark ∷ ts) h = absurd (h ts refl)
wants_in u b k (mark then ∷ ts) h = refl
wants_in u b k (mark else ∷ ts) h = refl
wants_in u b k (mark end ∷ ts) h = refl
wants_in u b k (mark when ∷ ts) h = refl
wants_in u b k (name n ∷ ts) h = refl
wants_in u b k (foreign ∷ ts) h = refl
wants_in u b k (stray ∷ ts) h = refl

pub wants-branch : (s : Name) (b : Before) (k : Open) (ts : List Token) → Without ts (mark then) → Without ts (mark else) → run (want_branch s b k) ts ≡ stuck ts
wants-branch s b k [] h i = refl
wants-branch s b k (opening o ∷ ts) h i = refl
wants-branch s b k (mark semicolon ∷ ts) h i = refl
wants-branch s b k (mark bars ∷ ts) h i = refl
wants-branch s b k (mark close ∷ ts) h i = refl
wants-branch s b k (mark in-mark ∷ ts) h i = refl
wants-branch s b k (mark then ∷ ts) h i = absurd (h ts refl)
wants-branch s b k (mark else ∷ ts) h i = absurd (i ts refl)
wants-branch s b k (mark end ∷ ts) h i = refl
wants-branch s b k (mark when ∷ ts) h i = refl
wants-branch s b k (name n ∷ ts) h i = refl
wants-branch s b k (foreign ∷ ts) h i = refl
wants-branch s b k (stray ∷ ts) h i = refl

pub wants-end : (p : Tree) (b : Before) (k : Open) (ts : List Token) → Without ts (mark end) → run (want_end p b k) ts ≡ stuck ts
wants-end p b k [] h = refl
wants-end p b k (opening o ∷ ts) h = refl
wants-end p b k (mark semicolon ∷ ts) h = refl
wants-end p b k (mark bars ∷ ts) h = refl
wants-end p b k (mark close ∷ ts) h = refl
wants-end p b k (mark in-mark ∷ ts) h = refl
wants-end p b k (mark then ∷ ts) h = refl
wants-end p b k (mark else ∷ ts) h = refl
wants-end p b k (mark end ∷ ts) h = absurd (h ts refl)
wants-end p b k (mark when ∷ ts) h = refl
wants-end p b k (name n ∷ ts) h = refl
wants-end p b k (foreign ∷ ts) h = refl
wants-end p b k (stray ∷ ts) h = refl

pub wants-abort : (b : Before) (k : Open) (ts : List Token) → Without ts (opening abort) → run (want_abort b k) ts ≡ stuck ts
wants-abort b k [] h = refl
wants-abort b k (opening nothing ∷ ts) h = refl
wants-abort b k (opening pause ∷ ts) h = refl
wants-abort b k (opening emit ∷ ts) h = refl
wants-abort b k (opening exit ∷ ts) h = refl
wants-abort b k (opening signal ∷ ts) h = refl
wants-abort b k (opening trap ∷ ts) h = refl
wants-abort b k (opening loop ∷ ts) h = refl
wants-abort b k (opening present ∷ ts) h = refl
wants-abort b k (opening suspend ∷ ts) h = refl
wants-abort b k (opening bracket ∷ ts) h = refl
wants-abort b k (opening halt ∷ ts) h = refl
wants-abort b k (opening sustain ∷ ts) h = refl
wants-abort b k (opening await ∷ ts) h = refl
wants-abort b k (opening abort ∷ ts) h = absurd (h ts refl)
wants-abort b k (opening weak ∷ ts) h = refl
wants-abort b k (mark m ∷ ts) h = refl
wants-abort b k (name n ∷ ts) h = refl
wants-abort b k (foreign ∷ ts) h = refl
wants-abort b k (stray ∷ ts) h = refl

-- after a sequence: the marks that lead on, by the open statement
module _ (p : Tree) (b : Before) (k : Open) where
  pub first-bars : (ts : List Token) → Without ts (mark semicolon) → Without ts (mark bars) → run (have p (within (branch alone) b k)) ts ≡ stuck ts
  first-bars [] h i = refl
  first-bars (opening o ∷ ts) h i = refl
  first-bars (mark semicolon ∷ ts) h i = absurd (h ts refl)
  first-bars (mark bars ∷ ts) h i = absurd (i ts refl)
  first-bars (mark close ∷ ts) h i = refl
  first-bars (mark in-mark ∷ ts) h i = refl
  first-bars (mark then ∷ ts) h i = refl
  first-bars (mark else ∷ ts) h i = refl
  first-bars (mark end ∷ ts) h i = refl
  first-bars (mark when ∷ ts) h i = refl
  first-bars (name n ∷ ts) h i = refl
  first-bars (foreign ∷ ts) h i = refl
  first-bars (stray ∷ ts) h i = refl

  pub bars-or-close : (l : Tree) (ts : List Token) → Without ts (mark semicolon) → Without ts (mark bars) → Without ts (mark close) → run (have p (within (branch (after l)) b k)) ts ≡ stuck ts
  bars-or-close l [] h i j = refl
  bars-or-close l (opening o ∷ ts) h i j = refl
  bars-or-close l (mark semicolon ∷ ts) h i j = absurd (h ts refl)
  bars-or-close l (mark bars ∷ ts) h i j = absurd (i ts refl)
  bars-or-close l (mark close ∷ ts) h i j = absurd (j ts refl)
  bars-or-close l (mark in-mark ∷ ts) h i j = refl
  bars-or-close l (mark then ∷ ts) h i j = refl
  bars-or-close l (mark else ∷ ts) h i j = refl
  bars-or-close l (mark end ∷ ts) h i j = refl
  bars-or-close l (mark when ∷ ts) h i j = refl
  bars-or-close l (name n ∷ ts) h i j = refl
  bars-or-close l (foreign ∷ ts) h i j = refl
  bars-or-close l (stray ∷ ts) h i j = refl

  pub body_end : (u : T.Unary) (ts : List Token) → Without ts (mark semicolon) → Without ts (mark end) → run (have p (within (body u) b k)) ts ≡ stuck ts
  body_end u [] h i = refl
  body_end u (opening o ∷ ts) h i = refl
  body_end u (mark semicolon ∷ ts) h i = absurd (h ts refl)
  body_end u (mark bars ∷ ts) h i = refl
  body_end u (mark close ∷ ts) h i = refl
  body_end u (mark in-mark ∷ ts) h i = refl
  body_end u (mark then ∷ ts) h i = refl
  body_end u (mark else ∷ ts) h i = refl
  body_end u (mark end ∷ ts) h i = absurd (i ts refl)
  body_end u (mark when ∷ ts) h i = refl
  body_end u (name n ∷ ts) h i = refl
  body_end u (foreign ∷ ts) h i = refl
  body_end u (stray ∷ ts) h i = refl

  pub else_end : (s : Name) (q : Tree) (ts : List Token) → Without ts (mark semicolon) → Without ts (mark end) → run (have p (within (else_branch s q) b k)) ts ≡ stuck ts
  else_end s q [] h i = refl
  else_end s q (opening o ∷ ts) h i = refl
  else_end s q (mark semicolon ∷ ts) h i = absurd (h ts refl)
  else_end s q (mark bars ∷ ts) h i = refl
  else_end s q (mark close ∷ ts) h i = refl
  else_end s q (mark in-mark ∷ ts) h i = refl
  else_end s q (mark then ∷ ts) h i = refl
  else_end s q (mark else ∷ ts) h i = refl
  else_end s q (mark end ∷ ts) h i = absurd (i ts refl)
  else_end s q (mark when ∷ ts) h i = refl
  else_end s q (name n ∷ ts) h i = refl
  else_end s q (foreign ∷ ts) h i = refl
  else_end s q (stray ∷ ts) h i = refl

  pub then-end : (s : Name) (ts : List Token) → Without ts (mark semicolon) → Without ts (mark else) → Without ts (mark end) → run (have p (within (then_branch s) b k)) ts ≡ stuck ts
  then-end s [] h i j = refl
  then-end s (opening o ∷ ts) h i j = refl
  then-end s (mark semicolon ∷ ts) h i j = absurd (h ts refl)
  then-end s (mark bars ∷ ts) h i j = refl
  then-end s (mark close ∷ ts) h i j = refl
  then-end s (mark in-mark ∷ ts) h i j = refl
  then-end s (mark then ∷ ts) h i j = refl
  then-end s (mark else ∷ ts) h i j = absurd (i ts refl)
  then-end s (mark end ∷ ts) h i j = absurd (j ts refl)
  then-end s (mark when ∷ ts) h i j = refl
  then-end s (name n ∷ ts) h i j = refl
  then-end s (foreign ∷ ts) h i j = refl
  then-end s (stray ∷ ts) h i j = refl

  pub suspend_when : (ts : List Token) → Without ts (mark semicolon) → Without ts (mark when) → run (have p (within suspended b k)) ts ≡ stuck ts
  suspend_when [] h i = refl
  suspend_when (opening o ∷ ts) h i = refl
  suspend_when (mark semicolon ∷ ts) h i = absurd (h ts refl)
  suspend_when (mark bars ∷ ts) h i = refl
  suspend_when (mark close ∷ ts) h i = refl
  suspend_when (mark in-mark ∷ ts) h i = refl
  suspend_when (mark then ∷ ts) h i = refl
  suspend_when (mark else ∷ ts) h i = refl
  suspend_when (mark end ∷ ts) h i = refl
  suspend_when (mark when ∷ ts) h i = absurd (i ts refl)
  suspend_when (name n ∷ ts) h i = refl
  suspend_when (foreign ∷ ts) h i = refl
  suspend_when (stray ∷ ts) h i = refl

  pub abort_when : (w : T.Strength) (ts : List Token) → Without ts (mark semicolon) → Without ts (mark when) → run (have p (within (aborted w) b k)) ts ≡ stuck ts
  abort_when w [] h i = refl
  abort_when w (opening o ∷ ts) h i = refl
  abort_when w (mark semicolon ∷ ts) h i = absurd (h ts refl)
  abort_when w (mark bars ∷ ts) h i = refl
  abort_when w (mark close ∷ ts) h i = refl
  abort_when w (mark in-mark ∷ ts) h i = refl
  abort_when w (mark then ∷ ts) h i = refl
  abort_when w (mark else ∷ ts) h i = refl
  abort_when w (mark end ∷ ts) h i = refl
  abort_when w (mark when ∷ ts) h i = absurd (i ts refl)
  abort_when w (name n ∷ ts) h i = refl
  abort_when w (foreign ∷ ts) h i = refl
  abort_when w (stray ∷ ts) h i = refl

pub top-end : (p : Tree) (t : Token) (ts : List Token) → Without (t ∷ ts) (mark semicolon) → run (have p top) (t ∷ ts) ≡ stuck (t ∷ ts)
top-end p (opening o) ts h = refl
top-end p (mark semicolon) ts h = absurd (h ts refl)
top-end p (mark bars) ts h = refl
top-end p (mark close) ts h = refl
top-end p (mark in-mark) ts h = refl
top-end p (mark then) ts h = refl
top-end p (mark else) ts h = refl
top-end p (mark end) ts h = refl
top-end p (mark when) ts h = refl
top-end p (name n) ts h = refl
top-end p foreign ts h = refl
top-end p stray ts h = refl

-- a statement is expected
pub expects : (b : Before) (k : Open) (ts : List Token) → ((o : Opening) → Without ts (opening o)) → run (expect b k) ts ≡ stuck ts
expects b k [] h = refl
expects b k (opening o ∷ ts) h = absurd (h o ts refl)
expects b k (mark m ∷ ts) h = refl
expects b k (name n ∷ ts) h = refl
expects b k (foreign ∷ ts) h = refl
expects b k (stray ∷ ts) h = refl

-- a machine that is stuck accepts nothing
pub refuses : {o : Outcome} {ts : List Token} (p : Tree) → o ≡ stuck ts → o ≡ accepted p → ⊥
refuses p a b = let y : ◌≡◌ {A = ℕ} 0 1 = cc in omega arith
