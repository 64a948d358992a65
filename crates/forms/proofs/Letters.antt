-- No exit of a text has an empty name.
use mathlib.Core.List.{List}
use Prim.Native.Nat.{ℕ}
use Rattle.grammar.specs.Tokens.{Token, tokens}
use Rattle.grammar.specs.Tree.{Tree}
use Rattle.grammar.specs.Grammar.{Category, Derives, a-nothing, a-pause, an-emit, an-exit, a-signal, a-trap, a-loop, a-suspend, a_then_else, a-then, an_else, a_bracket, a-halt, a-sustain, an-await, an-abort, a_weak_abort, a-single, a-sequence, a_pair, a-branch, Program}
use Rattle.grammar.proofs.Letters.{Lettered as LetteredTokens, lettered, letters-left}
use Rattle.forms.specs.Forms.{Lettered}

exits_lettered : {what : Category} {p : Tree} {us r : List Token} → Derives what p us r → LetteredTokens us → Lettered p
exits_lettered a-nothing l = tt
exits_lettered a-pause l = tt
exits_lettered an-emit l = tt
exits_lettered an-exit l = l.0
exits_lettered (a-signal d) l = exits_lettered d l.1
exits_lettered (a-trap d) l = exits_lettered d l.1
exits_lettered (a-loop d) l = exits_lettered d l
exits_lettered (a-suspend d) l = exits_lettered d l
exits_lettered (a_then_else d e) l = (exits_lettered d l.1, exits_lettered e (letters-left d l.1))
exits_lettered (a-then d) l = (exits_lettered d l.1, tt)
exits_lettered (an_else d) l = (tt, exits_lettered d l.1)
exits_lettered (a_bracket d) l = exits_lettered d l
exits_lettered a-halt l = tt
exits_lettered a-sustain l = tt
exits_lettered an-await l = tt
exits_lettered (an-abort d) l = exits_lettered d l
exits_lettered (a_weak_abort d) l = exits_lettered d l
exits_lettered (a-single d) l = exits_lettered d l
exits_lettered (a-sequence d e) l = (exits_lettered d l, exits_lettered e (letters-left d l))
exits_lettered (a_pair d e) l = (exits_lettered d l, exits_lettered e (letters-left d l))
exits_lettered (a-branch d e) l = (exits_lettered d l, exits_lettered e (letters-left d l))

pub of_text_lem : (text : List ℕ) (t : Tree) → Program t (tokens text) → Lettered t
of_text_lem text t d = exits_lettered d (lettered text)
