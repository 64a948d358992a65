-- The grammar of F-1 with the forms of F-9, a constructor for each production and none besides:
--
--     program   = sequence
--     sequence  = statement | sequence ";" statement
--     branches  = sequence "||" sequence | branches "||" sequence
--     statement = nothing | pause | emit NAME | exit NAME
--               | signal NAME in sequence end | trap NAME in sequence end | loop sequence end | suspend sequence when NAME
--               | present NAME then sequence else sequence end | present NAME then sequence end | present NAME else sequence end
--               | "[" branches "]"
--               | halt | sustain NAME | await NAME | abort sequence when NAME end | weak abort sequence when NAME end
--
-- `Derives category p ts rest`: the tokens ts begin with a statement (a sequence, the branches of a bracket) whose tree is p, and rest are the tokens
-- after it. Semicolons and double bars group to the left; a missing branch is nothing.
use Rattle.std.specs.Prelude.{List, [], ◌∷◌}
use Rattle.grammar.specs.Tokens.{Token, opening, mark, name, nothing, pause, emit, exit, signal, trap, loop, present, suspend, bracket, halt, sustain, await, abort, weak, semicolon, bars, close, in-mark, then, else, end, when}
use Rattle.grammar.specs.Tree as T
use Rattle.grammar.specs.Tree.{Tree, Name, leaf, one, two}

pub data Category : Type 0 where
  statement sequence branches : Category

pub data Derives : Category → Tree → List Token → List Token → Type 0 where
  a-nothing : {r : List Token} → Derives statement (leaf T.nothing) (opening nothing ∷ r) r
  a-pause : {r : List Token} → Derives statement (leaf T.pause) (opening pause ∷ r) r
  an-emit : {s : Name} {r : List Token} → Derives statement (leaf (T.emit s)) (opening emit ∷ name s ∷ r) r
  an-exit : {t : Name} {r : List Token} → Derives statement (leaf (T.exit t)) (opening exit ∷ name t ∷ r) r
  a-signal : {s : Name} {p : Tree} {ts r : List Token} →
      Derives sequence p ts (mark end ∷ r) →
      Derives statement (one (T.signal s) p) (opening signal ∷ name s ∷ mark in-mark ∷ ts) r
  a-trap : {t : Name} {p : Tree} {ts r : List Token} →
      Derives sequence p ts (mark end ∷ r) →
      Derives statement (one (T.trap t) p) (opening trap ∷ name t ∷ mark in-mark ∷ ts) r
  a-loop : {p : Tree} {ts r : List Token} →
      Derives sequence p ts (mark end ∷ r) →
      Derives statement (one T.loop p) (opening loop ∷ ts) r
  a-suspend : {s : Name} {p : Tree} {ts r : List Token} →
      Derives sequence p ts (mark when ∷ name s ∷ r) →
      Derives statement (one (T.suspend s) p) (opening suspend ∷ ts) r
  a_then_else : {s : Name} {p q : Tree} {ts us r : List Token} →
      Derives sequence p ts (mark else ∷ us) → Derives sequence q us (mark end ∷ r) →
      Derives statement (two (T.present s) p q) (opening present ∷ name s ∷ mark then ∷ ts) r
  a-then : {s : Name} {p : Tree} {ts r : List Token} →
      Derives sequence p ts (mark end ∷ r) →
      Derives statement (two (T.present s) p (leaf T.nothing)) (opening present ∷ name s ∷ mark then ∷ ts) r
  an_else : {s : Name} {q : Tree} {ts r : List Token} →
      Derives sequence q ts (mark end ∷ r) →
      Derives statement (two (T.present s) (leaf T.nothing) q) (opening present ∷ name s ∷ mark else ∷ ts) r
  a_bracket : {p : Tree} {ts r : List Token} →
      Derives branches p ts (mark close ∷ r) →
      Derives statement p (opening bracket ∷ ts) r
  a-halt : {r : List Token} → Derives statement T.halt (opening halt ∷ r) r
  a-sustain : {s : Name} {r : List Token} → Derives statement (T.sustain s) (opening sustain ∷ name s ∷ r) r
  an-await : {s : Name} {r : List Token} → Derives statement (T.await s) (opening await ∷ name s ∷ r) r
  an-abort : {s : Name} {p : Tree} {ts r : List Token} →
      Derives sequence p ts (mark when ∷ name s ∷ mark end ∷ r) →
      Derives statement (T.abort T.strong s p) (opening abort ∷ ts) r
  a_weak_abort : {s : Name} {p : Tree} {ts r : List Token} →
      Derives sequence p ts (mark when ∷ name s ∷ mark end ∷ r) →
      Derives statement (T.abort T.weak s p) (opening weak ∷ opening abort ∷ ts) r
  a-single : {p : Tree} {ts r : List Token} →
      Derives statement p ts r →
      Derives sequence p ts r
  a-sequence : {p q : Tree} {ts us r : List Token} →
      Derives sequence p ts (mark semicolon ∷ us) → Derives statement q us r →
      Derives sequence (two T.sequence p q) ts r
  a_pair : {p q : Tree} {ts us r : List Token} →
      Derives sequence p ts (mark bars ∷ us) → Derives sequence q us r →
      Derives branches (two T.parallel p q) ts r
  a-branch : {p q : Tree} {ts us r : List Token} →
      Derives branches p ts (mark bars ∷ us) → Derives sequence q us r →
      Derives branches (two T.parallel p q) ts r

-- a program is a sequence that takes all tokens
abbrev pub Program : Tree → List Token → Type 0
Program p ts = Derives sequence p ts []

-- The productions of a derivation, each after those of its parts, before further ones.
pub data Production : Type 0 where
  of-nothing of-pause of-emit of_exit of-signal of-trap of-loop of-suspend of-then-else of-then of-else of-bracket : Production
  of-halt of-sustain of-await of-abort of-weak-abort : Production
  of-single of-sequence of_pair of-branch : Production

abbrev pub productions : {what : Category} {p : Tree} {ts r : List Token} → Derives what p ts r → List Production → List Production
productions a-nothing more = of-nothing ∷ more
productions a-pause more = of-pause ∷ more
productions an-emit more = of-emit ∷ more
productions an-exit more = of_exit ∷ more
productions (a-signal d) more = productions d (of-signal ∷ more)
productions (a-trap d) more = productions d (of-trap ∷ more)
productions (a-loop d) more = productions d (of-loop ∷ more)
productions (a-suspend d) more = productions d (of-suspend ∷ more)
productions (a_then_else d e) more = productions d (productions e (of-then-else ∷ more))
productions (a-then d) more = productions d (of-then ∷ more)
productions (an_else d) more = productions d (of-else ∷ more)
productions (a_bracket d) more = productions d (of-bracket ∷ more)
productions a-halt more = of-halt ∷ more
productions a-sustain more = of-sustain ∷ more
productions an-await more = of-await ∷ more
productions (an-abort d) more = productions d (of-abort ∷ more)
productions (a_weak_abort d) more = productions d (of-weak-abort ∷ more)
productions (a-single d) more = productions d (of-single ∷ more)
productions (a-sequence d e) more = productions d (productions e (of-sequence ∷ more))
productions (a_pair d e) more = productions d (productions e (of_pair ∷ more))
productions (a-branch d e) more = productions d (productions e (of-branch ∷ more))
