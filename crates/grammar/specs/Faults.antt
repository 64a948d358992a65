-- Where a text that is refused is at fault (F-9).
use Rattle.std.specs.Prelude.{ℕ, ◌≡◌, Bool, true, false, cond, List, [], ◌∷◌, ◌++◌, ltb, length}
use Rattle.esterel.specs.Limits.{signals as max_signals}
use Rattle.grammar.specs.Tokens.{Token, opening, mark, name, foreign, stray, Opening, Mark, nothing, pause, emit, exit, signal, trap, loop, present, suspend, bracket, halt, sustain, await, abort, weak, semicolon, bars, close, in-mark, then, else, end, when}
use Rattle.grammar.specs.Tree.{Tree, Name}
use Rattle.grammar.specs.Kernel.{added}
use Rattle.grammar.specs.Grammar.{Category, Derives, a-nothing, a-pause, an-emit, an-exit, a-signal, a-trap, a-loop, a-suspend, a_then_else, a-then, an_else, a_bracket, a-halt, a-sustain, an-await, an-abort, a_weak_abort, a-single, a-sequence, a_pair, a-branch, Program}
use Rattle.grammar.specs.Names.{has, see}

-- tokens can go on to a text of the grammar: some tokens complete them
abbrev pub CanGoOn : List Token → Type 0
CanGoOn ts = (more : List Token) × (t : Tree) × Program t (ts ++ more)

-- 14 and 20: us are the tokens from the first one with which ts can't go on. Where there are none, ts can go on and is no program: it merely stops
pub record Fault (ts us : List Token) : Type 0 where
  pub before : List Token
  pub split : ts ≡ before ++ us
  pub goes_on : CanGoOn before
  pub stops : (t : Token) (more : List Token) → us ≡ t ∷ more → CanGoOn (before ++ (t ∷ [])) → ⊥
  pub underivable : (t : Tree) → Program t ts → ⊥

-- 20 if that token is a word of the full language or a count
abbrev pub number_of_fault : List Token → ℕ
number_of_fault [] = 14
number_of_fault (opening o ∷ us) = 14
number_of_fault (mark m ∷ us) = 14
number_of_fault (name n ∷ us) = 14
number_of_fault (foreign ∷ us) = 20
number_of_fault (stray ∷ us) = 14

-- 15: the tokens from the name of the first exit that has no trap of its name around it, where ts are the names of the traps around, the nearest
-- first; where there is none in a derivation, those of `later`
abbrev pub lost_from : {what : Category} {p : Tree} {us r : List Token} → List Name → Derives what p us r → List Token → List Token
lost_from ts a-nothing later = later
lost_from ts a-pause later = later
lost_from ts an-emit later = later
lost_from ts (an-exit {t = t} {r = r}) later = cond (has ts t) later (name t ∷ r)
lost_from ts (a-signal d) later = lost_from ts d later
lost_from ts (a-trap {t = t} d) later = lost_from (t ∷ ts) d later
lost_from ts (a-loop d) later = lost_from ts d later
lost_from ts (a-suspend d) later = lost_from ts d later
lost_from ts (a_then_else d e) later = lost_from ts d (lost_from ts e later)
lost_from ts (a-then d) later = lost_from ts d later
lost_from ts (an_else d) later = lost_from ts d later
lost_from ts (a_bracket d) later = lost_from ts d later
lost_from ts a-halt later = later
lost_from ts a-sustain later = later
lost_from ts an-await later = later
lost_from ts (an-abort d) later = lost_from (added ∷ ts) d later
lost_from ts (a_weak_abort d) later = lost_from (added ∷ ts) d later
lost_from ts (a-single d) later = lost_from ts d later
lost_from ts (a-sequence d e) later = lost_from ts d (lost_from ts e later)
lost_from ts (a_pair d e) later = lost_from ts d (lost_from ts e later)
lost_from ts (a-branch d e) later = lost_from ts d (lost_from ts e later)

-- Whether the name right after a word or sign is a signal's.
abbrev pub opens_signal : Opening → Bool
opens_signal nothing = false
opens_signal pause = false
opens_signal emit = true
opens_signal exit = false
opens_signal signal = true
opens_signal trap = false
opens_signal loop = false
opens_signal present = true
opens_signal suspend = false
opens_signal bracket = false
opens_signal halt = false
opens_signal sustain = true
opens_signal await = true
opens_signal abort = false
opens_signal weak = false

abbrev pub marks_signal : Mark → Bool
marks_signal semicolon = false
marks_signal bars = false
marks_signal close = false
marks_signal in-mark = false
marks_signal then = false
marks_signal else = false
marks_signal end = false
marks_signal when = true

-- 16: the tokens from the first name with which there are more than 256 signals, after those of ns
abbrev pub crowded_from : List Name → (is_signal : Bool) → List Token → List Token
crowded_from ns is_signal [] = []
crowded_from ns is_signal (opening o ∷ ts) = crowded_from ns (opens_signal o) ts
crowded_from ns is_signal (mark m ∷ ts) = crowded_from ns (marks_signal m) ts
crowded_from ns true (name n ∷ ts) = cond (ltb max_signals (length (see ns n))) (name n ∷ ts) (crowded_from (see ns n) false ts)
crowded_from ns false (name n ∷ ts) = crowded_from ns false ts
crowded_from ns is_signal (foreign ∷ ts) = crowded_from ns false ts
crowded_from ns is_signal (stray ∷ ts) = crowded_from ns false ts
