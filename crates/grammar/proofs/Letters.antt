-- No name of a text is empty.
use mathlib.Core.Path.{◌≡◌, refl}
use mathlib.Core.Bool.{Bool, true, false, ◌&&◌, cond}
use mathlib.Core.List.{List, [], ◌∷◌, ◌++◌}
use Prim.Native.Nat.{ℕ}
use Prim.Native.Char.{code}
use native.Mathlib.Omega.{arith}
use lib.Dec.{eqb, leb}
use lib.ListN.{length}
use Rattle.grammar.specs.Limits.{max_name}
use Rattle.grammar.specs.Tokens.{Token, opening, mark, name, foreign, stray, semicolon, close, bracket, Word, words, is_letter, is_count, name_or, same_bytes, among, word_token, is_in_word, is_blank, sign_of, Class, in_word, blank, bar, sign, class_of, Pending, none, word, first_bar, flush, meet, tokens_after, tokens}
use Rattle.grammar.specs.Tree.{Tree}
use Rattle.grammar.specs.Grammar.{Category, Derives, a-nothing, a-pause, an-emit, an-exit, a-signal, a-trap, a-loop, a-suspend, a_then_else, a-then, an_else, a_bracket, a-halt, a-sustain, an-await, an-abort, a_weak_abort, a-single, a-sequence, a_pair, a-branch}

abbrev pub LetteredToken : Token → Type 0
LetteredToken (opening o) = Unit {0}
LetteredToken (mark m) = Unit {0}
LetteredToken (name n) = n ≡ [] → ⊥
LetteredToken foreign = Unit {0}
LetteredToken stray = Unit {0}

abbrev pub Lettered : List Token → Type 0
Lettered [] = Unit {0}
Lettered (opening o ∷ ts) = Lettered ts
Lettered (mark m ∷ ts) = Lettered ts
Lettered (name n ∷ ts) = (n ≡ [] → ⊥) × Lettered ts
Lettered (foreign ∷ ts) = Lettered ts
Lettered (stray ∷ ts) = Lettered ts

with_token : (t : Token) (ts : List Token) → LetteredToken t → Lettered ts → Lettered (t ∷ ts)
with_token (opening o) ts h l = l
with_token (mark m) ts h l = l
with_token (name n) ts h l = (h, l)
with_token foreign ts h l = l
with_token stray ts h l = l

-- the words of the language are no names, and another word is its own name
named_so : (w : List ℕ) → LetteredToken (name_or w)
named_so [] = tt
named_so (b ∷ w) = go (is_letter b && leb (length (b ∷ w)) max_name) (is_count (b ∷ w))
  where
    go : (c d : Bool) → LetteredToken (cond c (name (b ∷ w)) (cond d foreign stray))
    go true d = λ e. let z : ◌≡◌ {A = ℕ} 0 1 = cc in omega arith
    go false true = tt
    go false false = tt

abbrev NoNames : List Word → Type 0
NoNames [] = Unit {0}
NoNames (x ∷ xs) = LetteredToken x.token × NoNames xs

among_so : (xs : List Word) (w : List ℕ) → NoNames xs → LetteredToken (among xs w)
among_so [] w h = named_so w
among_so (x ∷ xs) w h = go (same_bytes w x.letters) (among_so xs w h.1)
  where
    go : (c : Bool) → LetteredToken (among xs w) → LetteredToken (cond c x.token (among xs w))
    go true i = h.0
    go false i = i

word_so : (w : List ℕ) → LetteredToken (word_token w)
word_so w = among_so words w (tt, (tt, (tt, (tt, (tt, (tt, (tt, (tt, (tt, (tt, (tt, (tt, (tt, (tt, (tt, (tt, (tt, (tt, (tt, (tt, (tt, (tt, tt))))))))))))))))))))))

sign_so : (b : ℕ) → LetteredToken (sign_of b)
sign_so b = go (eqb b (code ";")) (eqb b (code "[")) (eqb b (code "]"))
  where
    go : (p q r : Bool) → LetteredToken (cond p (mark semicolon) (cond q (opening bracket) (cond r (mark close) stray)))
    go true q r = tt
    go false true r = tt
    go false false true = tt
    go false false false = tt

class_so : (b : ℕ) (t : Token) → class_of b ≡ sign t → LetteredToken t
unfolding class_of
class_so b t = go (is_in_word b) (is_blank b) (eqb b (code "|"))
  where
    go : (p q r : Bool) → cond p in_word (cond q blank (cond r bar (sign (sign_of b)))) ≡ sign t → LetteredToken t
    go true q r e = let z : ◌≡◌ {A = ℕ} 0 1 = cc in absurd (omega arith)
    go false true r e = let z : ◌≡◌ {A = ℕ} 0 1 = cc in absurd (omega arith)
    go false false true e = let z : ◌≡◌ {A = ℕ} 0 1 = cc in absurd (omega arith)
    go false false false e = let z : sign_of b ≡ t = cc in rw (← z) (sign_so b)

flushed : (s : Pending) (ts : List Token) → Lettered ts → Lettered (flush s ts)
flushed none ts l = l
flushed (word w) ts l = with_token (word_token w) ts (word_so w) l
flushed first_bar ts l = l

met : (c : Class) (b : ℕ) (s : Pending) (next : Pending → List Token) → ((t : Token) → c ≡ sign t → LetteredToken t) → ((s' : Pending) → Lettered (next s')) → Lettered (meet c b s next)
met in_word b none next h l = l (word (b ∷ []))
met in_word b (word w) next h l = l (word (w ++ (b ∷ [])))
met in_word b first_bar next h l = l (word (b ∷ []))
met blank b s next h l = flushed s (next none) (l none)
met bar b none next h l = l first_bar
met bar b (word w) next h l = with_token (word_token w) (next first_bar) (word_so w) (l first_bar)
met bar b first_bar next h l = l none
met (sign t) b s next h l = flushed s (t ∷ next none) (with_token t (next none) (h t refl) (l none))

lettered_after : (s : Pending) (bytes : List ℕ) → Lettered (tokens_after s bytes)
lettered_after s [] = flushed s [] tt
lettered_after s (b ∷ bytes) = met (class_of b) b s (λ s'. tokens_after s' bytes) (class_so b) (λ s'. lettered_after s' bytes)

pub lettered : (bytes : List ℕ) → Lettered (tokens bytes)
unfolding tokens
lettered bytes = lettered_after none bytes

-- so it is after what a derivation takes
pub letters-left : {what : Category} {p : Tree} {us r : List Token} → Derives what p us r → Lettered us → Lettered r
letters-left a-nothing l = l
letters-left a-pause l = l
letters-left an-emit l = l.1
letters-left an-exit l = l.1
letters-left (a-signal d) l = letters-left d l.1
letters-left (a-trap d) l = letters-left d l.1
letters-left (a-loop d) l = letters-left d l
letters-left (a-suspend d) l = (letters-left d l).1
letters-left (a_then_else d e) l = letters-left e (letters-left d l.1)
letters-left (a-then d) l = letters-left d l.1
letters-left (an_else d) l = letters-left d l.1
letters-left (a_bracket d) l = letters-left d l
letters-left a-halt l = l
letters-left a-sustain l = l.1
letters-left an-await l = l.1
letters-left (an-abort d) l = (letters-left d l).1
letters-left (a_weak_abort d) l = (letters-left d l).1
letters-left (a-single d) l = letters-left d l
letters-left (a-sequence d e) l = letters-left e (letters-left d l)
letters-left (a_pair d e) l = letters-left e (letters-left d l)
letters-left (a-branch d e) l = letters-left e (letters-left d l)
