-- The tokens of a text weigh no more than its bytes.
use mathlib.Core.Path.{◌≡◌, refl, ap}
use mathlib.Core.Bool.{Bool, true, false, ◌&&◌, cond}
use mathlib.Core.List.{List, [], ◌∷◌, ◌++◌}
use Prim.Native.Nat.{ℕ, suc, ◌+◌, ◌≤◌}
use native.Mathlib.Omega.{arith}
use Prim.Native.Char.{code}
use lib.Dec.{eqb, leb}
use lib.ListN.{length, length-append}
use Rattle.grammar.specs.Limits.{max_name}
use Rattle.grammar.specs.Tokens.{Token, opening, mark, name, foreign, stray, semicolon, close, bracket, Word, words, is_letter, is_count, name_or, same_bytes, among, word_token, is_in_word, is_blank, sign_of, Class, in_word, blank, bar, sign, class_of, Pending, none, word, first_bar, flush, meet, tokens_after, tokens}
use Rattle.grammar.proofs.Weights.{weight, weights}

and_right : (a b : Bool) → (a && b) ≡ true → b ≡ true
and_right true b e = e
and_right false b e = let z : ◌≡◌ {A = ℕ} 0 1 = cc in absurd (omega arith)

same_length : (w v : List ℕ) → same_bytes w v ≡ true → length w ≡ length v
same_length [] [] e = refl
same_length [] (b ∷ v) e = let z : ◌≡◌ {A = ℕ} 0 1 = cc in absurd (omega arith)
same_length (a ∷ w) [] e = let z : ◌≡◌ {A = ℕ} 0 1 = cc in absurd (omega arith)
same_length (a ∷ w) (b ∷ v) e = ap suc (same_length w v (and_right (eqb a b) (same_bytes w v) e))

-- each word of a list is at least as long as its token is heavy
abbrev Fits : List Word → Type 0
Fits [] = Unit {0}
Fits (x ∷ xs) = (weight x.token ≤ length x.letters) × Fits xs

name-fits : (w : List ℕ) → weight (name_or w) ≤ length w
name-fits [] = omega arith
name-fits (b ∷ w) = go (is_letter b && leb (length (b ∷ w)) max_name) (is_count (b ∷ w))
  where
    go : (c d : Bool) → weight (cond c (name (b ∷ w)) (cond d foreign stray)) ≤ length (b ∷ w)
    go true d = omega arith
    go false true = omega arith
    go false false = omega arith

among-fits : (xs : List Word) → Fits xs → (w : List ℕ) → weight (among xs w) ≤ length w
among-fits [] f w = name-fits w
among-fits (x ∷ xs) f w = go (same_bytes w x.letters) refl (among-fits xs f.1 w)
  where
    go : (c : Bool) → same_bytes w x.letters ≡ c → weight (among xs w) ≤ length w → weight (cond c x.token (among xs w)) ≤ length w
    go true e h = omega (arith, f.0, same_length w x.letters e)
    go false e h = h

words-fit : Fits words
words-fit = omega arith

word_fits : (w : List ℕ) → weight (word_token w) ≤ length w
word_fits w = among-fits words words-fit w

abbrev pending : Pending → ℕ
pending none = 0
pending (word w) = length w
pending first_bar = 1

flushed : (s : Pending) (ts : List Token) → weights (flush s ts) ≤ pending s + weights ts
flushed none ts = omega arith
flushed (word w) ts = omega (arith, word_fits w)
flushed first_bar ts = omega arith

-- a sign is one byte
sign-weight : (b : ℕ) → weight (sign_of b) ≤ 1
sign-weight b = go (eqb b (code ";")) (eqb b (code "[")) (eqb b (code "]"))
  where
    go : (p q r : Bool) → weight (cond p (mark semicolon) (cond q (opening bracket) (cond r (mark close) stray))) ≤ 1
    go true q r = omega arith
    go false true r = omega arith
    go false false true = omega arith
    go false false false = omega arith

light : (b : ℕ) (t : Token) → class_of b ≡ sign t → weight t ≤ 1
unfolding class_of
light b t = go (is_in_word b) (is_blank b) (eqb b (code "|"))
  where
    go : (p q r : Bool) → cond p in_word (cond q blank (cond r bar (sign (sign_of b)))) ≡ sign t → weight t ≤ 1
    go true q r e = let z : ◌≡◌ {A = ℕ} 0 1 = cc in absurd (omega arith)
    go false true r e = let z : ◌≡◌ {A = ℕ} 0 1 = cc in absurd (omega arith)
    go false false true e = let z : ◌≡◌ {A = ℕ} 0 1 = cc in absurd (omega arith)
    go false false false e = let z : sign_of b ≡ t = cc in rw (← z) (sign-weight b)

met : (c : Class) (b : ℕ) (s : Pending) (n : ℕ) (next : Pending → List Token) → ((t : Token) → c ≡ sign t → weight t ≤ 1) → ((s' : Pending) → weights (next s') ≤ pending s' + n) → weights (meet c b s next) ≤ pending s + suc n
met in_word b none n next l h = omega (arith, h (word (b ∷ [])))
met in_word b (word w) n next l h = omega (arith, h (word (w ++ (b ∷ []))), length-append w (b ∷ []))
met in_word b first_bar n next l h = omega (arith, h (word (b ∷ [])))
met blank b s n next l h = omega (arith, flushed s (next none), h none)
met bar b none n next l h = omega (arith, h first_bar)
met bar b (word w) n next l h = omega (arith, word_fits w, h first_bar)
met bar b first_bar n next l h = omega (arith, h none)
met (sign t) b s n next l h = omega (arith, flushed s (t ∷ next none), l t refl, h none)

weighed : (s : Pending) (bytes : List ℕ) → weights (tokens_after s bytes) ≤ pending s + length bytes
weighed s [] = flushed s []
weighed s (b ∷ bytes) = met (class_of b) b s (length bytes) (λ s'. tokens_after s' bytes) (light b) (λ s'. weighed s' bytes)

pub weighs : (bytes : List ℕ) → weights (tokens bytes) ≤ length bytes
unfolding tokens
weighs bytes = omega (arith, weighed none bytes)
