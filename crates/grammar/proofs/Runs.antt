-- How bytes are taken together as tokens.
use mathlib.Core.Path.{◌≡◌, refl, ap, ◌∙◌}
use mathlib.Core.Bool.{Bool, true, false, ◌||◌, cond}
use mathlib.Core.List.{List, [], ◌∷◌, ◌++◌, append_assoc, append-nil}
use Prim.Native.Nat.{ℕ}
use Prim.Native.Char.{code}
use native.Mathlib.Omega.{arith}
use lib.Dec.{eqb}
use borrow.Author.Tests.{ne_eqb, eqb-true}
use Rattle.grammar.specs.Ascii.{ascii}
use Rattle.grammar.specs.Tokens.{Token, mark, stray, bars, tokens, word_token, is_in_word, is_blank, sign_of, Class, in_word, blank, bar, sign, class_of, Pending, none, word, first_bar, meet, tokens_after}
use Rattle.grammar.specs.Theorems.{AllInWord, NoWordNext, NoBarNext, InRuns}

-- what the tests of a byte say of its class
pub word_class : (b : ℕ) → is_in_word b ≡ true → class_of b ≡ in_word
unfolding class_of
word_class b e = rw e

blank-outside : (b : ℕ) → is_blank b ≡ true → is_in_word b ≡ false
blank-outside b = go (eqb b (code " ")) refl (eqb b (code "\t")) refl (eqb b (code "\n")) refl
  where
    go : (p : Bool) → eqb b (code " ") ≡ p → (q : Bool) → eqb b (code "\t") ≡ q → (r : Bool) → eqb b (code "\n") ≡ r → (p || q || r) ≡ true → is_in_word b ≡ false
    go true e q f r g h = rw (eqb-true b (code " ") e)
    go false e true f r g h = rw (eqb-true b (code "\t") f)
    go false e false f true g h = rw (eqb-true b (code "\n") g)
    go false e false f false g h = let z : ◌≡◌ {A = ℕ} 0 1 = cc in absurd (omega arith)

pub blank_class : (b : ℕ) → is_blank b ≡ true → class_of b ≡ blank
unfolding class_of
blank_class b e = rw (blank-outside b e, e)

pub bar_class : (b : ℕ) → b ≡ code "|" → class_of b ≡ bar
unfolding class_of
bar_class b e = rw e

pub sign_class : (b : ℕ) → is_in_word b ≡ false → is_blank b ≡ false → (b ≡ code "|" → ⊥) → class_of b ≡ sign (sign_of b)
unfolding class_of
sign_class b e f g = rw (e, f, ne_eqb b (code "|") g)

pub not-word : (b : ℕ) → is_in_word b ≡ false → class_of b ≡ in_word → ⊥
unfolding class_of
not-word b e = go (is_in_word b) e (is_blank b) (eqb b (code "|"))
  where
    go : (p : Bool) → p ≡ false → (q r : Bool) → cond p in_word (cond q blank (cond r bar (sign (sign_of b)))) ≡ in_word → ⊥
    go true e q r h = let z : ◌≡◌ {A = ℕ} 0 1 = cc in omega arith
    go false e true r h = let z : ◌≡◌ {A = ℕ} 0 1 = cc in omega arith
    go false e false true h = let z : ◌≡◌ {A = ℕ} 0 1 = cc in omega arith
    go false e false false h = let z : ◌≡◌ {A = ℕ} 0 1 = cc in omega arith

pub class_bar : (b : ℕ) → class_of b ≡ bar → b ≡ code "|"
unfolding class_of
class_bar b e = eqb-true b (code "|") (go (is_in_word b) (is_blank b) (eqb b (code "|")) e)
  where
    go : (p q r : Bool) → cond p in_word (cond q blank (cond r bar (sign (sign_of b)))) ≡ bar → r ≡ true
    go true q r e = let z : ◌≡◌ {A = ℕ} 0 1 = cc in absurd (omega arith)
    go false true r e = let z : ◌≡◌ {A = ℕ} 0 1 = cc in absurd (omega arith)
    go false false true e = refl
    go false false false e = let z : ◌≡◌ {A = ℕ} 0 1 = cc in absurd (omega arith)

-- a bar, or a word, before a byte that does not go on with it
pub bar-met : (c : Class) (b : ℕ) (n : Pending → List Token) → (c ≡ bar → ⊥) → meet c b first_bar n ≡ stray ∷ meet c b none n
bar-met in_word b n h = refl
bar-met blank b n h = refl
bar-met bar b n h = absurd (h refl)
bar-met (sign t) b n h = refl

pub word-met : (c : Class) (b : ℕ) (w : List ℕ) (n : Pending → List Token) → (c ≡ in_word → ⊥) → meet c b (word w) n ≡ word_token w ∷ meet c b none n
word-met in_word b w n h = absurd (h refl)
word-met blank b w n h = refl
word-met bar b w n h = refl
word-met (sign t) b w n h = refl

-- a run, after a part of it
run : (w acc rest : List ℕ) → AllInWord w → NoWordNext rest → tokens_after (word acc) (w ++ rest) ≡ word_token (acc ++ w) ∷ tokens_after none rest
run [] acc [] h e = rw (append-nil acc)
run [] acc (b ∷ rest) h e = rw (append-nil acc) (word-met (class_of b) b acc (λ s. tokens_after s rest) (not-word b e))
run (b ∷ w) acc rest h e =
    rw (word_class b h.0) (run w (acc ++ (b ∷ [])) rest h.1 e ∙ ap (λ (v : List ℕ). word_token v ∷ tokens_after none rest) (append_assoc acc (b ∷ []) w))

one_word : (b : ℕ) (w rest : List ℕ) → AllInWord (b ∷ w) → NoWordNext rest → tokens ((b ∷ w) ++ rest) ≡ word_token (b ∷ w) ∷ tokens rest
unfolding tokens
one_word b w rest h e = rw (word_class b h.0) (run w (b ∷ []) rest h.1 e)

one-blank : (b : ℕ) (rest : List ℕ) → is_blank b ≡ true → tokens (b ∷ rest) ≡ tokens rest
unfolding tokens
one-blank b rest e = rw (blank_class b e)

one-sign : (b : ℕ) (rest : List ℕ) → is_in_word b ≡ false → is_blank b ≡ false → (b ≡ code "|" → ⊥) → tokens (b ∷ rest) ≡ sign_of b ∷ tokens rest
unfolding tokens
one-sign b rest e f g = rw (sign_class b e f g)

two-bars : (rest : List ℕ) → tokens (ascii "||" ++ rest) ≡ mark bars ∷ tokens rest
unfolding tokens class_of
two-bars rest = refl

bar-alone : (rest : List ℕ) → NoBarNext rest → tokens (ascii "|" ++ rest) ≡ stray ∷ tokens rest
unfolding tokens
bar-alone [] h = rw (bar_class (code "|") refl)
bar-alone (b ∷ rest) h = rw (bar_class (code "|") refl) (bar-met (class_of b) b (λ s. tokens_after s rest) (λ e. h (class_bar b e)))

empty : tokens [] ≡ []
unfolding tokens
empty = refl

pub in_runs : InRuns
in_runs = record {
  none = empty;
  word = one_word;
  blank = one-blank;
  bars = two-bars;
  bar = bar-alone;
  sign = one-sign;
}
