-- How the tokens from a place on follow from the byte there.
use mathlib.Core.Path.{◌≡◌, refl, sym, ap, ◌∙◌}
use mathlib.Core.Bool.{Bool, true, false, ◌&&◌, cond}
use mathlib.Core.List.{List, [], ◌∷◌, ◌++◌}
use Prim.Native.Nat.{ℕ, suc, ◌+◌, ◌≤◌, ◌<◌, ◌-◌}
use native.Mathlib.Numerals.{add-one}
use native.Mathlib.Omega.{arith}
use Prim.Native.Char.{code}
use lib.Dec.{eqb}
use lib.ListN.{length, take, drop, get_or, length-drop, drop_of_length-le}
use lib.Seq.{drop-cons, take-suc, get_or-drop}
use Rattle.std.specs.Char.{is_ascii_digit}
use Rattle.std.specs.List.{list_all}
use Rattle.grammar.specs.Tokens as G
use Rattle.grammar.specs.Tokens.{tokens, class_of, word_token, Pending, none, word, first_bar, tokens_after, meet, begins, pending_after, cons_if, beginnings_after, Class, is_letter, is_digit, is_count, sign_of, name_or}
use Rattle.grammar.proofs.Runs.{bar-met, word-met}
use Rattle.grammar.proofs.Beginnings.{bar-begun, word-begun}
use Rattle.scan.specs.declared.Token.{Token}
use Rattle.scan.specs.declared.Token.TheVariants.{Opens, Marks, Names, Foreign, Stray, Finished}
use Rattle.scan.specs.Scanning.{opening_is, mark_is, token_is, rest, starts, Skipped, Worded, ScannedAs, BeginsAs}

pub rest-past : (x : List ℕ) (at : ℕ) → length x ≤ at → rest x at ≡ []
unfolding rest tokens
rest-past x at h = rw (drop_of_length-le x h)

-- a byte of a class, with something before it
pub after_byte : (x : List ℕ) (at : ℕ) (s : Pending) (c : Class) → at < length x → class_of (get_or x at 0) ≡ c → tokens_after s (drop at x) ≡ meet c (get_or x at 0) s (λ n. tokens_after n (drop (at + 1) x))
after_byte x at s c h e = rw (add-one, drop-cons x at 0 h, e)

-- the same of where tokens begin
pub begins_byte : (x : List ℕ) (at : ℕ) (s : Pending) (c : Class) → at < length x → class_of (get_or x at 0) ≡ c → beginnings_after at s (drop at x) ≡ cons_if (begins c s) at (beginnings_after (at + 1) (pending_after c (get_or x at 0) s) (drop (at + 1) x))
begins_byte x at s c h e = rw (add-one, drop-cons x at 0 h, e)

pub starts-past : (x : List ℕ) (at : ℕ) → length x ≤ at → starts x at ≡ []
unfolding starts
starts-past x at h = rw (drop_of_length-le x h)

pub blank-begins : (x : List ℕ) (at : ℕ) → at < length x → class_of (get_or x at 0) ≡ G.blank → starts x at ≡ starts x (at + 1)
unfolding starts
blank-begins x at h e = begins_byte x at none G.blank h e

pub sign-begins : (x : List ℕ) (at : ℕ) (t : G.Token) → at < length x → class_of (get_or x at 0) ≡ G.sign t → starts x at ≡ at ∷ starts x (at + 1)
unfolding starts
sign-begins x at t h e = begins_byte x at none (G.sign t) h e

pub one-bar-begins : (x : List ℕ) (at : ℕ) → at < length x → class_of (get_or x at 0) ≡ G.bar → (at + 1 < length x → class_of (get_or x (at + 1) 0) ≡ G.bar → ⊥) → starts x at ≡ at ∷ starts x (at + 1)
unfolding starts
one-bar-begins x at h e g = begins_byte x at none G.bar h e ∙ ap (λ (l : List ℕ). at ∷ l) (go (drop (at + 1) x) refl)
  where
    go : (l : List ℕ) → drop (at + 1) x ≡ l → beginnings_after (at + 1) first_bar l ≡ beginnings_after (at + 1) none l
    go [] f = refl
    go (b ∷ l) f =
        let n : length x - (at + 1) ≡ suc (length l) = sym (length-drop (at + 1) x) ∙ ap length f in
        let i : at + 1 < length x = omega arith in
        let j : ◌≡◌ {A = List ℕ} (b ∷ l) (get_or x (at + 1) 0 ∷ drop (suc (at + 1)) x) = sym f ∙ drop-cons x (at + 1) 0 i in
        let k : b ≡ get_or x (at + 1) 0 = cc in
        let m = bar-begun (class_of b) b (λ o. g i (rw k at o)) in
        rw (m.0, m.1)

pub two-bars-begin : (x : List ℕ) (at : ℕ) → at + 1 < length x → class_of (get_or x at 0) ≡ G.bar → class_of (get_or x (at + 1) 0) ≡ G.bar → starts x at ≡ at ∷ starts x (at + 1 + 1)
unfolding starts
two-bars-begin x at h e g = begins_byte x at none G.bar (omega arith) e ∙ ap (λ (l : List ℕ). at ∷ l) (begins_byte x (at + 1) first_bar G.bar h g)

pub blank_step : (x : List ℕ) (at : ℕ) → at < length x → class_of (get_or x at 0) ≡ G.blank → rest x at ≡ rest x (at + 1)
unfolding rest tokens
blank_step x at h e = after_byte x at none G.blank h e

pub sign-step : (x : List ℕ) (at : ℕ) (t : G.Token) → at < length x → class_of (get_or x at 0) ≡ G.sign t → rest x at ≡ t ∷ rest x (at + 1)
unfolding rest tokens
sign-step x at t h e = after_byte x at none (G.sign t) h e

-- a bar, by what follows it
pub one-bar : (x : List ℕ) (at : ℕ) → at < length x → class_of (get_or x at 0) ≡ G.bar → (at + 1 < length x → class_of (get_or x (at + 1) 0) ≡ G.bar → ⊥) → rest x at ≡ G.stray ∷ rest x (at + 1)
unfolding rest tokens
one-bar x at h e g = after_byte x at none G.bar h e ∙ go (drop (at + 1) x) refl
  where
    go : (l : List ℕ) → drop (at + 1) x ≡ l → tokens_after first_bar l ≡ G.stray ∷ tokens_after none l
    go [] f = refl
    go (b ∷ l) f =
        let n : length x - (at + 1) ≡ suc (length l) = sym (length-drop (at + 1) x) ∙ ap length f in
        let i : at + 1 < length x = omega arith in
        let j : ◌≡◌ {A = List ℕ} (b ∷ l) (get_or x (at + 1) 0 ∷ drop (suc (at + 1)) x) = sym f ∙ drop-cons x (at + 1) 0 i in
        let k : b ≡ get_or x (at + 1) 0 = cc in
        bar-met (class_of b) b (λ m. tokens_after m l) (λ o. g i (rw k at o))

pub two-bars : (x : List ℕ) (at : ℕ) → at + 1 < length x → class_of (get_or x at 0) ≡ G.bar → class_of (get_or x (at + 1) 0) ≡ G.bar → rest x at ≡ G.mark G.bars ∷ rest x (at + 1 + 1)
unfolding rest tokens
two-bars x at h e g = after_byte x at none G.bar (omega arith) e ∙ after_byte x (at + 1) first_bar G.bar h g

-- a word, by its bytes
pub word-start : (x : List ℕ) (at : ℕ) → at < length x → class_of (get_or x at 0) ≡ G.in_word → rest x at ≡ tokens_after (word (take (at + 1 - at) (drop at x))) (drop (at + 1) x)
unfolding rest tokens
word-start x at h e =
    let one : at + 1 - at ≡ 1 = omega arith in
    let first : take 1 (drop at x) ≡ get_or x at 0 ∷ [] = rw (drop-cons x at 0 h) in
    rw (one, first) (after_byte x at none G.in_word h e)

-- a word with one byte more
longer-word : (x : List ℕ) (at i : ℕ) → at < i → i < length x → take (i + 1 - at) (drop at x) ≡ take (i - at) (drop at x) ++ (get_or x i 0 ∷ [])
longer-word x at i f h =
    let len : i - at < length (drop at x) = omega (arith, length-drop at x) in
    let one : i + 1 - at ≡ suc (i - at) = omega arith in
    let sum : at + (i - at) ≡ i = omega arith in
    let byte : get_or (drop at x) (i - at) 0 ≡ get_or x i 0 = get_or-drop at x (i - at) 0 ∙ ap (λ (k : ℕ). get_or x k 0) sum in
    rw (one, take-suc (drop at x) (i - at) 0 len, byte)

pub word-begins : (x : List ℕ) (at : ℕ) → at < length x → class_of (get_or x at 0) ≡ G.in_word → starts x at ≡ at ∷ beginnings_after (at + 1) (word (take (at + 1 - at) (drop at x))) (drop (at + 1) x)
unfolding starts
word-begins x at h e =
    let one : at + 1 - at ≡ 1 = omega arith in
    let first : take 1 (drop at x) ≡ get_or x at 0 ∷ [] = rw (drop-cons x at 0 h) in
    rw (one, first) (begins_byte x at none G.in_word h e)

pub word_more : (x : List ℕ) (at i : ℕ) → at < i → i < length x → class_of (get_or x i 0) ≡ G.in_word → tokens_after (word (take (i - at) (drop at x))) (drop i x) ≡ tokens_after (word (take (i + 1 - at) (drop at x))) (drop (i + 1) x)
word_more x at i f h e = rw (longer-word x at i f h) (after_byte x i (word (take (i - at) (drop at x))) G.in_word h e)

pub word-goes-on : (x : List ℕ) (at i : ℕ) → at < i → i < length x → class_of (get_or x i 0) ≡ G.in_word → at ∷ beginnings_after i (word (take (i - at) (drop at x))) (drop i x) ≡ at ∷ beginnings_after (i + 1) (word (take (i + 1 - at) (drop at x))) (drop (i + 1) x)
word-goes-on x at i f h e = rw (longer-word x at i f h) (ap (λ (l : List ℕ). at ∷ l) (begins_byte x i (word (take (i - at) (drop at x))) G.in_word h e))

pub word_over : (x : List ℕ) (at i : ℕ) → i < length x → (class_of (get_or x i 0) ≡ G.in_word → ⊥) → at ∷ beginnings_after i (word (take (i - at) (drop at x))) (drop i x) ≡ at ∷ starts x i
unfolding starts
word_over x at i h e = let m = word-begun (class_of (get_or x i 0)) (get_or x i 0) (take (i - at) (drop at x)) e in rw (drop-cons x i 0 h, m.0, m.1)

pub word-all : (x : List ℕ) (at i : ℕ) → length x ≤ i → at ∷ beginnings_after i (word (take (i - at) (drop at x))) (drop i x) ≡ at ∷ starts x i
unfolding starts
word-all x at i h = rw (drop_of_length-le x h)

pub word-stop : (x : List ℕ) (i : ℕ) (w : List ℕ) → i < length x → (class_of (get_or x i 0) ≡ G.in_word → ⊥) → tokens_after (word w) (drop i x) ≡ word_token w ∷ rest x i
unfolding rest tokens
word-stop x i w h e = rw (drop-cons x i 0 h) (word-met (class_of (get_or x i 0)) (get_or x i 0) w (λ n. tokens_after n (drop (suc i) x)) e)

pub word-last : (x : List ℕ) (i : ℕ) (w : List ℕ) → length x ≤ i → tokens_after (word w) (drop i x) ≡ word_token w ∷ rest x i
unfolding rest tokens
word-last x i w h = rw (drop_of_length-le x h)

-- a word that the text ends with
pub word-closes : (x : List ℕ) (at i : ℕ) → at < length x → length x ≡ i → rest x at ≡ tokens_after (word (take (i - at) (drop at x))) (drop i x) → starts x at ≡ at ∷ beginnings_after i (word (take (i - at) (drop at x))) (drop i x) → Worded x at (length x)
word-closes x at i h e r s = rw e (record { from = omega arith; to = omega arith; moves = r ∙ word-last x i _ (omega arith); begins = s ∙ word-all x at i (omega arith) })

-- digits, as the library's all has them
pub all-digits : (w : List ℕ) → list_all is_ascii_digit w ≡ is_count w
all-digits [] = refl
all-digits (b ∷ w) = ap (λ t. is_digit b && t) (all-digits w)

-- a token after blanks
pub after_blanks : (x : List ℕ) (at start s e : ℕ) (t : Token) → Skipped x at start → ScannedAs x start s e t → ScannedAs x at s e t
after_blanks x at start s e (Opens o) k l = record { from = omega (arith, k.from, l.from); to = l.to; moves = k.same ∙ l.moves }
after_blanks x at start s e (Marks o) k l = record { from = omega (arith, k.from, l.from); to = l.to; moves = k.same ∙ l.moves }
after_blanks x at start s e Names k l = record { lexed = record { from = omega (arith, k.from, l.lexed.from); to = l.lexed.to; moves = k.same ∙ l.lexed.moves }; ordered = l.ordered }
after_blanks x at start s e Foreign k l = record { from = omega (arith, k.from, l.from); to = l.to; moves = k.same ∙ l.moves }
after_blanks x at start s e Stray k l = record { from = omega (arith, k.from, l.from); to = l.to; moves = k.same ∙ l.moves }
after_blanks x at start s e Finished k l = k.same ∙ l

pub begins_after_blanks : (x : List ℕ) (at start s e : ℕ) (t : Token) → Skipped x at start → BeginsAs x start s e t → BeginsAs x at s e t
begins_after_blanks x at start s e (Opens o) k l = k.same_starts ∙ l
begins_after_blanks x at start s e (Marks o) k l = k.same_starts ∙ l
begins_after_blanks x at start s e Names k l = k.same_starts ∙ l
begins_after_blanks x at start s e Foreign k l = k.same_starts ∙ l
begins_after_blanks x at start s e Stray k l = k.same_starts ∙ l
begins_after_blanks x at start s e Finished k l = (k.same_starts ∙ l.0, l.1)

-- a token that begins where it is looked for
pub begins-here : (x : List ℕ) (at e : ℕ) (t : Token) (w : List ℕ) (u : G.Token) → token_is t w ≡ u ∷ [] → starts x at ≡ at ∷ starts x e → BeginsAs x at at e t
begins-here x at e (Opens o) w u h m = m
begins-here x at e (Marks o) w u h m = m
begins-here x at e Names w u h m = m
begins-here x at e Foreign w u h m = m
begins-here x at e Stray w u h m = m
begins-here x at e Finished w u h m = let z : ◌≡◌ {A = ℕ} 0 1 = cc in absurd (omega arith)

-- a sign
pub sign_scanned : (x : List ℕ) (at : ℕ) (t : Token) (u : G.Token) → at < length x → token_is t [] ≡ u ∷ [] → rest x at ≡ u ∷ rest x (at + 1) → (u ≡ G.name [] → ⊥) → ScannedAs x at at (at + 1) t
sign_scanned x at (Opens o) u h e m n = record { from = omega arith; to = omega arith; moves = let f : G.opening (opening_is o) ≡ u = cc in rw f m }
sign_scanned x at (Marks k) u h e m n = record { from = omega arith; to = omega arith; moves = let f : G.mark (mark_is k) ≡ u = cc in rw f m }
sign_scanned x at Names u h e m n = let f : G.name [] ≡ u = cc in absurd (n (sym f))
sign_scanned x at Foreign u h e m n = record { from = omega arith; to = omega arith; moves = let f : G.foreign ≡ u = cc in rw f m }
sign_scanned x at Stray u h e m n = record { from = omega arith; to = omega arith; moves = let f : G.stray ≡ u = cc in rw f m }
sign_scanned x at Finished u h e m n = let z : ◌≡◌ {A = ℕ} 0 1 = cc in absurd (omega arith)

pub no_name_sign : (b : ℕ) → sign_of b ≡ G.name [] → ⊥
no_name_sign b = go (eqb b (code ";")) (eqb b (code "[")) (eqb b (code "]"))
  where
    go : (p q r : Bool) → cond p (G.mark G.semicolon) (cond q (G.opening G.bracket) (cond r (G.mark G.close) G.stray)) ≡ G.name [] → ⊥
    go true q r e = let z : ◌≡◌ {A = ℕ} 0 1 = cc in omega arith
    go false true r e = let z : ◌≡◌ {A = ℕ} 0 1 = cc in omega arith
    go false false true e = let z : ◌≡◌ {A = ℕ} 0 1 = cc in omega arith
    go false false false e = let z : ◌≡◌ {A = ℕ} 0 1 = cc in omega arith
