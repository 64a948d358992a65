-- Where tokens begin: at the bytes that divide the text where the tokens divide; as many as there are tokens; and within the text.
use mathlib.Core.Path.{◌≡◌, refl, sym, ap, ◌∙◌}
use mathlib.Core.Bool.{Bool, true, false}
use mathlib.Core.List.{List, [], ◌∷◌, ◌++◌, append_assoc}
use Prim.Native.Nat.{ℕ, zero, suc, ◌+◌, ◌-◌, ◌≤◌, ◌<◌}
use Prim.Native.Char.{code}
use native.Mathlib.Nat.{zero-add}
use native.Mathlib.Omega.{arith}
use lib.ListN.{length, length-append, take, drop, drop_of_length-le, get_or, get_or-eq_default}
use lib.Seq.{take_all, take-append-add, drop-append-add, take-append_seam, drop-append_seam}
use Rattle.grammar.specs.Tokens.{Token, mark, stray, bars, word_token, is_blank, Class, in_word, blank, bar, sign, class_of, Pending, none, word, first_bar, flush, meet, tokens_after, tokens, begins, pending_after, cons_if, beginnings_after, beginnings, byte_of}
use Rattle.grammar.specs.Theorems.{AtBytes}
use Rattle.grammar.proofs.Runs.{blank_class}

-- a bar, or a word, before a byte that does not go on with it
pub bar-begun : (c : Class) (b : ℕ) → (c ≡ bar → ⊥) → (begins c first_bar ≡ begins c none) × (pending_after c b first_bar ≡ pending_after c b none)
bar-begun in_word b h = (refl, refl)
bar-begun blank b h = (refl, refl)
bar-begun bar b h = absurd (h refl)
bar-begun (sign t) b h = (refl, refl)

pub word-begun : (c : Class) (b : ℕ) (w : List ℕ) → (c ≡ in_word → ⊥) → (begins c (word w) ≡ begins c none) × (pending_after c b (word w) ≡ pending_after c b none)
word-begun in_word b w h = absurd (h refl)
word-begun blank b w h = (refl, refl)
word-begun bar b w h = (refl, refl)
word-begun (sign t) b w h = (refl, refl)

-- the tokens that are whole with a byte, before those of what is pending then and of the bytes after it
abbrev whole : Class → Pending → List Token
whole in_word none = []
whole in_word (word w) = []
whole in_word first_bar = stray ∷ []
whole blank s = flush s []
whole bar none = []
whole bar (word w) = word_token w ∷ []
whole bar first_bar = mark bars ∷ []
whole (sign t) s = flush s (t ∷ [])

flushed : (s : Pending) (ts us : List Token) → flush s (ts ++ us) ≡ flush s ts ++ us
flushed none ts us = refl
flushed (word w) ts us = refl
flushed first_bar ts us = refl

met : (c : Class) (b : ℕ) (s : Pending) (next : Pending → List Token) → meet c b s next ≡ whole c s ++ next (pending_after c b s)
met in_word b none next = refl
met in_word b (word w) next = refl
met in_word b first_bar next = refl
met blank b s next = flushed s [] (next none)
met bar b none next = refl
met bar b (word w) next = refl
met bar b first_bar next = refl
met (sign t) b s next = flushed s (t ∷ []) (next none)

-- how many tokens are pending, and begin at a byte
abbrev waiting : Pending → ℕ
waiting none = 0
waiting (word w) = 1
waiting first_bar = 1

abbrev one : Bool → ℕ
one true = 1
one false = 0

-- each token that is pending or begins is whole then, or pending
balanced : (c : Class) (b : ℕ) (s : Pending) → waiting s + one (begins c s) ≡ length (whole c s) + waiting (pending_after c b s)
balanced in_word b none = refl
balanced in_word b (word w) = refl
balanced in_word b first_bar = refl
balanced blank b none = refl
balanced blank b (word w) = refl
balanced blank b first_bar = refl
balanced bar b none = refl
balanced bar b (word w) = refl
balanced bar b first_bar = refl
balanced (sign t) b none = refl
balanced (sign t) b (word w) = refl
balanced (sign t) b first_bar = refl

-- what is pending where a token begins is whole
fresh : (c : Class) (b : ℕ) (s : Pending) (next : Pending → List Token) → begins c s ≡ true → meet c b s next ≡ flush s (meet c b none next)
fresh in_word b none next e = refl
fresh in_word b (word w) next e = let z : ◌≡◌ {A = ℕ} 0 1 = cc in absurd (omega arith)
fresh in_word b first_bar next e = refl
fresh blank b s next e = let z : ◌≡◌ {A = ℕ} 0 1 = cc in absurd (omega arith)
fresh bar b none next e = refl
fresh bar b (word w) next e = refl
fresh bar b first_bar next e = let z : ◌≡◌ {A = ℕ} 0 1 = cc in absurd (omega arith)
fresh (sign t) b s next e = refl

-- as many as tokens, but for what is pending
if_length : (c : Bool) (n : ℕ) (ns : List ℕ) → length (cons_if c n ns) ≡ one c + length ns
if_length true n ns = omega arith
if_length false n ns = omega arith

counted : (s : Pending) (n : ℕ) (bytes : List ℕ) → length (tokens_after s bytes) ≡ waiting s + length (beginnings_after n s bytes)
counted none n [] = refl
counted (word w) n [] = refl
counted first_bar n [] = refl
counted s n (b ∷ bytes) =
    let c = class_of b in
    let s' = pending_after c b s in
    let m : meet c b s (λ r. tokens_after r bytes) ≡ whole c s ++ tokens_after s' bytes = met c b s (λ r. tokens_after r bytes) in
    let i : length (whole c s ++ tokens_after s' bytes) ≡ length (whole c s) + length (tokens_after s' bytes) = length-append (whole c s) (tokens_after s' bytes) in
    ap (λ (ts : List Token). length ts) m ∙ omega (arith, i, balanced c b s, counted s' (suc n) bytes, if_length (begins c s) n (beginnings_after (suc n) s' bytes))

one_each : (text : List ℕ) → length (beginnings text) ≡ length (tokens text)
unfolding beginnings tokens
one_each text = omega (arith, counted none 0 text)

-- The bytes divided where token j of those that begin in them does, or at their end.
record Cut (s : Pending) (bytes : List ℕ) (n j : ℕ) : Type 0 where
  pub offset : ℕ
  pub is : get_or (beginnings_after n s bytes) j (n + length bytes) ≡ n + offset
  pub within : offset ≤ length bytes
  pub front : tokens_after s (take offset bytes) ≡ take (waiting s + j) (tokens_after s bytes)
  pub back : tokens_after none (drop offset bytes) ≡ drop (waiting s + j) (tokens_after s bytes)
  pub solid : j < length (beginnings_after n s bytes) → (offset < length bytes) × (is_blank (get_or bytes offset 0) ≡ false)

-- at the end
flush-length : (s : Pending) → length (flush s []) ≡ waiting s
flush-length none = refl
flush-length (word w) = refl
flush-length first_bar = refl

at-end : (s : Pending) (n j : ℕ) → Cut s [] n j
at-end s n j =
    let h : length (flush s []) ≤ waiting s + j = omega (arith, flush-length s) in
    record {
      offset = 0;
      is = refl;
      within = omega arith;
      front = sym (take_all (waiting s + j) (flush s []) h);
      back = sym (drop_of_length-le (flush s []) h);
      solid = λ l. absurd (omega arith);
    }

-- at the first byte, where a token begins
no_blank : (b : ℕ) (s : Pending) → begins (class_of b) s ≡ true → is_blank b ≡ false
no_blank b s e = go (is_blank b) refl
  where
    go : (c : Bool) → is_blank b ≡ c → is_blank b ≡ false
    go true f =
        let g : class_of b ≡ blank = blank_class b f in
        let h : begins blank s ≡ true = rw g at e in
        let z : ◌≡◌ {A = ℕ} 0 1 = cc in absurd (omega arith)
    go false f = f

take-waiting : (s : Pending) (ts : List Token) → take (waiting s + 0) (flush s ts) ≡ flush s []
take-waiting none ts = refl
take-waiting (word w) ts = refl
take-waiting first_bar ts = refl

drop-waiting : (s : Pending) (ts : List Token) → drop (waiting s + 0) (flush s ts) ≡ ts
drop-waiting none ts = refl
drop-waiting (word w) ts = refl
drop-waiting first_bar ts = refl

at-start : (s : Pending) (b n : ℕ) (bytes : List ℕ) → begins (class_of b) s ≡ true → Cut s (b ∷ bytes) n 0
at-start s b n bytes e =
    let f : tokens_after s (b ∷ bytes) ≡ flush s (tokens_after none (b ∷ bytes)) = fresh (class_of b) b s (λ r. tokens_after r bytes) e in
    record {
      offset = 0;
      is = rw e (omega arith);
      within = omega arith;
      front = sym (ap (take (waiting s + 0)) f ∙ take-waiting s _);
      back = sym (ap (drop (waiting s + 0)) f ∙ drop-waiting s _);
      solid = λ l. (omega arith, no_blank b s e);
    }

-- after a byte more: token j of those that begin from here on is token i of those that begin after it
module _ (s : Pending) (b n : ℕ) (bytes : List ℕ) where
  abbrev after : Pending
  after = pending_after (class_of b) b s

  abbrev later : List ℕ
  later = beginnings_after (suc n) after bytes

  parts : tokens_after s (b ∷ bytes) ≡ whole (class_of b) s ++ tokens_after after bytes
  parts = met (class_of b) b s (λ r. tokens_after r bytes)

  further : (j i : ℕ) → waiting s + j ≡ length (whole (class_of b) s) + (waiting after + i) →
      get_or (beginnings_after n s (b ∷ bytes)) j (n + length (b ∷ bytes)) ≡ get_or later i (suc n + length bytes) →
      (j < length (beginnings_after n s (b ∷ bytes)) → i < length later) → Cut after bytes (suc n) i → Cut s (b ∷ bytes) n j
  further j i e f g d = record {
    offset = suc d.offset;
    is = f ∙ d.is ∙ omega arith;
    within = omega (arith, d.within);
    front =
        met (class_of b) b s (λ r. tokens_after r (take d.offset bytes)) ∙ ap (λ (ts : List Token). whole (class_of b) s ++ ts) d.front ∙
        rw (e, parts) (sym (take-append-add (whole (class_of b) s) _ _));
    back = d.back ∙ rw (e, parts) (sym (drop-append-add (whole (class_of b) s) _ _));
    solid = λ l. let h = d.solid (g l) in (omega (arith, h.0), h.1);
  }

  begin-further : begins (class_of b) s ≡ true → (j : ℕ) → Cut after bytes (suc n) j → Cut s (b ∷ bytes) n (suc j)
  begin-further e j d =
      further (suc j) j (omega (arith, ap one e, balanced (class_of b) b s)) (rw e (ap (λ (k : ℕ). get_or later j k) (omega arith))) (rw e (λ l. omega arith)) d

  go-further : begins (class_of b) s ≡ false → (j : ℕ) → Cut after bytes (suc n) j → Cut s (b ∷ bytes) n j
  go-further e j d =
      further j j (omega (arith, ap one e, balanced (class_of b) b s)) (rw e (ap (λ (k : ℕ). get_or later j k) (omega arith))) (rw e (λ l. l)) d

cut : (bytes : List ℕ) (s : Pending) (n j : ℕ) → Cut s bytes n j
cut [] s n j = at-end s n j
cut (b ∷ bytes) s n j = go (begins (class_of b) s) refl j (λ i. cut bytes (pending_after (class_of b) b s) (suc n) i)
  where
    go : (c : Bool) → begins (class_of b) s ≡ c → (j : ℕ) → ((i : ℕ) → Cut (pending_after (class_of b) b s) bytes (suc n) i) → Cut s (b ∷ bytes) n j
    go true e zero h = at-start s b n bytes e
    go true e (suc j) h = begin-further s b n bytes e j (h j)
    go false e j h = go-further s b n bytes e j (h j)

-- of a whole text
module _ (text : List ℕ) where
  abbrev place : (j : ℕ) → Cut none text 0 j
  place j = cut text none 0 j

  at_place : (us : List Token) → byte_of text us ≡ (place (length (tokens text) - length us)).offset
  unfolding byte_of beginnings
  at_place us =
      let j = length (tokens text) - length us in
      ap (get_or (beginnings_after 0 none text) j) (omega arith) ∙ (place j).is ∙ omega arith

  pub within_text : (us : List Token) → byte_of text us ≤ length text
  within_text us = omega (arith, at_place us, (place (length (tokens text) - length us)).within)

  stops-there : byte_of text [] ≡ length text
  unfolding byte_of
  stops-there = get_or-eq_default (beginnings text) (length text) (omega (arith, one_each text))

  module _ (before us : List Token) (e : tokens text ≡ before ++ us) where
    counted-on : length (tokens text) ≡ length before + length us
    counted-on = ap (λ (ts : List Token). length ts) e ∙ length-append before us

    all-before : length (tokens text) - length us ≡ length before
    all-before = omega (arith, counted-on)

    abbrev here : Cut none text 0 (length before)
    here = place (length before)

    is-here : byte_of text us ≡ here.offset
    is-here = at_place us ∙ ap (λ (j : ℕ). (place j).offset) all-before

    front_of : tokens (take here.offset text) ≡ before
    unfolding tokens
    front_of = here.front ∙ rw (zero-add, e) (take-append_seam before us)

    back_of : tokens (drop here.offset text) ≡ us
    unfolding tokens
    back_of = here.back ∙ rw (zero-add, e) (drop-append_seam before us)

    divided : (tokens (take (byte_of text us) text) ≡ before) × (tokens (drop (byte_of text us) text) ≡ us)
    divided = rw is-here (front_of, back_of)

  begun : (before : List Token) (t : Token) (more : List Token) → tokens text ≡ before ++ (t ∷ more) →
      (byte_of text (t ∷ more) < length text) × (is_blank (get_or text (byte_of text (t ∷ more)) 0) ≡ false)
  unfolding beginnings
  begun before t more e =
      rw (is-here before (t ∷ more) e) ((here before (t ∷ more) e).solid (omega (arith, one_each text, counted-on before (t ∷ more) e)))

pub at-bytes : AtBytes
at-bytes = record { divides = divided; solid = begun; stops = stops-there }

-- the tokens of two texts with a blank between them
apart-after : (bytes more : List ℕ) (s : Pending) → tokens_after s (bytes ++ (code " " ∷ more)) ≡ tokens_after s bytes ++ tokens_after none more
apart-after [] more s = rw (blank_class (code " ") refl) (flushed s [] (tokens_after none more))
apart-after (b ∷ bytes) more s =
    met (class_of b) b s (λ r. tokens_after r (bytes ++ (code " " ∷ more))) ∙
    ap (λ (ts : List Token). whole (class_of b) s ++ ts) (apart-after bytes more (pending_after (class_of b) b s)) ∙
    sym (rw parts (append_assoc (whole (class_of b) s) _ _))

pub apart : (text more : List ℕ) → tokens (text ++ (code " " ∷ more)) ≡ tokens text ++ tokens more
unfolding tokens
apart text more = apart-after text more none
