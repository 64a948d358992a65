-- What a word is: by the first word of the list that has its bytes, or, where none has, by its own bytes.
use mathlib.Core.Path.{◌≡◌, refl, sym, ap, subst, ◌∙◌}
use mathlib.Core.Logic.{◌⊎◌, inl, inr}
use mathlib.Core.Bool.{Bool, true, false, not, ◌&&◌, ◌||◌, cond}
use mathlib.Core.List.Memᴰ
use mathlib.Core.List.{List, [], ◌∷◌, Memᴰ}
use Prim.Native.Nat.{ℕ, ◌≤◌}
use Prim.Native.Char.{code}
use native.Mathlib.Omega.{arith}
use lib.Dec.{eqb, leb}
use lib.ListN.{length}
use borrow.Author.Tests.{eqb-true, eq-eqb, leb-true, le-leb, lt-leb, not-true}
use Rattle.grammar.specs.Limits.{max_name}
use Rattle.grammar.specs.Ascii.{ascii}
use Rattle.grammar.specs.Tokens.{Token, opening, mark, name, foreign, stray, Word, words, is_letter, is_digit, is_count, name_or, same_bytes, among, word_token}
use Rattle.grammar.specs.Theorems.{OfLanguage, Nameable, WordsAre}

-- tests that hold, or do not
never : {A : Type 0} → false ≡ true → A
never e = let z : ◌≡◌ {A = ℕ} 0 1 = cc in absurd (omega arith)

and_left : (a b : Bool) → (a && b) ≡ true → a ≡ true
and_left true b e = refl
and_left false b e = e

and_right : (a b : Bool) → (a && b) ≡ true → b ≡ true
and_right true b e = e
and_right false b e = never e

-- the bytes of two words
same_self : (w : List ℕ) → same_bytes w w ≡ true
same_self [] = refl
same_self (b ∷ w) = rw (eq-eqb b b refl) (same_self w)

same_bytes_lem : (w v : List ℕ) → same_bytes w v ≡ true → w ≡ v
same_bytes_lem [] [] e = refl
same_bytes_lem [] (b ∷ v) e = never e
same_bytes_lem (a ∷ w) [] e = never e
same_bytes_lem (a ∷ w) (b ∷ v) e =
    let f : a ≡ b = eqb-true a b (and_left _ _ e) in
    let g : w ≡ v = same_bytes_lem w v (and_right (eqb a b) _ e) in
    cc

-- a test of all words of a list holds of each
abbrev all : (Word → Bool) → List Word → Bool
all test [] = true
all test (x ∷ xs) = test x && all test xs

each : (test : Word → Bool) (xs : List Word) (x : Word) → all test xs ≡ true → Memᴰ x xs → test x ≡ true
each test [] x e m = absurd (Memᴰ.not-nil m)
each test (y ∷ xs) x e m = go (Memᴰ.cases_cons m) (each test xs x (and_right (test y) _ e))
  where
    go : (x ≡ y) ⊎ Memᴰ x xs → (Memᴰ x xs → test x ≡ true) → test x ≡ true
    go (inl f) h = rw f (and_left _ _ e)
    go (inr n) h = h n

-- which word is found
record Found (xs : List Word) (w : List ℕ) : Type 0 where
  pub found : Word
  pub is_in_lem : Memᴰ found xs
  pub same : w ≡ found.letters
  pub token : among xs w ≡ found.token

record Missed (xs : List Word) (w : List ℕ) : Type 0 where
  pub free : ((x : Word) × Memᴰ x xs × (w ≡ x.letters)) → ⊥
  pub token : among xs w ≡ name_or w

seek : (xs : List Word) (w : List ℕ) → Found xs w ⊎ Missed xs w
seek [] w = inr record { free = λ h. Memᴰ.not-nil h.1; token = refl }
seek (y ∷ xs) w = go (same_bytes w y.letters) refl (seek xs w)
  where
    go : (c : Bool) → same_bytes w y.letters ≡ c → Found xs w ⊎ Missed xs w → Found (y ∷ xs) w ⊎ Missed (y ∷ xs) w
    go true e o = inl record { found = y; is_in_lem = Memᴰ.head refl; same = same_bytes_lem w y.letters e; token = rw e }
    go false e (inl f) = inl record { found = f.found; is_in_lem = Memᴰ.tail f.is_in_lem; same = f.same; token = rw e f.token }
    go false e (inr f) = inr record { free = λ h. by h.0 h.2 (Memᴰ.cases_cons h.1); token = rw e f.token }
      where
        by : (x : Word) → w ≡ x.letters → (x ≡ y) ⊎ Memᴰ x xs → ⊥
        by x g (inl h) = never (sym e ∙ ap (same_bytes w) (sym (g ∙ ap (λ (z : Word). z.letters) h)) ∙ same_self w)
        by x g (inr m) = f.free (x, m, g)

-- Where no two words of a list are spelled alike, each is found.
abbrev distinct : List Word → Bool
distinct [] = true
distinct (x ∷ xs) = all (λ y. not (same_bytes y.letters x.letters)) xs && distinct xs

finds : (xs : List Word) (x : Word) → distinct xs ≡ true → Memᴰ x xs → among xs x.letters ≡ x.token
finds [] x e m = absurd (Memᴰ.not-nil m)
finds (y ∷ xs) x e m = go (Memᴰ.cases_cons m) (finds xs x (and_right (all (λ z. not (same_bytes z.letters y.letters)) xs) _ e))
  where
    go : (x ≡ y) ⊎ Memᴰ x xs → (Memᴰ x xs → among xs x.letters ≡ x.token) → among (y ∷ xs) x.letters ≡ x.token
    go (inl f) h = rw (f, same_self y.letters)
    go (inr n) h = rw (not-true (same_bytes x.letters y.letters) (each (λ z. not (same_bytes z.letters y.letters)) xs x (and_left _ _ e) n)) (h n)

-- tests of tokens
abbrev is_name : Token → Bool
is_name (opening o) = false
is_name (mark m) = false
is_name (name n) = true
is_name foreign = false
is_name stray = false

abbrev is_foreign : Token → Bool
is_foreign (opening o) = false
is_foreign (mark m) = false
is_foreign (name n) = false
is_foreign foreign = true
is_foreign stray = false

-- a word that is none of the language's
digit_no_letter : (b : ℕ) → is_digit b ≡ true → is_letter b ≡ false
digit_no_letter b e =
    let low : b ≤ code "9" = leb-true b (code "9") (and_right (leb (code "0") b) _ e) in
    rw (lt-leb (code "A") b (omega arith), lt-leb (code "a") b (omega arith))

count-other : (b : ℕ) (w : List ℕ) → is_count (b ∷ w) ≡ true → name_or (b ∷ w) ≡ foreign
count-other b w e = rw (digit_no_letter b (and_left _ _ e), e)

other-count : (b : ℕ) (w : List ℕ) → name_or (b ∷ w) ≡ foreign → is_count (b ∷ w) ≡ true
other-count b w = go (is_letter b && leb (length (b ∷ w)) max_name) (is_count (b ∷ w))
  where
    go : (c d : Bool) → cond c (name (b ∷ w)) (cond d foreign stray) ≡ foreign → d ≡ true
    go true d e = never (ap is_foreign e)
    go false true e = refl
    go false false e = never (ap is_foreign e)

record Named (b : ℕ) (w n : List ℕ) : Type 0 where
  pub is : n ≡ b ∷ w
  pub letter : is_letter b ≡ true
  pub short : length (b ∷ w) ≤ max_name

other_name : (b : ℕ) (w n : List ℕ) → name_or (b ∷ w) ≡ name n → Named b w n
other_name b w n = go (is_letter b && leb (length (b ∷ w)) max_name) refl (is_count (b ∷ w))
  where
    go : (c : Bool) → (is_letter b && leb (length (b ∷ w)) max_name) ≡ c → (d : Bool) → cond c (name (b ∷ w)) (cond d foreign stray) ≡ name n → Named b w n
    go true f d e = record { is = cc; letter = and_left _ _ f; short = leb-true (length (b ∷ w)) max_name (and_right (is_letter b) _ f) }
    go false f true e = never (ap is_name e)
    go false f false e = never (ap is_name e)

name-other : (b : ℕ) (w : List ℕ) → is_letter b ≡ true → length (b ∷ w) ≤ max_name → name_or (b ∷ w) ≡ name (b ∷ w)
name-other b w e h = rw (e, le-leb (length (b ∷ w)) max_name h)

no_other : (b : ℕ) (w : List ℕ) → is_count (b ∷ w) ≡ false → (is_letter b ≡ true → length (b ∷ w) ≤ max_name → ⊥) → name_or (b ∷ w) ≡ stray
no_other b w e h = go (is_letter b && leb (length (b ∷ w)) max_name) refl (is_count (b ∷ w)) e
  where
    go : (c : Bool) → (is_letter b && leb (length (b ∷ w)) max_name) ≡ c → (d : Bool) → d ≡ false → cond c (name (b ∷ w)) (cond d foreign stray) ≡ stray
    go true f d e = absurd (h (and_left _ _ f) (leb-true (length (b ∷ w)) max_name (and_right (is_letter b) _ f)))
    go false f true e = never (sym e)
    go false f false e = refl

-- what holds of the words of the language
is-reserved : (x : Word) → Memᴰ x words → word_token x.letters ≡ x.token
is-reserved x m = finds words x refl m

is-count : (b : ℕ) (w : List ℕ) → is_count (b ∷ w) ≡ true → word_token (b ∷ w) ≡ foreign
is-count b w e = go (seek words (b ∷ w))
  where
    go : Found words (b ∷ w) ⊎ Missed words (b ∷ w) → word_token (b ∷ w) ≡ foreign
    go (inl f) =
        let g : is_count f.found.letters ≡ false = not-true _ (each (λ x. not (is_count x.letters)) words f.found refl f.is_in_lem) in
        never (sym g ∙ ap is_count (sym f.same) ∙ e)
    go (inr f) = f.token ∙ count-other b w e

abbrev OfThree : List ℕ → Type 0
OfThree w = (w ≡ ascii "immediate") ⊎ (w ≡ ascii "every") ⊎ (w ≡ ascii "case") ⊎ (is_count w ≡ true)

-- the test that a word of the language is one of the three, if it is foreign
abbrev of_three : Word → Bool
of_three x = not (is_foreign x.token) || (same_bytes x.letters (ascii "immediate") || (same_bytes x.letters (ascii "every") || same_bytes x.letters (ascii "case")))

of_three_lem : (x : Word) → x.token ≡ foreign → of_three x ≡ true → OfThree x.letters
of_three_lem x f = go (is_foreign x.token) (ap is_foreign f) (same_bytes x.letters (ascii "immediate")) refl (same_bytes x.letters (ascii "every")) refl
  where
    go : (p : Bool) → p ≡ true → (a : Bool) → same_bytes x.letters (ascii "immediate") ≡ a → (b : Bool) → same_bytes x.letters (ascii "every") ≡ b →
        (not p || (a || (b || same_bytes x.letters (ascii "case")))) ≡ true → OfThree x.letters
    go false h a e b g t = never h
    go true h true e b g t = inl (same_bytes_lem _ _ e)
    go true h false e true g t = inr (inl (same_bytes_lem _ _ g))
    go true h false e false g t = inr (inr (inl (same_bytes_lem _ _ t)))

foreign-is : (b : ℕ) (w : List ℕ) → word_token (b ∷ w) ≡ foreign → OfThree (b ∷ w)
foreign-is b w e = go (seek words (b ∷ w))
  where
    go : Found words (b ∷ w) ⊎ Missed words (b ∷ w) → OfThree (b ∷ w)
    go (inl f) = subst OfThree (sym f.same) (of_three_lem f.found (sym f.token ∙ e) (each of_three words f.found refl f.is_in_lem))
    go (inr f) = inr (inr (inr (other-count b w (sym f.token ∙ e))))

name-is : (b : ℕ) (w n : List ℕ) → word_token (b ∷ w) ≡ name n → (n ≡ b ∷ w) × Nameable b w
name-is b w n e = go (seek words (b ∷ w))
  where
    go : Found words (b ∷ w) ⊎ Missed words (b ∷ w) → (n ≡ b ∷ w) × Nameable b w
    go (inl f) =
        let g : is_name f.found.token ≡ false = not-true _ (each (λ x. not (is_name x.token)) words f.found refl f.is_in_lem) in
        never (sym g ∙ ap is_name (sym f.token ∙ e))
    go (inr f) =
        let h = other_name b w n (sym f.token ∙ e) in
        (h.is, record { letter = h.letter; short = h.short; free = f.free })

is-named : (b : ℕ) (w : List ℕ) → Nameable b w → word_token (b ∷ w) ≡ name (b ∷ w)
is-named b w h = go (seek words (b ∷ w))
  where
    go : Found words (b ∷ w) ⊎ Missed words (b ∷ w) → word_token (b ∷ w) ≡ name (b ∷ w)
    go (inl f) = absurd (h.free (f.found, f.is_in_lem, f.same))
    go (inr f) = f.token ∙ name-other b w h.letter h.short

is-other : (b : ℕ) (w : List ℕ) → (OfLanguage (b ∷ w) → ⊥) → is_count (b ∷ w) ≡ false → (Nameable b w → ⊥) → word_token (b ∷ w) ≡ stray
is-other b w free e h = go (seek words (b ∷ w))
  where
    go : Found words (b ∷ w) ⊎ Missed words (b ∷ w) → word_token (b ∷ w) ≡ stray
    go (inl f) = absurd (free (f.found, f.is_in_lem, f.same))
    go (inr f) = f.token ∙ no_other b w e (λ a l. h record { letter = a; short = l; free = free })

pub words_are : WordsAre
words_are = record {
  reserved = is-reserved;
  count = is-count;
  foreign_is = foreign-is;
  named = is-named;
  name_is = name-is;
  other = is-other;
}
