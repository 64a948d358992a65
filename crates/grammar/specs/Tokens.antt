-- A text's bytes as tokens (F-1, F-9): words as unbroken runs, signs, and other bytes, with blanks, tabs and line feeds between them.
use Rattle.std.specs.Prelude.{ℕ, suc, ◌-◌, Bool, true, false, ◌||◌, ◌&&◌, cond, List, [], ◌∷◌, ◌++◌, length, get_or, eqb, leb}
use Prim.Native.Char.{code}
use Rattle.grammar.specs.Limits.{max_name}
use Rattle.grammar.specs.Ascii.{ascii}

-- the words and the sign that a statement begins with
pub data Opening : Type 0 where
  nothing pause emit exit signal trap loop present suspend bracket : Opening
  halt sustain await abort weak : Opening  -- F-9

-- the words and signs that stand within a statement or between two
pub data Mark : Type 0 where
  semicolon bars close in-mark then else end when : Mark

pub data Token : Type 0 where
  opening : (o : Opening) → Token
  mark : (m : Mark) → Token
  name : (n : List ℕ) → Token
  foreign : Token  -- a word of the full language that can't be converted, or a count (F-9)
  stray : Token  -- a word that is none of these, or another byte

-- the words of the language (document 004, Figure 2; F-9)
pub record Word : Type 0 where
  pub letters : List ℕ
  pub token : Token

abbrev pub opening_words : List Word
opening_words =
    record { letters = ascii "nothing"; token = opening nothing } ∷
    record { letters = ascii "pause"; token = opening pause } ∷
    record { letters = ascii "emit"; token = opening emit } ∷
    record { letters = ascii "exit"; token = opening exit } ∷
    record { letters = ascii "signal"; token = opening signal } ∷
    record { letters = ascii "trap"; token = opening trap } ∷
    record { letters = ascii "loop"; token = opening loop } ∷
    record { letters = ascii "present"; token = opening present } ∷
    record { letters = ascii "suspend"; token = opening suspend } ∷
    []

-- the forms of F-9
abbrev pub dialect_words : List Word
dialect_words =
    record { letters = ascii "halt"; token = opening halt } ∷
    record { letters = ascii "sustain"; token = opening sustain } ∷
    record { letters = ascii "await"; token = opening await } ∷
    record { letters = ascii "abort"; token = opening abort } ∷
    record { letters = ascii "weak"; token = opening weak } ∷
    []

abbrev pub inner_words : List Word
inner_words =
    record { letters = ascii "in"; token = mark in-mark } ∷
    record { letters = ascii "then"; token = mark then } ∷
    record { letters = ascii "else"; token = mark else } ∷
    record { letters = ascii "end"; token = mark end } ∷
    record { letters = ascii "when"; token = mark when } ∷
    []

-- words of the full language that can't be converted
abbrev pub foreign_words : List Word
foreign_words =
    record { letters = ascii "immediate"; token = foreign } ∷
    record { letters = ascii "every"; token = foreign } ∷
    record { letters = ascii "case"; token = foreign } ∷
    []

abbrev pub words : List Word
words = opening_words ++ (dialect_words ++ (inner_words ++ foreign_words))

abbrev pub is_letter : ℕ → Bool
is_letter b = (leb (code "A") b && leb b (code "Z")) || (leb (code "a") b && leb b (code "z"))

abbrev pub is_digit : ℕ → Bool
is_digit b = leb (code "0") b && leb b (code "9")

-- digits alone: a word that is so is a count
abbrev pub is_count : List ℕ → Bool
is_count [] = true
is_count (b ∷ w) = is_digit b && is_count w

-- a word that is none of the language's is a name if it begins with a letter and has at most 32 characters
abbrev pub name_or : List ℕ → Token
name_or [] = stray
name_or (b ∷ w) = cond (is_letter b && leb (length (b ∷ w)) max_name) (name (b ∷ w)) (cond (is_count (b ∷ w)) foreign stray)

abbrev pub same_bytes : List ℕ → List ℕ → Bool
same_bytes [] [] = true
same_bytes [] (b ∷ v) = false
same_bytes (a ∷ w) [] = false
same_bytes (a ∷ w) (b ∷ v) = eqb a b && same_bytes w v

abbrev pub among : List Word → List ℕ → Token
among [] w = name_or w
among (x ∷ xs) w = cond (same_bytes w x.letters) x.token (among xs w)

abbrev pub word_token : List ℕ → Token
word_token w = among words w

-- bytes of a word, bytes that separate, and what another byte is by itself
abbrev pub is_in_word : ℕ → Bool
is_in_word b = is_letter b || is_digit b || eqb b (code "_")

abbrev pub is_blank : ℕ → Bool
is_blank b = eqb b (code " ") || eqb b (code "\t") || eqb b (code "\n")

abbrev pub sign_of : ℕ → Token
sign_of b =
    cond (eqb b (code ";")) (mark semicolon) (cond (eqb b (code "[")) (opening bracket) (cond (eqb b (code "]")) (mark close) stray))

pub data Class : Type 0 where
  in_word blank bar : Class
  sign : (t : Token) → Class

unfoldable pub class_of : ℕ → Class
class_of b = cond (is_in_word b) in_word (cond (is_blank b) blank (cond (eqb b (code "|")) bar (sign (sign_of b))))

-- what stands before the next byte and is no whole token yet: nothing, a word so far, or the first bar of two
pub data Pending : Type 0 where
  none : Pending
  word : (w : List ℕ) → Pending
  first_bar : Pending

abbrev pub flush : Pending → List Token → List Token
flush none ts = ts
flush (word w) ts = word_token w ∷ ts
flush first_bar ts = stray ∷ ts

-- the tokens when a byte of a class is met, by those of the bytes after it
abbrev pub meet : Class → ℕ → Pending → (Pending → List Token) → List Token
meet in_word b none next = next (word (b ∷ []))
meet in_word b (word w) next = next (word (w ++ (b ∷ [])))
meet in_word b first_bar next = stray ∷ next (word (b ∷ []))
meet blank b s next = flush s (next none)
meet bar b none next = next first_bar
meet bar b (word w) next = word_token w ∷ next first_bar
meet bar b first_bar next = mark bars ∷ next none
meet (sign t) b s next = flush s (t ∷ next none)

-- the bytes as tokens, with what is pending before them
abbrev pub tokens_after : Pending → List ℕ → List Token
tokens_after s [] = flush s []
tokens_after s (b ∷ bytes) = meet (class_of b) b s (λ next. tokens_after next bytes)

unfoldable pub tokens : List ℕ → List Token
tokens bytes = tokens_after none bytes

-- Where each token begins: at a byte that does not go on with what is pending.
abbrev pub begins : Class → Pending → Bool
begins in_word none = true
begins in_word (word w) = false
begins in_word first_bar = true
begins blank s = false
begins bar none = true
begins bar (word w) = true
begins bar first_bar = false
begins (sign t) s = true

abbrev pub pending_after : Class → ℕ → Pending → Pending
pending_after in_word b none = word (b ∷ [])
pending_after in_word b (word w) = word (w ++ (b ∷ []))
pending_after in_word b first_bar = word (b ∷ [])
pending_after blank b s = none
pending_after bar b none = first_bar
pending_after bar b (word w) = first_bar
pending_after bar b first_bar = none
pending_after (sign t) b s = none

-- a number before a list, or not
abbrev pub cons_if : Bool → ℕ → List ℕ → List ℕ
cons_if true n ns = n ∷ ns
cons_if false n ns = ns

-- of bytes before which n stand
abbrev pub beginnings_after : ℕ → Pending → List ℕ → List ℕ
beginnings_after n s [] = []
beginnings_after n s (b ∷ bytes) = cons_if (begins (class_of b) s) n (beginnings_after (suc n) (pending_after (class_of b) b s) bytes)

unfoldable pub beginnings : List ℕ → List ℕ
beginnings bytes = beginnings_after 0 none bytes

-- the byte at which the tokens us begin, the last of a text: its length where there are none
unfoldable pub byte_of : List ℕ → List Token → ℕ
byte_of text us = get_or (beginnings text) (length (tokens text) - length us) (length text)
