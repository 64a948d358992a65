-- What is proved of the grammar and of what texts mean (F-1, F-9): the statements, each after what it speaks of. The proofs are in proofs/.
use Rattle.std.specs.Prelude.{ℕ, ◌≤◌, ◌<◌, ◌≡◌, ◌↔◌, ◌⊎◌, Bool, true, false, length, take, drop, get_or}
use Prim.Native.Char.{code}
use mathlib.Core.List.{List, [], ◌∷◌, ◌++◌, Memᴰ}
use Rattle.esterel.specs.Limits.{max_nodes, signals as max_signals}
use Rattle.esterel.specs.Statement.{Stmt, size}
use Rattle.esterel.specs.Table.{Verdict, passed, refused, postfix}
use Rattle.esterel.specs.Checks.{verdict}
use Rattle.grammar.specs.Limits.{max_source, max_name, max_levels}
use Rattle.grammar.specs.Ascii.{ascii}
use Rattle.grammar.specs.Tokens.{Token, opening, mark, name, foreign, stray, bars as bars_mark, tokens, Word, words, is_letter, is_count, is_in_word, is_blank, word_token, sign_of, byte_of, exit as exit_word}
use Rattle.grammar.specs.Tree.{Tree, Name, levels}
use Rattle.grammar.specs.Grammar.{Program, productions}
use Rattle.grammar.specs.Names.{see}
use Rattle.grammar.specs.Kernel.{expand}
use Rattle.grammar.specs.Faults.{CanGoOn, Fault, opens_signal, marks_signal, lost_from, crowded_from}
use Rattle.grammar.specs.Meaning.{signals, untrapped, statement_of, check_nesting, VerdictOf}
use Rattle.grammar.specs.Printing.{printed, met_in, Expressible}

-- How bytes are taken together: an unbroken run of letters, digits and underscores is one word, blanks separate, two bars are a sign, and any other
-- byte stands by itself. One of these holds of each text.
abbrev pub AllInWord : List ℕ → Type 0
AllInWord [] = Unit {0}
AllInWord (b ∷ w) = (is_in_word b ≡ true) × AllInWord w

abbrev pub NoWordNext : List ℕ → Type 0
NoWordNext [] = Unit {0}
NoWordNext (b ∷ rest) = is_in_word b ≡ false

abbrev pub NoBarNext : List ℕ → Type 0
NoBarNext [] = Unit {0}
NoBarNext (b ∷ rest) = b ≡ code "|" → ⊥

pub record InRuns : Type 0 where
  pub none : tokens [] ≡ []
  pub word : (b : ℕ) (w rest : List ℕ) → AllInWord (b ∷ w) → NoWordNext rest → tokens ((b ∷ w) ++ rest) ≡ word_token (b ∷ w) ∷ tokens rest
  pub blank : (b : ℕ) (rest : List ℕ) → is_blank b ≡ true → tokens (b ∷ rest) ≡ tokens rest
  pub bars : (rest : List ℕ) → tokens (ascii "||" ++ rest) ≡ mark bars_mark ∷ tokens rest
  pub bar : (rest : List ℕ) → NoBarNext rest → tokens (ascii "|" ++ rest) ≡ stray ∷ tokens rest
  pub sign : (b : ℕ) (rest : List ℕ) → is_in_word b ≡ false → is_blank b ≡ false → (b ≡ code "|" → ⊥) → tokens (b ∷ rest) ≡ sign_of b ∷ tokens rest

-- What a word is, which has at least one byte: a word of the language, a count, a name, or else stray.
abbrev pub OfLanguage : List ℕ → Type 0
OfLanguage w = (x : Word) × Memᴰ x words × (w ≡ x.letters)

-- what can be a name begins with a letter, has at most 32 characters and is no word of the language
pub record Nameable (b : ℕ) (w : List ℕ) : Type 0 where
  pub letter : is_letter b ≡ true
  pub short : length (b ∷ w) ≤ max_name
  pub free : OfLanguage (b ∷ w) → ⊥

pub record WordsAre : Type 0 where
  -- each word of the language is its token
  pub reserved : (x : Word) → Memᴰ x words → word_token x.letters ≡ x.token
  -- a count, however long, is of the full language
  pub count : (b : ℕ) (w : List ℕ) → is_count (b ∷ w) ≡ true → word_token (b ∷ w) ≡ foreign
  -- and besides counts only three words are
  pub foreign_is : (b : ℕ) (w : List ℕ) → word_token (b ∷ w) ≡ foreign →
      (b ∷ w ≡ ascii "immediate") ⊎ (b ∷ w ≡ ascii "every") ⊎ (b ∷ w ≡ ascii "case") ⊎ (is_count (b ∷ w) ≡ true)
  -- a word that can be a name is one, by its own bytes, and no other word is
  pub named : (b : ℕ) (w : List ℕ) → Nameable b w → word_token (b ∷ w) ≡ name (b ∷ w)
  pub name_is : (b : ℕ) (w n : List ℕ) → word_token (b ∷ w) ≡ name n → (n ≡ b ∷ w) × Nameable b w
  pub other : (b : ℕ) (w : List ℕ) → (OfLanguage (b ∷ w) → ⊥) → is_count (b ∷ w) ≡ false → (Nameable b w → ⊥) → word_token (b ∷ w) ≡ stray

-- Which byte `byte_of` is: the one that divides the text where the tokens divide. A token begins there, so it is no blank, and where no token is left it
-- is the text's length.
pub record AtBytes : Type 0 where
  pub divides : (text : List ℕ) (before us : List Token) → tokens text ≡ before ++ us →
      (tokens (take (byte_of text us) text) ≡ before) × (tokens (drop (byte_of text us) text) ≡ us)
  pub solid : (text : List ℕ) (before : List Token) (t : Token) (more : List Token) → tokens text ≡ before ++ (t ∷ more) →
      (byte_of text (t ∷ more) < length text) × (is_blank (get_or text (byte_of text (t ∷ more)) 0) ≡ false)
  pub stops : (text : List ℕ) → byte_of text [] ≡ length text

-- At most one derivation for a list of tokens: two have the same productions in the same order, which make a derivation, since each production has
-- a fixed number of parts and the names stand in the tokens; and the same tree. So all derivations of a text give one table.
pub record OneDerivation : Type 0 where
  pub same_productions : (ts : List Token) (p q : Tree) (d : Program p ts) (e : Program q ts) → productions d [] ≡ productions e []
  pub same_tree : (ts : List Token) (p q : Tree) → Program p ts → Program q ts → p ≡ q

-- a text passes checks 14 and 20
abbrev pub PassesGrammar : List ℕ → Type 0
PassesGrammar text = (v : Verdict) (n at node : ℕ) → VerdictOf text v n at → ((v ≡ refused 14 node → ⊥) × (v ≡ refused 20 node → ⊥))

-- the numbers that a text is refused with; only 8 and 9 name a node, of the table that is not written
pub data Refusal : ℕ → ℕ → Type 0 where
  outside_grammar : Refusal 14 0
  of_full_language : Refusal 20 0
  exit_untrapped : Refusal 15 0
  many_signals : Refusal 16 0
  many_nodes : Refusal 1 0
  deep_node : (node : ℕ) → node < max_nodes → Refusal 8 node
  many_traps : (node : ℕ) → node < max_nodes → Refusal 9 node

pub record OfTexts : Type 0 where
  -- every text has one verdict, one number of signals and one place
  pub decided : (text : List ℕ) → (v : Verdict) × (n : ℕ) × (at : ℕ) × VerdictOf text v n at
  pub one_verdict : (text : List ℕ) (v w : Verdict) (n m at at' : ℕ) → VerdictOf text v n at → VerdictOf text w m at' → (v ≡ w) × (n ≡ m) × (at ≡ at')
  -- a text within the length passes 14 and 20 exactly if the grammar has a derivation for it
  pub in_grammar : (text : List ℕ) → length text ≤ max_source → PassesGrammar text ↔ ((t : Tree) × Program t (tokens text))
  -- a text is refused 20 exactly if it is within the length and the first token with which it can't go on is a word of the full language or a count;
  -- there is its place
  pub twenty :
      (text : List ℕ) (n at : ℕ) →
      VerdictOf text (refused 20 0) n at ↔ ((length text ≤ max_source) × (n ≡ 0) × ((us : List Token) × Fault (tokens text) (foreign ∷ us) × (at ≡ byte_of text (foreign ∷ us))))
  -- a text over the length is refused 14 whatever stands in it, at the first byte over the length
  pub overlong : (text : List ℕ) (v : Verdict) (n at : ℕ) → max_source < length text → VerdictOf text v n at → (v ≡ refused 14 0) × (at ≡ max_source)
  -- a refusal by the table has no place in the text
  pub unplaced : (text : List ℕ) (number node n at : ℕ) → VerdictOf text (refused number node) n at → number < 14 → at ≡ 0
  pub refusals : (text : List ℕ) (number node n at : ℕ) → VerdictOf text (refused number node) n at → Refusal number node
  -- without a refusal the program is that of the derivation
  pub program : (text : List ℕ) (p : Stmt) (n at : ℕ) → VerdictOf text (passed p) n at → (t : Tree) × Program t (tokens text) × (p ≡ statement_of t) × (n ≡ length (signals t))
  -- and its table passes checks 1 to 10: the checker refuses it by 11 or not at all
  pub only_eleven : (text : List ℕ) (p : Stmt) (n at number node : ℕ) → VerdictOf text (passed p) n at → verdict (postfix p) ≡ refused number node → number ≡ 11

-- A list of tokens has a fault or a derivation, and not both; it has one fault.
pub record OneFault : Type 0 where
  pub either : (ts : List Token) → ((us : List Token) × Fault ts us) ⊎ ((t : Tree) × Program t ts)
  pub one_fault : (ts us vs : List Token) → Fault ts us → Fault ts vs → us ≡ vs

-- The tokens of a text can go on exactly if the text itself can, with a blank and further bytes. So it is no matter that `CanGoOn` takes any tokens,
-- also some that no text spells.
unfoldable pub GoesOn : Type 0
GoesOn = (text : List ℕ) → CanGoOn (tokens text) ↔ ((more : List ℕ) × (t : Tree) × Program t (tokens (text ++ (code " " ∷ more))))

-- The names of signals in a list of tokens, in its order: those right after emit, signal, present, sustain, await and when.
abbrev pub signal_names : (is_signal : Bool) → List Token → List Name
signal_names is_signal [] = []
signal_names is_signal (opening o ∷ ts) = signal_names (opens_signal o) ts
signal_names is_signal (mark m ∷ ts) = signal_names (marks_signal m) ts
signal_names true (name n ∷ ts) = n ∷ signal_names false ts
signal_names false (name n ∷ ts) = signal_names false ts
signal_names is_signal (foreign ∷ ts) = signal_names false ts
signal_names is_signal (stray ∷ ts) = signal_names false ts

-- a list with further names, each new one put at the end
abbrev pub see_all : List Name → List Name → List Name
see_all ns [] = ns
see_all ns (s ∷ ss) = see_all (see ns s) ss

-- Signals are numbered in order of first appearance: those of a tree are the names in its tokens, each where it first stands.
unfoldable pub InOrder : Type 0
InOrder = (ts : List Token) (t : Tree) → Program t ts → signals t ≡ see_all [] (signal_names false ts)

-- Where 15 and 16 are told: at a name, that of an exit for 15; and for 16 that of a signal, up to which there are 256, and with it more.
pub record AtNames : Type 0 where
  pub lost :
      (ts : List Token) (t : Tree) (d : Program t ts) → untrapped [] (expand t) ≡ true →
      (before : List Token) × (n : Name) × (us : List Token) × (ts ≡ before ++ (opening exit_word ∷ name n ∷ us)) × (lost_from [] d [] ≡ name n ∷ us)
  pub trapped : (ts : List Token) (t : Tree) (d : Program t ts) → untrapped [] (expand t) ≡ false → lost_from [] d [] ≡ []
  pub crowded :
      (ts : List Token) (t : Tree) → Program t ts → max_signals < length (signals t) →
      (before : List Token) × (n : Name) × (us : List Token) × (ts ≡ before ++ (name n ∷ us)) × (crowded_from [] false ts ≡ name n ∷ us) ×
      (length (see_all [] (signal_names false before)) ≤ max_signals) × (max_signals < length (see_all [] (signal_names false (before ++ (name n ∷ [])))))

-- A text within the length has fewer than max_levels levels, so that readers that go no deeper lose none.
unfoldable pub Nesting : Type 0
Nesting = (text : List ℕ) (t : Tree) → length text ≤ max_source → Program t (tokens text) → levels t < max_levels

-- Round trip: what is printed of a program that a text can express is read as that program, to which then only checks 8 and 9 are left.
unfoldable pub RoundTrip : Type 0
RoundTrip =
    (p : Stmt) → Expressible p → size p ≤ max_nodes → met_in 0 p ≤ max_signals → length (printed p) ≤ max_source →
    VerdictOf (printed p) (check_nesting (passed p)) (met_in 0 p) 0

-- And only such programs are read from texts.
unfoldable pub OnlyExpressible : Type 0
OnlyExpressible = (text : List ℕ) (p : Stmt) (n at : ℕ) → VerdictOf text (passed p) n at → Expressible p × (n ≡ met_in 0 p)
