-- What F-1 and F-9 say of the call `read`, from its contract: the statements alone. The proofs are in proofs/Theorems.antt.
use Rattle.std.specs.Prelude.{ℕ, ◌*◌, ◌≤◌, ◌<◌, ◌≡◌, ◌↔◌, ◌⊎◌, false, Result, List, [], ◌∷◌, ◌++◌, length, take, drop}
use Rattle.esterel.specs.Limits.{max_nodes, signals as max_signals}
use Rattle.esterel.specs.Statement.{size}
use Rattle.esterel.specs.Table.{refused, postfix}
use Rattle.esterel.specs.Checks.{verdict}
use Rattle.grammar.specs.Limits.{max_source}
use Rattle.grammar.specs.Tokens.{Token, opening, name, foreign, exit, tokens, byte_of}
use Rattle.grammar.specs.Faults.{Fault, number_of_fault, lost_from}
use Rattle.grammar.specs.Tree.{Tree, Name}
use Rattle.grammar.specs.Grammar.{Program}
use Rattle.grammar.specs.Meaning.{signals, statement_of}
use Rattle.grammar.specs.Theorems.{Refusal, signal_names, see_all}
use Rattle.text.specs.Reading.{Answer, reads, refuses, answer, ReadAs}
use Rattle.text.specs.declared.Reading.{Reading}
use Rattle.text.specs.declared.Fault as R

-- the table of a derivation's tree was written
pub record Wrote (text old new : List ℕ) (nodes n : ℕ) : Type 0 where
  pub tree : Tree
  pub derivation : Program tree (tokens text)
  pub nodes_are : nodes ≡ size (statement_of tree)
  pub signals_are : n ≡ length (signals tree)
  pub content : new ≡ postfix (statement_of tree) ++ drop (2 * nodes) old
  pub fits : nodes ≤ max_nodes
  pub room : 2 * max_nodes ≤ length old

-- the numbers of a refusal
pub data Number : ℕ → ℕ → Type 0 where
  short_table : Number 3 0
  of_text : {number node : ℕ} → Refusal number node → Number number node

-- a place is where the name of the first exit without its trap begins
pub record AtExit (text : List ℕ) (place : ℕ) : Type 0 where
  pub tree : Tree
  pub derivation : Program tree (tokens text)
  pub before : List Token
  pub exit_name : Name
  pub rest : List Token
  pub split : tokens text ≡ before ++ (opening exit ∷ name exit_name ∷ rest)
  pub first : lost_from [] derivation [] ≡ name exit_name ∷ rest
  pub place_is : place ≡ byte_of text (name exit_name ∷ rest)

-- a place is where the name begins with which there are more than 256 signals
pub record AtSignal (text : List ℕ) (place : ℕ) : Type 0 where
  pub before : List Token
  pub signal_name : Name
  pub rest : List Token
  pub split : tokens text ≡ before ++ (name signal_name ∷ rest)
  pub few : length (see_all [] (signal_names false before)) ≤ max_signals
  pub many : max_signals < length (see_all [] (signal_names false (before ++ (name signal_name ∷ []))))
  pub place_is : place ≡ byte_of text (name signal_name ∷ rest)

pub record OfRead : Type 0 where
  -- an answer is what one result alone says
  pub one_result : (a b : Result Reading R.Fault) → answer a ≡ answer b → a ≡ b
  -- the contract leaves nothing open
  pub determined : (text old new new' : List ℕ) (r r' : Answer) → ReadAs text old new r → ReadAs text old new' r' → (new ≡ new') × (r ≡ r')
  -- what is answered does not hang on the lent table, if it has room
  pub same_answer :
      (text old new old' new' : List ℕ) (r r' : Answer) →
      2 * max_nodes ≤ length old → 2 * max_nodes ≤ length old' → ReadAs text old new r → ReadAs text old' new' r' → r ≡ r'
  -- without a refusal the table written is that of the text's derivation, and the checker refuses it by 11 or not at all
  pub done : (text old new : List ℕ) (nodes n : ℕ) → ReadAs text old new (reads nodes n) → Wrote text old new nodes n
  pub only_eleven :
      (text old new : List ℕ) (nodes n number node : ℕ) →
      ReadAs text old new (reads nodes n) → verdict (take (2 * nodes) new) ≡ refused number node → number ≡ 11
  -- after a refusal the table is as it was, and the place lies in the text or at its end
  pub refused :
      (text old new : List ℕ) (number node place : ℕ) → ReadAs text old new (refuses number node place) →
      (new ≡ old) × Number number node × (node < max_nodes) × (place ≤ length text) × (place ≤ max_source)
  -- a text within the length is refused 14 or 20 exactly if the grammar has no derivation for it
  pub in_grammar :
      (text old new : List ℕ) (r : Answer) →
      2 * max_nodes ≤ length old → length text ≤ max_source → ReadAs text old new r →
      ((number : ℕ) × (place : ℕ) × ((number ≡ 14) ⊎ (number ≡ 20)) × (r ≡ refuses number 0 place)) ↔ ((t : Tree) → Program t (tokens text) → ⊥)
  -- and then at the first token with which it can't go on, by 20 if that is a word of the full language or a count
  pub at_fault :
      (text old new : List ℕ) (r : Answer) (us : List Token) →
      2 * max_nodes ≤ length old → length text ≤ max_source → Fault (tokens text) us → ReadAs text old new r →
      r ≡ refuses (number_of_fault us) 0 (byte_of text us)
  -- so 20 is told exactly if the text is within the length and that token is such a one
  pub twenty :
      (text old new : List ℕ) (r : Answer) → 2 * max_nodes ≤ length old → ReadAs text old new r →
      ((place : ℕ) × (r ≡ refuses 20 0 place)) ↔ ((length text ≤ max_source) × ((us : List Token) × Fault (tokens text) (foreign ∷ us)))
  -- a text over the length is refused 14 whatever stands in it, at the first byte over the length
  pub overlong :
      (text old new : List ℕ) (r : Answer) → 2 * max_nodes ≤ length old → max_source < length text → ReadAs text old new r → r ≡ refuses 14 0 max_source
  -- 15 is told at the name of the first exit without its trap, 16 at the name with which there are too many signals
  pub fifteen : (text old new : List ℕ) (node place : ℕ) → ReadAs text old new (refuses 15 node place) → AtExit text place
  pub sixteen : (text old new : List ℕ) (node place : ℕ) → ReadAs text old new (refuses 16 node place) → AtSignal text place
  -- a refusal for the table has no place in the text
  pub unplaced : (text old new : List ℕ) (number node place : ℕ) → ReadAs text old new (refuses number node place) → number < 14 → place ≡ 0
