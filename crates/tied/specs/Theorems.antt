-- What is proved of the narrowed sets: the statements alone. The proofs are in proofs/Theorems.antt, Answered.antt and OfNarrow.antt.
use Rattle.std.specs.Prelude.{ℕ, ◌+◌, ◌-◌, ◌/◌, ◌≤◌, ◌<◌, ◌≡◌, ◌↔◌, ◌⊎◌, true, List, length, get_or, set, take}
use Rattle.codes.specs.Words.{◌∋◌}
use Rattle.esterel.specs.Limits.{max_nodes, signals}
use Rattle.esterel.specs.Codes.{Codes, union, given, without_ended, larger, caught, word, Represents}
use Rattle.esterel.specs.Statement.{Unary, signal, suspend, loop, trap, Binary, present, sequence, parallel, Stmt, leaf, one, two, field, size, nodes}
use Rattle.esterel.specs.Sets.{start_set}
use Rattle.esterel.specs.Refusal.{Reply, yields, rejects}
use Rattle.esterel.specs.Table.{passed, refused}
use Rattle.esterel.specs.Checks.{verdict}
use Rattle.esterel.specs.Instant.{Entry, Result, closed, starved, stuck, start}
use Rattle.esterel.specs.Outcome.{statement_at}
use Rattle.esterel.specs.Theorems.{Finishes, Accepted}
use Rattle.tied.specs.Ties.{Ties, ties_of, none_tied, tie, by_tie, start_tied}
use Rattle.tied.specs.declared.Tie.{Tie}
use Rattle.tied.specs.declared.Tie.TheVariants.{Unknown}
use Rattle.tied.specs.Narrowed.{tested, narrowed, ties_under, ties_at, narrowed_at}
use Rattle.tied.specs.Calls.{Narrowing}

-- A code is in the narrowed set of a node exactly if some answers make the node, started alone under the ties of its place, finish with it.
abbrev pub Exact : Type 0
Exact =
    (c : Ties) (p : Stmt) (i first k : ℕ) →
    (narrowed_at c p i k ≡ true) ↔ Finishes (start_tied (ties_at c p i) first (statement_at (nodes p) i)) k

-- What is known at a node's place, in words: node i stands in the body of a signal statement of s
pub record InBody (p : Stmt) (s i : ℕ) : Type 0 where
  pub node : ℕ
  pub body : Stmt
  pub is_signal : statement_at (nodes p) node ≡ one (signal s) body
  pub after : node ≤ i + size body
  pub before : i < node

-- there s is unknown, and elsewhere it is as it was tied
pub record Places : Type 0 where
  pub in_body : (c : Ties) (p : Stmt) (s i : ℕ) → InBody p s i → ties_at c p i s ≡ Unknown
  pub elsewhere : (c : Ties) (p : Stmt) (s i : ℕ) → i < size p → (InBody p s i → ⊥) → ties_at c p i s ≡ c s

-- With none tied the set is K, and the start is that of document 01.
pub record Untied : Type 0 where
  pub starts : (p : Stmt) (first : ℕ) (answers : List ℕ) → start_tied none_tied first p answers ≡ start first p answers
  pub sets : (p : Stmt) (i k : ℕ) → narrowed_at none_tied p i k ≡ start_set (statement_at (nodes p) i) k

-- Tying one more unknown signal never adds a code, nor does tying several. So each narrowed set is a part of K.
pub record Fewer : Type 0 where
  pub one_more :
      (c : Ties) (s : ℕ) (t : Tie) → c s ≡ Unknown →
      (p : Stmt) (i k : ℕ) → narrowed_at (tie s t c) p i k ≡ true → narrowed_at c p i k ≡ true
  pub several :
      (c d : Ties) → ((s : ℕ) → (d s ≡ c s) ⊎ (c s ≡ Unknown)) →
      (p : Stmt) (i k : ℕ) → narrowed_at d p i k ≡ true → narrowed_at c p i k ≡ true
  pub in_k : (c : Ties) (p : Stmt) (i k : ℕ) → narrowed_at c p i k ≡ true → start_set (statement_at (nodes p) i) k ≡ true

-- Whatever is tied, no node of an accepted program has an empty set.
abbrev pub NeverEmpty : Type 0
NeverEmpty = (c : Ties) (p : Stmt) → Accepted p → (i : ℕ) → (k : ℕ) × (narrowed_at c p i k ≡ true)

-- and the 64-bit number of each represents it
abbrev pub NoneLost : Type 0
NoneLost = (c : Ties) (p : Stmt) → Accepted p → (i : ℕ) → i < size p → Represents (word (narrowed_at c p i)) (narrowed_at c p i)

-- The rules by node numbers, where each child has the set of its own place: a signal statement has its body's, in which the signal is unknown
abbrev pub of_child : Unary → Codes → Codes
of_child (signal s) a = a
of_child (suspend s) a = a
of_child loop a = without_ended a
of_child trap a = caught a

abbrev pub of_children : Tie → Binary → Codes → Codes → Codes
of_children t (present s) a b = tested t a b
of_children t sequence a b = union (without_ended a) (given (a 0) b)
of_children t parallel a b = larger a b

pub record ByNodes : Type 0 where
  pub single :
      (c : Ties) (p : Stmt) (i : ℕ) (u : Unary) (q : Stmt) → statement_at (nodes p) i ≡ one u q →
      (k : ℕ) → narrowed_at c p i k ≡ of_child u (narrowed_at c p (i - 1)) k
  pub pair :
      (c : Ties) (p : Stmt) (i : ℕ) (b : Binary) (q r : Stmt) → statement_at (nodes p) i ≡ two b q r →
      (k : ℕ) → narrowed_at c p i k ≡ of_children (ties_at c p i (field (two b q r))) b (narrowed_at c p (i - 1 - size r)) (narrowed_at c p (i - 1)) k

-- In document 01's own terms: what a start under ties closes with, some answers make a start by its rules close with, the entries and the held
-- pauses too.
abbrev pub Answered : Type 0
Answered =
    (c : Ties) (p : Stmt) (first : ℕ) (answers : List ℕ) (k : ℕ) (trail : List Entry) (held rest : List ℕ) →
    start_tied c first p answers ≡ closed k trail held rest → (all : List ℕ) × (start first p all ≡ closed k trail held rest)

-- Without ties: p with each tied test replaced by the branch that it takes
abbrev pub replaced : Ties → Stmt → Stmt
replaced c (leaf l) = leaf l
replaced c (one u p) = one u (replaced (ties_under u c) p)
replaced c (two (present s) p q) = by_tie (c s) (two (present s) (replaced c p) (replaced c q)) (replaced c q) (replaced c p)
replaced c (two sequence p q) = two sequence (replaced c p) (replaced c q)
replaced c (two parallel p q) = two parallel (replaced c p) (replaced c q)

-- two starts finish with one code and leave the same answers; or both need an answer, or both have no rule
pub data Alike : Result → Result → Type 0 where
  close : (k : ℕ) (trail trail' : List Entry) (held held' rest : List ℕ) → Alike (closed k trail held rest) (closed k trail' held' rest)
  starve : Alike starved starved
  stick : Alike stuck stuck

-- K of that statement is the narrowed set of p, and its start gives the code and leaves the answers that the start of p under ties does
pub record Replacing : Type 0 where
  pub sets : (c : Ties) (p : Stmt) (k : ℕ) → narrowed c p k ≡ start_set (replaced c p) k
  pub starts : (c : Ties) (p : Stmt) (first other : ℕ) (answers : List ℕ) → Alike (start_tied c first p answers) (start other (replaced c p) answers)

-- What follows for the call. The lent buffers suffice
pub record Lent (t ties sets : List ℕ) : Type 0 where
  pub ties_room : signals ≤ length ties
  pub sets_room : length t / 2 ≤ length sets

-- each signal's byte is 0, 1 or 2
abbrev pub TieBytes : List ℕ → Type 0
TieBytes ties = (s : ℕ) → s < signals → get_or ties s 0 ≤ 2

-- where it is done, of the program p: bit k of entry i is 1 exactly if some answers make node i, started alone under the ties of its place, finish
-- with code k; each entry represents the node's narrowed set, which is a part of K and has a code; the entries past them are as they were
pub record NarrowedSets (p : Stmt) (c : Ties) (old new : List ℕ) : Type 0 where
  pub bits :
      (i first k : ℕ) → i < size p →
      ((get_or new i 0 ∋ k) ≡ true) ↔ Finishes (start_tied (ties_at c p i) first (statement_at (nodes p) i)) k
  pub words : (i : ℕ) → i < size p → Represents (get_or new i 0) (narrowed_at c p i)
  pub in_k : (i k : ℕ) → i < size p → (get_or new i 0 ∋ k) ≡ true → start_set (statement_at (nodes p) i) k ≡ true
  pub some : (i : ℕ) → i < size p → (k : ℕ) × ((get_or new i 0 ∋ k) ≡ true)
  pub past : (i : ℕ) → size p ≤ i → get_or new i 0 ≡ get_or old i 0
  pub long : length new ≡ length old

pub record OfNarrow : Type 0 where
  -- done exactly if the buffers suffice, the table is accepted, which goes by K, and the bytes are ties
  pub done :
      (t ties old new : List ℕ) (r : Reply ℕ) (n : ℕ) → Narrowing t ties old new r →
      (r ≡ yields n) ↔ ((p : Stmt) × (n ≡ size p) × (verdict t ≡ passed p) × Lent t ties old × TieBytes ties)
  -- 19 exactly if all is so but that a byte is another
  pub bad_ties :
      (t ties old new : List ℕ) (r : Reply ℕ) → Narrowing t ties old new r →
      (r ≡ rejects 19 0) ↔ ((p : Stmt) × (verdict t ≡ passed p) × Lent t ties old × ((s : ℕ) × (s < signals) × (2 < get_or ties s 0)))
  -- where the table is not accepted, the refusal is its own, whatever the bytes
  pub table :
      (t ties old new : List ℕ) (r : Reply ℕ) (number node : ℕ) → Lent t ties old → verdict t ≡ refused number node →
      Narrowing t ties old new r → r ≡ rejects number node
  pub sets :
      (t ties old new : List ℕ) (n : ℕ) → Narrowing t ties old new (yields n) →
      (p : Stmt) × (verdict t ≡ passed p) × (n ≡ size p) × NarrowedSets p (ties_of (take signals ties)) old new
  -- with 256 bytes 0 the sets are K
  pub untied :
      (t ties old new : List ℕ) (n : ℕ) → Narrowing t ties old new (yields n) → ((s : ℕ) → s < signals → get_or ties s 0 ≡ 0) →
      (p : Stmt) → verdict t ≡ passed p → (i : ℕ) → i < n → Represents (get_or new i 0) (start_set (statement_at (nodes p) i))
  -- with a byte that was 0 changed to b, no set has a code more
  pub one_more :
      (t ties old new old' new' : List ℕ) (n s b : ℕ) → get_or ties s 0 ≡ 0 →
      Narrowing t ties old new (yields n) → Narrowing t (set ties s b) old' new' (yields n) →
      (i k : ℕ) → i < n → (get_or new' i 0 ∋ k) ≡ true → (get_or new i 0 ∋ k) ≡ true
  -- a refusal has a number from 1 to 11, or 19, and a node that a table can have, and changes nothing
  pub refusals :
      (t ties old new : List ℕ) (number node : ℕ) → Narrowing t ties old new (rejects number node) →
      (1 ≤ number) × ((number ≤ 11) ⊎ (number ≡ 19)) × (node < max_nodes) × (new ≡ old)
