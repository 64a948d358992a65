-- What is proved of trials and of the call (F-13): the statements alone. The proofs are in proofs/Lists.antt, proofs/Theorems.antt and
-- proofs/OfTrial.antt.
use Rattle.std.specs.Prelude.{ℕ, suc, ◌-◌, ◌^◌, ◌≤◌, ◌<◌, ◌≡◌, ◌↔◌, true, false, List, length, get_or}
use Rattle.codes.specs.Codes.{word}
use Rattle.codes.specs.Words.{◌∋◌}
use Rattle.esterel.specs.Limits.{max_nodes}
use Rattle.esterel.specs.Codes.{Represents}
use Rattle.esterel.specs.Statement.{Stmt, size, nodes}
use Rattle.esterel.specs.Sets.{start_set}
use Rattle.esterel.specs.Refusal.{Reply, rejects}
use Rattle.esterel.specs.Table.{passed, refused}
use Rattle.esterel.specs.Checks.{verdict}
use Rattle.esterel.specs.Instant.{Entry, closed, start}
use Rattle.esterel.specs.Outcome.{statement_at}
use Rattle.analysis.specs.Analysis.{Analysis, done}
use Rattle.starts.specs.Ticks.{Bits, presents}
use Rattle.trial.specs.Lists.{lists, list_at}
use Rattle.trial.specs.Trials.{tried, trial_answers}
use Rattle.trial.specs.Calls.{tells, tried_of}
use Rattle.trial.specs.declared.Tried.{Tried}

-- The lists are all that there are: 2 ^ m of m answers, each of 0 or 1, none twice, and every such list is among them. For 12 answers
-- there are 4,096.
pub record AllLists : Type 0 where
  pub many : (m : ℕ) → length (lists m) ≡ 2 ^ m
  pub each : (m i : ℕ) → i < 2 ^ m → (length (list_at m i) ≡ m) × Bits (list_at m i)
  pub once : (m i j : ℕ) → i < 2 ^ m → j < 2 ^ m → list_at m i ≡ list_at m j → i ≡ j
  pub all : (m : ℕ) (answers : List ℕ) → length answers ≡ m → Bits answers → (i : ℕ) × (i < 2 ^ m) × (list_at m i ≡ answers)
  pub twelve : length (lists trial_answers) ≡ 4096

-- p, whose first node is n, started with some list of m answers of 0 or 1, finishes with code k
pub record GivenBy (m n : ℕ) (p : Stmt) (k : ℕ) : Type 0 where
  pub answers : List ℕ
  pub many : length answers ≡ m
  pub bits : Bits answers
  pub trail : List Entry
  pub held : List ℕ
  pub rest : List ℕ
  pub finishes : start n p answers ≡ closed k trail held rest

pub record Trials : Type 0 where
  -- the codes gathered are those that some list of m answers gives
  pub gathers : (m n : ℕ) (p : Stmt) (k : ℕ) → (tried m n p k ≡ true) ↔ GivenBy m n p k
  -- "The result is proved equal to K": where the statement has at most m presents. It rests on exactness and on `LeftOver` (answers left
  -- over make no difference), esterel/specs/Theorems, and on `TakesFew` (a start takes at most as many answers as there are presents in the
  -- statement) and `OneShown` (a code of K has a list of 0 and 1 that leads to it), starts/specs/Theorems
  pub exact : (m n : ℕ) (p : Stmt) → presents p ≤ m → (k : ℕ) → tried m n p k ≡ start_set p k
  -- with too few answers no code is wrong, but one may be missing: for each number of answers there is a statement with one present more
  -- for which it is
  pub sound : (m n : ℕ) (p : Stmt) (k : ℕ) → tried m n p k ≡ true → start_set p k ≡ true
  pub too_few : (m n : ℕ) → (p : Stmt) × (k : ℕ) × (presents p ≡ suc m) × (start_set p k ≡ true) × (tried m n p k ≡ false)

-- a refusal of `trial` is that of the table, whatever node is tried, or 21 for a node outside an accepted table, or 22 for a node of it with
-- more than 12 presents
pub data Refusal (t : List ℕ) (node : ℕ) : (number at : ℕ) → Type 0 where
  of_table : (number at : ℕ) → verdict t ≡ refused number at → (1 ≤ number) × (number ≤ 11) × (at < max_nodes) → Refusal t node number at
  outside : (p : Stmt) → verdict t ≡ passed p → size p ≤ node → Refusal t node 21 0
  too_many : (p : Stmt) → verdict t ≡ passed p → node < size p → trial_answers < presents (statement_at (nodes p) node) → Refusal t node 22 0

-- a set that is answered is that of a node of an accepted table: its codes are those that some list of 12 answers gives, and they are K
pub record Found (t : List ℕ) (node set count : ℕ) : Type 0 where
  pub program : Stmt
  pub accepted : verdict t ≡ passed program
  pub inside : node < size program
  pub few : count ≤ trial_answers
  pub counts : count ≡ presents (statement_at (nodes program) node)
  pub by_trial :
      (k : ℕ) → ((set ∋ k) ≡ true) ↔ GivenBy trial_answers (suc node - size (statement_at (nodes program) node)) (statement_at (nodes program) node) k
  pub is_k : Represents set (start_set (statement_at (nodes program) node))

-- what follows for `trial` from its contract
pub record OfTrial : Type 0 where
  -- a node of an accepted table with at most 12 presents: the set is its start set
  pub gathered :
      (t : List ℕ) (p : Stmt) (node : ℕ) (r : Reply Tried) →
      verdict t ≡ passed p → node < size p → presents (statement_at (nodes p) node) ≤ trial_answers → r ≡ tried_of (verdict t) node →
      r ≡ tells (word (start_set (statement_at (nodes p) node))) (presents (statement_at (nodes p) node))
  pub known : (t : List ℕ) (node set count : ℕ) → tells set count ≡ tried_of (verdict t) node → Found t node set count
  -- it is the number that `analyse` leaves at the node, in whatever buffers
  pub as_listed :
      (t k a s m k' a' s' m' : List ℕ) (n d node set count : ℕ) →
      Analysis t k a s m k' a' s' m' (done n d) → tells set count ≡ tried_of (verdict t) node → (node < n) × (set ≡ get_or k' node 0)
  pub refusals : (t : List ℕ) (node number at : ℕ) → rejects number at ≡ tried_of (verdict t) node → Refusal t node number at
  pub of_table : (t : List ℕ) (node number at : ℕ) (r : Reply Tried) → verdict t ≡ refused number at → r ≡ tried_of (verdict t) node → r ≡ rejects number at
  pub outside : (t : List ℕ) (p : Stmt) (node : ℕ) (r : Reply Tried) → verdict t ≡ passed p → size p ≤ node → r ≡ tried_of (verdict t) node → r ≡ rejects 21 0
  pub too_many :
      (t : List ℕ) (p : Stmt) (node : ℕ) (r : Reply Tried) →
      verdict t ≡ passed p → node < size p → trial_answers < presents (statement_at (nodes p) node) → r ≡ tried_of (verdict t) node → r ≡ rejects 22 0
