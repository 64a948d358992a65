-- What is proved of the question and of the call (F-12): the statements alone. The proofs are in proofs/Answers.antt, proofs/Theorems.antt
-- and proofs/OfAsk.antt.
use Rattle.std.specs.Prelude.{ℕ, ◌+◌, ◌-◌, ◌≤◌, ◌<◌, ◌≡◌, Bool, true, false, List, [], ◌∷◌, length, get_or}
use Rattle.codes.specs.Words.{◌∋◌}
use Rattle.esterel.specs.Limits.{max_nodes}
use Rattle.esterel.specs.Statement.{Leaf, Unary, Binary, Stmt, leaf, one, two, size, nodes}
use Rattle.esterel.specs.Sets.{start_set}
use Rattle.esterel.specs.Refusal.{Reply, rejects}
use Rattle.esterel.specs.Table.{passed, refused}
use Rattle.esterel.specs.Checks.{verdict}
use Rattle.esterel.specs.Outcome.{statement_at, member}
use Rattle.esterel.specs.Theorems.{Accepted}
use Rattle.analysis.specs.Analysis.{Analysis, done}
use Rattle.question.specs.Question.{member_of, nodes_of, max_code, question}
use Rattle.question.specs.Calls.{question_at, tells, asked_of}
use Rattle.question.specs.declared.Asked.{Asked}

-- "The answer equals the full one"
pub record Answers : Type 0 where
  -- at each node of an accepted program and for each code, it is that of the node's start set
  pub exact : (p : Stmt) → Accepted p → (node k : ℕ) → member_of (question_at p node k) ≡ start_set (statement_at (nodes p) node) k
  -- so it is of any statement, accepted or not, none of whose nodes has a code above 63
  pub low : (i : ℕ) (p : Stmt) → ((j k : ℕ) → start_set (statement_at (nodes p) j) k ≡ true → k ≤ max_code) → (k : ℕ) → member_of (question i p k) ≡ start_set p k

-- no node stands in the list twice
abbrev pub NoneTwice : List ℕ → Type 0
NoneTwice [] = Unit {0}
NoneTwice (n ∷ ns) = (member n ns ≡ false) × NoneTwice ns

-- Two statements, the first node of which is i, that are alike at the nodes in N: in place of one whose own node is not in N there may
-- stand any other of as many nodes.
pub data Alike (N : ℕ → Type 0) : ℕ → Stmt → Stmt → Type 0 where
  leaves : (i : ℕ) (l : Leaf) → Alike N i (leaf l) (leaf l)
  ones : (i : ℕ) (u : Unary) (p q : Stmt) → Alike N i p q → Alike N i (one u p) (one u q)
  twos : (i : ℕ) (b : Binary) (p q r s : Stmt) → Alike N i p q → Alike N (i + size p) r s → Alike N i (two b p r) (two b q s)
  others : (i : ℕ) (p q : Stmt) → size q ≡ size p → (N (i + size p - 1) → ⊥) → Alike N i p q

-- "the count is the nodes looked at": for any statement and any code
pub record Looks : Type 0 where
  -- each is a node of the statement and is looked at once; so at most every node is looked at
  pub beneath : (i : ℕ) (p : Stmt) (k n : ℕ) → member n (nodes_of (question i p k)) ≡ true → (i ≤ n) × (n < i + size p)
  pub once : (i : ℕ) (p : Stmt) (k : ℕ) → NoneTwice (nodes_of (question i p k))
  pub at_most : (i : ℕ) (p : Stmt) (k : ℕ) → length (nodes_of (question i p k)) ≤ size p
  -- "the asked one included", for a code up to 63; above it none
  pub asked : (i : ℕ) (p : Stmt) (k : ℕ) → k ≤ max_code → member (i + size p - 1) (nodes_of (question i p k)) ≡ true
  pub asked_at : (p : Stmt) (node k : ℕ) → node < size p → k ≤ max_code → member node (nodes_of (question_at p node k)) ≡ true
  pub at_least : (i : ℕ) (p : Stmt) (k : ℕ) → k ≤ max_code → 1 ≤ length (nodes_of (question i p k))
  pub above : (i : ℕ) (p : Stmt) (k : ℕ) → max_code < k → nodes_of (question i p k) ≡ []
  -- they suffice: whatever stands in the place of the others, the same nodes are looked at and the answer is the same
  pub suffice : (i : ℕ) (p q : Stmt) (k : ℕ) → Alike (λ n. member n (nodes_of (question i p k)) ≡ true) i p q → question i q k ≡ question i p k

-- a refusal of `ask` is that of the table, whatever is asked, or 21 for a node outside an accepted table, whatever the code is
pub data Refusal (t : List ℕ) (node : ℕ) : (number at : ℕ) → Type 0 where
  of_table : (number at : ℕ) → verdict t ≡ refused number at → (1 ≤ number) × (number ≤ 11) × (at < max_nodes) → Refusal t node number at
  outside : (p : Stmt) → verdict t ≡ passed p → size p ≤ node → Refusal t node 21 0

-- what follows for `ask` from its contract
pub record OfAsk : Type 0 where
  -- a node of an accepted table: the answer is that of its start set, and the count is that of the nodes looked at
  pub known :
      (t : List ℕ) (p : Stmt) (node code : ℕ) (r : Reply Asked) →
      verdict t ≡ passed p → node < size p → r ≡ asked_of (verdict t) node code →
      r ≡ tells (start_set (statement_at (nodes p) node) code) (length (nodes_of (question_at p node code)))
  -- that is at most the size of the node's subtree, at least 1 for a code up to 63, and 0 for one above
  pub counts :
      (t : List ℕ) (p : Stmt) (node code count : ℕ) (answer : Bool) →
      verdict t ≡ passed p → tells answer count ≡ asked_of (verdict t) node code →
      (count ≤ size (statement_at (nodes p) node)) × (code ≤ max_code → 1 ≤ count) × (max_code < code → count ≡ 0)
  -- the answer is the bit that `analyse` leaves, in whatever buffers
  pub as_listed :
      (t k a s m k' a' s' m' : List ℕ) (n d node code count : ℕ) (answer : Bool) →
      Analysis t k a s m k' a' s' m' (done n d) → tells answer count ≡ asked_of (verdict t) node code →
      (node < n) × (answer ≡ (get_or k' node 0 ∋ code))
  pub refusals : (t : List ℕ) (node code number at : ℕ) → rejects number at ≡ asked_of (verdict t) node code → Refusal t node number at
  pub of_table :
      (t : List ℕ) (node code number at : ℕ) (r : Reply Asked) → verdict t ≡ refused number at → r ≡ asked_of (verdict t) node code → r ≡ rejects number at
  pub outside :
      (t : List ℕ) (p : Stmt) (node code : ℕ) (r : Reply Asked) →
      verdict t ≡ passed p → size p ≤ node → r ≡ asked_of (verdict t) node code → r ≡ rejects 21 0
