-- What is proved of the definitions: the statements alone. The proofs are in proofs/.
use Rattle.std.specs.Prelude.{◌≡◌, ◌↔◌, true, List, [], ◌∷◌, ◌++◌, map, ℕ, suc, ◌+◌, ◌-◌, ◌*◌, ◌≤◌, ◌<◌, length, get_or, take, drop}
use Rattle.std.proofs.Math.Option.{none}
use Rattle.esterel.specs.Limits.{max_nodes}
use Rattle.esterel.specs.Statement.{Unary, loop, Binary, sequence, parallel, Stmt, one, two, kind, field, size, nodes, loops_around}
use Rattle.esterel.specs.Codes.{Codes, meets, word, AtMost, Represents}
use Rattle.esterel.specs.Sets.{start_set, any_instant_set, Place, traps_of, context_of, stmt_of, places_of, place_at}
use Rattle.esterel.specs.Table.{Node, takes1, takes2, node_of, passed, refused, read, postfix}
use Rattle.esterel.specs.Checks.{too_deep, too_many_traps, uncaught, first_node, check_places, verdict, planned}
use Rattle.esterel.specs.Instant.{Mode, Entry, entry, Result, closed, starved, stuck, zeros, start, resume, admitted}
use Rattle.esterel.specs.Outcome.{statement_at, taken, all_in, all_go_on}
use Rattle.esterel.specs.Reentry.{Reached, Happens, mark_at, Twice, InWords, Reentered, Holding, Started, StartedUnentered, SuspendDropped, DroppedUnentered}

-- Reading. A table that is read is the bytes of its program; the bytes of a program of at most 1,024 nodes are read as it.
pub record Reading : Type 0 where
  pub reads_only : (bytes : List ℕ) (p : Stmt) → read bytes ≡ passed p → bytes ≡ postfix p
  pub reads_back : (p : Stmt) → size p ≤ max_nodes → read (postfix p) ≡ passed p

-- The subtree at node i is one piece of the postorder that ends at i. So the second of two children ends right before its parent,
-- and the first right before the second's first node.
pub record Subtrees : Type 0 where
  pub piece :
      (p : Stmt) (i : ℕ) →
      i < size p →
      (pre post : List Stmt) × (nodes p ≡ pre ++ (nodes (statement_at (nodes p) i) ++ post)) × (length pre + size (statement_at (nodes p) i) ≡ suc i)
  pub only_child : (p : Stmt) (i : ℕ) (u : Unary) (q : Stmt) → statement_at (nodes p) i ≡ one u q → (size q ≤ i) × (statement_at (nodes p) (i - 1) ≡ q)
  pub two_children :
      (p : Stmt) (i : ℕ) (b : Binary) (q r : Stmt) →
      statement_at (nodes p) i ≡ two b q r →
      (size q + size r ≤ i) × (statement_at (nodes p) (i - 1) ≡ r) × (statement_at (nodes p) (i - 1 - size r) ≡ q)
  -- the two bytes of node i
  pub kind_at : (p : Stmt) (i : ℕ) → i < size p → get_or (postfix p) (2 * i) 0 ≡ kind (statement_at (nodes p) i)
  pub field_at : (p : Stmt) (i : ℕ) → i < size p → get_or (postfix p) (2 * i + 1) 0 ≡ field (statement_at (nodes p) i)
  -- and its place has its statement
  pub placed : (p : Stmt) (i : ℕ) → stmt_of (place_at p i) ≡ statement_at (nodes p) i

-- The same of the bytes (F-3). In a table that reads to p, the statement q stands at node i: its nodes are those from `from` to i, and the
-- bytes of these nodes are its own.
pub record Stands (bytes : List ℕ) (p : Stmt) (from i : ℕ) (q : Stmt) : Type 0 where
  pub within : i < size p
  pub is : statement_at (nodes p) i ≡ q
  pub spans : from + size q ≡ suc i
  pub reads : take (2 * size q) (drop (2 * from) bytes) ≡ postfix q

-- what the two bytes of node i say
abbrev pub node_at : List ℕ → ℕ → Node
node_at bytes i = node_of (get_or bytes (2 * i) 0) (get_or bytes (2 * i + 1) 0)

pub record Children : Type 0 where
  -- at every node a statement stands
  pub stands : (bytes : List ℕ) (p : Stmt) → read bytes ≡ passed p → (i : ℕ) → i < size p → (from : ℕ) × (q : Stmt) × Stands bytes p from i q
  -- where the bytes take one statement (kinds 5, 7, 8 and 11), the child is the node before its parent
  pub single :
      (bytes : List ℕ) (p : Stmt) → read bytes ≡ passed p → (i : ℕ) → i < size p → (u : Unary) → node_at bytes i ≡ takes1 u →
      (from j : ℕ) × (q : Stmt) × (i ≡ suc j) × Stands bytes p from i (one u q) × Stands bytes p from j q
  -- where they take two (6, 9 and 10), the second child is the node j before its parent, and the first is the node m before the second's
  -- first node
  pub pair :
      (bytes : List ℕ) (p : Stmt) → read bytes ≡ passed p → (i : ℕ) → i < size p → (b : Binary) → node_at bytes i ≡ takes2 b →
      (from m j : ℕ) × (q r : Stmt) × (i ≡ suc j) × Stands bytes p from i (two b q r) × Stands bytes p (suc m) j r × Stands bytes p from m q

-- Demand 2, exactness: a code is in K of a statement exactly if some answers make the started statement finish with it.
abbrev pub Finishes : (List ℕ → Result) → ℕ → Type 0
Finishes run k = (answers : List ℕ) × (trail : List Entry) × (held rest : List ℕ) × (run answers ≡ closed k trail held rest)

abbrev pub Exactness : Type 0
Exactness = (p : Stmt) (first k : ℕ) → (start_set p k ≡ true) ↔ Finishes (start first p) k

-- Demand 2, refusal for a loop. The table of p passes checks 1, 2 and 4 to 10
pub record WellFormed (bytes : List ℕ) (p : Stmt) : Type 0 where
  pub reads : read bytes ≡ passed p
  pub depths : first_node too_deep (places_of p) 0 ≡ none
  pub traps : first_node too_many_traps (places_of p) 0 ≡ none
  pub exits : first_node uncaught (places_of p) 0 ≡ none

-- what is asked of a loop's body, whose first node is given too: it has code 0 in K; or some answers make it, started, finish with 0
abbrev pub EndedInK : ℕ → Stmt → Type 0
EndedInK first q = start_set q 0 ≡ true

abbrev pub EndsAtOnce : ℕ → Stmt → Type 0
EndsAtOnce first q = Finishes (start first q) 0

-- node i is the lowest of p's loops whose body is such
pub record LowestLoop (p : Stmt) (Such : ℕ → Stmt → Type 0) (i : ℕ) : Type 0 where
  pub body : Stmt
  pub is_loop : statement_at (nodes p) i ≡ one loop body
  pub such : Such (i - size body) body
  pub lowest : (j : ℕ) (q : Stmt) → j < i → statement_at (nodes p) j ≡ one loop q → Such (j - size q) q → ⊥

-- p has no loop whose body is such
abbrev pub NoLoop : (p : Stmt) → (ℕ → Stmt → Type 0) → Type 0
NoLoop p Such = (j : ℕ) (q : Stmt) → statement_at (nodes p) j ≡ one loop q → Such (j - size q) q → ⊥

-- such a table is refused, at the lowest such loop, exactly if a body has 0 in K, hence exactly if a body can end at once; else it is
-- accepted. No other table is refused by check 11.
pub record LoopCheck : Type 0 where
  pub refuses : (bytes : List ℕ) (p : Stmt) → WellFormed bytes p → (i : ℕ) → (verdict bytes ≡ refused 11 i) ↔ LowestLoop p EndedInK i
  pub refuses_exactly : (bytes : List ℕ) (p : Stmt) → WellFormed bytes p → (i : ℕ) → (verdict bytes ≡ refused 11 i) ↔ LowestLoop p EndsAtOnce i
  pub accepts : (bytes : List ℕ) (p : Stmt) → WellFormed bytes p → (verdict bytes ≡ passed p) ↔ NoLoop p EndedInK
  pub accepts_exactly : (bytes : List ℕ) (p : Stmt) → WellFormed bytes p → (verdict bytes ≡ passed p) ↔ NoLoop p EndsAtOnce
  pub well_formed : (bytes : List ℕ) (i : ℕ) → verdict bytes ≡ refused 11 i → (p : Stmt) × WellFormed bytes p

-- A refusal of a table has a number from 1 to 11 and a node that a table can have.
abbrev pub Refusals : Type 0
Refusals = (bytes : List ℕ) (number node : ℕ) → verdict bytes ≡ refused number node → (1 ≤ number) × (number ≤ 11) × (node < max_nodes)

-- Answers left over are not looked at: the taken ones alone decide, whatever follows them.
abbrev pub Decides : (List ℕ → Result) → Type 0
Decides run =
    (answers : List ℕ) (k : ℕ) (trail : List Entry) (held rest : List ℕ) →
    run answers ≡ closed k trail held rest →
    (used : List ℕ) × (answers ≡ used ++ rest) × ((other : List ℕ) → run (used ++ other) ≡ closed k trail held other)

pub record LeftOver : Type 0 where
  pub starts : (p : Stmt) (first : ℕ) → Decides (start first p)
  pub resumes : (p : Stmt) (first : ℕ) (held : List ℕ) → Decides (resume first p held)

-- Demand 3. A program passes checks 8 to 11
abbrev pub Accepted : Stmt → Type 0
Accepted p = check_places (places_of p) (passed p) ≡ passed p

-- and so does every program that a table's verdict accepts, and the table is its bytes
abbrev pub Acceptance : Type 0
Acceptance = (bytes : List ℕ) (p : Stmt) → verdict bytes ≡ passed p → (bytes ≡ postfix p) × Accepted p

abbrev pub total : List ℕ → ℕ
total [] = 0
total (n ∷ ns) = n + total ns

-- the sum over the nodes of 1 + the loops around each
abbrev pub entry_bound : Stmt → ℕ
entry_bound p = total (map suc (loops_around 0 p))

-- a closed instant of p over the answers
pub record Closed (p : Stmt) (answers : List ℕ) (k : ℕ) (trail : List Entry) (held rest : List ℕ) : Type 0 where
  pub code : k ≤ 1
  pub ended : k ≡ 0 → held ≡ zeros (size p)
  pub paused : k ≡ 1 → admitted p held ≡ true
  -- each started node's code is in its K, and no started child of a loop has code 0
  pub in_k : all_in (nodes p) trail ≡ true
  pub bodies : all_go_on (nodes p) trail ≡ true
  pub entries : length trail ≤ planned p
  pub fewer_entries : length trail ≤ entry_bound p
  -- the answers taken are as many as the trail asks for, and with those left they are those lent
  pub used : List ℕ
  pub lent : answers ≡ used ++ rest
  pub counted : length used ≡ taken (nodes p) trail

-- an instant of p over the answers: it closes, or is starved with fewer than n(1 + d) of them, and is never without a rule
abbrev pub Closes : Stmt → List ℕ → Result → Type 0
Closes p answers (closed k trail held rest) = Closed p answers k trail held rest
Closes p answers starved = length answers < planned p
Closes p answers stuck = ⊥

pub record Demand3 : Type 0 where
  pub starts : (p : Stmt) → Accepted p → (answers : List ℕ) → Closes p answers (start 0 p answers)
  pub resumes : (p : Stmt) → Accepted p → (held answers : List ℕ) → admitted p held ≡ true → Closes p answers (resume 0 p held answers)
  -- a start enters each node at most once
  pub start_entries :
      (p : Stmt) (answers : List ℕ) (k : ℕ) (trail : List Entry) (held rest : List ℕ) →
      start 0 p answers ≡ closed k trail held rest → length trail ≤ size p

-- Check 13: an instant of an accepted program is starved exactly if the rules need an answer after the last lent one is taken, that
-- is, with some more answers it closes and takes more than those lent.
abbrev pub NeedsMore : Stmt → (List ℕ → Result) → List ℕ → Type 0
NeedsMore p run answers =
    (more : List ℕ) × (k : ℕ) × (trail : List Entry) × (held rest : List ℕ) ×
    (run (answers ++ more) ≡ closed k trail held rest) × (length answers < taken (nodes p) trail)

pub record Starving : Type 0 where
  pub starts : (p : Stmt) → Accepted p → (answers : List ℕ) → (start 0 p answers ≡ starved) ↔ NeedsMore p (start 0 p) answers
  pub resumes :
      (p : Stmt) → Accepted p → (held answers : List ℕ) → admitted p held ≡ true →
      (resume 0 p held answers ≡ starved) ↔ NeedsMore p (resume 0 p held) answers

-- F-7. No code in K, A or S of a node is above 1 + the traps around it, and that is at most 63: so the 64-bit number of each set represents
-- it, and loses no code
pub record NoneLost (x : Place) : Type 0 where
  pub fits : 1 + traps_of x ≤ 63
  pub low_k : AtMost (1 + traps_of x) (start_set (stmt_of x))
  pub low_a : AtMost (1 + traps_of x) (any_instant_set (stmt_of x))
  pub low_s : AtMost (1 + traps_of x) (context_of x)
  pub word_k : Represents (word (start_set (stmt_of x))) (start_set (stmt_of x))
  pub word_a : Represents (word (any_instant_set (stmt_of x))) (any_instant_set (stmt_of x))
  pub word_s : Represents (word (context_of x)) (context_of x)
  -- nor does a test whether a set meets S overlook one
  pub meets_s : (a : Codes) → (meets a (context_of x) ≡ true) ↔ ((k : ℕ) × (a k ≡ true) × (context_of x k ≡ true))

abbrev pub LowCodes : Type 0
LowCodes = (p : Stmt) → Accepted p → (i : ℕ) → i < size p → NoneLost (place_at p i)

-- F-6. The invariant of reached states: where a statement holds a pause, 1 is in its A; the second of a sequence holds only if 0 is in the
-- first's A; where one child of a parallel holds and the other does not, 0 is in the other's A; a sequence or present holds in one child only.
-- The children of node i are i − 1 − size r and i − 1.
pub record Invariant (p : Stmt) (held : List ℕ) : Type 0 where
  pub paused : (i : ℕ) → Holding p held i → any_instant_set (statement_at (nodes p) i) 1 ≡ true
  pub second : (i : ℕ) (q r : Stmt) → statement_at (nodes p) i ≡ two sequence q r → Holding p held (i - 1) → any_instant_set q 0 ≡ true
  pub left_alone :
      (i : ℕ) (q r : Stmt) → statement_at (nodes p) i ≡ two parallel q r →
      Holding p held (i - 1 - size r) → (Holding p held (i - 1) → ⊥) → any_instant_set r 0 ≡ true
  pub right_alone :
      (i : ℕ) (q r : Stmt) → statement_at (nodes p) i ≡ two parallel q r →
      (Holding p held (i - 1 - size r) → ⊥) → Holding p held (i - 1) → any_instant_set q 0 ≡ true
  pub one_child :
      (i : ℕ) (b : Binary) (q r : Stmt) → statement_at (nodes p) i ≡ two b q r →
      Holding p held (i - 1 - size r) → Holding p held (i - 1) → b ≡ parallel

-- The runs of an accepted program. A reached state is admitted and has the invariant, which goes over from any admitted state that has it to
-- the next; and every code of an instant is in A of its node, that of a resumed statement too. (Of a state that is merely admitted this is
-- false: `Idler`.)
pub record Runs : Type 0 where
  pub admits : (p : Stmt) → Accepted p → (held : List ℕ) → Reached p held → admitted p held ≡ true
  pub keeps : (p : Stmt) → Accepted p → (held : List ℕ) → Reached p held → Invariant p held
  pub carries :
      (p : Stmt) → Accepted p → (held answers : List ℕ) → admitted p held ≡ true → Invariant p held →
      (trail : List Entry) (left rest : List ℕ) → resume 0 p held answers ≡ closed 1 trail left rest → Invariant p left
  pub in_a :
      (p : Stmt) → Accepted p → (held : List ℕ) (trail : List Entry) → Happens p held trail →
      (before : List Entry) (n : ℕ) (mode : Mode) (k : ℕ) (after : List Entry) →
      trail ≡ before ++ (entry n mode k ∷ after) → any_instant_set (statement_at (nodes p) n) k ≡ true

-- In every instant of a run of an accepted program: a node that stands at two places of the trail has mark 1. Whatever the two places, it is as
-- in the request's words, so these are the nodes of the request.
pub record NoUnmarkedReentry : Type 0 where
  pub marked : (p : Stmt) → Accepted p → (held : List ℕ) (trail : List Entry) → Happens p held trail → (n : ℕ) → Twice trail n → mark_at p n ≡ 1
  pub in_words :
      (p : Stmt) → Accepted p → (held : List ℕ) (trail : List Entry) → Happens p held trail → (n : ℕ) (places : Twice trail n) → InWords p trail n places
  pub same : (p : Stmt) → Accepted p → (held : List ℕ) (trail : List Entry) → Happens p held trail → (n : ℕ) → Twice trail n ↔ Reentered p trail n
  -- the further form: a node that holds a pause when the instant begins and is started in it has mark 1, and where it is not entered before,
  -- it is as in these words
  pub held_marked :
      (p : Stmt) → Accepted p → (held : List ℕ) (trail : List Entry) → Happens p held trail → (n : ℕ) →
      Holding p held n → Started n trail → mark_at p n ≡ 1
  pub held_in_words :
      (p : Stmt) → Accepted p → (held : List ℕ) (trail : List Entry) → Happens p held trail → (n : ℕ) (o : StartedUnentered p held trail n) →
      SuspendDropped p n o.begins.before
  pub held_same :
      (p : Stmt) → Accepted p → (held : List ℕ) (trail : List Entry) → Happens p held trail → (n : ℕ) →
      StartedUnentered p held trail n ↔ DroppedUnentered p held trail n
  -- a start, of any program, enters no node twice
  pub starts_once :
      (p : Stmt) (answers : List ℕ) (k : ℕ) (trail : List Entry) (held rest : List ℕ) →
      start 0 p answers ≡ closed k trail held rest → (n : ℕ) → Twice trail n → ⊥
