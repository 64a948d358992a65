-- Reading a table (document 01, "The table" and checks 1, 2 and 4 to 7).
use Rattle.std.specs.Prelude.{ℕ, zero, suc, ◌*◌, ◌%◌, ◌||◌, cond, List, [], ◌∷◌, length, get_or, eqb, ltb}
use Rattle.esterel.specs.Limits.{max_nodes}
use Rattle.esterel.specs.Statement.{Leaf, nothing, pause, emit, exit, Unary, signal, suspend, loop, trap, Binary, present, sequence, parallel, Stmt, leaf, one, two, kind, field, nodes}

-- what a node's two bytes say: how many statements it takes as its children, or the check that it fails
pub data Node : Type 0 where
  takes0 : (l : Leaf) → Node
  takes1 : (u : Unary) → Node
  takes2 : (b : Binary) → Node
  faulty : (number : ℕ) → Node

-- check 4: the kind is unknown, whatever the field
abbrev pub unknown : ℕ → Node
unknown f = faulty 4

-- check 5: the field must be 0
abbrev pub plain : Node → ℕ → Node
plain node zero = node
plain node (suc f) = faulty 5

-- the kinds from 0 on, each over its field
abbrev pub kinds : List (ℕ → Node)
kinds =
    unknown ∷
    plain (takes0 nothing) ∷  -- 1
    plain (takes0 pause) ∷  -- 2
    (λ s. takes0 (emit s)) ∷  -- 3
    (λ level. takes0 (exit level)) ∷  -- 4
    (λ s. takes1 (signal s)) ∷  -- 5
    (λ s. takes2 (present s)) ∷  -- 6
    (λ s. takes1 (suspend s)) ∷  -- 7
    plain (takes1 loop) ∷  -- 8
    plain (takes2 sequence) ∷  -- 9
    plain (takes2 parallel) ∷  -- 10
    plain (takes1 trap) ∷  -- 11
    []

abbrev pub node_of : (kind field : ℕ) → Node
node_of k f = get_or kinds k unknown f

-- what a node makes of the statements not used so far, the last one first; check 6: they are fewer than it takes
pub data Step : Type 0 where
  go_on : (stack : List Stmt) → Step
  fault : (number : ℕ) → Step

abbrev pub push : Node → List Stmt → Step
push (faulty number) stack = fault number
push (takes0 l) stack = go_on (leaf l ∷ stack)
push (takes1 u) [] = fault 6
push (takes1 u) (p ∷ stack) = go_on (one u p ∷ stack)
push (takes2 b) [] = fault 6
push (takes2 b) (q ∷ []) = fault 6
push (takes2 b) (q ∷ (p ∷ stack)) = go_on (two b p q ∷ stack)

-- what checks come to: the program, or the number of the first failed check and a node
pub data Verdict : Type 0 where
  passed : (p : Stmt) → Verdict
  refused : (number node : ℕ) → Verdict

abbrev pub step : Step → ℕ → (List Stmt → Verdict) → Verdict
step (fault number) n next = refused number n
step (go_on stack) n next = next stack

-- node by node, from the node n on; check 7: more than one statement is left at the end
abbrev pub scan : List ℕ → ℕ → List Stmt → Verdict
scan [] n [] = refused 2 0
scan [] n (p ∷ []) = passed p
scan [] n (p ∷ (q ∷ stack)) = refused 7 0
scan (k ∷ []) n stack = refused 2 0
scan (k ∷ (f ∷ bytes)) n stack = step (push (node_of k f) stack) n (λ s. scan bytes (suc n) s)

-- checks 1 and 2, before those of `next`: more than 1,024 nodes; empty or of odd length
abbrev pub check_length : List ℕ → Verdict → Verdict
check_length bytes next =
    cond (ltb (2 * max_nodes) (length bytes)) (refused 1 0)
    (cond (eqb (length bytes) 0 || eqb (length bytes % 2) 1) (refused 2 0) next)

abbrev pub read : List ℕ → Verdict
read bytes = check_length bytes (scan bytes 0 [])

-- the bytes of a statement: kind and field of each node, children before parents
abbrev pub bytes_of : List Stmt → List ℕ
bytes_of [] = []
bytes_of (p ∷ ps) = kind p ∷ field p ∷ bytes_of ps

abbrev pub postfix : Stmt → List ℕ
postfix p = bytes_of (nodes p)
