-- Statements of pure Esterel (document 01, "The table"), by their number of children.
use Rattle.std.specs.Prelude.{ℕ, suc, ◌+◌, max, List, [], ◌∷◌, ◌++◌}

pub data Leaf : Type 0 where
  nothing : Leaf
  pause : Leaf
  emit : (s : ℕ) → Leaf
  exit : (level : ℕ) → Leaf

pub data Unary : Type 0 where
  signal : (s : ℕ) → Unary
  suspend : (s : ℕ) → Unary
  loop : Unary
  trap : Unary

pub data Binary : Type 0 where
  present : (s : ℕ) → Binary  -- then, else
  sequence : Binary  -- first, second
  parallel : Binary  -- left, right

pub data Stmt : Type 0 where
  leaf : (l : Leaf) → Stmt
  one : (u : Unary) (p : Stmt) → Stmt
  two : (b : Binary) (p q : Stmt) → Stmt

-- the two bytes of a node
abbrev pub kind : Stmt → ℕ
kind (leaf nothing) = 1
kind (leaf pause) = 2
kind (leaf (emit s)) = 3
kind (leaf (exit level)) = 4
kind (one (signal s) p) = 5
kind (two (present s) p q) = 6
kind (one (suspend s) p) = 7
kind (one loop p) = 8
kind (two sequence p q) = 9
kind (two parallel p q) = 10
kind (one trap p) = 11

abbrev pub field : Stmt → ℕ
field (leaf nothing) = 0
field (leaf pause) = 0
field (leaf (emit s)) = s
field (leaf (exit level)) = level
field (one (signal s) p) = s
field (two (present s) p q) = s
field (one (suspend s) p) = s
field (one loop p) = 0
field (two sequence p q) = 0
field (two parallel p q) = 0
field (one trap p) = 0

-- the number of nodes
abbrev pub size : Stmt → ℕ
size (leaf l) = 1
size (one u p) = suc (size p)
size (two b p q) = suc (size p + size q)

-- the statement at each node in postorder, children before parents: a node's number is its place here, and the last is p itself
abbrev pub nodes : Stmt → List Stmt
nodes (leaf l) = leaf l ∷ []
nodes (one u p) = nodes p ++ (one u p ∷ [])
nodes (two b p q) = nodes p ++ nodes q ++ (two b p q ∷ [])

-- the loops, and the traps, around the child of a statement around which n stand
abbrev pub loops_under : Unary → ℕ → ℕ
loops_under (signal s) n = n
loops_under (suspend s) n = n
loops_under loop n = suc n
loops_under trap n = n

abbrev pub traps_under : Unary → ℕ → ℕ
traps_under (signal s) n = n
traps_under (suspend s) n = n
traps_under loop n = n
traps_under trap n = suc n

-- the greatest number of loops around any node, the node itself included
abbrev pub loop_depth : Stmt → ℕ
loop_depth (leaf l) = 0
loop_depth (one u p) = loops_under u (loop_depth p)
loop_depth (two b p q) = max (loop_depth p) (loop_depth q)

-- the number of loops strictly around each node in postorder, where n stand around p
abbrev pub loops_around : ℕ → Stmt → List ℕ
loops_around n (leaf l) = n ∷ []
loops_around n (one u p) = loops_around (loops_under u n) p ++ (n ∷ [])
loops_around n (two b p q) = loops_around n p ++ loops_around n q ++ (n ∷ [])
