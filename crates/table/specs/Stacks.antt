-- A walk from the last node to the first has a number of the subtree that comes next at hand, and those of the others that wait on a stack.
use Rattle.std.specs.Prelude.{ℕ, zero, suc, ◌-◌, ◌≡◌, List, get_or, set}

-- from a node with so many children to the node before it: the number at hand is that of the only child or the second, or, past a leaf,
-- the one on top
abbrev pub next_of : (children top last : ℕ) → ℕ
next_of zero top last = top
next_of (suc c) top last = last

-- the number of the first of two children is put on the stack
abbrev pub kept_of : (children : ℕ) → List ℕ → (place first : ℕ) → List ℕ
kept_of zero xs i v = xs
kept_of (suc zero) xs i v = xs
kept_of (suc (suc c)) xs i v = set xs i v

-- with the stack xs and so many that wait, the node among them: v is then at hand, and the stack is xs'
pub record Moves (children waiting first last : ℕ) (xs : List ℕ) (v : ℕ) (xs' : List ℕ) : Type 0 where
  pub hand : v ≡ next_of children (get_or xs (waiting - 1) 0) last
  pub stack : xs' ≡ kept_of children xs waiting first
