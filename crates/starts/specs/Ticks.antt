-- Show me the tick (F-2): of a statement and a code, the lists of answers that lead to the code, and the one of them that is shown.
use Rattle.std.specs.Prelude.{ℕ, suc, ◌+◌, ◌-◌, ◌≤◌, ◌<◌, ◌≡◌, ◌⊎◌, List, [], ◌∷◌, length}
use Rattle.esterel.specs.Statement.{loop, present, sequence, parallel, Stmt, leaf, one, two, size, nodes}
use Rattle.esterel.specs.Table.{passed, read}
use Rattle.esterel.specs.Instant.{Entry, closed, start}
use Rattle.esterel.specs.Outcome.{statement_at}

-- "the rules, run with this list, take all of it and give code" k: p is started; n is the number of its first node
abbrev pub Leads : (n : ℕ) (p : Stmt) (k : ℕ) → List ℕ → Type 0
Leads n p k answers = (trail : List Entry) × (held : List ℕ) × (start n p answers ≡ closed k trail held [])

-- at the first difference the first list has the smaller answer: absent, which is 0. (What follows the difference is not looked at.)
pub data Sooner : List ℕ → List ℕ → Type 0 where
  here : (x y : ℕ) (a b : List ℕ) → x < y → Sooner (x ∷ a) (y ∷ b)
  further : (x : ℕ) {a b : List ℕ} → Sooner a b → Sooner (x ∷ a) (x ∷ b)

-- "the shortest, and among these the one that has absent at the first difference": the shortlex order
abbrev pub Before : List ℕ → List ℕ → Type 0
Before a b = (length a < length b) ⊎ ((length a ≡ length b) × Sooner a b)

-- the list that is shown: it leads to the code, and any other list of which that holds, whatever its numbers are, comes after it
pub record IsShown (n : ℕ) (p : Stmt) (k : ℕ) (answers : List ℕ) : Type 0 where
  pub leads : Leads n p k answers
  pub first : (other : List ℕ) → Leads n p k other → (answers ≡ other) ⊎ Before answers other

-- in the program of a table a loop stands at the node, and this list is shown for the end of its body, which has code 0
pub record ShownAt (bytes : List ℕ) (node : ℕ) (answers : List ℕ) : Type 0 where
  pub program : Stmt
  pub reads : read bytes ≡ passed program
  pub body : Stmt
  pub is_loop : statement_at (nodes program) node ≡ one loop body
  pub shown : IsShown (node - size body) body 0 answers

-- check 3 of a call that shows a tick: so many bytes for the answers, which is more than any list has
abbrev pub tick_answers : ℕ
tick_answers = 512

-- "0 or 1 for each answer"
abbrev pub Bits : List ℕ → Type 0
Bits [] = Unit {0}
Bits (x ∷ xs) = (x ≤ 1) × Bits xs

-- the number of presents in a statement, its own included
abbrev pub presents : Stmt → ℕ
presents (leaf l) = 0
presents (one u p) = presents p
presents (two (present s) p q) = suc (presents p + presents q)
presents (two sequence p q) = presents p + presents q
presents (two parallel p q) = presents p + presents q
