-- What an instant hands back (document 01, "One instant"): the entries, the answers taken and the emissions are read off its trail.
use Rattle.std.specs.Prelude.{ℕ, zero, suc, ◌+◌, Bool, true, false, not, ◌&&◌, ◌||◌, List, [], ◌∷◌, ◌++◌, length, get_or, eqb}
use Rattle.esterel.specs.Limits.{signals}
use Rattle.esterel.specs.Statement.{nothing, pause, emit, exit, Stmt, leaf, one, two, kind, nodes}
use Rattle.esterel.specs.Codes.{bit}
use Rattle.esterel.specs.Sets.{start_set}
use Rattle.esterel.specs.Instant.{started, resumed, Entry, entry, Result, closed, starved, stuck}

-- ps are the nodes of the program
abbrev pub statement_at : List Stmt → ℕ → Stmt
statement_at ps n = get_or ps n (leaf nothing)

-- a started present and a resumed suspend take one answer each
abbrev pub asks : List Stmt → Entry → ℕ
asks ps (entry n started k) = bit (eqb (kind (statement_at ps n)) 6)
asks ps (entry n resumed k) = bit (eqb (kind (statement_at ps n)) 7)

abbrev pub taken : List Stmt → List Entry → ℕ
taken ps [] = 0
taken ps (e ∷ es) = asks ps e + taken ps es

-- the signals whose emits were entered
abbrev pub emission : Stmt → List ℕ
emission (leaf nothing) = []
emission (leaf pause) = []
emission (leaf (emit s)) = s ∷ []
emission (leaf (exit level)) = []
emission (one u p) = []
emission (two b p q) = []

abbrev pub emitted : List Stmt → List Entry → List ℕ
emitted ps [] = []
emitted ps (entry n mode k ∷ es) = emission (statement_at ps n) ++ emitted ps es

abbrev pub member : ℕ → List ℕ → Bool
member s [] = false
member s (x ∷ xs) = eqb x s || member s xs

-- n bytes of the emission buffer, from byte s on: 1 if an emit of s was entered, else 0
abbrev pub emission_bytes : List ℕ → ℕ → ℕ → List ℕ
emission_bytes xs s zero = []
emission_bytes xs s (suc n) = bit (member s xs) ∷ emission_bytes xs (suc s) n

-- what an instant hands back
pub data Outcome : Type 0 where
  done : (code taken entries : ℕ) (state emissions : List ℕ) → Outcome
  needs_answer : Outcome  -- refused, 13
  no_rule : Outcome

abbrev pub outcome : Stmt → Result → Outcome
outcome p (closed k t h r) = done k (taken (nodes p) t) (length t) h (emission_bytes (emitted (nodes p) t) 0 signals)
outcome p starved = needs_answer
outcome p stuck = no_rule

-- Demand 3, read on the trail: the code of each started node is in that node's K
abbrev pub started_in : List Stmt → Entry → Bool
started_in ps (entry n started k) = start_set (statement_at ps n) k
started_in ps (entry n resumed k) = true

abbrev pub all_in : List Stmt → List Entry → Bool
all_in ps [] = true
all_in ps (e ∷ es) = started_in ps e && all_in ps es

-- and no started child of a loop has code 0: the child of a loop stands right before it
abbrev pub goes_on : List Stmt → Entry → Bool
goes_on ps (entry n started k) = not (eqb (kind (statement_at ps (suc n))) 8 && eqb k 0)
goes_on ps (entry n resumed k) = true

abbrev pub all_go_on : List Stmt → List Entry → Bool
all_go_on ps [] = true
all_go_on ps (e ∷ es) = goes_on ps e && all_go_on ps es
