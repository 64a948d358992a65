-- One question, few nodes (document 02, F-12): whether a code is in a statement's start set, and the nodes that are looked at to tell.
use Rattle.std.specs.Prelude.{ℕ, zero, suc, ◌+◌, Bool, true, false, not, ◌&&◌, cond, List, [], ◌∷◌, ◌++◌, ltb}
use Rattle.esterel.specs.Codes.{Codes, without_ended}
use Rattle.esterel.specs.Statement.{signal, suspend, loop, trap, present, sequence, parallel, Stmt, leaf, one, two, size}
use Rattle.esterel.specs.Sets.{start_set}

-- whether the code is in the set, and the nodes looked at
pub data Found : Type 0 where
  found : (member : Bool) (nodes : List ℕ) → Found

abbrev pub member_of : Found → Bool
member_of (found member nodes) = member

abbrev pub nodes_of : Found → List ℕ
nodes_of (found member nodes) = nodes

-- the node that is asked is looked at itself
abbrev pub asking : (node : ℕ) → Found → Found
asking node (found member nodes) = found member (node ∷ nodes)

-- these nodes are looked at first
abbrev pub after : List ℕ → Found → Found
after before (found member nodes) = found member (before ++ nodes)

-- a present: the else branch is asked only if the then branch lacks the code
abbrev pub or_else : Found → Found → Found
or_else (found true nodes) other = found true nodes
or_else (found false nodes) other = after nodes other

-- a sequence whose first has the codes a: the second is asked only if the first has 0 and, for a code above 0, lacks the code
abbrev pub asks_second : Codes → ℕ → Bool
asks_second a zero = a 0
asks_second a (suc k) = a 0 && not (a (suc k))

-- if it is not, a code above 0 is in the sequence's set if the first has it
abbrev pub and_then : Codes → ℕ → Found → Found
and_then a k second = cond (asks_second a k) second (found (without_ended a k) [])

-- the greatest code that a set can have; a code above it is in no set, and no node is looked at
abbrev pub max_code : ℕ
max_code = 63

abbrev pub limited : ℕ → Found → Found
limited k x = cond (ltb max_code k) (found false []) x

-- n nodes from i on
abbrev pub range : (i n : ℕ) → List ℕ
range i zero = []
range i (suc n) = i ∷ range (suc i) n

-- every node of the statement is looked at
abbrev pub whole : (first : ℕ) → Stmt → ℕ → Found
whole i p k = found (start_set p k) (range i (size p))

-- The statement whose first node is i, asked for a code up to 63. Its own node is its last.
abbrev pub look : (first : ℕ) → Stmt → (code : ℕ) → Found
-- signal, suspend and loop pass the question to the child, and so does a trap for a code above 0: 1 as 1, k from 2 as k + 1
look i (one (signal s) p) k = asking (i + size p) (look i p k)
look i (one (suspend s) p) k = asking (i + size p) (look i p k)
look i (one loop p) (suc k) = asking (i + size p) (look i p (suc k))
look i (one trap p) (suc zero) = asking (i + size p) (look i p 1)
look i (one trap p) (suc (suc k)) = asking (i + size p) (limited (suc (suc (suc k))) (look i p (suc (suc (suc k)))))
-- a loop asked for 0 looks no further
look i (one loop p) zero = asking (i + size p) (found false [])
look i (two (present s) p q) k = asking (i + (size p + size q)) (or_else (look i p k) (look (i + size p) q k))
-- a sequence has every node of its first child looked at
look i (two sequence p q) k = asking (i + (size p + size q)) (after (range i (size p)) (and_then (start_set p) k (look (i + size p) q k)))
-- under a parallel, and under a trap asked for 0, every node is looked at; a statement without children has only its own
look i (two parallel p q) k = whole i (two parallel p q) k
look i (one trap p) zero = whole i (one trap p) 0
look i (leaf l) k = whole i (leaf l) k

-- and for any code
abbrev pub question : (first : ℕ) → Stmt → (code : ℕ) → Found
question i p k = limited k (look i p k)
