-- Start sets by trial (document 02, F-13): a statement is started with every list of answers, and the codes are gathered.
use Rattle.std.specs.Prelude.{ℕ, List, [], ◌∷◌}
use Rattle.esterel.specs.Codes.{Codes, empty, only, union}
use Rattle.esterel.specs.Statement.{Stmt}
use Rattle.esterel.specs.Instant.{Result, closed, starved, stuck, start}
use Rattle.trial.specs.Lists.{lists}

-- the code that a run finishes with, if it does
abbrev pub completion : Result → Codes
completion (closed k trail held rest) = only k
completion starved = empty
completion stuck = empty

-- the codes of the runs over some lists of answers
unfoldable pub gathered : (List ℕ → Result) → List (List ℕ) → Codes
gathered run [] = empty
gathered run (l ∷ ls) = union (completion (run l)) (gathered run ls)

-- p, whose first node is n, started with every list of m answers of 0 or 1
unfoldable pub tried : (m n : ℕ) → Stmt → Codes
tried m n p = gathered (start n p) (lists m)

-- the answers of each list, and the most presents of a node that is tried (check 22)
abbrev pub trial_answers : ℕ
trial_answers = 12
