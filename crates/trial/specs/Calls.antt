-- What `trial` answers (F-13).
use Rattle.std.specs.Prelude.{ℕ, suc, ◌-◌, cond, leb, ltb}
use Rattle.codes.specs.Codes.{word}
use Rattle.esterel.specs.Statement.{Stmt, size, nodes}
use Rattle.esterel.specs.Refusal.{Reply, yields, rejects}
use Rattle.esterel.specs.Table.{Verdict, passed, refused}
use Rattle.esterel.specs.Outcome.{statement_at}
use Rattle.starts.specs.Ticks.{presents}
use Rattle.trial.specs.Trials.{tried, trial_answers}
use Rattle.trial.specs.declared.Tried.{Tried}

abbrev pub tells : (set count : ℕ) → Reply Tried
tells set count = yields (record { set = set; presents = count })

-- the statement q, whose first node is n: the codes that its starts give, and its presents
abbrev pub gathered_of : (n : ℕ) → Stmt → Reply Tried
gathered_of n q = tells (word (tried trial_answers n q)) (presents q)

-- 22 for more than 12 presents
abbrev pub trial_of : (n : ℕ) → Stmt → Reply Tried
trial_of n q = cond (leb (presents q) trial_answers) (gathered_of n q) (rejects 22 0)

-- at a node of a program
abbrev pub trial_at : Stmt → (node : ℕ) → Reply Tried
trial_at p node = trial_of (suc node - size (statement_at (nodes p) node)) (statement_at (nodes p) node)

-- the first refusal of checks 1, 2 and 4 to 11, then 21 for a node outside the table, then what comes of that node
unfoldable pub tried_of : Verdict → (node : ℕ) → Reply Tried
tried_of (refused number at) node = rejects number at
tried_of (passed p) node = cond (ltb node (size p)) (trial_at p node) (rejects 21 0)
