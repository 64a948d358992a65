-- What `ask` answers (F-12).
use Rattle.std.specs.Prelude.{ℕ, suc, ◌-◌, Bool, cond, ltb, length}
use Rattle.esterel.specs.Statement.{Stmt, size, nodes}
use Rattle.esterel.specs.Refusal.{Reply, yields, rejects}
use Rattle.esterel.specs.Table.{Verdict, passed, refused}
use Rattle.esterel.specs.Outcome.{statement_at}
use Rattle.question.specs.Question.{Found, member_of, nodes_of, question}
use Rattle.question.specs.declared.Asked.{Asked}

-- the question at a node of a program
abbrev pub question_at : Stmt → (node code : ℕ) → Found
question_at p node code = question (suc node - size (statement_at (nodes p) node)) (statement_at (nodes p) node) code

-- the count is that of the nodes looked at
abbrev pub told : (answer : Bool) (count : ℕ) → Asked
told answer count = record { answer = answer; count = count }

abbrev pub told_of : Found → Asked
told_of x = told (member_of x) (length (nodes_of x))

abbrev pub tells : (answer : Bool) (count : ℕ) → Reply Asked
tells answer count = yields (told answer count)

-- the first refusal of checks 1, 2 and 4 to 11, then 21 for a node outside the table, then the answer at that node
unfoldable pub asked_of : Verdict → (node code : ℕ) → Reply Asked
asked_of (refused number at) node code = rejects number at
asked_of (passed p) node code = cond (ltb node (size p)) (yields (told_of (question_at p node code))) (rejects 21 0)
