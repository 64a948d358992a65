-- The rule of F-12 as the code goes through it: by the kind of a node, and with the number of the nodes looked at alone.
use Rattle.std.specs.Prelude.{ℕ, ◌+◌, Bool, ◌&&◌, ◌||◌, cond, List, eqb, leb}
use Rattle.table.specs.Kinds.{arity_of, is_trap, is_loop, is_parallel}
use Rattle.table.specs.Columns.{stmt_at, first_at}
use Rattle.table.specs.declared.Kind.{Kind}
use Rattle.question.specs.Question.{max_code, look}
use Rattle.question.specs.Calls.{told, told_of}
use Rattle.question.specs.declared.Asked.{Asked}

-- what is found at a node of a table
abbrev pub look_at : List ℕ → (node code : ℕ) → Asked
look_at t node k = told_of (look (first_at t node) (stmt_at t node) k)

-- what is told of a node one of whose children settles it
abbrev pub passed_up : Asked → Asked
passed_up x = told x.answer (x.count + 1)

-- what is told of a node both of whose children are asked
abbrev pub joined_of : Asked → Asked → Asked
joined_of x y = told (x.answer || y.answer) (x.count + y.count + 1)

-- every node is looked at
abbrev pub looks_at_all : Kind → (code : ℕ) → Bool
looks_at_all kind k = eqb (arity_of kind) 0 || is_parallel kind || (is_trap kind && eqb k 0)

-- a node with one child looks no further
abbrev pub stops_at : Kind → (code : ℕ) → Bool
stops_at kind k = (is_loop kind && eqb k 0) || (is_trap kind && eqb k max_code)

-- the code that it passes on
abbrev pub passed_code : Kind → (code : ℕ) → ℕ
passed_code kind k = cond (is_trap kind && leb 2 k) (k + 1) k
