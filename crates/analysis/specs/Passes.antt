-- What the passes over an accepted table leave in their buffers.
use Rattle.std.specs.Prelude.{ℕ, ◌<◌, ◌≤◌, ◌≡◌, Bool, true, false, List, [], map, length, get_or}
use Rattle.codes.specs.Codes.{bit, word}
use Rattle.esterel.specs.Statement.{present, sequence, parallel, Stmt, leaf, one, two, size, nodes, loop_depth}
use Rattle.esterel.specs.Sets.{start_set, Place, context_of, places_of, mark}
use Rattle.esterel.specs.Refusal.{Reply, yields, rejects}
use Rattle.esterel.specs.Table.{Verdict, passed, refused, scan}
use Rattle.esterel.specs.Checks.{first_node, ends_at_once, check_program}
use Rattle.esterel.specs.Outcome.{statement_at}
use Rattle.table.specs.Program.{program_of, Readable}
pub use Rattle.table.specs.Columns.{onto}
use Rattle.table.specs.Check.{refuse_found, places_check}
use Rattle.analysis.specs.Steps.{set_of_stmt}

-- a table that passes checks 1, 2 and 4 to 10
pub record Placed (t : List ℕ) : Type 0 where
  pub readable : Readable t
  pub passes : places_check (places_of (program_of t)) 0 ≡ yields tt

-- the words of all nodes
unfoldable pub words_of : Bool → Stmt → List ℕ
words_of any p = map (λ q. word (set_of_stmt any q)) (nodes p)

-- each node's entry is its word
unfoldable pub Filled : Bool → Stmt → List ℕ → Type 0
Filled any p sets = (j : ℕ) → j < size p → get_or sets j 0 ≡ word (set_of_stmt any (statement_at (nodes p) j))

-- check 11
unfoldable pub loops_check : Stmt → Reply (Unit {0})
loops_check p = refuse_found 11 (first_node ends_at_once (places_of p) 0) (yields tt)

-- whether a sequence's first child may end at once, as a byte
abbrev pub first_ends : Stmt → ℕ
first_ends (leaf l) = 0
first_ends (one u p) = 0
first_ends (two (present s) p q) = 0
first_ends (two sequence p q) = bit (start_set p 0)
first_ends (two parallel p q) = 0

unfoldable pub flags_of : Stmt → List ℕ
flags_of p = map first_ends (nodes p)

-- what the pass that fills in K, A and these bytes needs: a table that passes checks 1 to 10, and room
pub record Fillable (t starts anys flags : List ℕ) : Type 0 where
  pub placed : Placed t
  pub starts_room : size (program_of t) ≤ length starts
  pub anys_room : size (program_of t) ≤ length anys
  pub flags_room : size (program_of t) ≤ length flags

-- the contexts of all nodes, and their marks
abbrev pub context_word : Place → ℕ
context_word x = word (context_of x)

unfoldable pub contexts_of : Stmt → List ℕ
contexts_of p = map context_word (places_of p)

unfoldable pub marks_of : Stmt → List ℕ
marks_of p = map mark (places_of p)

-- what the walk over the contexts needs: a table that passes checks 1 to 10, its K and A, and the flags in place of the marks
pub record Walkable (t sets anys contexts marks : List ℕ) : Type 0 where
  pub placed : Placed t
  pub starts : Filled false (program_of t) sets
  pub starts_room : size (program_of t) ≤ length sets
  pub any : Filled true (program_of t) anys
  pub any_room : size (program_of t) ≤ length anys
  pub flags : (j : ℕ) → j < size (program_of t) → get_or marks j 0 ≡ first_ends (statement_at (nodes (program_of t)) j)
  pub room : size (program_of t) ≤ length contexts
  pub marks_room : size (program_of t) ≤ length marks

-- a table that passes checks 4 to 11
pub record Ready (t : List ℕ) : Type 0 where
  pub verdict : check_program (scan t 0 []) ≡ passed (program_of t)
  pub placed : Placed t

-- the loop depth of a program that passes
abbrev pub depth_of : Verdict → Reply ℕ
depth_of (passed p) = yields (loop_depth p)
depth_of (refused number node) = rejects number node

-- what checks 4 to 11 answer
pub record Accepting (t : List ℕ) (r : Reply ℕ) : Type 0 where
  pub answer : r ≡ depth_of (check_program (scan t 0 []))
  pub ready : (d : ℕ) → r ≡ yields d → Ready t
