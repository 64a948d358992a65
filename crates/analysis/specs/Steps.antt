-- One node's set from its children's, on 64-bit words: what the passes compute. `first` is the word of the only child or of the first
-- of two, `second` that of the second.
use Rattle.std.specs.Prelude.{ℕ, zero, suc, ◌+◌, Bool, true, false, cond}
use Rattle.codes.specs.Codes.{Codes, only, union, word}
use Rattle.codes.specs.Words.{◌∋◌, singleton_of, union_of, without_ended_of, meets_of, parallel_of, caught_of, under_trap_of, under_parallel_of}
use Rattle.esterel.specs.Statement.{Stmt}
use Rattle.esterel.specs.Sets.{codes}
use Rattle.table.specs.declared.Kind.{Kind}
use Rattle.table.specs.declared.Kind.TheVariants.{Nothing, Pause, Emit, Exit, Signal, Present, Suspend, Loop, Sequence, Parallel, Trap, Unknown}

-- the codes of a pause: {1} in K, {0, 1} in A
abbrev pub pause_set : Bool → Codes
pause_set true = union (only 0) (only 1)
pause_set false = only 1

-- K, or A where `any` says so
abbrev pub set_of_stmt : Bool → Stmt → Codes
set_of_stmt any = codes (pause_set any)

unfoldable pub sequence_of : (first second : ℕ) → ℕ
sequence_of x y = cond (x ∋ 0) (union_of (without_ended_of x) y) (without_ended_of x)

abbrev pub codes_of : Bool → Kind → (field first second : ℕ) → ℕ
codes_of any Nothing f x y = singleton_of 0
codes_of any Pause f x y = word (pause_set any)
codes_of any Emit f x y = singleton_of 0
codes_of any Exit f x y = singleton_of (2 + f)
codes_of any Signal f x y = x
codes_of any Present f x y = union_of x y
codes_of any Suspend f x y = x
codes_of any Loop f x y = without_ended_of x
codes_of any Sequence f x y = sequence_of x y
codes_of any Parallel f x y = parallel_of x y
codes_of any Trap f x y = caught_of x
codes_of any Unknown f x y = 0

-- Contexts of the children, on words: P is the node's own, t the traps around it.
-- the first of a sequence, whose second has the start set K
unfoldable pub under_first_of : (P K : ℕ) → ℕ
under_first_of P K = cond (meets_of K P) (union_of (without_ended_of P) (singleton_of 0)) (without_ended_of P)

-- the second of a sequence, by whether its first may end at once
abbrev pub under_second_of : (P ends : ℕ) → ℕ
under_second_of P zero = 0
under_second_of P (suc e) = P

-- of the first of two children; K is the second's start set
abbrev pub first_of : Kind → (P t K : ℕ) → ℕ
first_of Nothing P t K = P
first_of Pause P t K = P
first_of Emit P t K = P
first_of Exit P t K = P
first_of Signal P t K = P
first_of Present P t K = P
first_of Suspend P t K = P
first_of Loop P t K = P
first_of Sequence P t K = under_first_of P K
first_of Parallel P t K = under_parallel_of t P
first_of Trap P t K = P
first_of Unknown P t K = P

-- of the only child, or of the second of two; `ends` says whether the first may end at once
abbrev pub last_of : Kind → (P t ends : ℕ) → ℕ
last_of Nothing P t ends = P
last_of Pause P t ends = P
last_of Emit P t ends = P
last_of Exit P t ends = P
last_of Signal P t ends = P
last_of Present P t ends = P
last_of Suspend P t ends = P
last_of Loop P t ends = union_of P (singleton_of 0)
last_of Sequence P t ends = under_second_of P ends
last_of Parallel P t ends = under_parallel_of t P
last_of Trap P t ends = under_trap_of P
last_of Unknown P t ends = P
