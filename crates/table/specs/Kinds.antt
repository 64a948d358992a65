-- What a kind byte says (document 01, "The table").
use Rattle.std.specs.Prelude.{ℕ, ◌+◌, Bool, true, false, List, [], ◌∷◌, get_or, eqb}
use Rattle.esterel.specs.Statement.{Leaf, nothing, pause, emit, exit, signal, suspend, loop, trap, present, sequence, parallel}
use Rattle.esterel.specs.Table.{Node, takes0, takes1, takes2, faulty}
use Rattle.table.specs.declared.Kind.{Kind}
use Rattle.table.specs.declared.Kind.TheVariants.{Nothing, Pause, Emit, Exit, Signal, Present, Suspend, Loop, Sequence, Parallel, Trap, Unknown}

-- the kinds by their numbers, from 0 on
abbrev pub numbered : List Kind
numbered = Unknown ∷ Nothing ∷ Pause ∷ Emit ∷ Exit ∷ Signal ∷ Present ∷ Suspend ∷ Loop ∷ Sequence ∷ Parallel ∷ Trap ∷ []

unfoldable pub kind_of : ℕ → Kind
kind_of k = get_or numbered k Unknown

-- the node that a kind and a field say, where the field is as it must be; check 4 for an unknown kind
abbrev pub head_of : Kind → ℕ → Node
head_of Nothing f = takes0 nothing
head_of Pause f = takes0 pause
head_of Emit f = takes0 (emit f)
head_of Exit f = takes0 (exit f)
head_of Signal f = takes1 (signal f)
head_of Present f = takes2 (present f)
head_of Suspend f = takes1 (suspend f)
head_of Loop f = takes1 loop
head_of Sequence f = takes2 sequence
head_of Parallel f = takes2 parallel
head_of Trap f = takes1 trap
head_of Unknown f = faulty 4

-- how many statements a node takes as its children
abbrev pub taken_by : Node → ℕ
taken_by (takes0 l) = 0
taken_by (takes1 u) = 1
taken_by (takes2 b) = 2
taken_by (faulty number) = 0

abbrev pub arity_of : Kind → ℕ
arity_of k = taken_by (head_of k 0)

-- the statement of a node without children
abbrev pub leaf_in : Node → Leaf
leaf_in (takes0 l) = l
leaf_in (takes1 u) = nothing
leaf_in (takes2 b) = nothing
leaf_in (faulty number) = nothing

abbrev pub leaf_of : Kind → ℕ → Leaf
leaf_of k field = leaf_in (head_of k field)

abbrev pub leaf_code : Leaf → ℕ
leaf_code nothing = 0
leaf_code pause = 1
leaf_code (emit s) = 0
leaf_code (exit level) = 2 + level

-- the kinds whose field must be 0 (check 5)
abbrev pub plain_of : Kind → Bool
plain_of Nothing = true
plain_of Pause = true
plain_of Emit = false
plain_of Exit = false
plain_of Signal = false
plain_of Present = false
plain_of Suspend = false
plain_of Loop = true
plain_of Sequence = true
plain_of Parallel = true
plain_of Trap = true
plain_of Unknown = false

-- the number of a kind, and for all unknown ones the next
abbrev pub number_of : Kind → ℕ
number_of Nothing = 1
number_of Pause = 2
number_of Emit = 3
number_of Exit = 4
number_of Signal = 5
number_of Present = 6
number_of Suspend = 7
number_of Loop = 8
number_of Sequence = 9
number_of Parallel = 10
number_of Trap = 11
number_of Unknown = 12

abbrev pub is_same : Kind → Kind → Bool
is_same k j = eqb (number_of k) (number_of j)

abbrev pub is_trap : Kind → Bool
is_trap k = is_same k Trap

abbrev pub is_loop : Kind → Bool
is_loop k = is_same k Loop

abbrev pub is_exit : Kind → Bool
is_exit k = is_same k Exit

abbrev pub is_sequence : Kind → Bool
is_sequence k = is_same k Sequence

abbrev pub is_parallel : Kind → Bool
is_parallel k = is_same k Parallel

abbrev pub is_signal : Kind → Bool
is_signal k = is_same k Signal

abbrev pub is_present : Kind → Bool
is_present k = is_same k Present

abbrev pub is_suspend : Kind → Bool
is_suspend k = is_same k Suspend

abbrev pub is_pause : Kind → Bool
is_pause k = is_same k Pause
