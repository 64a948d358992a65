-- Checks 8 to 11 of a program that was read (document 01, "Checks, in order"), the table's whole verdict, and the listing.
use Rattle.std.specs.Prelude.{ℕ, suc, ◌+◌, ◌*◌, Bool, false, cond, List, [], ◌∷◌, map, leb, ltb}
use Rattle.std.proofs.Math.Option.{Option, none, some}
use Rattle.esterel.specs.Limits.{max_depth, max_traps}
use Rattle.esterel.specs.Statement.{nothing, pause, emit, exit, signal, suspend, loop, trap, Stmt, leaf, one, two, kind, field, size, loop_depth}
use Rattle.esterel.specs.Codes.{word}
use Rattle.esterel.specs.Sets.{Place, at, places_of, start_set, any_instant_set, mark}
use Rattle.esterel.specs.Table.{Verdict, passed, refused, read}

-- check 8: the node's depth is above 256
abbrev pub too_deep : Place → Bool
too_deep (at depth traps S p) = ltb max_depth depth

-- check 9: a trap, and more than 62 traps stand around each other, itself counted (F-7)
abbrev pub too_many_traps : Place → Bool
too_many_traps (at depth traps S (leaf l)) = false
too_many_traps (at depth traps S (one (signal s) p)) = false
too_many_traps (at depth traps S (one (suspend s) p)) = false
too_many_traps (at depth traps S (one loop p)) = false
too_many_traps (at depth traps S (one trap p)) = ltb max_traps (suc traps)
too_many_traps (at depth traps S (two b p q)) = false

-- check 10: an exit, and its level is not below the number of traps around it
abbrev pub uncaught : Place → Bool
uncaught (at depth traps S (leaf nothing)) = false
uncaught (at depth traps S (leaf pause)) = false
uncaught (at depth traps S (leaf (emit s))) = false
uncaught (at depth traps S (leaf (exit level))) = leb traps level
uncaught (at depth traps S (one u p)) = false
uncaught (at depth traps S (two b p q)) = false

-- check 11: a loop, and its body has 0 in K
abbrev pub ends_at_once : Place → Bool
ends_at_once (at depth traps S (leaf l)) = false
ends_at_once (at depth traps S (one (signal s) p)) = false
ends_at_once (at depth traps S (one (suspend s) p)) = false
ends_at_once (at depth traps S (one loop p)) = start_set p 0
ends_at_once (at depth traps S (one trap p)) = false
ends_at_once (at depth traps S (two b p q)) = false

-- the lowest node for which the test holds, where the places are those of the nodes from n on
abbrev pub first_node : (Place → Bool) → List Place → ℕ → Option ℕ
first_node test [] n = none
first_node test (x ∷ xs) n = cond (test x) (some n) (first_node test xs (suc n))

-- each check covers the whole table before the next begins
abbrev pub refuse_at : ℕ → Option ℕ → Verdict → Verdict
refuse_at number none next = next
refuse_at number (some node) next = refused number node

abbrev pub check_places : List Place → Verdict → Verdict
check_places ps next =
    refuse_at 8 (first_node too_deep ps 0)
    (refuse_at 9 (first_node too_many_traps ps 0) (refuse_at 10 (first_node uncaught ps 0) (refuse_at 11 (first_node ends_at_once ps 0) next)))

abbrev pub check_program : Verdict → Verdict
check_program (refused number node) = refused number node
check_program (passed p) = check_places (places_of p) (passed p)

-- the table's whole verdict: the accepted program, or the first refusal
abbrev pub verdict : List ℕ → Verdict
verdict bytes = check_program (read bytes)

-- the listing has one line a node: kind, field, K, A, S, mark (its number is its place in the list)
pub data Line : Type 0 where
  line : (kind field K A S mark : ℕ) → Line

abbrev pub line_of : Place → Line
line_of (at depth traps S p) =
    line (kind p) (field p) (word (start_set p)) (word (any_instant_set p)) (word S) (mark (at depth traps S p))

abbrev pub listing : Stmt → List Line
listing p = map line_of (places_of p)

-- and above them the first line's figure n(1 + d)
abbrev pub planned : Stmt → ℕ
planned p = size p * (1 + loop_depth p)
