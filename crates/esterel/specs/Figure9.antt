-- Context sets as document 004 prints them: Figure 9, and for a parallel its footnote. Where Figure 9 has a code for each exception's name,
-- here an exit's code counts from the innermost trap. The listing by these rules, and that it is ours; proved in proofs/Figure9.antt.
use Rattle.std.specs.Prelude.{ℕ, zero, suc, ◌+◌, ◌≡◌, true, false, ◌&&◌, List, [], ◌∷◌, ◌++◌, map, leb}
use Rattle.esterel.specs.Statement.{Unary, signal, suspend, loop, trap, Binary, present, sequence, parallel, Stmt, leaf, one, two, kind, field, traps_under}
use Rattle.esterel.specs.Codes.{Codes, empty, only, union, given, without_ended, meets, word}
use Rattle.esterel.specs.Sets.{start_set, any_instant_set, Place, at, mark}
use Rattle.esterel.specs.Checks.{Line, line, listing}
use Rattle.esterel.specs.Theorems.{Accepted}

-- ℕ
abbrev pub all_codes : Codes
all_codes k = true

-- P within a trap, where each exit that leaves the trap too has one more; 2 is the trap's own
abbrev pub within : Codes → Codes
within P zero = P 0
within P (suc zero) = P 1
within P (suc (suc zero)) = false
within P (suc (suc (suc k))) = P (suc (suc k))

-- S of a child, from P, its parent's
abbrev pub figure_under : Unary → Codes → Codes
figure_under (signal s) P = P
figure_under (suspend s) P = P
figure_under loop P = union (only 0) P
figure_under trap P = union (within P) (given (P 0) (only 2))

-- the footnote: [P ≠ ∅ → ℕ]. `meets` looks below 64, where each set of an accepted program that is not empty has a code
abbrev pub figure_branch : Codes → Codes
figure_branch P = given (meets P P) all_codes

-- of a first child, where q is the second
abbrev pub figure_left : Binary → Codes → Stmt → Codes
figure_left (present s) P q = P
figure_left sequence P q = union (without_ended P) (given (meets (start_set q) P) (only 0))
figure_left parallel P q = figure_branch P

-- of a second child, where p is the first
abbrev pub figure_right : Binary → Codes → Stmt → Codes
figure_right (present s) P p = P
figure_right sequence P p = given (start_set p 0) P
figure_right parallel P p = figure_branch P

-- the places with these sets, in the form of `places`
abbrev pub figure_places : ℕ → ℕ → Codes → Stmt → List Place
figure_places d t P (leaf l) = at d t P (leaf l) ∷ []
figure_places d t P (one u p) = figure_places (suc d) (traps_under u t) (figure_under u P) p ++ (at d t P (one u p) ∷ [])
figure_places d t P (two b p q) =
    figure_places (suc d) t (figure_left b P q) p ++ figure_places (suc d) t (figure_right b P p) q ++ (at d t P (two b p q) ∷ [])

-- a node's line: of S the codes up to 1 + t, which are all that a statement with t traps around it can give; the mark is that of the whole S
abbrev pub figure_line : Place → Line
figure_line (at d t S p) =
    line (kind p) (field p) (word (start_set p)) (word (any_instant_set p)) (word (λ k. leb k (1 + t) && S k)) (mark (at d t S p))

abbrev pub figure_listing : Stmt → List Line
figure_listing p = map figure_line (figure_places 1 0 empty p)

abbrev pub Figure9 : Type 0
Figure9 = (p : Stmt) → Accepted p → listing p ≡ figure_listing p
