-- Start set K (Figure 6), any-instant set A, context set S (Figure 9; for a parallel its footnote in document 004, as F-5 has it), mark. The
-- numbers are the rules of Figures 11 and 12.
use Rattle.std.specs.Prelude.{ℕ, zero, suc, ◌+◌, List, [], ◌∷◌, ◌++◌, get_or}
use Rattle.esterel.specs.Statement.{nothing, pause, emit, exit, Unary, signal, suspend, loop, trap, Binary, present, sequence, parallel, Stmt, leaf, one, two, traps_under}
use Rattle.esterel.specs.Codes.{Codes, empty, only, union, given, without_ended, larger, caught, meets, under_trap, under_parallel, bit}

-- the codes of a statement where a pause has those of `paused`
abbrev pub codes : Codes → Stmt → Codes
codes paused (leaf nothing) = only 0  -- (1)
codes paused (leaf pause) = paused  -- (2)
codes paused (leaf (exit level)) = only (2 + level)  -- (3)
codes paused (leaf (emit s)) = only 0  -- (4)
codes paused (two sequence p q) = union (without_ended (codes paused p)) (given (codes paused p 0) (codes paused q))  -- (5) (6)
codes paused (two (present s) p q) = union (codes paused p) (codes paused q)  -- (7) (8)
codes paused (one trap p) = caught (codes paused p)  -- (9) (10)
codes paused (two parallel p q) = larger (codes paused p) (codes paused q)  -- (11)
codes paused (one loop p) = without_ended (codes paused p)  -- (12)
codes paused (one (signal s) p) = codes paused p  -- (13) (14)
codes paused (one (suspend s) p) = codes paused p

-- K
abbrev pub start_set : Stmt → Codes
start_set = codes (only 1)

-- A: a pause has {0, 1}
abbrev pub any_instant_set : Stmt → Codes
any_instant_set = codes (union (only 0) (only 1))

-- S of a child, from P, its parent's S
abbrev pub under : Unary → Codes → Codes
under (signal s) P = P
under (suspend s) P = P
under loop P = union P (only 0)
under trap P = under_trap P

-- first of a sequence: P without 0, with 0 put in if K, the second's start set, meets P
abbrev pub under_first : Codes → Codes → Codes
under_first P K zero = meets K P
under_first P K (suc k) = P (suc k)

-- of the first child, with t traps around it; q is the second
abbrev pub under_left : Binary → ℕ → Codes → Stmt → Codes
under_left (present s) t P q = P
under_left sequence t P q = under_first P (start_set q)
under_left parallel t P q = under_parallel t P

-- of the second child; p is the first
abbrev pub under_right : Binary → ℕ → Codes → Stmt → Codes
under_right (present s) t P p = P
under_right sequence t P p = given (start_set p 0) P
under_right parallel t P p = under_parallel t P

-- a node in its program: its depth, the traps around it, its S, and its statement
pub data Place : Type 0 where
  at : (depth traps : ℕ) (S : Codes) (p : Stmt) → Place

abbrev pub traps_of : Place → ℕ
traps_of (at depth traps S p) = traps

abbrev pub context_of : Place → Codes
context_of (at depth traps S p) = S

abbrev pub stmt_of : Place → Stmt
stmt_of (at depth traps S p) = p

-- the places of p's nodes in postorder, where p stands at the depth d with t traps around it and the context set P
abbrev pub places : ℕ → ℕ → Codes → Stmt → List Place
places d t P (leaf l) = at d t P (leaf l) ∷ []
places d t P (one u p) = places (suc d) (traps_under u t) (under u P) p ++ (at d t P (one u p) ∷ [])
places d t P (two b p q) =
    places (suc d) t (under_left b t P q) p ++ places (suc d) t (under_right b t P p) q ++ (at d t P (two b p q) ∷ [])

-- from the program down: its depth is 1, no trap stands around it, and its S is empty
abbrev pub places_of : Stmt → List Place
places_of p = places 1 0 empty p

-- what is read past a program's nodes
abbrev pub outside : Place
outside = at 0 0 empty (leaf nothing)

-- node i of p in its program
abbrev pub place_at : Stmt → ℕ → Place
place_at p i = get_or (places_of p) i outside

-- 1 if the node's A meets its S, else 0
abbrev pub mark : Place → ℕ
mark (at d t S p) = bit (meets (any_instant_set p) S)
