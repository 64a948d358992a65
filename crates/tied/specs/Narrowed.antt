-- The narrowed start set (F-8), by rules beside those of K in the crate esterel's Sets: only a test and a signal statement differ.
use Rattle.std.specs.Prelude.{ℕ, ◌+◌, List, [], ◌∷◌, ◌++◌, map, get_or}
use Rattle.esterel.specs.Codes.{Codes, only, union, given, without_ended, larger, caught, word}
use Rattle.esterel.specs.Statement.{nothing, pause, emit, exit, Unary, signal, suspend, loop, trap, present, sequence, parallel, Stmt, leaf, one, two}
use Rattle.tied.specs.Ties.{Ties, none_tied, inside, by_tie}
use Rattle.tied.specs.declared.Tie.{Tie}

-- the codes of a test from those of its then branch and its else branch
abbrev pub tested : Tie → Codes → Codes → Codes
tested t a b = by_tie t (union a b) b a

-- of p, started alone under the ties c
abbrev pub narrowed : Ties → Stmt → Codes
narrowed c (leaf nothing) = only 0  -- (1)
narrowed c (leaf pause) = only 1  -- (2)
narrowed c (leaf (exit level)) = only (2 + level)  -- (3)
narrowed c (leaf (emit s)) = only 0  -- (4)
narrowed c (two sequence p q) = union (without_ended (narrowed c p)) (given (narrowed c p 0) (narrowed c q))  -- (5) (6)
narrowed c (two (present s) p q) = tested (c s) (narrowed c p) (narrowed c q)  -- (7) (8)
narrowed c (one trap p) = caught (narrowed c p)  -- (9) (10)
narrowed c (two parallel p q) = larger (narrowed c p) (narrowed c q)  -- (11)
narrowed c (one loop p) = without_ended (narrowed c p)  -- (12)
narrowed c (one (signal s) p) = narrowed (inside s c) p  -- (13) (14)
narrowed c (one (suspend s) p) = narrowed c p

-- the ties of a child's place, from its parent's
abbrev pub ties_under : Unary → Ties → Ties
ties_under (signal s) c = inside s c
ties_under (suspend s) c = c
ties_under loop c = c
ties_under trap c = c

-- a node at its place in the program: what is known there, and its statement
pub data Spot : Type 0 where
  at : (ties : Ties) (p : Stmt) → Spot

abbrev pub ties_in : Spot → Ties
ties_in (at c p) = c

abbrev pub narrowed_in : Spot → Codes
narrowed_in (at c p) = narrowed c p

-- p's nodes in postorder, where p stands under the ties c
abbrev pub spots : Ties → Stmt → List Spot
spots c (leaf l) = at c (leaf l) ∷ []
spots c (one u p) = spots (ties_under u c) p ++ (at c (one u p) ∷ [])
spots c (two b p q) = spots c p ++ spots c q ++ (at c (two b p q) ∷ [])

-- what is read past a program's nodes
abbrev pub outside : Spot
outside = at none_tied (leaf nothing)

-- node i of the program p
abbrev pub spot_at : Ties → Stmt → ℕ → Spot
spot_at c p i = get_or (spots c p) i outside

-- what is known at its place, and its narrowed set
abbrev pub ties_at : Ties → Stmt → ℕ → Ties
ties_at c p i = ties_in (spot_at c p i)

abbrev pub narrowed_at : Ties → Stmt → ℕ → Codes
narrowed_at c p i = narrowed_in (spot_at c p i)

-- the 64-bit numbers of the narrowed sets of all nodes, in postorder
abbrev pub word_in : Spot → ℕ
word_in x = word (narrowed_in x)

unfoldable pub words_of : Ties → Stmt → List ℕ
words_of c p = map word_in (spots c p)
