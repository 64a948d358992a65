-- Completion codes and sets of them (document 01, "Codes"): 0 is ended, 1 is paused, 2 + level is an exit.
use Rattle.std.specs.Prelude.{ℕ, zero, suc, ◌+◌, ◌*◌, ◌^◌, Bool, true, false, ◌&&◌, ◌||◌, eqb, leb}

-- a set says of each code number whether it is in
abbrev pub Codes : Type 0
Codes = ℕ → Bool

abbrev pub empty : Codes
empty k = false

abbrev pub only : ℕ → Codes
only c k = eqb c k

abbrev pub union : Codes → Codes → Codes
union a b k = a k || b k

-- a if the test passes, else empty
abbrev pub given : Bool → Codes → Codes
given test a k = test && a k

abbrev pub without_ended : Codes → Codes
without_ended a zero = false
without_ended a (suc k) = a (suc k)

-- some code up to k, k itself too, is in a
abbrev pub up_to : Codes → ℕ → Bool
up_to a zero = a zero
up_to a (suc k) = a (suc k) || up_to a k

-- the parallel maximum, every larger one of a left and a right code: k is in one, and the other has a code up to k
abbrev pub larger : Codes → Codes → Codes
larger a b k = a k && up_to b k || up_to a k && b k

-- what a trap makes of a code: 0 and 2 become 0, 1 stays, each k from 3 becomes k − 1
abbrev pub catch_code : ℕ → ℕ
catch_code zero = 0
catch_code (suc zero) = 1
catch_code (suc (suc zero)) = 0
catch_code (suc (suc (suc k))) = suc (suc k)

-- and of a set
abbrev pub caught : Codes → Codes
caught a zero = a 0 || a 2
caught a (suc zero) = a 1
caught a (suc (suc k)) = a (suc (suc (suc k)))

-- some code below 64 is in both; no set of an accepted program has a code above 63 (F-7)
abbrev pub meets : Codes → Codes → Bool
meets a b = up_to (λ k. a k && b k) 63

-- Context sets of a child, from P, its parent's: Figure 9, and for a parallel its footnote in document 004 as F-5 has it.
-- under a trap: 0 if P has it, 1 if P has it, 2 if P has 0, and k + 1 for each k from 2 in P
abbrev pub under_trap : Codes → Codes
under_trap P zero = P 0
under_trap P (suc zero) = P 1
under_trap P (suc (suc zero)) = P 0
under_trap P (suc (suc (suc k))) = P (suc (suc k))

-- under a parallel (F-5): empty if P is empty, else all codes that a child with t traps around it can give, 0 to 1 + t. 1 is among them:
-- a branch that pauses is dropped by its neighbour's exit, and may be started again in that instant
abbrev pub under_parallel : ℕ → Codes → Codes
under_parallel t P k = leb k (1 + t) && meets P P

-- A set is kept as a 64-bit number, with bit k for code k.
abbrev pub bit : Bool → ℕ
bit true = 1
bit false = 0

-- the number with bit k for each code k below n that is in a
unfoldable pub word_below : ℕ → Codes → ℕ
word_below zero a = 0
word_below (suc n) a = bit (a n) * 2 ^ n + word_below n a

unfoldable pub word : Codes → ℕ
unfolding word_below
word a = word_below 64 a
