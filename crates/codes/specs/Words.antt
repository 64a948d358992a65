-- The operations of this crate on 64-bit numbers: each does to the sets what the operation of `Codes` does. The codes are those below 64.
use Rattle.std.specs.Prelude.{ℕ, zero, suc, ◌/◌, ◌%◌, ◌^◌, max, Bool, ◌&&◌, cond, eqb, leb, Option, Some, None}
use Rattle.codes.specs.Codes.{Codes, only, union, without_ended, larger, caught, meets, under_trap, under_parallel, word}

infix 40 ◌∋◌
-- the set w has code k: bit k of w is 1
unfoldable pub ◌∋◌ : ℕ → ℕ → Bool
w ∋ k = eqb (w / 2 ^ k % 2) 1

-- the set that a number holds
abbrev pub set_of : ℕ → Codes
set_of w k = w ∋ k

unfoldable pub singleton_of : ℕ → ℕ
singleton_of c = word (only c)

unfoldable pub union_of : ℕ → ℕ → ℕ
union_of a b = word (union (set_of a) (set_of b))

unfoldable pub without_ended_of : ℕ → ℕ
without_ended_of a = word (without_ended (set_of a))

unfoldable pub meets_of : ℕ → ℕ → Bool
meets_of a b = meets (set_of a) (set_of b)

unfoldable pub parallel_of : ℕ → ℕ → ℕ
parallel_of a b = word (larger (set_of a) (set_of b))

unfoldable pub caught_of : ℕ → ℕ
caught_of a = word (caught (set_of a))

unfoldable pub under_trap_of : ℕ → ℕ
under_trap_of p = word (under_trap (set_of p))

unfoldable pub under_parallel_of : ℕ → ℕ → ℕ
under_parallel_of t p = word (under_parallel t (set_of p))

-- the first of the n codes from k on that is in a
unfoldable pub least_from : ℕ → ℕ → Codes → Option ℕ
least_from zero k a = None
least_from (suc n) k a = cond (a k) (Some k) (least_from n (suc k) a)

-- the last code below n that is in a
unfoldable pub greatest_below : ℕ → Codes → Option ℕ
greatest_below zero a = None
greatest_below (suc n) a = cond (a n) (Some n) (greatest_below n a)

unfoldable pub lowest_of : ℕ → Option ℕ
lowest_of w = least_from 64 0 (set_of w)

unfoldable pub highest_of : ℕ → Option ℕ
highest_of w = greatest_below 64 (set_of w)

-- the larger of two codes, where there are two
abbrev pub larger_of : Option ℕ → Option ℕ → Option ℕ
larger_of (Some a) (Some b) = Some (max a b)
larger_of (Some a) None = None
larger_of None b = None

-- the codes from `from` to `to`
unfoldable pub span_of : ℕ → ℕ → ℕ
span_of from to = word (λ k. leb from k && leb k to)
