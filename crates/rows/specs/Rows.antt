-- Rows of 64 numbers, one for each code: 0 where no start gives the code, else one more than what is said of its starts, by a weight: the
-- least number of answers, or the most entries.
use Rattle.std.specs.Prelude.{ℕ, zero, suc, ◌+◌, ◌-◌, ◌*◌, ◌≤◌, ◌<◌, max, ◌≡◌, List, length, get_or}
use Rattle.std.proofs.Math.Option.{Option, none, some}
use Rattle.starts.specs.declared.Weight.{Weight}
use Rattle.starts.specs.Summary.{together, weights}
use Rattle.starts.specs.Walk.{best_total}

-- what a number says
abbrev pub value_of : ℕ → Option ℕ
value_of zero = none
value_of (suc n) = some n

abbrev pub values_of : List ℕ → ℕ → Option ℕ
values_of row k = value_of (get_or row k 0)

-- no number of a row is larger: a start makes at most 1,024 entries, and takes fewer than 512 answers
abbrev pub max_number : ℕ
max_number = 1025

-- r says x, and is no larger than the sum of two numbers of rows
pub record Gets (x : Option ℕ) (r : ℕ) : Type 0 where
  pub is : value_of r ≡ x
  pub low : r ≤ 2 * max_number

-- r says the preferred of what a and b say, where `none` is worse than every number
pub record Picks (w : Weight) (a b r : ℕ) : Type 0 where
  pub is : value_of r ≡ (weights w).choice (value_of a) (value_of b)
  pub low : r ≤ max a b

-- r says the sum of what a and b say
pub record Joins (a b r : ℕ) : Type 0 where
  pub is : value_of r ≡ together ◌+◌ (value_of a) (value_of b)
  pub low : r ≤ a + b - 1

-- no number of a row is above m
pub record LowRow (m : ℕ) (row : List ℕ) : Type 0 where
  pub at : (k : ℕ) → get_or row k 0 ≤ m

-- a row that says f of each code
pub record Holds (f : ℕ → Option ℕ) (row : List ℕ) : Type 0 where
  pub long : length row ≡ 64
  pub at : (k : ℕ) → k < 64 → values_of row k ≡ f k

-- the preferred of the sums of two rows
abbrev pub best_sum : Weight → (row need : List ℕ) → Option ℕ
best_sum w row need = best_total w 63 (values_of row) (values_of need)

pub record Found (w : Weight) (row need : List ℕ) (r : ℕ) : Type 0 where
  pub gets : Gets (best_sum w row need) r
  pub low : (m n : ℕ) → LowRow m row → LowRow n need → r ≤ m + n - 1
