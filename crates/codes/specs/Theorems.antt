-- What the operations promise of sets (F-7): their answers for codes 0 to 63, and for 0 to 62 of the one that moves codes up under a trap.
-- The statements alone; the proofs are in proofs/Theorems.antt.
use Rattle.std.specs.Prelude.{ℕ, ◌+◌, ◌^◌, ◌≤◌, ◌<◌, ◌≡◌, ◌↔◌, true, false, Option, Some, None}
use Rattle.codes.specs.Codes.{Codes, only, union, without_ended, larger, caught, under_trap, under_parallel, word}
use Rattle.codes.specs.Words.{◌∋◌, singleton_of, union_of, without_ended_of, meets_of, lowest_of, highest_of, parallel_of, caught_of, under_trap_of, under_parallel_of}

-- no code of a is above n
abbrev pub AtMost : ℕ → Codes → Type 0
AtMost n a = (k : ℕ) → a k ≡ true → k ≤ n

-- the 64-bit number w represents the set a: for every code number, also above 63, its bit says whether the code is in a
pub record Represents (w : ℕ) (a : Codes) : Type 0 where
  pub fits : w < 2 ^ 64
  pub bits : (k : ℕ) → (w ∋ k) ≡ a k

pub record Lowest (a : Codes) (k : ℕ) : Type 0 where
  pub is_in : a k ≡ true
  pub least : (j : ℕ) → a j ≡ true → k ≤ j

pub record Highest (a : Codes) (k : ℕ) : Type 0 where
  pub is_in : a k ≡ true
  pub most : (j : ℕ) → a j ≡ true → j ≤ k

-- what is found is such a code of a, or none where a is empty
pub data FoundIn (Such : Codes → ℕ → Type 0) (a : Codes) : Option ℕ → Type 0 where
  nowhere : ((k : ℕ) → a k ≡ false) → FoundIn Such a None
  found : (k : ℕ) → Such a k → FoundIn Such a (Some k)

pub record OnSets : Type 0 where
  -- a set is represented exactly if it has no code above 63, and then by its word alone
  pub word_is : (a : Codes) → AtMost 63 a → Represents (word a) a
  pub represented : (w : ℕ) (a : Codes) → Represents w a → AtMost 63 a × (w ≡ word a)
  -- codes 0 to 63
  pub singleton_is : (c : ℕ) → c ≤ 63 → Represents (singleton_of c) (only c)
  pub union_is : (v w : ℕ) (a b : Codes) → Represents v a → Represents w b → Represents (union_of v w) (union a b)
  pub without_ended_is : (v : ℕ) (a : Codes) → Represents v a → Represents (without_ended_of v) (without_ended a)
  pub meets_is : (v w : ℕ) (a b : Codes) → Represents v a → Represents w b → (meets_of v w ≡ true) ↔ ((k : ℕ) × (a k ≡ true) × (b k ≡ true))
  pub lowest_is : (v : ℕ) (a : Codes) → Represents v a → FoundIn Lowest a (lowest_of v)
  pub highest_is : (v : ℕ) (a : Codes) → Represents v a → FoundIn Highest a (highest_of v)
  pub parallel_is : (v w : ℕ) (a b : Codes) → Represents v a → Represents w b → Represents (parallel_of v w) (larger a b)
  pub caught_is : (v : ℕ) (a : Codes) → Represents v a → Represents (caught_of v) (caught a)
  pub under_parallel_is : (t v : ℕ) (P : Codes) → 1 + t ≤ 63 → Represents v P → Represents (under_parallel_of t v) (under_parallel t P)
  -- codes 0 to 62, which become codes up to 63
  pub under_trap_is : (v : ℕ) (P : Codes) → AtMost 62 P → Represents v P → Represents (under_trap_of v) (under_trap P)
