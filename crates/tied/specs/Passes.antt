-- What the passes over an accepted table leave, and one node's set from its children's, on 64-bit words.
use Rattle.std.specs.Prelude.{ℕ, ◌<◌, ◌≡◌, true, false, cond, leb, List, get_or, take, Result, Ok, Err}
use Rattle.codes.specs.Codes.{word}
use Rattle.codes.specs.Words.{union_of}
use Rattle.esterel.specs.Limits.{signals}
use Rattle.esterel.specs.Statement.{field, size}
use Rattle.esterel.specs.declared.Check.TheVariants.{BadTie}
use Rattle.esterel.specs.declared.Refusal.{Refusal}
use Rattle.table.specs.Kinds.{is_present}
use Rattle.table.specs.Program.{program_of}
use Rattle.table.specs.Columns.{onto, stmt_at}
use Rattle.table.specs.declared.Kind.{Kind}
use Rattle.analysis.specs.Steps.{codes_of}
use Rattle.tied.specs.Ties.{Ties, tie_of, ties_of, by_tie}
use Rattle.tied.specs.declared.Tie.{Tie}
use Rattle.tied.specs.declared.Tie.TheVariants.{Unknown}
use Rattle.tied.specs.Calls.{are_ties}
use Rattle.tied.specs.Narrowed.{ties_at, narrowed_at, words_of}

abbrev pub bad_tie : Refusal
bad_tie = record { check = BadTie; node = 0 }

-- check 19 of a byte, and of a byte for each signal
abbrev pub TieRead : ℕ → Result Tie Refusal → Type 0
TieRead byte (Ok tie) = (leb byte 2 ≡ true) × (tie ≡ tie_of byte)
TieRead byte (Err r) = (leb byte 2 ≡ false) × (r ≡ bad_tie)

-- what is known by an entry for each signal
abbrev pub tied_by : List Tie → Ties
tied_by ties s = get_or ties s Unknown

abbrev pub TiesRead : List ℕ → List Tie → Result Unit Refusal → Type 0
TiesRead bytes ties (Ok u) = (are_ties (take signals bytes) ≡ true) × (tied_by ties ≡ ties_of (take signals bytes))
TiesRead bytes ties (Err r) = (are_ties (take signals bytes) ≡ false) × (r ≡ bad_tie)

-- a test, by what is known of its signal
abbrev pub tested_of : Tie → (first second : ℕ) → ℕ
tested_of t x y = by_tie t (union_of x y) y x

-- a statement of two children; only a test differs from K
abbrev pub codes_under : Tie → Kind → (first second : ℕ) → ℕ
codes_under t k x y = cond (is_present k) (tested_of t x y) (codes_of false k 0 x y)

-- what is known of each node's own signal, at its place
pub record Known (c : Ties) (t : List ℕ) (known : List Tie) : Type 0 where
  pub at : (j : ℕ) → j < size (program_of t) → get_or known j Unknown ≡ ties_at c (program_of t) j (field (stmt_at t j))

-- the word of a node's set, where those of the nodes before it are known
pub record NextSet (t : List ℕ) (known : List Tie) (words : List ℕ) (node r : ℕ) : Type 0 where
  pub is :
      (c : Ties) → Known c t known →
      ((j : ℕ) → j < node → get_or words j 0 ≡ word (narrowed_at c (program_of t) j)) → r ≡ word (narrowed_at c (program_of t) node)

-- all sets, and the old entries past them
pub record SetsFilled (t : List ℕ) (known : List Tie) (old new : List ℕ) : Type 0 where
  pub is : (c : Ties) → Known c t known → new ≡ onto (words_of c (program_of t)) old
