-- The columns of K, of A and of the flags.
use mathlib.Core.Path.{◌≡◌, ◌∙◌}
use mathlib.Core.Bool.{Bool}
use mathlib.Core.List.{List}
use Prim.Native.Nat.{ℕ, ◌<◌}
use lib.ListN.{length, get_or, get_or-append}
use Rattle.codes.specs.Codes.{word}
use Rattle.esterel.specs.Statement.{Stmt, size, nodes}
use Rattle.esterel.specs.Outcome.{statement_at}
use Rattle.table.specs.Columns.{onto}
use Rattle.table.proofs.Filling.{length-column, column-at}
use Rattle.analysis.specs.Steps.{set_of_stmt}
use Rattle.analysis.specs.Passes.{words_of, Filled, first_ends, flags_of}

module _ (any : Bool) (p : Stmt) where
  pub length-words : length (words_of any p) ≡ size p
  unfolding words_of
  length-words = length-column (λ q. word (set_of_stmt any q)) p

  pub words-at : (i : ℕ) → i < size p → get_or (words_of any p) i 0 ≡ word (set_of_stmt any (statement_at (nodes p) i))
  unfolding words_of
  words-at = column-at (λ q. word (set_of_stmt any q)) p

-- the whole column has the word of each node
pub filled : (any : Bool) (p : Stmt) (old : List ℕ) → Filled any p (onto (words_of any p) old)
unfolding Filled
filled any p old j h = get_or-append (words_of any p) _ 0 j (rw (length-words any p) h) ∙ words-at any p j h

pub length-flags : (p : Stmt) → length (flags_of p) ≡ size p
unfolding flags_of
length-flags p = length-column first_ends p

pub flags-at : (p : Stmt) (i : ℕ) → i < size p → get_or (flags_of p) i 0 ≡ first_ends (statement_at (nodes p) i)
unfolding flags_of
flags-at p i h = column-at first_ends p i h
