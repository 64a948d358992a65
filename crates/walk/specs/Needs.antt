-- What is still needed after each code, as rows: from what is needed after a node, what is needed after its children.
use Rattle.std.specs.Prelude.{ℕ, suc, ◌+◌, ◌<◌, max, ◌≡◌, Bool, true, false, cond, ◌&&◌, List, eqb, length, get_or}
use Rattle.std.proofs.Math.Option.{Option}
use Rattle.esterel.specs.Codes.{catch_code}
use Rattle.table.specs.Kinds.{is_trap, is_loop}
use Rattle.table.specs.declared.Kind.{Kind}
use Rattle.starts.specs.declared.Weight.{Weight}
use Rattle.starts.specs.Summary.{up_to, weights}
use Rattle.starts.specs.Walk.{best_total, no_worse, need_first}
use Rattle.rows.specs.Rows.{values_of, best_sum, LowRow, Holds}

-- after the only child, or after the second of two whose first gave a code
abbrev pub under_at : Kind → (code : ℕ) (need : List ℕ) → ℕ → ℕ
under_at k code need j = cond (is_trap k) (get_or need (catch_code j) 0) (cond (is_loop k && eqb j 0) 0 (get_or need (max code j) 0))

pub record Under (k : Kind) (code : ℕ) (need r : List ℕ) : Type 0 where
  pub long : length r ≡ 64
  pub at : (j : ℕ) → j < 64 → get_or r j 0 ≡ under_at k code need j

-- the preferred up to each code
pub record UpRow (w : Weight) (row r : List ℕ) : Type 0 where
  pub holds : Holds (up_to (weights w) (values_of row)) r
  pub low : (m : ℕ) → LowRow m row → LowRow m r

-- after the first of two, where `row` is of the second: of a sequence, or of a parallel
abbrev pub first_need : Weight → Bool → (row need : List ℕ) → ℕ → Option ℕ
first_need w true row need = need_first (best_sum w row need) (values_of need)
first_need w false row need = λ i. best_total w 63 (values_of row) (λ j. values_of need (max i j))

pub record First (w : Weight) (ordered : Bool) (row need r : List ℕ) : Type 0 where
  pub holds : Holds (first_need w ordered row need) r
  pub low : (m n : ℕ) → LowRow (suc m) row → LowRow (suc n) need → LowRow (suc (m + n)) r

-- a test, where `first` and `last` are the rows of the then branch and of the else branch: whether the second, with what is needed after
-- it, is no worse
abbrev pub goes_absent : Weight → (first last need : List ℕ) → Bool
goes_absent w first last need = no_worse w (best_sum w last need) (best_sum w first need)
