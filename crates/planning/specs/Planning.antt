-- What `most_entries` and `find_longest` answer, and what the second leaves in the lent answers (F-10).
use Rattle.std.specs.Prelude.{ℕ, ◌≡◌, List, leb, length}
use Rattle.esterel.specs.Statement.{Stmt}
use Rattle.esterel.specs.Table.{Verdict, passed, refused}
use Rattle.esterel.specs.Refusal.{Reply, yields, rejects}
use Rattle.esterel.specs.Checks.{verdict}
use Rattle.table.specs.Columns.{onto}
use Rattle.analysis.specs.Analysis.{checked}
use Rattle.starts.specs.Ticks.{tick_answers}
use Rattle.starts.specs.Entries.{Greatest, IsLongest}
use Rattle.planning.specs.declared.Longest.{Longest}

-- The contract of `most_entries`, by the verdict of checks 1, 2 and 4 to 11: the greatest number of entries, or the refusal.
pub data Plans (t : List ℕ) (r : Reply ℕ) : Type 0 where
  plans : (p : Stmt) (n : ℕ) → verdict t ≡ passed p → Greatest p n → r ≡ yields n → Plans t r
  refuses : (number node : ℕ) → verdict t ≡ refused number node → r ≡ rejects number node → Plans t r

-- checks 1, 2, 3, 4 to 11, in this order
abbrev pub verdict_for : (t answers : List ℕ) → Verdict
verdict_for t answers = checked (leb tick_answers (length answers)) t

-- what is told of n entries and a list of this length
abbrev pub reaches : (n length : ℕ) → Reply Longest
reaches n length = yields (record { entries = n; length = length })

-- The contract of `find_longest`, by that verdict: the greatest number and the answers that are handed out for it, at the front of the lent
-- ones, with the old bytes behind them; after a refusal nothing has changed.
pub data Hands (t old new : List ℕ) (r : Reply Longest) : Type 0 where
  hands :
      (p : Stmt) (n : ℕ) (list : List ℕ) → verdict_for t old ≡ passed p → Greatest p n → IsLongest p n list →
      r ≡ reaches n (length list) → new ≡ onto list old → Hands t old new r
  refuses : (number node : ℕ) → verdict_for t old ≡ refused number node → r ≡ rejects number node → new ≡ old → Hands t old new r
