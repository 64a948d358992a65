-- What `find_tick` answers and writes (F-2).
use Rattle.std.specs.Prelude.{ℕ, ◌≡◌, List, leb, length}
use Rattle.esterel.specs.Statement.{Stmt, size, loop_depth}
use Rattle.esterel.specs.Table.{Verdict, passed, refused}
use Rattle.esterel.specs.Refusal.{Reply, yields, rejects}
use Rattle.table.specs.Columns.{onto}
use Rattle.analysis.specs.Analysis.{checked}
use Rattle.starts.specs.Ticks.{ShownAt, tick_answers}
use Rattle.witness.specs.declared.Tick.{Tick}
use Rattle.witness.specs.declared.Tick.TheVariants.{Ends, Accepted}

-- checks 1, 2, 3, 4 to 11, in this order
abbrev pub verdict_for : (t answers : List ℕ) → Verdict
verdict_for t answers = checked (leb tick_answers (length answers)) t

-- The contract of `find_tick`, by the verdict: the answer r, and the answers' bytes before and after. After refusal 11 the list that is
-- shown stands at the front, and the old bytes behind it; else nothing has changed.
pub data Tells (t old new : List ℕ) (r : Reply Tick) : Type 0 where
  accepts : (p : Stmt) → verdict_for t old ≡ passed p → r ≡ yields (Accepted (size p) (loop_depth p)) → new ≡ old → Tells t old new r
  refuses : (number node : ℕ) → verdict_for t old ≡ refused number node → (number ≡ 11 → ⊥) → r ≡ rejects number node → new ≡ old → Tells t old new r
  shows :
      (node : ℕ) (list : List ℕ) → verdict_for t old ≡ refused 11 node → ShownAt t node list →
      r ≡ yields (Ends node (length list)) → new ≡ onto list old → Tells t old new r
