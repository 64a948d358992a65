-- The rows before `i` are those of the nodes before it.
use Rattle.rows.specs.Filled.{RowsTo}
use Rattle.rows.proofs.fill_rows.Given as goal

abbrev pub invariant-loop-i : goal.invariant-loop-i
invariant-loop-i l = RowsTo l.weight l.tree.table.now l.i l.rows
