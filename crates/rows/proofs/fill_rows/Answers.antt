use Rattle.std.proofs.Common.{◌<◌, length, arith}
use Rattle.table.proofs.Trees.{few}
use Rattle.rows.proofs.Said.{rows_next}
use Rattle.rows.proofs.fill_rows.Goals as goal

within : (c : goal.After-row_at) → c.loop-i.i < length c.loop-i.rows
within c = omega (arith, few c.args.tree.now.tree, c.requires.1, c.loop-i.invariant.room)

pub offset_bounds-rows-i : goal.offset_bounds-rows-i
offset_bounds-rows-i c = omega (arith, few c.args.tree.now.tree, c.requires.1)

pub bounds-rows-i : goal.bounds-rows-i
bounds-rows-i c = within c

pub loop-i-preserved : goal.loop-i-preserved
loop-i-preserved c = rows_next c.loop-i.invariant (within c) c.row_at.ensures
