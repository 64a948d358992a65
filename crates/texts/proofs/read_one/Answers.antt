-- The bytes of the nodes lie within the table.
use Rattle.std.proofs.Common.{sym, arith}
use lib.Seq.{length-take-le}
use Rattle.text.proofs.Theorems.{of_read, written-long}
use Rattle.texts.proofs.read_one.Goals as goal

pub overflow_mul-table : goal.overflow_mul-table
overflow_mul-table g c = omega (arith, (of_read.done _ _ _ _ _ c.in-Ok.ensures).fits)

pub slice_bounds-table-end : goal.slice_bounds-table-end
slice_bounds-table-end g c = written-long _ _ _ _ _ (of_read.done _ _ _ _ _ c.in-Ok.ensures)

pub slice_bounds-byte-items-end : goal.slice_bounds-byte-items-end
slice_bounds-byte-items-end g c = sym (length-take-le _ _ (written-long _ _ _ _ _ (of_read.done _ _ _ _ _ c.in-Ok.ensures)))
