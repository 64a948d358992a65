-- What is read lies within the buffer, and is translated as the whole input.
use Rattle.std.proofs.Common.{refl, sym, arith}
use lib.Seq.{length-take-le}
use Rattle.input.proofs.Reading.{within}
use Rattle.text.proofs.Theorems.{of_read}
use Rattle.translate.proofs.Whole.{whole}
use Rattle.translate.proofs.translate_input.Goals as goal

pub slice_bounds-read-end : goal.slice_bounds-read-end
slice_bounds-read-end g c = within c.in_ok-length.ensures

pub slice_bounds-read-end-2 : goal.slice_bounds-read-end-2
slice_bounds-read-end-2 g c = sym (length-take-le _ _ (within c.in_ok-length.ensures))

pub overflow_mul-result : goal.overflow_mul-result
overflow_mul-result g c = omega (arith, (of_read.done _ _ _ _ _ (rw c.in-Ok.is at c.read-2.ensures)).fits)

pub returns-in-Ok : goal.returns-in-Ok
returns-in-Ok g c = (_, _, refl, whole _ c.requires c.in_ok-length.ensures (rw c.in-Ok.is at c.read-2.ensures))

pub returns-in-Err : goal.returns-in-Err
returns-in-Err g c = whole _ c.requires c.in_ok-length.ensures (rw c.in-Err.is at c.read-2.ensures)
