-- The table and the place lie within their buffers.
use Rattle.std.proofs.Common.{sym, arith}
use lib.Seq.{length-take-le}
use Rattle.translate.proofs.Whole.{table-within, place-within}
use Rattle.translate.proofs.main.Goals as goal

pub slice_bounds-table-end : goal.slice_bounds-table-end
slice_bounds-table-end c = let (nodes, signals, e, x) = rw c.in-Ok-translated.is at c.in-Ok.ensures in (table-within _ nodes signals e x).1

pub slice_bounds-write_all-end : goal.slice_bounds-write_all-end
slice_bounds-write_all-end c = let (nodes, signals, e, x) = rw c.in-Ok-translated.is at c.in-Ok.ensures in sym (length-take-le _ _ (table-within _ nodes signals e x).1)

pub tell_fault-requires : goal.tell_fault-requires
tell_fault-requires c =
    let h = place-within _ _ _ (rw c.in-Err-translated.is at c.in-Ok.ensures) in
    (omega (arith, h), h)
