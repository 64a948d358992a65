-- One byte more is read: proofs/Reading.antt.
use Rattle.std.proofs.Common.{arith}
use Rattle.std.proofs.lemmas.Result.{err_from_is_err_and}
use Rattle.tied.proofs.Reading.{reading_next, reading_fails, reading_ends}
use Rattle.tied.proofs.read_ties.Goals as goal

pub returns-in_err-tie : goal.returns-in_err-tie
returns-in_err-tie c =
    let (e, is, same) = err_from_is_err_and c.from_residual.result c.from_residual.ensures.1 in
    rw (is, same) (reading_fails c.requires c.loop-signal.invariant (omega arith) _ c.in_err-tie.ensures)

pub loop-signal-preserved : goal.loop-signal-preserved
loop-signal-preserved c = reading_next c.requires c.loop-signal.invariant (omega arith) _ c.in_ok-tie.ensures

pub returns : goal.returns
returns c = reading_ends c.requires c.loop-signal.invariant (omega arith)
