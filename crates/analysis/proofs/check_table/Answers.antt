-- One law for each return.
use Rattle.std.proofs.Common.{sym, subst}
use Rattle.esterel.proofs.Replies.{handed}
use Rattle.analysis.specs.Analysis.{TableChecked}
use Rattle.analysis.proofs.Accepts.{well_sized}
use Rattle.analysis.proofs.Analyses.{length-refused, room-refused, not-passed, table-checked}
use Rattle.analysis.proofs.check_table.Goals as goal

pub returns-in_err-check_length : goal.returns-in_err-check_length
returns-in_err-check_length c =
    subst (TableChecked c.args.room c.args.table.now) (sym (handed c.from_residual.result _ c.from_residual.ensures.1))
    (not-passed (length-refused c.args.table.now c.args.room _ _ c.in_err-check_length.ensures))

pub returns-then-not-room : goal.returns-then-not-room
returns-then-not-room c = not-passed (room-refused c.args.table.now c.args.room c.in_ok-check_length.ensures c.if-not-room.true)

pub accept-requires : goal.accept-requires
accept-requires c = well_sized c.args.table.now (sym c.in_ok-check_length.ensures)

pub returns : goal.returns
returns c = table-checked c.in_ok-check_length.ensures c.if-not-room.false c.accept.ensures
