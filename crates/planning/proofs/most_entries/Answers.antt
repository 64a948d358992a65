-- A lemma for each return.
use Rattle.std.proofs.Common.{sym, subst}
use Rattle.esterel.proofs.Replies.{handed}
use Rattle.planning.specs.Planning.{Plans}
use Rattle.planning.proofs.Plans.{refused_plan, row_tops, planned}
use Rattle.planning.proofs.most_entries.Goals as goal

pub returns-in_err-check_table : goal.returns-in_err-check_table
returns-in_err-check_table c =
    subst (Plans c.args.table.now) (sym (handed c.from_residual.result _ c.from_residual.ensures.1)) (refused_plan c.in_err-check_table.ensures)

pub top-entries-requires : goal.top-entries-requires
top-entries-requires c = row_tops c.in_ok-check_table.ensures c.program_row.ensures

pub returns : goal.returns
returns c = planned c.in_ok-check_table.ensures c.program_row.ensures c.top-entries.ensures
