-- One law for each return.
use Rattle.std.proofs.Common.{refl, sym, ap, subst}
use Rattle.esterel.specs.Refusal.{reply}
use Rattle.esterel.proofs.Replies.{handed}
use Rattle.analysis.specs.Passes.{Accepting}
use Rattle.analysis.proofs.Accepts.{nodes-refused, nodes-read, places-refused, places-passed, loops-refused, accepted, not-accepted, is-accepted}
use Rattle.analysis.proofs.accept.Goals as goal

pub returns-in_err-read_nodes : goal.returns-in_err-read_nodes
returns-in_err-read_nodes c =
    subst (Accepting c.args.table.now) (sym (handed c.from_residual.result _ c.from_residual.ensures.1)) (not-accepted (nodes-refused c.requires c.in_err-read_nodes.ensures _ _ refl))

pub survey_table-found-requires : goal.survey_table-found-requires
survey_table-found-requires c = (nodes-read c.requires c.in_ok-read_nodes.ensures refl).readable

pub returns-in_err-found : goal.returns-in_err-found
returns-in_err-found c =
    subst (Accepting c.args.table.now) (sym (handed c.from_residual-in_err-found.result _ c.from_residual-in_err-found.ensures.1))
    (not-accepted (places-refused (nodes-read c.requires c.in_ok-read_nodes.ensures refl) _ c.survey_table-found.ensures.check _ _ (ap reply c.in_err-found.was)))

pub check_loops-requires : goal.check_loops-requires
check_loops-requires c = places-passed (nodes-read c.requires c.in_ok-read_nodes.ensures refl) _ c.survey_table-found.ensures.check (ap reply c.in_ok-found.was)

pub returns-in_err-check_loops : goal.returns-in_err-check_loops
returns-in_err-check_loops c =
    subst (Accepting c.args.table.now) (sym (handed c.from_residual-in_err-check_loops.result _ c.from_residual-in_err-check_loops.ensures.1))
    (not-accepted (loops-refused (nodes-read c.requires c.in_ok-read_nodes.ensures refl) _ c.survey_table-found.ensures.check (ap reply c.in_ok-found.was) _ c.in_err-check_loops.ensures _ _ refl))

pub returns : goal.returns
returns c =
    is-accepted (accepted (nodes-read c.requires c.in_ok-read_nodes.ensures refl) _ c.survey_table-found.ensures.check (ap reply c.in_ok-found.was) _ c.in_ok-check_loops.ensures refl) c.survey_table-found.ensures.loops
