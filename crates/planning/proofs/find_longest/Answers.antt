-- A lemma for each return.
use Rattle.std.proofs.Common.{refl, sym, subst}
use Rattle.esterel.proofs.Replies.{handed as handed_on}
use Rattle.planning.specs.Planning.{Hands}
use Rattle.planning.proofs.Plans.{refused-hands, own, as_lent, some-node, last_tops, any-is, walking, handed}
use Rattle.planning.proofs.find_longest.Goals as goal

pub returns-in_err-tree : goal.returns-in_err-tree
returns-in_err-tree c =
    subst (Hands c.args.table.now c.args.answers.now c.args.answers.now) (sym (handed_on c.from_residual.result _ c.from_residual.ensures.1))
    (refused-hands c.args.answers.now c.in_err-tree.ensures)

pub overflow_sub-last : goal.overflow_sub-last
overflow_sub-last c = some-node c.args.answers.now (own c.in_ok-tree.ensures) c.nodes-n.ensures

pub top-entries-requires : goal.top-entries-requires
top-entries-requires c = last_tops c.args.answers.now (own c.in_ok-tree.ensures) c.nodes-n.ensures c.fill_rows.ensures

pub walk_at-length-requires : goal.walk_at-length-requires
walk_at-length-requires c = walking refl (own c.in_ok-tree.ensures) c.nodes-n.ensures c.fill_rows.ensures any-is

pub returns : goal.returns
returns c =
    as_lent (c.in_ok-tree.ensures.same _ refl)
    (handed c.args.answers.now (own c.in_ok-tree.ensures) c.nodes-n.ensures c.fill_rows.ensures any-is c.top-entries.ensures c.walk_at-length.ensures)
