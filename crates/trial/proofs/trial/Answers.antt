-- One law for each return: proofs/Calling.antt.
use Rattle.std.proofs.Common.{◌∙◌}
use Rattle.esterel.proofs.Replies.{handed}
use Rattle.trial.proofs.Calling.{table-refused, outside, size_fits, too_many, found}
use Rattle.trial.proofs.trial.Goals as goal

pub returns-in_err-tree : goal.returns-in_err-tree
returns-in_err-tree c = handed c.from_residual.result _ c.from_residual.ensures.1 ∙ table-refused c.args.node c.in_err-tree.ensures

pub returns-then-nodes-node : goal.returns-then-nodes-node
returns-then-nodes-node c = outside c.args.node c.in_ok-tree.ensures c.nodes.ensures c.if-nodes-node.true

pub overflow_sub-first : goal.overflow_sub-first
overflow_sub-first c = size_fits c.args.node c.in_ok-tree.ensures c.nodes.ensures c.if-nodes-node.false c.size.ensures

pub returns-then-presents-gt-ANSWERS : goal.returns-then-presents-gt-ANSWERS
returns-then-presents-gt-ANSWERS c =
    too_many c.args.node c.in_ok-tree.ensures c.nodes.ensures c.if-nodes-node.false c.count_presents-presents.ensures c.if-presents-gt-ANSWERS.true

pub returns : goal.returns
returns c =
    found c.args.node c.in_ok-tree.ensures c.nodes.ensures c.if-nodes-node.false c.count_presents-presents.ensures c.if-presents-gt-ANSWERS.false c.gather-set.ensures
