-- One law for each return.
use Rattle.std.proofs.Common.{◌∙◌, arith}
use Rattle.esterel.proofs.Replies.{handed}
use Rattle.question.proofs.Asking.{table-refused, outside, above, known}
use Rattle.question.proofs.ask.Goals as goal

pub returns-in_err-tree : goal.returns-in_err-tree
returns-in_err-tree c =
    handed c.from_residual.result _ c.from_residual.ensures.1 ∙ table-refused c.args.node c.args.code c.in_err-tree.ensures

pub returns-then-nodes-node : goal.returns-then-nodes-node
returns-then-nodes-node c = outside c.args.node c.args.code c.in_ok-tree.ensures (omega arith)

pub returns-then-code-gt-MAX_CODE : goal.returns-then-code-gt-MAX_CODE
returns-then-code-gt-MAX_CODE c = above c.args.node c.args.code c.in_ok-tree.ensures (omega arith) c.if-code-gt-MAX_CODE.true

pub returns : goal.returns
returns c = known c.args.node c.args.code c.in_ok-tree.ensures (omega arith) c.if-code-gt-MAX_CODE.false c.look_at.ensures
