-- `end`, then the node.
use Rattle.reader.proofs.Endings.{end-missing, end-closes}
use Rattle.reader.proofs.close_end.Goals as goal

pub returns-in_err-end : goal.returns-in_err-end
returns-in_err-end c = λ depth v. rw c.from_residual.ensures (end-missing c.args.text.now c.args.at c.requires.ready.stops c.args.sheet.now depth c.in_err-end.ensures c.args.frame c.requires.plain)

pub returns : goal.returns
returns c = λ depth v. end-closes c.args.text.now c.args.at c.requires.ready.stops c.args.sheet.now c.in_ok-end.ensures depth _ c.put_end.ensures.nodes c.args.frame c.requires.plain (c.put_end.ensures.ends v)
