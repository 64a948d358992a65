-- `end`, then the nodes.
use Rattle.sheet.specs.Sheet.{name_at}
use Rattle.reader.proofs.Readers.{then_unclosed, then-closes}
use Rattle.reader.proofs.close_then.Goals as goal

pub returns-in_err-end : goal.returns-in_err-end
returns-in_err-end c = λ depth v. rw c.from_residual.ensures (then_unclosed c.args.text.now c.args.at depth c.args.sheet.now (name_at c.args.text.now c.args.name) c.requires.ready c.requires.no_else c.in_err-end.ensures)

pub returns : goal.returns
returns c = λ depth v. then-closes c.args.text.now c.args.at depth c.args.sheet.now (name_at c.args.text.now c.args.name) _ c.in_ok-end.ensures c.put.ensures.nodes (c.put.ensures.adds c.args.text.now) c.put_named.ensures.nodes (c.put_named.ensures.adds v)
