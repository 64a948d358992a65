-- `when` and a name, then the nodes.
use Rattle.reader.proofs.Endings.{when_missing, when_unnamed, when_named}
use Rattle.reader.proofs.close_when.Goals as goal

pub returns-in_err-named : goal.returns-in_err-named
returns-in_err-named c = λ depth. rw c.from_residual.ensures (when_missing c.args.text.now c.args.at c.requires.stops c.args.sheet.now depth c.in_err-named.ensures)

pub returns-in_err-name : goal.returns-in_err-name
returns-in_err-name c = λ depth. rw c.from_residual-in_err-name.ensures (when_unnamed c.args.text.now c.args.at c.requires.stops c.args.sheet.now depth c.in_ok-named.ensures c.in_err-name.ensures)

pub returns : goal.returns
returns c = λ depth. when_named c.args.text.now c.args.at c.requires.stops c.args.sheet.now depth c.in_ok-named.ensures c.in_ok-name.ensures _ c.put_met.ensures.nodes c.put_met.ensures.adds
