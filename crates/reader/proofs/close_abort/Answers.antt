-- `when`, a name and `end`, then the nodes.
use Rattle.reader.specs.Reading.{strength_of}
use Rattle.reader.proofs.Endings.{abort_unfinished, abort-unnamed, abort_unclosed, abort-closes}
use Rattle.reader.proofs.close_abort.Goals as goal

pub returns-in_err-named : goal.returns-in_err-named
returns-in_err-named c = λ depth. rw c.from_residual.ensures (abort_unfinished c.args.text.now c.args.at c.requires.stops c.args.sheet.now depth (strength_of c.args.strength) c.in_err-named.ensures)

pub returns-in_err-name : goal.returns-in_err-name
returns-in_err-name c = λ depth. rw c.from_residual-in_err-name.ensures (abort-unnamed c.args.text.now c.args.at c.requires.stops c.args.sheet.now depth (strength_of c.args.strength) c.in_ok-named.ensures c.in_err-name.ensures)

pub returns-in_err-end : goal.returns-in_err-end
returns-in_err-end c = λ depth. rw c.from_residual-in_err-end.ensures (abort_unclosed c.args.text.now c.args.at c.requires.stops c.args.sheet.now c.in_ok-named.ensures c.in_ok-name.ensures depth (strength_of c.args.strength) c.in_err-end.ensures)

pub returns : goal.returns
returns c = λ depth. abort-closes c.args.text.now c.args.at c.requires.stops c.args.sheet.now c.in_ok-named.ensures c.in_ok-name.ensures depth (strength_of c.args.strength) c.in_ok-end.ensures _ c.put_abort.ensures.nodes c.put_abort.ensures.adds
