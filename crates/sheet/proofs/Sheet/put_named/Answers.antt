-- The number, then the node.
use Rattle.sheet.specs.Sheet.{number_of}
use Rattle.sheet.proofs.Sheets.{field-known}
use Rattle.sheet.proofs.Sheet.put_named.Goals as goal

pub returns-clause-adds : goal.returns-clause-adds
returns-clause-adds c = λ v ts g f. field-known c.args.text.now _ ts g (number_of c.args.kind) c.number_of-field.result _ (λ q. c.number_of-field.ensures ts g v f q) (c.put.ensures.adds c.args.text.now ts g f)
