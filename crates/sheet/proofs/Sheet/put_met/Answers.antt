-- The number, then the node.
use Rattle.grammar.specs.Progress.{note}
use Rattle.sheet.specs.Sheet.{number_of, name_at}
use Rattle.sheet.proofs.Sheets.{field-known}
use Rattle.sheet.proofs.Sheet.put_met.Goals as goal

pub returns-clause-adds : goal.returns-clause-adds
returns-clause-adds c = λ v ts g f.
    let m = note (name_at c.args.text.now c.args.name) g in
    field-known c.args.text.now _ ts m (number_of c.args.kind) c.note-number.result _ (λ q. c.note-number.ensures.notes.number ts g v f q) (c.put.ensures.adds c.args.text.now ts m (c.note-number.ensures.notes.adds v ts g f))
