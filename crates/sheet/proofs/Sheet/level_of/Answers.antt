-- The level, and the mark where there is none.
use Rattle.std.proofs.Common.{◌∙◌}
use Rattle.sheet.specs.Sheet.{name_at}
use Rattle.sheet.proofs.Sheets.{exit-marked, exit-level}
use Rattle.sheet.proofs.Sheet.level_of.Goals as goal

pub returns-clause-level : goal.returns-clause-level
returns-clause-level c = λ ts g v f.
    let n = name_at c.args.text.now c.args.name in
    let e = c.find_level-level.ensures ts g v f in
    (c.unwrap_or-field.ensures ∙ exit-level c.args.text.now c.args.self.now ts n g f e c.around.result.now c.around.ensures, exit-marked c.args.text.now c.args.self.now ts n g f e c.is_none.result c.is_none.ensures)
