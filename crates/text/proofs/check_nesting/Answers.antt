-- The bytes that were copied are those of the statement with its fields as bytes, which the survey takes.
use Rattle.std.proofs.Common.{ap, ◌∙◌}
use Rattle.esterel.specs.Statement.{Stmt}
use Rattle.esterel.specs.Sets.{places_of}
use Rattle.table.specs.Check.{places_check}
use Rattle.text.proofs.Settling.{few-is, readable, part-is}
use Rattle.text.proofs.check_nesting.Goals as goal

pub survey_table-requires : goal.survey_table-requires
survey_table-requires c =
    let s = c.requires.sheet in
    let k = few-is s.text c.args.sheet.now s.tree s.filled c.requires.counted in
    (readable s.text c.args.sheet.now s.tree s.filled c.requires.few k.0 _ (rw c.copy_table.ensures (part-is s.text c.args.sheet.now s.tree s.filled c.requires.few k.0 _))).0

pub returns : goal.returns
returns c = λ x t f.
    let k = few-is x c.args.sheet.now t f c.requires.counted in
    let e = (readable x c.args.sheet.now t f c.requires.few k.0 _ (rw c.copy_table.ensures (part-is x c.args.sheet.now t f c.requires.few k.0 _))).1 in
    c.survey_table.ensures.check ∙ ap (λ (p : Stmt). places_check (places_of p) 0) e
