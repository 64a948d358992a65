-- The checks in their order.
use Rattle.std.proofs.Common.{refl}
use Rattle.grammar.specs.Meaning.{overlong, derived}
use Rattle.sheet.proofs.Sheets.{fresh}
use Rattle.text.specs.Reading.{judged}
use Rattle.text.proofs.Parsing.{unread}
use Rattle.text.proofs.read.Goals as goal

pub returns-then-text-gt-MAX_SOURCE : goal.returns-then-text-gt-MAX_SOURCE
returns-then-text-gt-MAX_SOURCE c = rw c.fault_at-then-text-gt-MAX_SOURCE.ensures (judged _ _ _ c.if-table-lt-TABLE.false (overlong c.if-text-gt-MAX_SOURCE.true) (refl, refl))

pub returns-then-not-parse : goal.returns-then-not-parse
returns-then-not-parse c = rw c.into.ensures (unread c.args.text.now c.args.table.now _ _ c.if-table-lt-TABLE.false c.if-text-gt-MAX_SOURCE.false c.if-not-parse.ensures c.find_fault.ensures)

pub returns : goal.returns
returns c =
    let p = c.if-not-parse.ensures in
    judged _ _ _ c.if-table-lt-TABLE.false (derived p.tree c.if-text-gt-MAX_SOURCE.false p.derivation) (c.settle.ensures p.tree p.derivation (p.wrote (fresh c.args.text.now c.if-text-gt-MAX_SOURCE.false _ c.new-sheet.ensures)))
