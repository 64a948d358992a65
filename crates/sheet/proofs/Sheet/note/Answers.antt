-- A name that is known, a new one, or the 257th.
use Rattle.std.proofs.Common.{arith}
use Rattle.sheet.proofs.Sheets.{notes-known, notes-last, notes-new}
use Rattle.sheet.proofs.Sheet.note.Goals as goal
use Rattle.sheet.proofs.Sheet.note.Goals.{then-count-lt-SIGNALS, else-count-lt-SIGNALS}

pub returns-in-Some-clause-notes : goal.returns-in-Some-clause-notes
returns-in-Some-clause-notes c = notes-known c.args.text.now c.args.name c.args.self.now c.if-count-gt-SIGNALS.false c.in-Some.ensures

pub returns-clause-notes : goal.returns-clause-notes
returns-clause-notes c =
    elim c.if-count-lt-SIGNALS.branch [
      | then-count-lt-SIGNALS w ↦ rw w.self-is (notes-new c.args.text.now c.args.name c.args.self.now w.if-count-lt-SIGNALS.true c.in_default.ensures w.of.result w.of.ensures.start w.of.ensures.stop)
      | else-count-lt-SIGNALS w ↦ rw w.self-is (notes-last c.args.text.now c.args.name c.args.self.now (omega (arith, c.if-count-gt-SIGNALS.false, w.if-count-lt-SIGNALS.false)) c.in_default.ensures _)
    ]
