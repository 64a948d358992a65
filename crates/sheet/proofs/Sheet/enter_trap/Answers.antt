-- The sheet is as before but for the trap in front.
use Rattle.sheet.proofs.Sheets.{trap-entered}
use Rattle.sheet.proofs.Sheet.enter_trap.Goals as goal

pub returns-then-self-lt-MAX_LEVELS-clause-around : goal.returns-then-self-lt-MAX_LEVELS-clause-around
returns-then-self-lt-MAX_LEVELS-clause-around c = λ x ts g v h f. trap-entered x c.args.name c.args.self.now c.if-self-lt-MAX_LEVELS.true c.of.result c.of.ensures.start c.of.ensures.stop ts g v f
