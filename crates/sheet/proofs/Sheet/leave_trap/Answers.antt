-- The trap in front is no longer counted.
use Rattle.sheet.proofs.Sheets.{trap-left}
use Rattle.sheet.proofs.Sheet.leave_trap.Goals as goal

pub returns-clause-around : goal.returns-clause-around
returns-clause-around c = λ x t ts g f. trap-left x c.args.self.now c.saturating_sub-self.result c.saturating_sub-self.ensures t ts g f
