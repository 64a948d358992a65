-- By the statement.
use Rattle.reader.proofs.Endings.{loop-ends}
use Rattle.reader.proofs.put_end.Goals as goal

pub returns-in-Signal-clause-ends : goal.returns-in-Signal-clause-ends
returns-in-Signal-clause-ends c = rw c.in-Signal.is (λ v ts g f. c.put_named.ensures.adds v ts g f)

pub returns-in-Else-clause-ends : goal.returns-in-Else-clause-ends
returns-in-Else-clause-ends c = rw c.in-Else.is (λ v ts g f. c.put_named-in-Else.ensures.adds v ts g f)

pub returns-in-Trap-clause-ends : goal.returns-in-Trap-clause-ends
returns-in-Trap-clause-ends c = rw c.in-Trap.is (λ v ts g f. c.put.ensures.adds c.args.text.now ts g (c.leave_trap.ensures.around c.args.text.now _ ts g f))

pub returns-in_default-clause-ends : goal.returns-in_default-clause-ends
returns-in_default-clause-ends c = λ v. loop-ends c.args.text.now c.args.sheet.now _ c.args.frame c.requires.plain c.in_default.not-Signal c.in_default.not-Else c.in_default.not-Trap (c.put-in_default.ensures.adds c.args.text.now)
