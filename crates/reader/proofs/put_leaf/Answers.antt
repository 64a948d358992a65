-- By the statement.
use Rattle.reader.proofs.put_leaf.Goals as goal

pub returns-in-Nothing-clause-adds : goal.returns-in-Nothing-clause-adds
returns-in-Nothing-clause-adds c = rw c.in-Nothing.is (λ v. c.put.ensures.adds c.args.text.now)

pub returns-in-Pause-clause-adds : goal.returns-in-Pause-clause-adds
returns-in-Pause-clause-adds c = rw c.in-Pause.is (λ v. c.put-in-Pause.ensures.adds c.args.text.now)

pub returns-in-Emit-clause-adds : goal.returns-in-Emit-clause-adds
returns-in-Emit-clause-adds c = rw c.in-Emit.is (λ v. c.put_met.ensures.adds v)

pub returns-in-Halt-clause-adds : goal.returns-in-Halt-clause-adds
returns-in-Halt-clause-adds c = rw c.in-Halt.is (λ v. c.put_halt.ensures.adds c.args.text.now)

pub returns-in-Sustain-clause-adds : goal.returns-in-Sustain-clause-adds
returns-in-Sustain-clause-adds c = rw c.in-Sustain.is (λ v. c.put_sustain.ensures.adds v)
