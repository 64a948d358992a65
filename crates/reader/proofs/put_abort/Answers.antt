-- The nodes one after the other.
use Rattle.sheet.specs.Sheet.{name_at}
use Rattle.reader.specs.Reading.{strength_of}
use Rattle.reader.proofs.Dialect.{abort_put}
use Rattle.reader.proofs.put_abort.Goals as goal

pub returns-clause-adds : goal.returns-clause-adds
returns-clause-adds c = λ v. abort_put c.args.text.now (name_at c.args.text.now c.args.name) (strength_of c.args.strength) (c.put_guard.ensures.adds v) (c.put.ensures.adds c.args.text.now) (c.put-2.ensures.adds c.args.text.now) (c.put_await_loop.ensures.adds v) (c.put-3.ensures.adds c.args.text.now) (c.leave_trap.ensures.around c.args.text.now) (c.put-4.ensures.adds c.args.text.now)
