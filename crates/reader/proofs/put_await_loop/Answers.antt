-- The nodes one after the other.
use Rattle.sheet.specs.Sheet.{name_at}
use Rattle.reader.proofs.Dialect.{await_put}
use Rattle.reader.proofs.put_await_loop.Goals as goal

pub returns-clause-adds : goal.returns-clause-adds
returns-clause-adds c = λ v. await_put c.args.text.now (name_at c.args.text.now c.args.name) (c.put.ensures.adds c.args.text.now) (c.note.ensures.notes.adds v) (c.put-2.ensures.adds c.args.text.now) (c.put-3.ensures.adds c.args.text.now) (c.put_named.ensures.adds v) (c.put-4.ensures.adds c.args.text.now) (c.put-5.ensures.adds c.args.text.now)
