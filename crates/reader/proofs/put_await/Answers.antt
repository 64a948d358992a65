-- The loop, and a trap.
use Rattle.reader.proofs.put_await.Goals as goal

pub returns-clause-adds : goal.returns-clause-adds
returns-clause-adds c = λ v ts g f. c.put.ensures.adds c.args.text.now ts _ (c.put_await_loop.ensures.adds v ts ts g f)
