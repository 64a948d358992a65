-- A pause and a loop.
use Rattle.reader.proofs.put_halt.Goals as goal

pub returns-clause-adds : goal.returns-clause-adds
returns-clause-adds c = λ x ts g f. c.put-2.ensures.adds x ts _ (c.put.ensures.adds x ts g f)
