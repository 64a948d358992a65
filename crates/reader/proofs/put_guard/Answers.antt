-- A strong abort suspends.
use Rattle.reader.proofs.put_guard.Goals as goal

pub returns-in-Strong-clause-adds : goal.returns-in-Strong-clause-adds
returns-in-Strong-clause-adds c = rw c.in-Strong.is (λ v. c.put_met.ensures.adds v)
