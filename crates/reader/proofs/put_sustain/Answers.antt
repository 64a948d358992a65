-- The nodes one after the other.
use Rattle.reader.proofs.put_sustain.Goals as goal

pub returns-clause-adds : goal.returns-clause-adds
returns-clause-adds c = λ v ts g f. c.put-3.ensures.adds c.args.text.now ts _ (c.put-2.ensures.adds c.args.text.now ts _ (c.put.ensures.adds c.args.text.now ts _ (c.put_met.ensures.adds v ts g f)))
