-- By whether the first may end at once.
use Rattle.analysis.proofs.Steps.{sequence-ends, sequence-stays}
use Rattle.analysis.proofs.sequence_codes.Goals as goal

pub returns-then-has : goal.returns-then-has
returns-then-has c = sequence-ends _ _ _ _ _ c.without_ended-stays.ensures c.has.ensures c.if-has.true c.union.ensures

pub returns : goal.returns
returns c = sequence-stays _ _ _ _ c.without_ended-stays.ensures c.has.ensures c.if-has.false
