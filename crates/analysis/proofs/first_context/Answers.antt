-- By whether the second's start set meets the context.
use Rattle.analysis.proofs.Steps.{first-meets, first_misses}
use Rattle.analysis.proofs.first_context.Goals as goal

pub returns-then-meets : goal.returns-then-meets
returns-then-meets c = first-meets _ _ _ _ _ _ c.without_ended-others.ensures c.meets.ensures c.if-meets.true c.singleton.ensures c.union.ensures

pub returns : goal.returns
returns c = first_misses _ _ _ _ c.without_ended-others.ensures c.meets.ensures c.if-meets.false
