use Rattle.witness.proofs.Ticks.{goal-is}
use Rattle.witness.proofs.goal.Goals as goal

pub returns : goal.returns
returns c = goal-is
