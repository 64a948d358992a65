-- A trap of no letters.
use Rattle.fault.proofs.Names.{level-entered}
use Rattle.fault.proofs.enter_level.Goals as goal

pub returns : goal.returns
returns c = λ x. level-entered c.args.at (c.enter_trap.ensures.around x)
