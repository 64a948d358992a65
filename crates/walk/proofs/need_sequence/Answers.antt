use Rattle.std.proofs.Common.{arith}
use Rattle.walk.proofs.Needs.{sequence-first}
use Rattle.walk.proofs.need_sequence.Goals as goal

pub returns : goal.returns
returns c = sequence-first (omega arith) c.best_sum.ensures
