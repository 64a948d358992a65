-- Each turn writes one more set (proofs/Words.antt).
use Rattle.std.proofs.Common.{arith}
use Rattle.tied.proofs.Words.{next-set, all_set}
use Rattle.tied.proofs.fill_narrowed.Goals as goal

pub loop-i-preserved : goal.loop-i-preserved
loop-i-preserved c = next-set c.requires.1 c.loop-i.invariant (omega arith) c.set_at.ensures

pub returns : goal.returns
returns c = all_set c.requires.1 c.loop-i.invariant (omega arith)
