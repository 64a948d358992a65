-- One count more is written: proofs/Counting.antt.
use Rattle.std.proofs.Common.{arith}
use Rattle.std.proofs.Math.ListN.{length-set}
use Rattle.instant.proofs.Counting.{counting_next}
use Rattle.instant.proofs.admission.count_held.Goals as goal

pub loop-i-preserved : goal.loop-i-preserved
loop-i-preserved c =
    let room = length-set c.args.counts.now 0 0 in
    counting_next (omega arith) c.loop-i.invariant c.loop-i-test.true c.requires.0 c.from-count.ensures
