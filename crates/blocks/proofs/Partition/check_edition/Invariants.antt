-- The parts before `k` are as they must be.
use Rattle.blocks.proofs.Completing.{Completing}
use Rattle.blocks.proofs.Partition.check_edition.Given as goal

abbrev pub invariant-loop-k : goal.invariant-loop-k
invariant-loop-k l = Completing l.self.file.now l.self.program l.edition l.parts l.length l.k
