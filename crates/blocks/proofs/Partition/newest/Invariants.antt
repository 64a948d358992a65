-- The best edition of the blocks before `i`.
use Rattle.blocks.specs.Steps.{Best}
use Rattle.blocks.proofs.Partition.newest.Given as goal

abbrev pub invariant-loop-i : goal.invariant-loop-i
invariant-loop-i l = Best l.self.file.now l.self.program l.i l.best
