-- The parts before `k` are written.
use Rattle.blocks.proofs.Completing.{content}
use Rattle.blocks.proofs.Joining.{Joining}
use Rattle.blocks.proofs.Partition.join.Given as goal

abbrev pub invariant-loop-k : goal.invariant-loop-k
invariant-loop-k l = Joining (content l.self.file.now l.self.program l.edition) l.parts l.initial.table l.table l.at l.k
