-- None of the blocks from `i` on counts.
use Rattle.blocks.proofs.Finding.{Searching}
use Rattle.blocks.proofs.Partition.find.Given as goal

abbrev pub invariant-loop-i : goal.invariant-loop-i
invariant-loop-i l = Searching l.self.file.now l.self.program l.edition l.number l.i
