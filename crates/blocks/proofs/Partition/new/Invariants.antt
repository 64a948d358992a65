-- The blocks before `i` are checked.
use Rattle.blocks.proofs.Blocks.{Checking}
use Rattle.blocks.proofs.Partition.new.Given as goal

abbrev pub invariant-loop-i : goal.invariant-loop-i
invariant-loop-i l = Checking l.file l.program l.good l.i
