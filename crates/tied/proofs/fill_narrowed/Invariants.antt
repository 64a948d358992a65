-- The entries before `i` are the sets of the nodes before it.
use Rattle.tied.proofs.Words.{SetsTo}
use Rattle.tied.proofs.fill_narrowed.Given as goal

abbrev pub invariant-loop-i : goal.invariant-loop-i
invariant-loop-i l = SetsTo l.tree.table.now l.known l.fn.sets l.sets l.i
