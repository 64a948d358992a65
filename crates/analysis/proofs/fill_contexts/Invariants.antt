-- The nodes from `i` on are done.
use Rattle.table.specs.Program.{program_of}
use Rattle.analysis.specs.Contexts.{contexts_in, traps_in}
use Rattle.analysis.proofs.Contexts.{Walking}
use Rattle.analysis.proofs.fill_contexts.Given as goal

abbrev pub invariant-loop-i : goal.invariant-loop-i
invariant-loop-i l = Walking (program_of l.table) (contexts_in l.stack) (traps_in l.stack) l.node l.fn.contexts l.contexts l.fn.marks l.marks l.i
