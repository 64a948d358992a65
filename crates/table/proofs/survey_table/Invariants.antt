-- Each turn takes the walk one node further (proofs/Surveying.antt).
use Rattle.table.specs.Check.{depths_of, traps_of, loops_of}
use Rattle.table.specs.Program.{program_of}
use Rattle.table.proofs.Surveying.{State}
use Rattle.table.proofs.survey_table.Given as goal

abbrev pub invariant-loop-i : goal.invariant-loop-i
invariant-loop-i l = State (program_of l.table) (depths_of l.stack) (traps_of l.stack) (loops_of l.stack) l.node l.faults l.most l.i
