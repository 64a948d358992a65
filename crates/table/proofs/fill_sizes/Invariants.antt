-- The entries before `i` are the sizes of the subtrees at the nodes before it, and the last of them is at hand.
use Rattle.table.specs.Program.{program_of}
use Rattle.table.proofs.Sizing.{Sizing}
use Rattle.table.proofs.fill_sizes.Given as goal

abbrev pub invariant-loop-i : goal.invariant-loop-i
invariant-loop-i l = Sizing (program_of l.table) l.fn.sizes l.sizes l.last l.i
