use Rattle.table.specs.Program.{program_of}
use Rattle.listing.proofs.Lines.{Totalling}
use Rattle.listing.proofs.columns.Listing.lines_length.Given as goal

abbrev pub invariant-loop-i : goal.invariant-loop-i
invariant-loop-i l = Totalling (program_of l.self.table.now) l.total l.i
