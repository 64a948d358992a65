use Rattle.table.specs.Program.{program_of}
use Rattle.listing.proofs.Lines.{Listing}
use Rattle.listing.proofs.columns.Listing.write_lines.Given as goal

abbrev pub invariant-loop-i : goal.invariant-loop-i
invariant-loop-i l = Listing (program_of l.self.table.now) l.fn.to l.to l.i
