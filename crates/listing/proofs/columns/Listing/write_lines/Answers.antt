-- The lines before `i` are written.
use Rattle.std.proofs.Common.{arith}
use Rattle.listing.proofs.Lines.{listing-fits, listing-next, listing-end}
use Rattle.listing.proofs.columns.Listing.write_lines.Goals as goal

pub write-requires : goal.write-requires
write-requires c = listing-fits c.loop-i.invariant (omega arith) c.line.ensures c.requires

pub loop-i-preserved : goal.loop-i-preserved
loop-i-preserved c = listing-next c.loop-i.invariant (omega arith) c.line.ensures c.write.ensures

pub returns : goal.returns
returns c = listing-end c.loop-i.invariant (omega arith)
