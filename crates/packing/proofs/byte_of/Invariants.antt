use Rattle.packing.proofs.Bytes.{Gathering}
use Rattle.packing.proofs.byte_of.Given as goal

-- the bits of the nodes that have come are gathered
abbrev pub invariant-loop-bit : goal.invariant-loop-bit
invariant-loop-bit l = Gathering l.bytes l.bit-iterator.iter.rest.now l.byte
