use Rattle.packing.proofs.Spreading.{Spread}
use Rattle.packing.proofs.spread.Given as goal

-- the bits before that at `bit-index` are stored, and `rest` has the others
abbrev pub invariant-loop-bit : goal.invariant-loop-bit
invariant-loop-bit l = Spread l.byte l.fn.bytes l.bytes l.rest l.bit-index
