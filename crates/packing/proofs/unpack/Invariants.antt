use Rattle.packing.proofs.Spreading.{Unpacking}
use Rattle.packing.proofs.unpack.Given as goal

-- the nodes of the bytes before `j` are unpacked
abbrev pub invariant-loop-j : goal.invariant-loop-j
invariant-loop-j l = Unpacking l.state l.fn.bytes l.n l.bytes l.j
