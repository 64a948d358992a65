use Rattle.std.proofs.Common.{◌/◌, take}
use Rattle.table.proofs.Filling.{Filling}
use Rattle.packing.specs.Packing.{pack}
use Rattle.packing.proofs.pack.Given as goal

-- the bytes before `j` are packed
abbrev pub invariant-loop-j : goal.invariant-loop-j
invariant-loop-j l = Filling (pack (take l.n l.bytes)) l.fn.state l.state (l.n / 8) l.j
