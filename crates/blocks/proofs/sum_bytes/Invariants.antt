-- The bytes so far are summed.
use Rattle.blocks.proofs.Running.{Summing}
use Rattle.blocks.proofs.sum_bytes.Given as goal

abbrev pub invariant-loop-byte : goal.invariant-loop-byte
invariant-loop-byte l = Summing l.bytes l.first l.second l.byte-index
