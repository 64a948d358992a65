use Rattle.instant.proofs.Counting.{Counting}
use Rattle.instant.proofs.admission.count_held.Given as goal

-- the counts up to node `i` are written
abbrev pub invariant-loop-i : goal.invariant-loop-i
invariant-loop-i l = Counting l.held l.initial.counts l.counts l.n l.count l.i
