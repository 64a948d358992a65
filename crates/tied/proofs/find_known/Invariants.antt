-- For the nodes after those still to come, what is known of each node's own signal is found.
use Rattle.tied.specs.Passes.{tied_by}
use Rattle.tied.proofs.Known.{Finding}
use Rattle.tied.proofs.find_known.Given as goal

abbrev pub invariant-loop-i : goal.invariant-loop-i
invariant-loop-i l = Finding (tied_by l.ties) l.tree.table.now l.fn.known l.known l.lowest l.i
