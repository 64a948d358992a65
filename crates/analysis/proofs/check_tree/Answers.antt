-- One law for each return.
use Rattle.analysis.proofs.Analyses.{sizable, tree-checked}
use Rattle.analysis.proofs.check_tree.Goals as goal

pub new-requires : goal.new-requires
new-requires c = sizable c.in_ok-check_table.ensures c.args.sizes.now c.requires

pub returns : goal.returns
returns c = tree-checked c.in_ok-check_table.ensures _ c.new.ensures
