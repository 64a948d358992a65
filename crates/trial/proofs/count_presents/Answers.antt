-- The nodes that are counted are the statement's presents: proofs/Presents.antt.
use Rattle.std.proofs.Common.{refl, ◌∙◌, ◌+◌, rules, tests}
use Rattle.std.proofs.lemmas.Iterator.{YieldsList-from_range}
use Rattle.std.proofs.lemmas.Iterator.Consumers.{count_from_yields_List, YieldsList-from_filter}
use Rattle.table.proofs.Trees.{readable}
use Rattle.trial.proofs.Presents.{is_present_at, presents_are}
use Rattle.trial.proofs.count_presents.Goals as goal

pub returns : goal.returns
returns c =
    count_from_yields_List _ _ c.count.ensures.ran
    (YieldsList-from_filter _ (is_present_at c.args.tree.now.table.now) (YieldsList-from_range c.args.first (c.args.node + 1) _ c.filter.ensures.source refl) c.filter.ensures.closure (λ x b q k. search (rules, tests)))
    ∙ presents_are (readable c.args.tree.now.tree) c.requires
