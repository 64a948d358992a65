-- The level, then the node.
use Rattle.grammar.specs.Progress.{leave}
use Rattle.sheet.specs.Sheet.{name_at}
use Rattle.sheet.proofs.Sheet.put_exit.Goals as goal

pub returns-clause-adds : goal.returns-clause-adds
returns-clause-adds c = λ v ts g f.
    let n = name_at c.args.text.now c.args.name in
    let (i, marked) = c.level_of-level.ensures.level ts g v f in
    rw i at (c.put.ensures.adds c.args.text.now ts (leave ts n g) marked)
