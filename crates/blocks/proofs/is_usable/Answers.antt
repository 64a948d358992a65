use Rattle.blocks.proofs.Good.{of_another, of_this}
use Rattle.blocks.proofs.is_usable.Goals as goal

pub returns-then-word-program : goal.returns-then-word-program
returns-then-word-program c = of_another c.args.block.now c.word.ensures c.if-word-program.true

pub returns : goal.returns
returns c = of_this c.args.block.now c.word.ensures c.if-word-program.false c.is_good.ensures
