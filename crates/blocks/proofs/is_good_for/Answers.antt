use Rattle.blocks.proofs.Good.{other-part, this_part}
use Rattle.blocks.proofs.is_good_for.Goals as goal

pub returns-then-not-is_part : goal.returns-then-not-is_part
returns-then-not-is_part c = other-part c.args.program c.args.edition c.args.number c.args.block.now c.is_part.ensures c.if-not-is_part.true

pub returns : goal.returns
returns c = this_part c.args.program c.args.edition c.args.number c.args.block.now c.is_part.ensures c.if-not-is_part.false c.is_usable.ensures
