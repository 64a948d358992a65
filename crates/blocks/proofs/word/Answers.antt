use Rattle.std.proofs.Common.{arith}
use Rattle.blocks.specs.Block.{word}
use Rattle.blocks.proofs.word.Goals as goal

pub returns : goal.returns
unfolding word
returns c = omega (arith, c.from_le_bytes.ensures)
