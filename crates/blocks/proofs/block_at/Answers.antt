use Rattle.std.proofs.Common.{ap, ◌∙◌, ◌*◌, ◌-◌, length, take, drop, arith}
use Rattle.std.proofs.lemmas.List.{take_all, length-drop}
use Rattle.blocks.specs.Editions.{block_at}
use Rattle.blocks.specs.Block.{block_size}
use Rattle.blocks.proofs.block_at.Goals as goal

pub returns : goal.returns
unfolding block_at
returns c =
    let rest = drop (block_size * c.args.i) c.args.file.now in
    (rw c.unwrap.ensures at c.first_chunk.ensures.cases).same
    ∙ ap (take block_size) (take_all (length c.args.file.now - block_size * c.args.i) rest (omega (arith, length-drop (block_size * c.args.i) c.args.file.now)))
