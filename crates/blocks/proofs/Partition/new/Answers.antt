use Rattle.std.proofs.Common.{ap, ◌∙◌, arith}
use Rattle.blocks.specs.Editions.{blocks_in}
use Rattle.blocks.specs.Steps.{usable}
use Rattle.blocks.proofs.Blocks.{few_blocks, checking_next, checking_end}
use Rattle.blocks.proofs.Partition.new.Goals as goal

pub bounds-good-i : goal.bounds-good-i
unfolding blocks_in
bounds-good-i c = omega (arith, few_blocks c.args.file.now c.requires)

pub loop-i-preserved : goal.loop-i-preserved
unfolding blocks_in
loop-i-preserved c = checking_next c.requires c.loop-i.invariant (omega arith) (c.is_usable.ensures ∙ ap (usable c.args.program) c.block_at.ensures)

pub invariant_of-result : goal.invariant_of-result
unfolding blocks_in
invariant_of-result c = record { checked = checking_end c.requires c.loop-i.invariant (omega arith); bytes = λ j. omega (arith, c.type_inv.file j) }
