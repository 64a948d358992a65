use Rattle.std.proofs.Common.{ap, ◌∙◌, arith}
use Rattle.blocks.specs.Editions.{blocks_in}
use Rattle.blocks.specs.Steps.{is_part}
use Rattle.blocks.proofs.Blocks.{few_blocks}
use Rattle.blocks.proofs.Finding.{search_start, search_bad, search_other, search_found, search_none}
use Rattle.blocks.proofs.Partition.find.Goals as goal
use Rattle.blocks.proofs.Partition.find.Goals.{else-self-i-via-then-self-i+else-is_part, else-self-i-via-else-self-i}

pub loop-i-init : goal.loop-i-init
unfolding blocks_in
loop-i-init c = search_start _ _ _ _

pub bounds-self-i : goal.bounds-self-i
unfolding blocks_in
bounds-self-i c = omega (arith, few_blocks c.args.self.now.file.now c.args.self.now.checked.fits)

pub returns-then-is_part : goal.returns-then-is_part
unfolding blocks_in
returns-then-is_part c = search_found c.args.self.now.checked c.loop-i.invariant _ (omega arith) c.if-self-i.true (c.is_part.ensures ∙ ap (is_part c.args.edition c.args.number) c.block_at.ensures) c.if-is_part.true c.place_at.ensures

pub loop-i-preserved : goal.loop-i-preserved
unfolding blocks_in
loop-i-preserved c =
    elim c.else-self-i.branch [
      | else-self-i-via-then-self-i+else-is_part w ↦ search_other c.args.self.now.checked c.loop-i.invariant _ (omega arith) w.if-self-i.true (w.is_part.ensures ∙ ap (is_part c.args.edition c.args.number) w.block_at.ensures) w.if-is_part.false
      | else-self-i-via-else-self-i w ↦ search_bad c.args.self.now.checked c.loop-i.invariant _ (omega arith) w.if-self-i.false
    ]

pub returns : goal.returns
unfolding blocks_in
returns c = search_none c.loop-i.invariant (omega arith)
