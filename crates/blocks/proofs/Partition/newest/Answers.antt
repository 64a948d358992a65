use Rattle.std.proofs.Common.{◌≡◌, arith}
use Rattle.blocks.specs.Editions.{blocks_in}
use Rattle.blocks.proofs.Choosing.{best_none, best-is}
use Rattle.blocks.proofs.Partition.newest.Goals as goal

pub loop-i-init : goal.loop-i-init
loop-i-init c = best_none c.args.self.now.file.now c.args.self.now.program

pub consider-best-requires : goal.consider-best-requires
unfolding blocks_in
consider-best-requires c = (omega arith, c.loop-i.invariant)

pub returns : goal.returns
unfolding blocks_in
returns c = let all : c.loop-i.i ≡ blocks_in c.args.self.now.file.now = omega arith in best-is c.args.self.now.file.now c.args.self.now.program c.args.self.now.bytes (rw all at c.loop-i.invariant)
