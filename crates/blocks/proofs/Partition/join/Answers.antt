use Rattle.std.proofs.Common.{ap, ◌∙◌, ◌++◌, length, drop, arith}
use Rattle.blocks.specs.Editions.{content_of}
use Rattle.blocks.proofs.Counted.{place-within, place-content}
use Rattle.blocks.proofs.Completing.{table_is}
use Rattle.blocks.proofs.Joining.{joining_lent, joining_next, joining_skip, joining_end}
use Rattle.blocks.proofs.Partition.join.Goals as goal

pub overflow_add-end : goal.overflow_add-end
overflow_add-end c = omega (arith, place-within c.in-Some.ensures)

pub slice_bounds-copy-end : goal.slice_bounds-copy-end
slice_bounds-copy-end c = omega (arith, place-within c.in-Some.ensures)

pub copy-at-requires : goal.copy-at-requires
copy-at-requires c = joining_lent (omega (arith, ap length (table_is c.args.self.now.file.now c.args.self.now.program c.args.edition c.requires.parts), c.requires.room)) c.loop-k.invariant c.loop-k-test.true (place-content c.in-Some.ensures)

pub loop-k-preserved-in_default : goal.loop-k-preserved-in_default
loop-k-preserved-in_default c = joining_skip c.loop-k.invariant c.loop-k-test.true (ap (content_of c.args.self.now.file.now) (rw c.in_default.is at c.find.ensures))

pub loop-k-preserved : goal.loop-k-preserved
loop-k-preserved c = joining_next (omega (arith, ap length (table_is c.args.self.now.file.now c.args.self.now.program c.args.edition c.requires.parts), c.requires.room)) c.loop-k.invariant c.loop-k-test.true (place-content c.in-Some.ensures) c.copy-at.ensures.0 c.copy-at.ensures.1

pub returns : goal.returns
returns c =
    joining_end (omega (arith, ap length (table_is c.args.self.now.file.now c.args.self.now.program c.args.edition c.requires.parts), c.requires.room)) c.loop-k.invariant c.loop-k-test.false
    ∙ ap (λ t. t ++ drop (length t) c.args.table.now) (table_is c.args.self.now.file.now c.args.self.now.program c.args.edition c.requires.parts)
