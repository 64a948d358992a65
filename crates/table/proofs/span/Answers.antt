-- The children stand before the node, and their sizes with it come to at most node + 1.
use Rattle.std.proofs.Common.{◌≡◌, arith}
use Rattle.table.specs.Check.{span_of}
use Rattle.table.proofs.span.Goals as goal

pub returns-in-0 : goal.returns-in-0
unfolding span_of
returns-in-0 c = rw c.in-0.is

pub overflow_add-result : goal.overflow_add-result
unfolding span_of
overflow_add-result c = omega (arith, rw c.in-1.is at c.requires.fits)

pub returns-in-1 : goal.returns-in-1
unfolding span_of
returns-in-1 c = rw c.in-1.is

pub returns-in_default : goal.returns-in_default
unfolding span_of
returns-in_default c = let two : c.args.children ≡ 2 = omega arith in rw (two, c.size_at.ensures)
