-- The tests are those of the definition, in the same order.
use Rattle.std.proofs.Common.{◌∙◌}
use Rattle.blocks.proofs.Good.{first_bad, second_bad, matching, too_short, too_long, filled, each_zero}
use Rattle.blocks.proofs.is_good.Goals as goal

pub returns-then-from-sums : goal.returns-then-from-sums
returns-then-from-sums c = first_bad c.args.block.now c.from.ensures c.sum_bytes-sums.ensures.first c.if-from-sums.true

pub returns-then-from-sums-2 : goal.returns-then-from-sums-2
returns-then-from-sums-2 c =
    second_bad c.args.block.now c.from.ensures c.sum_bytes-sums.ensures.first c.if-from-sums.false c.from-2.ensures c.sum_bytes-sums.ensures.second c.if-from-sums-2.true

pub returns-then-used-lt1 : goal.returns-then-used-lt1
returns-then-used-lt1 c =
    let match = matching c.args.block.now c.from.ensures c.sum_bytes-sums.ensures.first c.if-from-sums.false c.from-2.ensures c.sum_bytes-sums.ensures.second c.if-from-sums-2.false in
    too_short c.args.block.now match (c.from-used.ensures ∙ c.word.ensures) c.if-used-lt1.true

pub returns-then-used-gt-CONTENT : goal.returns-then-used-gt-CONTENT
returns-then-used-gt-CONTENT c =
    let match = matching c.args.block.now c.from.ensures c.sum_bytes-sums.ensures.first c.if-from-sums.false c.from-2.ensures c.sum_bytes-sums.ensures.second c.if-from-sums-2.false in
    too_long c.args.block.now match (c.from-used.ensures ∙ c.word.ensures) c.if-used-lt1.false c.if-used-gt-CONTENT.true

pub returns : goal.returns
returns c =
    let match = matching c.args.block.now c.from.ensures c.sum_bytes-sums.ensures.first c.if-from-sums.false c.from-2.ensures c.sum_bytes-sums.ensures.second c.if-from-sums-2.false in
    filled c.args.block.now match (c.from-used.ensures ∙ c.word.ensures) c.if-used-lt1.false c.if-used-gt-CONTENT.false (each_zero _ c.all_zero.ensures)
