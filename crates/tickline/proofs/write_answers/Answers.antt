-- The answers before the index are written.
use Rattle.std.proofs.Common.{lit≤, arith}
use Rattle.tickline.proofs.Writing.{blank-fits, digit-fits, writing_next, writing_end}
use Rattle.tickline.proofs.write_answers.Goals as goal

pub byte-requires : goal.byte-requires
byte-requires c = blank-fits c.loop-answer.invariant (omega arith) c.requires

pub number-requires : goal.number-requires
number-requires c = (lit≤ tt, lit≤ tt, rw c.from.ensures (digit-fits c.loop-answer.invariant (omega arith) c.requires c.byte.ensures))

pub loop-answer-preserved : goal.loop-answer-preserved
loop-answer-preserved c = writing_next c.loop-answer.invariant (omega arith) c.byte.ensures (rw c.from.ensures at c.number.ensures)

pub returns : goal.returns
returns c = writing_end c.loop-answer.invariant (omega arith)
