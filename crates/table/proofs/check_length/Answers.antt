-- Its tests are those of the definition, in the same order.
use Rattle.std.proofs.lemmas.Bool.{lt-ltb, le-ltb}
use Rattle.table.specs.Check.{length_check}
use Rattle.table.proofs.check_length.Goals as goal

pub returns-then-length : goal.returns-then-length
unfolding length_check
returns-then-length c = rw (lt-ltb _ _ c.if-length.true)

pub returns-then-length-2 : goal.returns-then-length-2
unfolding length_check
returns-then-length-2 c = rw (le-ltb _ _ c.if-length.false, c.if-length-2.true)

pub returns : goal.returns
unfolding length_check
returns c = rw (le-ltb _ _ c.if-length.false, c.if-length-2.false)
