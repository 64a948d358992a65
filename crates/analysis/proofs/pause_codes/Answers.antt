-- The two words compute.
use Rattle.codes.specs.Codes.{word}
use Rattle.analysis.proofs.pause_codes.Goals as goal

pub returns-then-any : goal.returns-then-any
unfolding word
returns-then-any c = rw c.if-any.true

pub returns-else-any : goal.returns-else-any
unfolding word
returns-else-any c = rw c.if-any.false
