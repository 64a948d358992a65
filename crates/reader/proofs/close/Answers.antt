-- By the statement.
use Rattle.reader.proofs.close.Goals as goal

pub returns-in-Suspend : goal.returns-in-Suspend
returns-in-Suspend c = λ depth v. rw c.in-Suspend.is (c.close_when.ensures depth)

pub returns-in-Abort : goal.returns-in-Abort
returns-in-Abort c = λ depth v. rw c.in-Abort.is (c.close_abort.ensures depth)
