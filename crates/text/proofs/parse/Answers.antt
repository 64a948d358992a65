-- A sequence, and nothing after it.
use Rattle.text.proofs.Parsing.{never_read, told-ends}
use Rattle.text.proofs.parse.Goals as goal

pub returns-in_default : goal.returns-in_default
returns-in_default c = never_read c.args.text.now c.requires.short c.in_default.ensures

pub returns : goal.returns
returns c = told-ends c.args.text.now c.requires.short c.in-Some.ensures c.is_finished.result c.is_finished.ensures
