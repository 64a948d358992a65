-- Strings of two lengths differ.
use Rattle.std.proofs.Common.{sym}
use Rattle.scan.proofs.Words.{same_lengths}
use Rattle.scan.proofs.is_same.Goals as goal

pub returns-then-a-b : goal.returns-then-a-b
returns-then-a-b c = sym (same_lengths c.args.a.now c.args.b.now c.if-a-b.true)
