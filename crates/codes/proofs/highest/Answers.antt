use Rattle.std.proofs.Common.{ap, sym, ◌∙◌, arith}
use Rattle.codes.proofs.Operations.{highest-none, highest-is}
use Rattle.codes.specs.Words.{highest_of}
use Rattle.codes.proofs.highest.Goals as goal

pub returns-then-set-eq0 : goal.returns-then-set-eq0
returns-then-set-eq0 c = highest-none ∙ sym (ap highest_of c.if-set-eq0.true)

pub returns : goal.returns
returns c = highest-is c.args.set (omega arith) c.ranges.set.fits
