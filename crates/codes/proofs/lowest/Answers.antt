use Rattle.std.proofs.Common.{ap, sym, ◌∙◌, arith}
use Rattle.codes.proofs.Operations.{lowest-none, lowest-is}
use Rattle.codes.specs.Words.{lowest_of}
use Rattle.codes.proofs.lowest.Goals as goal

pub returns-then-set-eq0 : goal.returns-then-set-eq0
returns-then-set-eq0 c = lowest-none ∙ sym (ap lowest_of c.if-set-eq0.true)

pub returns : goal.returns
returns c = lowest-is c.args.set (omega arith) c.ranges.set.fits
