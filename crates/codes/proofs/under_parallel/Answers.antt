use Rattle.std.proofs.Common.{ap, sym, ◌∙◌, arith}
use Rattle.codes.proofs.Operations.{under-parallel-none, under-parallel-is}
use Rattle.codes.specs.Words.{under_parallel_of}
use Rattle.codes.proofs.under_parallel.Goals as goal

pub returns-then-context-eq0 : goal.returns-then-context-eq0
returns-then-context-eq0 c = under-parallel-none c.args.traps ∙ ap (under_parallel_of c.args.traps) (sym c.if-context-eq0.true)

pub returns : goal.returns
returns c = c.span.ensures ∙ under-parallel-is c.args.traps c.args.context (omega arith) c.ranges.context.fits
