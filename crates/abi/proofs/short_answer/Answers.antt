use Rattle.std.proofs.Common.{sym, arith}
use Rattle.table.proofs.Found.{length-refusal}
use Rattle.abi.proofs.short_answer.Goals as goal

pub returned-requires-2 : goal.returned-requires-2
returned-requires-2 c = omega (arith, (length-refusal c.args.table.now _ _ (sym c.in-Err.ensures)).2)
