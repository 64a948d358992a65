use Rattle.std.proofs.Common.{refl, arith}
use Rattle.abi.proofs.Telling.{small-planned, answered}
use Rattle.abi.proofs.bavzhrono_first_tick.Goals as goal

pub tell-requires-clause-small : goal.tell-requires-clause-small
tell-requires-clause-small c = small-planned c.args.table.now _ c.most_entries-planned.ensures

pub returns : goal.returns
returns c = answered _ _ _ _ _ (omega arith) c.most_entries-planned.ensures refl c.tell.ensures
