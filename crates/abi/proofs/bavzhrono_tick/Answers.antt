use Rattle.std.proofs.Common.{refl, arith}
use Rattle.abi.proofs.Telling.{small_tick, answered}
use Rattle.abi.proofs.bavzhrono_tick.Goals as goal

pub tell-requires-clause-small : goal.tell-requires-clause-small
tell-requires-clause-small c = small_tick c.args.table.now c.args.answers.now _ _ c.find_tick-tick.ensures

pub returns : goal.returns
returns c = answered _ _ _ _ _ (omega arith) c.find_tick-tick.ensures refl c.tell.ensures
