use Rattle.std.proofs.Common.{refl, arith}
use Rattle.abi.proofs.Telling.{small-longest, answered}
use Rattle.abi.proofs.bavzhrono_first_tick_answers.Goals as goal

pub tell-requires-clause-small : goal.tell-requires-clause-small
tell-requires-clause-small c = small-longest c.args.table.now c.args.answers.now _ _ c.find_longest-longest.ensures

pub returns : goal.returns
returns c = answered _ _ _ _ _ (omega arith) c.find_longest-longest.ensures refl c.tell.ensures
