use Rattle.std.proofs.Common.{refl, arith}
use Rattle.abi.proofs.Telling.{small-fetched, answered}
use Rattle.abi.proofs.bavzhrono_fetch.Goals as goal

pub tell-requires-clause-small : goal.tell-requires-clause-small
tell-requires-clause-small c = small-fetched c.args.file.now c.args.program _ _ _ c.fetch-fetched.ensures

pub returns : goal.returns
returns c = answered _ _ _ _ _ (omega arith) c.fetch-fetched.ensures refl c.tell.ensures
