use Rattle.abi.proofs.Telling.{small-analysed}
use Rattle.abi.proofs.bavzhrono_analyse.Goals as goal

pub tell-requires-clause-small : goal.tell-requires-clause-small
tell-requires-clause-small c = small-analysed _ c.analyse-analysed.ensures
