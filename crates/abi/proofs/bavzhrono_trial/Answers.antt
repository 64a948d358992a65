use Rattle.abi.proofs.Telling.{small-tried}
use Rattle.abi.proofs.bavzhrono_trial.Goals as goal

pub tell-requires-clause-small : goal.tell-requires-clause-small
tell-requires-clause-small c = small-tried c.args.table.now c.args.node _ c.trial-tried.ensures
