use Rattle.abi.proofs.Telling.{small-asked}
use Rattle.abi.proofs.bavzhrono_ask.Goals as goal

pub tell-requires-clause-small : goal.tell-requires-clause-small
tell-requires-clause-small c = small-asked c.args.table.now c.args.node c.args.code _ c.ask-asked.ensures
