use Rattle.abi.proofs.Telling.{small_started}
use Rattle.abi.proofs.bavzhrono_start.Goals as goal

pub tell-requires-clause-small : goal.tell-requires-clause-small
tell-requires-clause-small c = small_started c.args.table.now c.args.answers.now _ c.start-reaction.ensures
