use Rattle.abi.proofs.Telling.{small-narrowed}
use Rattle.abi.proofs.bavzhrono_narrow.Goals as goal

pub tell-requires-clause-small : goal.tell-requires-clause-small
tell-requires-clause-small c = small-narrowed c.args.table.now c.args.ties.now c.args.sets.now _ _ c.narrow-narrowed.ensures
