use Rattle.abi.proofs.Telling.{small_resumed}
use Rattle.abi.proofs.bavzhrono_resume.Goals as goal

pub tell-requires-clause-small : goal.tell-requires-clause-small
tell-requires-clause-small c = small_resumed c.args.table.now c.args.answers.now _ c.resume-reaction.ensures
