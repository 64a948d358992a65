-- The count of signals.
use Rattle.fault.proofs.Names.{crowd-told}
use Rattle.fault.proofs.is_crowding.Goals as goal

pub returns : goal.returns
returns c = λ ns v l. let m = c.note.ensures.notes.adds v _ _ l in (crowd-told _ m, m)
