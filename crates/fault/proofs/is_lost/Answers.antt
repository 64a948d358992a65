-- No level has the name exactly where none was found.
use Rattle.sheet.proofs.Sheets.{unlevelled}
use Rattle.fault.proofs.is_lost.Goals as goal

pub returns : goal.returns
returns c = λ ls v l. unlevelled _ _ _ (c.find_level.ensures ls _ v l) c.is_none.ensures
