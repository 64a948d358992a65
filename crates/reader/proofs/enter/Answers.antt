-- An only else branch: the signal is noted, and then the branch that is missing is written.
use Rattle.reader.proofs.enter.Goals as goal

pub returns-in-Else-clause-enters : goal.returns-in-Else-clause-enters
returns-in-Else-clause-enters c = rw c.in-Else.is (λ v ts g h f. c.put.ensures.adds c.args.text.now ts _ (c.note.ensures.notes.adds v ts g f))
