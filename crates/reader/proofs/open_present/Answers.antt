-- A name, and `then` or `else`.
use Rattle.grammar.specs.Machine.{a_present}
use Rattle.reader.proofs.Openings.{name-missing, branch-missing}
use Rattle.reader.proofs.open_present.Goals as goal

pub returns-in_err-name : goal.returns-in_err-name
returns-in_err-name c = rw c.from_residual.ensures (name-missing a_present c.in_err-name.ensures)

pub returns-in_err-end : goal.returns-in_err-end
returns-in_err-end c = rw c.from_residual-in_err-end.ensures (branch-missing c.in_ok-name.ensures c.in_default.ensures c.in_err-end.ensures)
