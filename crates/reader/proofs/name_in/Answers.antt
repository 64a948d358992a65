-- A name and `in`.
use Rattle.reader.specs.Reading.{no_in}
use Rattle.reader.proofs.name_in.Goals as goal

pub returns-in_err-end : goal.returns-in_err-end
returns-in_err-end c = rw c.from_residual-in_err-end.ensures (no_in c.in_ok-name.ensures c.in_err-end.ensures)
