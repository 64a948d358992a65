use Rattle.std.proofs.Common.{sym, subst, rules, arith}
use Rattle.abi.specs.Exported.{Small}
use Rattle.abi.proofs.Telling.{small-read, read-told, answered}
use Rattle.abi.proofs.bavzhrono_read.Goals as goal

pub tell-requires-clause-small : goal.tell-requires-clause-small
tell-requires-clause-small c =
    subst Small (sym (read-told c.read.result c.map_err-reading.result (search rules))) (small-read _ _ _ _ c.read.ensures)

pub returns : goal.returns
returns c = answered _ _ _ _ _ (omega arith) c.read.ensures (read-told c.read.result c.map_err-reading.result (search rules)) c.tell.ensures
