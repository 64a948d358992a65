use Rattle.std.proofs.Common.{arith}
use Rattle.abi.proofs.Telling.{place-told, answered}
use Rattle.abi.proofs.bavzhrono_read_place.Goals as goal

pub returns : goal.returns
returns c = answered _ _ _ _ _ (omega arith) (_, _, omega arith, c.read.ensures) (place-told c.read.result _ c.err-fault.ensures.value) c.tell.ensures
