-- The lock program's lines and instants hold by computing the definitions.
use mathlib.Core.Path.{refl}
use Rattle.esterel.specs.Codes.{word}
use Rattle.esterel.specs.Lock.{Lock}

pub lock_program : Lock
unfolding word
lock_program = record { read = refl; lines = refl; first = refl; next = refl; lines_once = refl; lines_alone = refl; lines_followed = refl }
