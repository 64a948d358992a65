-- The line of what was read is the line of the whole input.
use Prim.Native.Nat.{ℕ, ◌*◌, ◌<◌}
use mathlib.Core.List.{List}
use lib.ListN.{take}
use Rattle.esterel.specs.Limits.{max_nodes}
use Rattle.tickline.specs.Written.{LineWritten}
use Rattle.tickline.specs.Cut.{written_of_front}

pub line_of_front : (n : ℕ) (input t t' : List ℕ) (end : ℕ) → 2 * max_nodes < n → LineWritten (take n input) t t' end → LineWritten input t t' end
line_of_front n input t t' end h = written_of_front n input h
