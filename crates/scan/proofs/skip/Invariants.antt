-- The tokens from a place on stay the same over blanks.
use Rattle.std.proofs.Common.{◌≡◌}
use Rattle.scan.specs.Scanning.{rest, starts}
use Rattle.scan.proofs.skip.Given as goal

abbrev pub invariant-loop-i : goal.invariant-loop-i
invariant-loop-i l = (rest l.text l.at ≡ rest l.text l.i) × (starts l.text l.at ≡ starts l.text l.i)
