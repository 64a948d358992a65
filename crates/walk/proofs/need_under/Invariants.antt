use Rattle.std.proofs.Common.{◌≡◌, ℕ, ◌<◌, get_or}
use Rattle.walk.specs.Needs.{under_at}
use Rattle.walk.proofs.need_under.Given as goal

abbrev pub invariant-loop-j : goal.invariant-loop-j
invariant-loop-j l = (i : ℕ) → i < l.j → get_or l.number-items i 0 ≡ under_at l.kind l.code l.need.of i
