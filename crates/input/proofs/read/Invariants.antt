-- Whatever reading goes on to from a turn's end, the reads before make it one from the start.
use Rattle.std.proofs.Common.{◌≡◌, ℕ, List, Result, length, ◌-◌, ◌≤◌}
use Rattle.std.specs.declared.io.Error.{Error}
use Rattle.input.specs.Reads.{Reads}
use Rattle.input.proofs.read.Given as goal

pub record Read (start buffer : List ℕ) (done : ℕ) : Type 0 where
  pub within : done ≤ length buffer
  pub size : length buffer ≡ length start
  pub goes_on : (b' : List ℕ) (r : Result ℕ Error) → Reads done buffer b' r → Reads 0 start b' r

abbrev pub invariant-loop-done : goal.invariant-loop-done
invariant-loop-done g l = Read l.fn.buffer l.buffer l.done

abbrev pub decreases-loop-done : goal.decreases-loop-done
decreases-loop-done g l = length l.buffer - l.done
