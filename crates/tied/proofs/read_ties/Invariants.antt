-- The bytes before this one are 0, 1 or 2, and what they say is read.
use Rattle.tied.proofs.Reading.{Reading}
use Rattle.tied.proofs.read_ties.Given as goal

abbrev pub invariant-loop-signal : goal.invariant-loop-signal
invariant-loop-signal l = Reading l.bytes l.ties l.signal
