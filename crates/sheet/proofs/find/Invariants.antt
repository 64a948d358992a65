-- No name before the place is the one that is sought.
use Rattle.sheet.proofs.Searching.{Without}
use Rattle.sheet.proofs.find.Given as goal

abbrev pub invariant-loop-i : goal.invariant-loop-i
invariant-loop-i l = Without l.text l.others l.name l.i
