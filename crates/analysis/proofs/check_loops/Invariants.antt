-- Before node `i` the start sets of the unused statements are on the stack, and no loop before it has a body that may end at once.
use Rattle.std.proofs.Common.{List, false}
use Rattle.table.specs.Program.{program_of}
use Rattle.table.proofs.Walk.{Waiting}
use Rattle.analysis.proofs.Loops.{Searched}
use Rattle.analysis.proofs.Unused.{Before, Words}
use Rattle.analysis.proofs.check_loops.Given as goal

abbrev pub invariant-loop-i : goal.invariant-loop-i
invariant-loop-i l =
    record {
      us : List Waiting;
      before : Before (program_of l.table) us l.unused l.i;
      words : Words false us l.starts;
      searched : Searched (program_of l.table) l.i;
    }
