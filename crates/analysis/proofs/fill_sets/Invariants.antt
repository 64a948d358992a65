-- Before node `i` the words of the unused statements are on the stacks, and the entries before it are written.
use Rattle.std.proofs.Common.{List, true, false}
use Rattle.esterel.specs.Statement.{size}
use Rattle.table.specs.Program.{program_of}
use Rattle.table.proofs.Filling.{Filling}
use Rattle.table.proofs.Walk.{Waiting}
use Rattle.analysis.specs.Passes.{words_of, flags_of}
use Rattle.analysis.proofs.Unused.{Before, Words}
use Rattle.analysis.proofs.fill_sets.Given as goal

abbrev pub invariant-loop-i : goal.invariant-loop-i
invariant-loop-i l =
    record {
      us : List Waiting;
      before : Before (program_of l.table) us l.unused l.i;
      start_words : Words false us l.starts;
      any_words : Words true us l.anys;
      start_column : Filling (words_of false (program_of l.table)) l.fn.start_sets l.start_sets (size (program_of l.table)) l.i;
      any_column : Filling (words_of true (program_of l.table)) l.fn.any_sets l.any_sets (size (program_of l.table)) l.i;
      flag_column : Filling (flags_of (program_of l.table)) l.fn.flags l.flags (size (program_of l.table)) l.i;
    }
