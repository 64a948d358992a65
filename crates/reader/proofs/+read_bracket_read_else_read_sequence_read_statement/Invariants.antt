-- The text that is left falls from call to call; a sequence counts for one more than its first statement.
use Rattle.std.proofs.Common.{◌+◌, ◌-◌, ◌*◌, length}
use Rattle.reader.proofs.Readers.{Branching, Going}
use Rattle.reader.proofs.+read_bracket_read_else_read_sequence_read_statement.Given as goal

abbrev pub decreases-read_bracket : goal.decreases-read_bracket
decreases-read_bracket l = 2 * (length l.text.now - l.at)

abbrev pub decreases-read_else : goal.decreases-read_else
decreases-read_else l = 2 * (length l.text.now - l.at)

abbrev pub decreases-read_sequence : goal.decreases-read_sequence
decreases-read_sequence l = 1 + 2 * (length l.text.now - l.at)

abbrev pub decreases-read_statement : goal.decreases-read_statement
decreases-read_statement l = 2 * (length l.text.now - l.at)

abbrev pub invariant-read_bracket-loop-last : goal.invariant-read_bracket-loop-last
invariant-read_bracket-loop-last l = Branching l.text l.at l.depth l.initial.sheet l.sheet l.start

abbrev pub decreases-read_bracket-loop-last : goal.decreases-read_bracket-loop-last
decreases-read_bracket-loop-last l = length l.text - l.start

abbrev pub invariant-read_sequence-loop-start : goal.invariant-read_sequence-loop-start
invariant-read_sequence-loop-start l = Going l.text l.initial.end l.depth l.initial.sheet l.sheet l.end

abbrev pub decreases-read_sequence-loop-start : goal.decreases-read_sequence-loop-start
decreases-read_sequence-loop-start l = length l.text - l.end
