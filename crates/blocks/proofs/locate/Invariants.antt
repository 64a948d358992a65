-- None of the blocks from `last` on counts.
use Rattle.blocks.proofs.Finding.{Searching}
use Rattle.blocks.proofs.locate.Given as goal

abbrev pub invariant-loop-last : goal.invariant-loop-last
invariant-loop-last l = Searching l.file l.program l.edition l.number l.last
