use Rattle.question.proofs.+set_at.Given as goal

abbrev pub decreases-set_at : goal.decreases-set_at
decreases-set_at l = l.node
