use Rattle.question.proofs.+look_at.Given as goal

abbrev pub decreases-look_at : goal.decreases-look_at
decreases-look_at l = l.node
