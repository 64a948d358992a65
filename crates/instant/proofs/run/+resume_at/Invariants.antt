use Rattle.instant.proofs.run.+resume_at.Given as goal

-- the call is upon a child: the node number falls
abbrev pub decreases-resume_at : goal.decreases-resume_at
decreases-resume_at l = l.node
