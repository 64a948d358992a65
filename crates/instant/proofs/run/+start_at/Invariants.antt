use Rattle.instant.proofs.run.+start_at.Given as goal

-- the call is upon a child: the node number falls
abbrev pub decreases-start_at : goal.decreases-start_at
decreases-start_at l = l.node
