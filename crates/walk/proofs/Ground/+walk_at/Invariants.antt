-- A call is upon a child, whose node number is lower.
use Rattle.walk.proofs.Ground.+walk_at.Given as goal

abbrev pub decreases-walk_at : goal.decreases-walk_at
decreases-walk_at l = l.node
