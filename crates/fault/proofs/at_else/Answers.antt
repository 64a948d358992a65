-- The innermost is a then branch.
use Rattle.std.proofs.Common.{sym, ◌∙◌}
use Rattle.fault.proofs.Steps.{else_open}
use Rattle.fault.proofs.at_else.Goals as goal

pub returns-in-Then : goal.returns-in-Then
returns-in-Then c = λ p k s. let (e, b) = c.pop.ensures.top k s in else_open p k c.in-Then.is (sym c.in_ok-pop.was ∙ e) b c.enter.ensures
