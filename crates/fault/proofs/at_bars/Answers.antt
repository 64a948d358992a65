-- The innermost is a bracket.
use Rattle.std.proofs.Common.{sym, ◌∙◌}
use Rattle.fault.proofs.Steps.{bars_open}
use Rattle.fault.proofs.at_bars.Goals as goal

pub returns-in-First : goal.returns-in-First
returns-in-First c = λ p k s. let (e, b) = c.pop.ensures.top k s in bars_open p k c.in-First.is (sym c.in_ok-pop.was ∙ e) b c.enter.ensures
