-- An end.
use Rattle.std.proofs.Common.{rules, sym, ◌∙◌}
use denote.Enum.Bare.{same_true}
use Rattle.scan.specs.contracts.Mark.{the_type}
use Rattle.fault.proofs.Names.{end-closes}
use Rattle.fault.proofs.close_level.Goals as goal

pub returns-then-eq : goal.returns-then-eq
returns-then-eq c = λ x. end-closes c.args.mark (same_true the_type (search rules) _ _ (sym c.eq.ensures ∙ c.if-eq.true)) (c.leave_trap.ensures.around x)
