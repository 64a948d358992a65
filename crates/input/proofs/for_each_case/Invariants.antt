-- Whatever cases are run from a turn's end, behind those before they are run from the start.
use Rattle.std.proofs.Common.{◌-◌}
use Rattle.input.specs.Cases.{RunsCases}
use Rattle.input.specs.declared.TheConstants.{CASES}
use Rattle.input.proofs.for_each_case.Given as goal

abbrev pub invariant-loop : goal.invariant-loop
invariant-loop g l =
    goal.F-IsAlwaysCallable g l.run_next
    × (RunsCases (λ p x q. goal.F-step g p x q) (CASES - l.counter) l.run_next → RunsCases (λ p x q. goal.F-step g p x q) CASES l.fn.run_next)
