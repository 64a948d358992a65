-- A trap's name is a level.
use Rattle.std.proofs.Common.{◌≡◌, Some, refl, ap, ◌∙◌}
use Rattle.fault.specs.declared.Wanted.TheVariants.{TrapName}
use Rattle.fault.proofs.pass_name.Goals as goal

pub returns-in-Some-TrapName : goal.returns-in-Some-TrapName
returns-in-Some-TrapName c =
    let f : c.in-Some-TrapName.field-0 ≡ TrapName = rw c.in-Some-TrapName.is at c.in-Some-TrapName.field-0-is in
    let e : c.args.wanted ≡ Some TrapName = c.in-Some-TrapName.is ∙ ap Some f in
    rw e (λ ls v h l. record { levels = _; kept = c.enter_trap.ensures.around _ ls _ v h l; on = λ us. refl; room = λ us k. k.1 })
