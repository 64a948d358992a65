-- A lemma for each return.
use Rattle.std.proofs.Common.{refl}
use Rattle.witness.proofs.Ticks.{late, early, accepted_tells, refused_tells, faulty, shown_tells}
use Rattle.witness.proofs.find_tick.Goals as goal

pub show-length-requires : goal.show-length-requires
show-length-requires c = faulty c.args.answers.now c.in-Err.ensures (late _ c.eq.ensures c.if-eq.true)

pub returns-in-Ok : goal.returns-in-Ok
returns-in-Ok c = accepted_tells c.args.answers.now c.in-Ok.ensures refl

pub returns-in-Err : goal.returns-in-Err
returns-in-Err c = shown_tells c.args.answers.now c.in-Err.ensures (late _ c.eq.ensures c.if-eq.true) c.show-length.ensures

pub returns-in-Err-2 : goal.returns-in-Err-2
returns-in-Err-2 c = refused_tells c.args.answers.now c.in-Err.ensures (early _ c.eq.ensures c.if-eq.false)
