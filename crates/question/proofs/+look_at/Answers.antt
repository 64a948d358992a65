-- One law for each call and each return.
use Rattle.std.proofs.Common.{◌∙◌, arith}
use Rattle.table.proofs.Comparing.{same-is}
use Rattle.table.specs.declared.Kind.TheVariants.{Sequence}
use Rattle.question.proofs.Looking.{looked-few, own-few, all_looks, after-child, stop_looks, pass-low, pass_looks, first_below, first_settles, second-asked, then-has, else_asked}
use Rattle.question.proofs.+look_at.Goals as goal

pub returns-then-looks_at_all : goal.returns-then-looks_at_all
returns-then-looks_at_all t c =
    let (ok, h, low) = c.requires in
    all_looks ok.readable h c.kind-kind.ensures low c.looks_at_all.ensures c.if-looks_at_all.true c.set_at-set.ensures c.has.ensures c.size.ensures

pub overflow_sub-last : goal.overflow_sub-last
overflow_sub-last t c =
    let (ok, h, low) = c.requires in
    omega (arith, after-child ok.readable h c.kind-kind.ensures low c.looks_at_all.ensures c.if-looks_at_all.false)

pub returns-then-stops : goal.returns-then-stops
returns-then-stops t c =
    let (ok, h, low) = c.requires in
    stop_looks ok.readable h c.kind-kind.ensures low c.looks_at_all.ensures c.if-looks_at_all.false c.arity.ensures c.if-arity-eq1.true c.stops.ensures c.if-stops.true

pub look_at-inner-requires : goal.look_at-inner-requires
look_at-inner-requires t c =
    let (ok, h, low) = c.requires in (
      omega (arith, c.decreases, after-child ok.readable h c.kind-kind.ensures low c.looks_at_all.ensures c.if-looks_at_all.false),
      (ok, omega (arith, h), pass-low ok.readable h c.kind-kind.ensures low c.looks_at_all.ensures c.if-looks_at_all.false c.arity.ensures c.if-arity-eq1.true c.stops.ensures c.if-stops.false c.passed_code.ensures),
    )

pub passed_up-requires : goal.passed_up-requires
passed_up-requires t c =
    let (ok, h, low) = c.requires in
    looked-few ok.readable (omega (arith, h)) _ c.look_at-inner.ensures

pub returns-then-arity-eq1 : goal.returns-then-arity-eq1
returns-then-arity-eq1 t c =
    let (ok, h, low) = c.requires in
    pass_looks ok.readable h c.kind-kind.ensures low c.looks_at_all.ensures c.if-looks_at_all.false c.arity.ensures c.if-arity-eq1.true c.stops.ensures c.if-stops.false c.passed_code.ensures c.look_at-inner.ensures c.passed_up.ensures

pub overflow_sub-first : goal.overflow_sub-first
overflow_sub-first t c =
    let (ok, h, low) = c.requires in
    first_below ok.readable h c.kind-kind.ensures low c.looks_at_all.ensures c.if-looks_at_all.false c.arity.ensures c.if-arity-eq1.false c.size-2.ensures

pub passed_up-requires-then-stays-has : goal.passed_up-requires-then-stays-has
passed_up-requires-then-stays-has t c =
    let (ok, h, low) = c.requires in
    own-few ok.readable (omega (arith, h)) c.size-then-eq.ensures

pub returns-then-stays-has : goal.returns-then-stays-has
returns-then-stays-has t c =
    let (ok, h, low) = c.requires in
    first_settles ok.readable h c.kind-kind.ensures low c.looks_at_all.ensures c.if-looks_at_all.false c.arity.ensures c.if-arity-eq1.false c.size-2.ensures
    (c.eq.ensures ∙ same-is c.kind-kind.result Sequence) c.if-eq.true c.set_at-set-then-eq.ensures c.size-then-eq.ensures c.without_ended.ensures c.has-stays.ensures c.has-then-eq.ensures c.if-stays-has.true c.passed_up-then-stays-has.ensures

pub look_at-requires : goal.look_at-requires
look_at-requires t c =
    let (ok, h, low) = c.requires in
    (omega (arith, c.decreases, after-child ok.readable h c.kind-kind.ensures low c.looks_at_all.ensures c.if-looks_at_all.false), (ok, omega (arith, h), low))

pub joined-requires : goal.joined-requires
joined-requires t c =
    let (ok, h, low) = c.requires in
    (own-few ok.readable (omega (arith, h)) c.size-then-eq.ensures, looked-few ok.readable (omega (arith, h)) _ c.look_at.ensures)

pub returns-then-eq : goal.returns-then-eq
returns-then-eq t c =
    let (ok, h, low) = c.requires in
    second-asked ok.readable h c.kind-kind.ensures low c.looks_at_all.ensures c.if-looks_at_all.false c.arity.ensures c.if-arity-eq1.false c.size-2.ensures
    (c.eq.ensures ∙ same-is c.kind-kind.result Sequence) c.if-eq.true c.set_at-set-then-eq.ensures c.size-then-eq.ensures c.without_ended.ensures c.has-stays.ensures c.has-then-eq.ensures c.if-stays-has.false c.look_at.ensures c.joined.ensures

pub look_at-then-requires : goal.look_at-then-requires
look_at-then-requires t c =
    let (ok, h, low) = c.requires in
    (omega (arith, c.decreases, after-child ok.readable h c.kind-kind.ensures low c.looks_at_all.ensures c.if-looks_at_all.false), (ok, omega (arith, h), low))

pub passed_up-requires-then-then : goal.passed_up-requires-then-then
passed_up-requires-then-then t c =
    let (ok, h, low) = c.requires in
    looked-few ok.readable (omega (arith, h)) _ c.look_at-then.ensures

pub returns-then-then : goal.returns-then-then
returns-then-then t c =
    let (ok, h, low) = c.requires in
    then-has ok.readable h c.kind-kind.ensures low c.looks_at_all.ensures c.if-looks_at_all.false c.arity.ensures c.if-arity-eq1.false c.size-2.ensures
    (c.eq.ensures ∙ same-is c.kind-kind.result Sequence) c.if-eq.false c.look_at-then.ensures c.if-then.true c.passed_up-then-then.ensures

pub look_at-requires-2 : goal.look_at-requires-2
look_at-requires-2 t c =
    let (ok, h, low) = c.requires in
    (omega (arith, c.decreases, after-child ok.readable h c.kind-kind.ensures low c.looks_at_all.ensures c.if-looks_at_all.false), (ok, omega (arith, h), low))

pub joined-requires-2 : goal.joined-requires-2
joined-requires-2 t c =
    let (ok, h, low) = c.requires in
    (looked-few ok.readable (omega (arith, h)) _ c.look_at-then.ensures, looked-few ok.readable (omega (arith, h)) _ c.look_at-2.ensures)

pub returns : goal.returns
returns t c =
    let (ok, h, low) = c.requires in
    else_asked ok.readable h c.kind-kind.ensures low c.looks_at_all.ensures c.if-looks_at_all.false c.arity.ensures c.if-arity-eq1.false c.size-2.ensures
    (c.eq.ensures ∙ same-is c.kind-kind.result Sequence) c.if-eq.false c.look_at-then.ensures c.if-then.false c.look_at-2.ensures c.joined-2.ensures
