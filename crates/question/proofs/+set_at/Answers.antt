-- One law for each number of children.
use Rattle.std.proofs.Common.{arith}
use Rattle.table.proofs.TreeViews.{has_last, first_le}
use Rattle.analysis.proofs.Nodes.{exit-field}
use Rattle.question.proofs.Beneath.{leaf-word, one_word, two-word}
use Rattle.question.proofs.+set_at.Goals as goal

pub codes_of-requires : goal.codes_of-requires
codes_of-requires t c = let (ok, h) = c.requires in exit-field ok c.args.node h c.kind-kind.ensures c.field-field.ensures.0

pub returns-then-children-eq0 : goal.returns-then-children-eq0
returns-then-children-eq0 t c =
    let (ok, h) = c.requires in
    leaf-word ok h c.kind-kind.ensures c.field-field.ensures.0 c.arity-children.ensures c.if-children-eq0.true c.codes_of.ensures

pub overflow_sub-node : goal.overflow_sub-node
overflow_sub-node t c =
    let (ok, h) = c.requires in
    omega (arith, has_last ok.readable h c.kind-kind.ensures c.arity-children.ensures c.if-children-eq0.false)

pub set_at-last-requires : goal.set_at-last-requires
set_at-last-requires t c =
    let (ok, h) = c.requires in
    let some = has_last ok.readable h c.kind-kind.ensures c.arity-children.ensures c.if-children-eq0.false in
    (omega (arith, c.decreases, some), (ok, omega (arith, h)))

pub returns-then-children-eq1 : goal.returns-then-children-eq1
returns-then-children-eq1 t c =
    let (ok, h) = c.requires in
    one_word ok h c.kind-kind.ensures c.field-field.ensures.0 c.arity-children.ensures c.if-children-eq1.true c.set_at-last.ensures c.codes_of-then-children-eq1.ensures

pub overflow_sub-node-2 : goal.overflow_sub-node-2
overflow_sub-node-2 t c =
    let (ok, h) = c.requires in
    omega (arith, has_last ok.readable h c.kind-kind.ensures c.arity-children.ensures c.if-children-eq0.false)

pub overflow_sub-node-3 : goal.overflow_sub-node-3
overflow_sub-node-3 t c =
    let (ok, h) = c.requires in
    omega (arith, has_last ok.readable h c.kind-kind.ensures c.arity-children.ensures c.if-children-eq0.false)

pub overflow_sub-node-4 : goal.overflow_sub-node-4
overflow_sub-node-4 t c =
    let (ok, h) = c.requires in
    first_le ok.readable h c.kind-kind.ensures c.arity-children.ensures c.size.ensures c.if-children-eq0.false c.if-children-eq1.false

pub set_at-first-requires : goal.set_at-first-requires
set_at-first-requires t c =
    let (ok, h) = c.requires in
    let some = has_last ok.readable h c.kind-kind.ensures c.arity-children.ensures c.if-children-eq0.false in
    (omega (arith, c.decreases, some), (ok, omega (arith, h)))

pub returns : goal.returns
returns t c =
    let (ok, h) = c.requires in
    two-word ok h c.kind-kind.ensures c.field-field.ensures.0 c.arity-children.ensures c.size.ensures c.if-children-eq0.false c.if-children-eq1.false c.set_at-last.ensures c.set_at-first.ensures c.codes_of-2.ensures
