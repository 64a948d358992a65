-- By the number of children. A node with children has one before it, and the first child is before the last.
use Rattle.std.proofs.Common.{arith}
use Rattle.table.proofs.Trees.{few}
use Rattle.table.proofs.TreeViews.{has_last, first_le}
use Rattle.analysis.proofs.Nodes.{exit-field}
use Rattle.tied.proofs.Words.{leaf-set, one_set, two-set}
use Rattle.tied.proofs.set_at.Goals as goal

pub codes_of-requires : goal.codes_of-requires
codes_of-requires c = let (ok, h, room) = c.requires in exit-field ok c.args.node h c.kind-kind.ensures c.field-field.ensures.0

pub returns-then-children-eq0 : goal.returns-then-children-eq0
returns-then-children-eq0 c =
    let (ok, h, room) = c.requires in
    leaf-set ok h c.kind-kind.ensures c.field-field.ensures.0 c.arity-children.ensures c.if-children-eq0.true c.codes_of.ensures

pub overflow_sub-last : goal.overflow_sub-last
overflow_sub-last c =
    let (ok, h, room) = c.requires in
    omega (arith, has_last ok.readable h c.kind-kind.ensures c.arity-children.ensures c.if-children-eq0.false)

pub bounds-sets-last : goal.bounds-sets-last
bounds-sets-last c =
    let (ok, h, room) = c.requires in
    omega (arith, has_last ok.readable h c.kind-kind.ensures c.arity-children.ensures c.if-children-eq0.false)

pub returns-then-children-eq1 : goal.returns-then-children-eq1
returns-then-children-eq1 c =
    let (ok, h, room) = c.requires in
    one_set ok h c.kind-kind.ensures c.field-field.ensures.0 c.arity-children.ensures c.if-children-eq1.true c.codes_of-then-children-eq1.ensures

pub overflow_sub-first : goal.overflow_sub-first
overflow_sub-first c =
    let (ok, h, room) = c.requires in
    first_le ok.readable h c.kind-kind.ensures c.arity-children.ensures c.size.ensures c.if-children-eq0.false c.if-children-eq1.false

pub bounds-known-node : goal.bounds-known-node
bounds-known-node c = omega (arith, few c.args.tree.now.tree, c.requires.1)

pub bounds-sets-first : goal.bounds-sets-first
bounds-sets-first c =
    let (ok, h, room) = c.requires in
    omega (arith, has_last ok.readable h c.kind-kind.ensures c.arity-children.ensures c.if-children-eq0.false)

pub bounds-sets-last-2 : goal.bounds-sets-last-2
bounds-sets-last-2 c =
    let (ok, h, room) = c.requires in
    omega (arith, has_last ok.readable h c.kind-kind.ensures c.arity-children.ensures c.if-children-eq0.false)

pub returns : goal.returns
returns c =
    let (ok, h, room) = c.requires in
    two-set ok h c.kind-kind.ensures c.field-field.ensures.0 c.arity-children.ensures c.size.ensures c.if-children-eq0.false c.if-children-eq1.false c.codes_under.ensures
