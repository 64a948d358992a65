-- A node's children are in the table before it, and their rows are done.
use Rattle.std.proofs.Common.{◌-◌, ◌<◌, ◌≤◌, arith}
use Rattle.table.proofs.TreeViews.{has_last, first_le}
use Rattle.table.proofs.Trees.{few}
use Rattle.rows.proofs.Said.{readable, said-low, leaf-low, no_child, one-child, two-child}
use Rattle.rows.proofs.row_at.Goals as goal
use Rattle.rows.proofs.row_at.Goals.{Else-children-eq0, Joined-children-eq1, then-children-eq1, else-children-eq1}

pub leaf_row-requires : goal.leaf_row-requires
leaf_row-requires c =
    (c.field.ensures.1, leaf-low c.requires.0 c.requires.1 c.kind-kind.ensures c.field.ensures.0 c.arity-children.ensures c.if-children-eq0.true)

pub returns-then-children-eq0 : goal.returns-then-children-eq0
returns-then-children-eq0 c =
    no_child c.requires.0 c.requires.1 c.kind-kind.ensures c.field.ensures.0 c.arity-children.ensures c.args.weight c.if-children-eq0.true c.leaf_row.ensures

last-lower : (c : Else-children-eq0) → 1 ≤ c.args.node
last-lower c = has_last (readable c.requires.0) c.requires.1 c.kind-kind.ensures c.arity-children.ensures c.if-children-eq0.false

pub overflow_sub-last : goal.overflow_sub-last
overflow_sub-last c = last-lower c

pub overflow_sub-first : goal.overflow_sub-first
overflow_sub-first c =
    first_le (readable c.requires.0) c.requires.1 c.kind-kind.ensures c.arity-children.ensures c.size.ensures c.if-children-eq0.false c.if-children-eq1.false

first-lower : (c : Joined-children-eq1) → 1 ≤ c.args.node → c.if-children-eq1.first < c.args.node
first-lower c some =
    elim c.if-children-eq1.branch [ then-children-eq1 w ↦ omega (arith, w.first-is) | else-children-eq1 w ↦ omega (arith, w.first-is) ]

pub offset_bounds-rows-first : goal.offset_bounds-rows-first
offset_bounds-rows-first c =
    omega (arith, c.requires.1, few c.args.tree.now.tree, first-lower (goal.at.offset_bounds-rows-first c).Joined-children-eq1 (last-lower (goal.at.offset_bounds-rows-first c).Else-children-eq0))

pub bounds-rows-first : goal.bounds-rows-first
bounds-rows-first c =
    omega (arith, c.requires.1, few c.args.tree.now.tree, c.requires.2.room, first-lower (goal.at.bounds-rows-first c).Joined-children-eq1 (last-lower (goal.at.bounds-rows-first c).Else-children-eq0))

pub offset_bounds-rows-last : goal.offset_bounds-rows-last
offset_bounds-rows-last c = omega (arith, c.requires.1, few c.args.tree.now.tree)

pub bounds-rows-last : goal.bounds-rows-last
bounds-rows-last c = omega (arith, c.requires.1, few c.args.tree.now.tree, c.requires.2.room)

pub row_of-requires : goal.row_of-requires
row_of-requires c =
    let some = last-lower (goal.at.row_of-requires c).Else-children-eq0 in
    let lower = first-lower (goal.at.row_of-requires c).Joined-children-eq1 some in
    (said-low c.requires.0 c.requires.2 c.if-children-eq1.first (omega arith) (omega (arith, c.requires.1)), said-low c.requires.0 c.requires.2 (c.args.node - 1) (omega arith) (omega (arith, c.requires.1)))

pub returns : goal.returns
returns c =
    elim c.if-children-eq1.branch [
      | then-children-eq1 w ↦ one-child c.requires.0 c.requires.1 c.kind-kind.ensures c.arity-children.ensures c.requires.2 (rw w.first-is at c.row_of.ensures) w.if-children-eq1.true
      | else-children-eq1 w ↦
          two-child c.requires.0 c.requires.1 c.kind-kind.ensures c.arity-children.ensures c.requires.2 (rw w.first-is at c.row_of.ensures) w.size.ensures c.if-children-eq0.false w.if-children-eq1.false
    ]
