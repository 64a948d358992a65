-- One law for each call and each return.
use Rattle.std.proofs.Common.{◌≡◌, ℕ, ◌-◌, ◌≤◌, true, false, refl, sym, ◌∙◌, inl, inr, arith}
use Rattle.table.specs.declared.Kind.TheVariants.{Present, Sequence}
use Rattle.table.specs.Kinds.{is_present}
use Rattle.table.proofs.Comparing.{same-is}
use Rattle.rows.specs.Filled.{numbers_at}
use Rattle.rows.proofs.Said.{readable}
use Rattle.table.proofs.TreeViews.{has_last, first_le}
use Rattle.table.proofs.Trees.{few}
use Rattle.walk.specs.Needs.{First}
use Rattle.walk.proofs.Walks.{inside, Here, Two, need_low, leaf-returns, one_call, one-returns}
use Rattle.walk.proofs.Walks.{last-room, first-room, last-low, first-low, answer-room, last_call, first_call, test-returns}
use Rattle.walk.proofs.Walks.{left_call, left-low, left-returns, right_call, both-returns}
use Rattle.walk.proofs.Ground.+walk_at.Goals as goal
use Rattle.walk.proofs.Ground.+walk_at.Goals.{After-arity-children, After-size, Else-children-eq0, Then-eq, Else-eq, then-absent, else-absent, Joined-ordered, then-ordered, else-ordered}

-- what the code knows: of the node, of two children, and of a test
here : (t : ℕ) (c : After-arity-children t) → Here c.args.self.now c.args.need.now.of c.args.answers.now c.args.node c.args.at c.kind-kind.result c.arity-children.result
here t c = record { walking = c.requires; read = c.kind-kind.ensures; counted = c.arity-children.ensures }

both : (t : ℕ) (c : After-size t) → Two c.args.self.now c.args.need.now.of c.args.answers.now c.args.node c.args.at c.kind-kind.result c.arity-children.result c.size.result
both t c = record { here = record { walking = c.requires; read = c.kind-kind.ensures; counted = c.arity-children.ensures }; some = c.if-children-eq0.false; more = c.if-children-eq1.false; second = c.size.ensures }

test : (t : ℕ) (c : Then-eq t) → is_present c.kind-kind.result ≡ true
test t c = sym (c.eq.ensures ∙ same-is c.kind-kind.result Present) ∙ c.if-eq.true

no_test : (t : ℕ) (c : Else-eq t) → is_present c.kind-kind.result ≡ false
no_test t c = sym (c.eq.ensures ∙ same-is c.kind-kind.result Present) ∙ c.if-eq.false

-- a child's node number is lower
last-lower : (t : ℕ) (c : Else-children-eq0 t) → 1 ≤ c.args.node
last-lower t c = has_last (readable c.requires.well_formed) (inside c.requires) c.kind-kind.ensures c.arity-children.ensures c.if-children-eq0.false

pub returns-then-children-eq0 : goal.returns-then-children-eq0
returns-then-children-eq0 t c =
    leaf-returns (here t (goal.at.returns-then-children-eq0 t c).After-arity-children) c.if-children-eq0.true c.field.ensures.0 c.leaf_code-code.ensures refl refl

pub overflow_sub-last : goal.overflow_sub-last
overflow_sub-last t c = last-lower t c

pub walk_at-inner-requires : goal.walk_at-inner-requires
walk_at-inner-requires t c =
    (omega (arith, c.decreases, last-lower t (goal.at.walk_at-inner-requires t c).Else-children-eq0), one_call (here t (goal.at.walk_at-inner-requires t c).After-arity-children) c.if-children-eq1.true c.need_under-under.ensures)

pub returns-then-children-eq1 : goal.returns-then-children-eq1
returns-then-children-eq1 t c =
    one-returns (here t (goal.at.returns-then-children-eq1 t c).After-arity-children) c.if-children-eq1.true c.need_under-under.ensures c.walk_at-inner.ensures c.leave.ensures

pub overflow_sub-first : goal.overflow_sub-first
overflow_sub-first t c =
    first_le (readable c.requires.well_formed) (inside c.requires) c.kind-kind.ensures c.arity-children.ensures c.size.ensures c.if-children-eq0.false c.if-children-eq1.false

pub offset_bounds-self-first : goal.offset_bounds-self-first
offset_bounds-self-first t c = omega (arith, inside c.requires, few c.args.self.now.tree.tree)

pub bounds-self-first : goal.bounds-self-first
bounds-self-first t c = first-room (both t (goal.at.bounds-self-first t c).After-size)

pub offset_bounds-self-last : goal.offset_bounds-self-last
offset_bounds-self-last t c = omega (arith, inside c.requires, few c.args.self.now.tree.tree)

pub bounds-self-last : goal.bounds-self-last
bounds-self-last t c = last-room (both t (goal.at.bounds-self-last t c).After-size)

pub goes_absent-absent-requires : goal.goes_absent-absent-requires
goes_absent-absent-requires t c =
    (first-low (both t (goal.at.goes_absent-absent-requires t c).After-size), last-low (both t (goal.at.goes_absent-absent-requires t c).After-size), need_low (here t (goal.at.goes_absent-absent-requires t c).After-arity-children))

pub bounds-answers-at : goal.bounds-answers-at
bounds-answers-at t c =
    answer-room (both t (goal.at.bounds-answers-at t c).After-size) (test t (goal.at.bounds-answers-at t c).Then-eq)

pub walk_at-requires : goal.walk_at-requires
walk_at-requires t c =
    let some = last-lower t (goal.at.walk_at-requires t c).Else-children-eq0 in
    elim c.if-absent.branch [
      | then-absent w ↦ rw w.child-is (omega (arith, c.decreases), last_call (both t (goal.at.walk_at-requires t c).After-size) (test t (goal.at.walk_at-requires t c).Then-eq) c.from.result)
      | else-absent w ↦ rw w.child-is (omega (arith, c.decreases), first_call (both t (goal.at.walk_at-requires t c).After-size) (test t (goal.at.walk_at-requires t c).Then-eq) c.from.result)
    ]

pub returns-then-eq : goal.returns-then-eq
returns-then-eq t c =
    let law = test-returns (both t (goal.at.returns-then-eq t c).After-size) (test t (goal.at.returns-then-eq t c).Then-eq) c.goes_absent-absent.ensures in
    elim c.if-absent.branch [
      | then-absent w ↦ law true w.if-absent.true w.child-is (rw w.if-absent.true at c.from.ensures) c.walk_at.ensures
      | else-absent w ↦ law false w.if-absent.false w.child-is (rw w.if-absent.false at c.from.ensures) c.walk_at.ensures
    ]

pub offset_bounds-self-last-then-ordered : goal.offset_bounds-self-last-then-ordered
offset_bounds-self-last-then-ordered t c = omega (arith, inside c.requires, few c.args.self.now.tree.tree)

pub bounds-self-last-then-ordered : goal.bounds-self-last-then-ordered
bounds-self-last-then-ordered t c = last-room (both t (goal.at.bounds-self-last-then-ordered t c).After-size)

pub need_sequence-before-requires : goal.need_sequence-before-requires
need_sequence-before-requires t c =
    (last-low (both t (goal.at.need_sequence-before-requires t c).After-size), need_low (here t (goal.at.need_sequence-before-requires t c).After-arity-children))

pub offset_bounds-self-last-else-ordered : goal.offset_bounds-self-last-else-ordered
offset_bounds-self-last-else-ordered t c = omega (arith, inside c.requires, few c.args.self.now.tree.tree)

pub bounds-self-last-else-ordered : goal.bounds-self-last-else-ordered
bounds-self-last-else-ordered t c = last-room (both t (goal.at.bounds-self-last-else-ordered t c).After-size)

pub need_parallel-before-requires : goal.need_parallel-before-requires
need_parallel-before-requires t c =
    (last-low (both t (goal.at.need_parallel-before-requires t c).After-size), need_low (here t (goal.at.need_parallel-before-requires t c).After-arity-children))

-- what is needed after the first, whichever of the two it is
first_need : (t : ℕ) (c : Joined-ordered t) → First c.args.self.now.weight c.eq-ordered.result (numbers_at c.args.self.now.rows.now (c.args.node - 1)) c.args.need.now.of c.if-ordered.before.of
first_need t c =
    elim c.if-ordered.branch [
      | then-ordered w ↦ rw (w.if-ordered.true, w.before-is) w.need_sequence-before.ensures
      | else-ordered w ↦ rw (w.if-ordered.false, w.before-is) w.need_parallel-before.ensures
    ]

pub walk_at-left-requires : goal.walk_at-left-requires
walk_at-left-requires t c =
    let some = last-lower t (goal.at.walk_at-left-requires t c).Else-children-eq0 in
    (omega (arith, c.decreases), left_call (both t (goal.at.walk_at-left-requires t c).After-size) (no_test t (goal.at.walk_at-left-requires t c).Else-eq) (c.eq-ordered.ensures ∙ same-is c.kind-kind.result Sequence) (first_need t (goal.at.walk_at-left-requires t c).Joined-ordered))

pub returns-then-left-ne0 : goal.returns-then-left-ne0
returns-then-left-ne0 t c =
    left-returns (both t (goal.at.returns-then-left-ne0 t c).After-size) (no_test t (goal.at.returns-then-left-ne0 t c).Else-eq) (c.eq-ordered.ensures ∙ same-is c.kind-kind.result Sequence) (first_need t (goal.at.returns-then-left-ne0 t c).Joined-ordered) c.walk_at-left.ensures c.if-ordered-2.true c.if-left-ne0.true

pub need_under-under-requires-2 : goal.need_under-under-requires-2
need_under-under-requires-2 t c =
    left-low (both t (goal.at.need_under-under-requires-2 t c).After-size) (no_test t (goal.at.need_under-under-requires-2 t c).Else-eq) (c.eq-ordered.ensures ∙ same-is c.kind-kind.result Sequence) (first_need t (goal.at.need_under-under-requires-2 t c).Joined-ordered) c.walk_at-left.ensures

pub walk_at-right-requires : goal.walk_at-right-requires
walk_at-right-requires t c =
    let some = last-lower t (goal.at.walk_at-right-requires t c).Else-children-eq0 in
    (omega (arith, c.decreases), right_call (both t (goal.at.walk_at-right-requires t c).After-size) (no_test t (goal.at.walk_at-right-requires t c).Else-eq) (c.eq-ordered.ensures ∙ same-is c.kind-kind.result Sequence) (first_need t (goal.at.walk_at-right-requires t c).Joined-ordered) c.walk_at-left.ensures c.need_under-under-2.ensures)

pub returns : goal.returns
returns t c =
    both-returns (both t (goal.at.returns t c).After-size) (no_test t (goal.at.returns t c).Else-eq) (c.eq-ordered.ensures ∙ same-is c.kind-kind.result Sequence) (first_need t (goal.at.returns t c).Joined-ordered) c.walk_at-left.ensures c.need_under-under-2.ensures c.walk_at-right.ensures c.max.ensures refl refl
    (λ z. elim c.else-ordered-2.either [ inl h ↦ h.1 | inr h ↦ cc ])
