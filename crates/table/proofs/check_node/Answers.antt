-- Its tests are those of the definition, in the same order.
use Rattle.std.proofs.lemmas.Bool.{lt-ltb, le-ltb}
use Rattle.table.specs.Check.{node_check}
use Rattle.table.proofs.Comparing.{unknown, known}
use Rattle.table.proofs.check_node.Goals as goal

pub returns-then-eq : goal.returns-then-eq
unfolding node_check
returns-then-eq c = rw (unknown _ c.eq.ensures c.if-eq.true)

pub returns-then-is_plain-field : goal.returns-then-is_plain-field
unfolding node_check
returns-then-is_plain-field c = rw (known _ c.eq.ensures c.if-eq.false, ← c.is_plain.ensures, c.if-is_plain-field.true)

pub returns-then-unused-arity : goal.returns-then-unused-arity
unfolding node_check
returns-then-unused-arity c =
    rw (known _ c.eq.ensures c.if-eq.false, ← c.is_plain.ensures, c.if-is_plain-field.false, lt-ltb _ _ (rw c.arity.ensures at c.if-unused-arity.true))

pub returns : goal.returns
unfolding node_check
returns c =
    rw (known _ c.eq.ensures c.if-eq.false, ← c.is_plain.ensures, c.if-is_plain-field.false, le-ltb _ _ (rw c.arity.ensures at c.if-unused-arity.false))
