-- Each node keeps that the table reads to `unused` statements before it, or is the one that is refused; at the end one is left or several are.
use Rattle.std.proofs.Common.{◌≡◌, refl, ◌∙◌, ℕ, List, arith}
use Rattle.std.proofs.lemmas.Result.{err_from_is_err_and}
use Rattle.esterel.specs.Refusal.{Reply}
use Rattle.esterel.proofs.Replies.{rejects≢yields}
use Rattle.table.specs.Kinds.{kind_of}
use Rattle.table.specs.Check.{node_check}
use Rattle.table.specs.declared.Kind.{Kind}
use Rattle.table.proofs.Pass.{kind_at, field_at, Turn, refusing, passing, one_left, several-left}
use Rattle.table.proofs.read_nodes.Goals as goal

-- what the check of node i answers, in the code's own terms
checked : (t : List ℕ) (unused i : ℕ) {k : Kind} {f : ℕ} {r : Reply (Unit {0})} → k ≡ kind_of (kind_at t i) → f ≡ field_at t i → r ≡ node_check k f unused i → r ≡ node_check (kind_of (kind_at t i)) (field_at t i) unused i
checked t unused i ek ef e = e ∙ rw (ek, ef)

pub returns-in_err-check_node : goal.returns-in_err-check_node
returns-in_err-check_node c =
    let p = err_from_is_err_and c.from_residual.result c.from_residual.ensures.1 in
    rw (p.1, p.2)
    (refusing _ _ _ c.loop-i.invariant.reading (omega arith) _
    (checked c.args.table.now c.loop-i.unused c.loop-i.i c.kind_at-kind.ensures c.field_at.ensures.0 c.in_err-check_node.ensures) rejects≢yields)

pub overflow_sub-unused : goal.overflow_sub-unused
overflow_sub-unused c =
    let turn : Turn c.args.table.now c.loop-i.unused c.loop-i.i c.arity.result =
    rw (c.arity.ensures, c.kind_at-kind.ensures)
    (passing _ _ _ c.loop-i.invariant.reading (omega arith) _
    (checked c.args.table.now c.loop-i.unused c.loop-i.i c.kind_at-kind.ensures c.field_at.ensures.0 c.in_ok-check_node.ensures) refl) in
    turn.enough

pub loop-i-preserved : goal.loop-i-preserved
loop-i-preserved c =
    let turn : Turn c.args.table.now c.loop-i.unused c.loop-i.i c.arity.result =
    rw (c.arity.ensures, c.kind_at-kind.ensures)
    (passing _ _ _ c.loop-i.invariant.reading (omega arith) _
    (checked c.args.table.now c.loop-i.unused c.loop-i.i c.kind_at-kind.ensures c.field_at.ensures.0 c.in_ok-check_node.ensures) refl) in
    record { within = omega arith; reading = turn.again }

pub returns-then-unused-eq1 : goal.returns-then-unused-eq1
returns-then-unused-eq1 c = one_left _ _ _ c.loop-i.invariant.reading (omega arith) c.if-unused-eq1.true

pub returns : goal.returns
returns c = several-left _ _ _ c.loop-i.invariant.reading (omega arith) (omega arith) c.if-unused-eq1.false
