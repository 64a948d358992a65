-- Each turn takes the walk one node further (proofs/Surveying.antt).
use Rattle.std.proofs.Common.{◌≡◌, refl, sym, ◌∙◌, true, false, arith}
use Rattle.table.proofs.Bytes.{table-length}
use Rattle.table.proofs.Surveying.{few-nodes, start, finish, back, turn, turned}
use Rattle.table.specs.declared.Kind.TheVariants.{Loop}
use Rattle.table.proofs.Comparing.{same-is}
use Rattle.table.proofs.survey_table.Goals as goal

pub loop-i-init : goal.loop-i-init
loop-i-init c = start _ _ _ _ _ _ (omega (arith, table-length c.args.table.now c.requires)) refl refl refl refl refl refl

pub seen-faults-requires : goal.seen-faults-requires
seen-faults-requires c =
    (turn c.args.table.now c.requires (back c.loop-i.i (omega arith) c.loop-i.invariant)).shallow

pub descend-node-requires : goal.descend-node-requires
descend-node-requires c =
    let here = turn c.args.table.now c.requires (back c.loop-i.i (omega arith) c.loop-i.invariant) in
    (here.shallow, here.waits, here.room)

pub loop-i-preserved-then-eq : goal.loop-i-preserved-then-eq
loop-i-preserved-then-eq c =
    turned c.args.table.now c.requires (back c.loop-i.i (omega arith) c.loop-i.invariant) _ _ _ _ _ _ _ _ c.kind_at-kind.ensures c.field_at.ensures.0 c.seen-faults.ensures c.descend-node.ensures true (sym (c.eq.ensures ∙ same-is c.kind_at-kind.result Loop) ∙ c.if-eq.true) c.max-most.ensures

pub loop-i-preserved : goal.loop-i-preserved
loop-i-preserved c =
    turned c.args.table.now c.requires (back c.loop-i.i (omega arith) c.loop-i.invariant) _ _ _ _ _ _ _ _ c.kind_at-kind.ensures c.field_at.ensures.0 c.seen-faults.ensures c.descend-node.ensures false (sym (c.eq.ensures ∙ same-is c.kind_at-kind.result Loop) ∙ c.if-eq.false) refl

pub returns : goal.returns
returns c =
    let over : c.loop-i.i ≡ 0 = omega arith in
    finish (rw over at c.loop-i.invariant) (few-nodes c.args.table.now c.requires) _ c.first_refusal.ensures
