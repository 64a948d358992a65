-- One law for each return.
use Rattle.std.proofs.Common.{◌∙◌, refl, sym, ap, subst}
use Rattle.esterel.proofs.Replies.{handed}
use Rattle.esterel.specs.Refusal.{rejects, number_of}
use Rattle.tied.specs.Calls.{Narrowing}
use Rattle.tied.proofs.Narrows.{table-refused, placed, sets-lent, ties-refused, narrowed}
use Rattle.tied.proofs.narrow.Goals as goal

pub returns-in_err-tree : goal.returns-in_err-tree
returns-in_err-tree c =
    subst (Narrowing _ _ _ _) (sym (handed c.from_residual.result _ c.from_residual.ensures.1))
    (table-refused c.args.ties.now c.args.sets.now c.has_room-room.ensures c.in_err-tree.ensures)

pub returns-in_err-read_ties : goal.returns-in_err-read_ties
returns-in_err-read_ties c =
    let refusal = ap (λ r. rejects (number_of r.check) r.node) c.in_err-read_ties.ensures.1 in
    subst (Narrowing _ _ _ _) (sym (handed c.from_residual-in_err-read_ties.result _ c.from_residual-in_err-read_ties.ensures.1 ∙ refusal))
    (ties-refused c.args.ties.now c.args.sets.now c.has_room-room.ensures c.in_ok-tree.ensures c.in_err-read_ties.ensures.0)

pub fill_narrowed-requires : goal.fill_narrowed-requires
fill_narrowed-requires c =
    (placed c.args.ties.now c.args.sets.now c.has_room-room.ensures c.in_ok-tree.ensures, sets-lent c.args.ties.now c.args.sets.now c.has_room-room.ensures c.in_ok-tree.ensures)

pub returns : goal.returns
returns c =
    narrowed c.args.ties.now c.args.sets.now c.has_room-room.ensures c.in_ok-tree.ensures _ c.in_ok-read_ties.ensures refl c.find_known.ensures c.fill_narrowed.ensures
