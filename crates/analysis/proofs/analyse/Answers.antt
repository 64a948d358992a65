-- One law for each return. Once checks 1 to 11 have passed, the lent buffers have room.
use Rattle.std.proofs.Common.{◌∙◌, refl, sym, ap, subst}
use Rattle.esterel.proofs.Replies.{handed}
use Rattle.analysis.specs.Analysis.{checked, Analysis}
use Rattle.analysis.proofs.Analyses.{table-refused, table-passed, ready, depth-is, refusing, room_of, fillable, walkable, finishing}
use Rattle.analysis.proofs.analyse.Goals as goal

pub returns-in_err-loops : goal.returns-in_err-loops
returns-in_err-loops c =
    subst (Analysis _ _ _ _ _ _ _ _ _) (sym (handed c.from_residual.result _ c.from_residual.ensures.1))
    (refusing (ap (λ b. checked b c.args.table.now) (sym c.has_room-room.ensures) ∙ table-refused c.in_err-loops.ensures))

pub fill_sets-requires : goal.fill_sets-requires
fill_sets-requires c =
    let room = room_of _ _ _ _ _ (sym c.has_room-room.ensures ∙ (table-passed c.in_ok-loops.ensures).0) in
    fillable (ready c.in_ok-loops.ensures) _ _ c.args.contexts.now _ room

pub fill_contexts-requires : goal.fill_contexts-requires
fill_contexts-requires c =
    let room = room_of _ _ _ _ _ (sym c.has_room-room.ensures ∙ (table-passed c.in_ok-loops.ensures).0) in
    walkable (ready c.in_ok-loops.ensures) _ _ _ _ room c.fill_sets.ensures.starts c.fill_sets.ensures.anys c.fill_sets.ensures.flags c.fill_sets.auto.start_sets c.fill_sets.auto.any_sets c.fill_sets.auto.flags

pub returns : goal.returns
returns c =
    let passing = table-passed c.in_ok-loops.ensures in
    let room = room_of _ _ _ _ _ (sym c.has_room-room.ensures ∙ passing.0) in
    finishing (ready c.in_ok-loops.ensures) _ _ _ _ room c.fill_sets.ensures.starts c.fill_sets.ensures.anys c.fill_sets.ensures.flags
    (ap (λ b. checked b c.args.table.now) (sym c.has_room-room.ensures) ∙ passing.1) refl (depth-is c.in_ok-loops.ensures) c.fill_contexts.ensures.contexts c.fill_contexts.ensures.marks
