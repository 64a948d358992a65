-- Each turn takes the walk one node further (proofs/Contexts.antt).
use Rattle.std.proofs.Common.{refl, arith}
use Rattle.table.proofs.Bytes.{table-length}
use Rattle.analysis.proofs.Contexts.{walk_start, stepped, turn, walk-on}
use Rattle.analysis.proofs.fill_contexts.Goals as goal

pub loop-i-init : goal.loop-i-init
loop-i-init c = walk_start _ _ _ _ _ _ (omega (arith, table-length c.args.table.now c.requires.placed.readable)) refl refl

pub bounds-marks-i : goal.bounds-marks-i
bounds-marks-i c =
    let here = turn c.requires.placed c.requires.room c.requires.marks_room (stepped c.loop-i.invariant (omega arith)) in
    here.in_marks

pub bounds-contexts-i : goal.bounds-contexts-i
bounds-contexts-i c =
    let here = turn c.requires.placed c.requires.room c.requires.marks_room (stepped c.loop-i.invariant (omega arith)) in
    here.in_contexts

pub bounds-anys-i : goal.bounds-anys-i
bounds-anys-i c =
    let here = turn c.requires.placed c.requires.room c.requires.marks_room (stepped c.loop-i.invariant (omega arith)) in
    omega (arith, here.inside, c.requires.any_room)

pub bounds-marks-i-in-loop-i : goal.bounds-marks-i-in-loop-i
bounds-marks-i-in-loop-i c =
    let here = turn c.requires.placed c.requires.room c.requires.marks_room (stepped c.loop-i.invariant (omega arith)) in
    here.in_marks

pub last_set-requires : goal.last_set-requires
last_set-requires c =
    let here = turn c.requires.placed c.requires.room c.requires.marks_room (stepped c.loop-i.invariant (omega arith)) in
    omega (arith, here.inside, c.requires.starts_room)

pub descend-node-requires : goal.descend-node-requires
descend-node-requires c =
    let here = turn c.requires.placed c.requires.room c.requires.marks_room (stepped c.loop-i.invariant (omega arith)) in
    (here.traps, here.waits, here.fits)

pub loop-i-preserved : goal.loop-i-preserved
loop-i-preserved c =
    walk-on c.requires.placed c.requires.room c.requires.marks_room (stepped c.loop-i.invariant (omega arith)) _ _ c.requires.starts c.requires.any c.requires.flags c.kind_at-kind.ensures c.last_set.ensures refl c.mark.ensures c.descend-node.ensures
