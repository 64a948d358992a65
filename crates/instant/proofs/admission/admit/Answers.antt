-- The bits from the program's end on, then the bytes: proofs/Admits.antt.
use Rattle.std.proofs.Common.{subst, arith}
use Rattle.table.specs.Program.{program_of}
use Rattle.instant.specs.Admission.{Counted}
use Rattle.instant.proofs.Admits.{unpacked-long, admitting_strays, admitting_by}
use Rattle.instant.proofs.admission.admit.Goals as goal

pub unpack-requires : goal.unpack-requires
unpack-requires c =
    let room = c.requires in
    (omega (arith, room.few, room.room), omega (arith, room.places), omega (arith, room.few))

pub count_held-requires : goal.count_held-requires
count_held-requires c =
    let room = c.requires in
    (unpacked-long c.args.state.now c.args.held.now c.nodes-n.result c.unpack.ensures, omega (arith, room.listed), omega (arith, room.few))

pub returns-else-is_clear_from : goal.returns-else-is_clear_from
returns-else-is_clear_from c =
    admitting_strays (program_of c.args.tree.now.table.now) c.args.state.now c.args.held.now (omega arith) c.unpack.ensures c.count_held.ensures
    c.is_clear_from.ensures c.if-is_clear_from.false

pub check_nodes-requires : goal.check_nodes-requires
check_nodes-requires c =
    let long = unpacked-long c.args.state.now c.args.held.now c.nodes-n.result c.unpack.ensures in
    (omega arith, subst (Counted _ _) (omega arith) c.count_held.ensures)

pub returns-then-is_clear_from : goal.returns-then-is_clear_from
returns-then-is_clear_from c =
    admitting_by (program_of c.args.tree.now.table.now) c.args.state.now c.args.held.now (omega arith) c.unpack.ensures c.count_held.ensures
    c.is_clear_from.ensures c.if-is_clear_from.true c.check_nodes.ensures
