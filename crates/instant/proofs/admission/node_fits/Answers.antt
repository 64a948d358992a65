-- What each node asks: proofs/Fitting.antt, where the laws take what the code has read so far.
use Rattle.std.proofs.Common.{arith}
use Rattle.table.proofs.Trees.{readable}
use Rattle.instant.proofs.Fitting.{misfit, no_sides, some-before, second-inside, first-inside, first-idle, second-idle}
use Rattle.instant.proofs.admission.node_fits.Goals as goal

pub returns-then-not-byte_fits : goal.returns-then-not-byte_fits
returns-then-not-byte_fits c =
    misfit (readable c.args.tree.now.tree) c.args.node c.requires.0 c.kind-kind.ensures c.args.held.now c.byte_fits.ensures c.if-not-byte_fits.true

pub returns-then-not-is_exclusive : goal.returns-then-not-is_exclusive
returns-then-not-is_exclusive c =
    no_sides (readable c.args.tree.now.tree) c.args.node c.requires.0 c.kind-kind.ensures c.args.held.now c.byte_fits.ensures c.if-not-byte_fits.false
    c.is_exclusive.ensures c.if-not-is_exclusive.true

pub overflow_sub-node : goal.overflow_sub-node
overflow_sub-node c =
    some-before (readable c.args.tree.now.tree) c.args.node c.requires.0 c.kind-kind.ensures c.args.held.now c.byte_fits.ensures c.if-not-byte_fits.false
    c.is_exclusive.ensures c.if-not-is_exclusive.false

pub overflow_sub-second : goal.overflow_sub-second
overflow_sub-second c =
    let inside = second-inside (readable c.args.tree.now.tree) c.args.node c.requires.0 c.kind-kind.ensures c.args.held.now c.byte_fits.ensures c.if-not-byte_fits.false c.is_exclusive.ensures c.if-not-is_exclusive.false c.size.ensures in
    omega arith

pub overflow_sub-second-2 : goal.overflow_sub-second-2
overflow_sub-second-2 c =
    let inside = second-inside (readable c.args.tree.now.tree) c.args.node c.requires.0 c.kind-kind.ensures c.args.held.now c.byte_fits.ensures c.if-not-byte_fits.false c.is_exclusive.ensures c.if-not-is_exclusive.false c.size.ensures in
    omega arith

pub overflow_sub-first : goal.overflow_sub-first
overflow_sub-first c =
    first-inside (readable c.args.tree.now.tree) c.args.node c.requires.0 c.kind-kind.ensures c.args.held.now c.byte_fits.ensures c.if-not-byte_fits.false
    c.is_exclusive.ensures c.if-not-is_exclusive.false c.size.ensures c.size-2.ensures

pub returns-then-counts-first : goal.returns-then-counts-first
returns-then-counts-first c =
    first-idle (readable c.args.tree.now.tree) c.args.node c.requires.0 c.kind-kind.ensures c.args.held.now c.byte_fits.ensures c.if-not-byte_fits.false
    c.is_exclusive.ensures c.if-not-is_exclusive.false c.size.ensures c.size-2.ensures c.requires.2 c.if-counts-first.true

pub returns : goal.returns
returns c =
    second-idle (readable c.args.tree.now.tree) c.args.node c.requires.0 c.kind-kind.ensures c.args.held.now c.byte_fits.ensures c.if-not-byte_fits.false
    c.is_exclusive.ensures c.if-not-is_exclusive.false c.size.ensures c.size-2.ensures c.requires.2 c.if-counts-first.false
