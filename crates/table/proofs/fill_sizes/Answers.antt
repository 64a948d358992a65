-- Each turn writes the size of one more subtree (proofs/Sizing.antt); at the end the column is whole.
use Rattle.std.proofs.Common.{◌∙◌, ◌≤◌, ℕ, List, length, arith}
use Rattle.esterel.specs.Statement.{size}
use Rattle.table.specs.Program.{program_of}
use Rattle.table.specs.Columns.{sizes_of}
use Rattle.table.proofs.Bytes.{table-length}
use Rattle.table.proofs.Surveying.{few-nodes}
use Rattle.table.proofs.Filling.{filling-length, filling-end, whole}
use Rattle.table.proofs.Sizing.{length_sizes, sizing_next, sized-turn}
use Rattle.table.proofs.fill_sizes.Goals as goal

column : (t : List ℕ) → size (program_of t) ≤ length (sizes_of (program_of t))
column t = omega (arith, length_sizes (program_of t))

pub span-last-requires : goal.span-last-requires
span-last-requires c =
    let nodes = table-length c.args.table.now c.requires.0 in
    (sized-turn c.requires.0 c.requires.1 c.loop-i.i (omega arith) c.loop-i.invariant c.kind_at.ensures c.arity.ensures).room

pub overflow_cast-sizes : goal.overflow_cast-sizes
overflow_cast-sizes c =
    let nodes = table-length c.args.table.now c.requires.0 in
    let few = few-nodes c.args.table.now c.requires.0 in
    let turn = sized-turn c.requires.0 c.requires.1 c.loop-i.i (omega arith) c.loop-i.invariant c.kind_at.ensures c.arity.ensures in
    omega (arith, turn.room.fits, c.span-last.ensures)

pub bounds-sizes-i : goal.bounds-sizes-i
bounds-sizes-i c =
    let nodes = table-length c.args.table.now c.requires.0 in
    let long = filling-length (column c.args.table.now) c.requires.1 c.loop-i.invariant.written in
    omega (arith, c.requires.1)

pub loop-i-preserved : goal.loop-i-preserved
loop-i-preserved c =
    let nodes = table-length c.args.table.now c.requires.0 in
    let turn = sized-turn c.requires.0 c.requires.1 c.loop-i.i (omega arith) c.loop-i.invariant c.kind_at.ensures c.arity.ensures in
    sizing_next (program_of c.args.table.now) c.requires.1 c.loop-i.invariant _ (omega arith) (c.span-last.ensures ∙ turn.spans)

pub returns : goal.returns
returns c =
    let nodes = table-length c.args.table.now c.requires.0 in
    let p = program_of c.args.table.now in
    filling-end (column c.args.table.now) c.requires.1 c.loop-i.invariant.written (omega arith) ∙ whole (sizes_of p) c.args.sizes.now (size p) (length_sizes p)
