use Rattle.std.proofs.Common.{◌≡◌, ◌-◌, ◌*◌, ◌<◌, List, [], ℕ, length, arith}
use Rattle.esterel.specs.Limits.{max_depth}
use Rattle.esterel.specs.Statement.{size}
use Rattle.table.specs.Program.{program_of}
use Rattle.table.proofs.Bytes.{table-length}
use Rattle.analysis.specs.Passes.{Placed}
use Rattle.analysis.proofs.Unused.{begin, enough, low, next}
use Rattle.planning.proofs.Pending.{no_rows, lies, rows_next, program-says}
use Rattle.planning.proofs.program_row.Goals as goal
use Rattle.planning.proofs.program_row.Goals.{After-arity-unused}

nodes : (t : List ℕ) → Placed t → length t ≡ 2 * size (program_of t)
nodes t p = table-length t p.readable

pub loop-i-init : goal.loop-i-init
loop-i-init c = record { us = []; before = begin _; rows = no_rows }

pub overflow_sub-unused : goal.overflow_sub-unused
overflow_sub-unused c =
    enough c.requires c.loop-i.invariant.before (omega (arith, nodes c.args.table.now c.requires)) c.kind_at-kind.ensures c.field_at-field.ensures.0 c.arity-unused.ensures

pub next_row-requires : goal.next_row-requires
next_row-requires c =
    lies c.requires c.loop-i.invariant.before (omega (arith, nodes c.args.table.now c.requires)) c.kind_at-kind.ensures c.field_at-field.ensures.0 c.arity-unused.ensures c.loop-i.invariant.rows c.field_at-field.ensures.1

-- the place of a node's row is below the depth limit
within : (c : After-arity-unused) → c.loop-i.unused - c.arity-unused.result < max_depth
within c = low c.requires c.loop-i.invariant.before (omega (arith, nodes c.args.table.now c.requires)) c.kind_at-kind.ensures c.field_at-field.ensures.0 c.arity-unused.ensures

pub offset_bounds-stack-unused : goal.offset_bounds-stack-unused
offset_bounds-stack-unused c = omega (arith, within (goal.at.offset_bounds-stack-unused c).After-arity-unused)

pub bounds-stack-unused : goal.bounds-stack-unused
bounds-stack-unused c = omega (arith, within (goal.at.bounds-stack-unused c).After-arity-unused)

pub overflow_add-unused : goal.overflow_add-unused
overflow_add-unused c = omega (arith, within (goal.at.overflow_add-unused c).After-arity-unused)

pub loop-i-preserved : goal.loop-i-preserved
loop-i-preserved c =
    record {
      us = _;
      before = next c.requires c.loop-i.invariant.before (omega (arith, nodes c.args.table.now c.requires)) c.kind_at-kind.ensures c.field_at-field.ensures.0 c.arity-unused.ensures;
      rows = rows_next c.requires c.loop-i.invariant.before (omega (arith, nodes c.args.table.now c.requires)) c.kind_at-kind.ensures c.field_at-field.ensures.0 c.arity-unused.ensures c.loop-i.invariant.rows c.next_row.ensures;
    }

pub returns : goal.returns
returns c = program-says c.loop-i.invariant.before (omega (arith, nodes c.args.table.now c.requires)) c.loop-i.invariant.rows
