-- What the runner answers: proofs/Runs.antt.
use Rattle.std.proofs.Common.{◌+◌, ◌-◌, arith, rules}
use Rattle.packing.proofs.Zeros.{cleared}
use Rattle.trial.proofs.Runs.{few-places, in_bytes, run_call, run-low, run-returns}
use Rattle.trial.proofs.try_list.Goals as goal

pub overflow_add-node : goal.overflow_add-node
overflow_add-node c =
    let places = few-places c.requires in
    let bytes = in_bytes c.requires in
    omega arith

pub slice_bounds-fill-end : goal.slice_bounds-fill-end
slice_bounds-fill-end c =
    let places = few-places c.requires in
    let bytes = in_bytes c.requires in
    search rules

pub start_at-run-requires : goal.start_at-run-requires
start_at-run-requires c =
    let places = few-places c.requires in
    let bytes = in_bytes c.requires in
    run_call c.requires c.args.held.now (cleared c.args.held.now c.args.first (c.args.node + 1 - c.args.first) (omega arith) (c.fill.ensures.after (λ y h. h))) (omega arith) (omega arith)

pub code_set-requires : goal.code_set-requires
code_set-requires c = run-low c.requires c.start_at-run.ensures

pub returns : goal.returns
returns c = run-returns c.requires c.start_at-run.ensures c.code_set.ensures
