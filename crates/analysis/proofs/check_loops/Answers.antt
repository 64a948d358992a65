-- Each turn takes one more node on the stack, and finds that its body is no loop's that may end at once (proofs/Unused.antt, proofs/Loops.antt).
use Rattle.std.proofs.Common.{◌∙◌, [], refl, false, arith}
use Rattle.table.proofs.Bytes.{table-length}
use Rattle.analysis.proofs.Loops.{search_on, search_found, search_ended}
use Rattle.analysis.proofs.Nodes.{exit-field}
use Rattle.analysis.proofs.Unused.{begin, no_words, enough, low, next, words-next, ends_is}
use Rattle.analysis.proofs.check_loops.Goals as goal

pub loop-i-init : goal.loop-i-init
loop-i-init c = record { us = []; before = begin _; words = no_words false _ refl; searched = record { bound = omega arith; same = refl } }

pub overflow_sub-unused : goal.overflow_sub-unused
overflow_sub-unused c =
    let nodes = table-length c.args.table.now c.requires.readable in
    enough c.requires c.loop-i.invariant.before (omega arith) c.kind_at-kind.ensures c.field_at-field.ensures.0 c.arity-unused.ensures

pub offset_bounds-starts-unused : goal.offset_bounds-starts-unused
offset_bounds-starts-unused c =
    let nodes = table-length c.args.table.now c.requires.readable in
    let base = low c.requires c.loop-i.invariant.before (omega arith) c.kind_at-kind.ensures c.field_at-field.ensures.0 c.arity-unused.ensures in
    omega arith

pub bounds-starts-unused : goal.bounds-starts-unused
bounds-starts-unused c =
    let nodes = table-length c.args.table.now c.requires.readable in
    let base = low c.requires c.loop-i.invariant.before (omega arith) c.kind_at-kind.ensures c.field_at-field.ensures.0 c.arity-unused.ensures in
    omega arith

pub returns-then-ends_at_once : goal.returns-then-ends_at_once
returns-then-ends_at_once c =
    let nodes = table-length c.args.table.now c.requires.readable in
    let ends = ends_is c.requires c.loop-i.invariant.before (omega arith) c.kind_at-kind.ensures c.field_at-field.ensures.0 c.arity-unused.ensures c.loop-i.invariant.words in
    search_found c.loop-i.invariant.searched (omega arith) _ (c.ends_at_once.ensures ∙ ends) c.if-ends_at_once.true

pub push_codes-requires : goal.push_codes-requires
push_codes-requires c =
    let nodes = table-length c.args.table.now c.requires.readable in (
      exit-field c.requires c.loop-i.i (omega arith) c.kind_at-kind.ensures c.field_at-field.ensures.0,
      low c.requires c.loop-i.invariant.before (omega arith) c.kind_at-kind.ensures c.field_at-field.ensures.0 c.arity-unused.ensures,
    )

pub overflow_add-unused : goal.overflow_add-unused
overflow_add-unused c =
    let nodes = table-length c.args.table.now c.requires.readable in
    let base = low c.requires c.loop-i.invariant.before (omega arith) c.kind_at-kind.ensures c.field_at-field.ensures.0 c.arity-unused.ensures in
    omega arith

pub loop-i-preserved : goal.loop-i-preserved
loop-i-preserved c =
    let nodes = table-length c.args.table.now c.requires.readable in
    let ends = ends_is c.requires c.loop-i.invariant.before (omega arith) c.kind_at-kind.ensures c.field_at-field.ensures.0 c.arity-unused.ensures c.loop-i.invariant.words in
    record {
      us = _;
      before = next c.requires c.loop-i.invariant.before (omega arith) c.kind_at-kind.ensures c.field_at-field.ensures.0 c.arity-unused.ensures;
      words = words-next c.requires c.loop-i.invariant.before (omega arith) c.kind_at-kind.ensures c.field_at-field.ensures.0 c.arity-unused.ensures c.loop-i.invariant.words _ c.push_codes.ensures;
      searched = search_on c.loop-i.invariant.searched (omega arith) _ (c.ends_at_once.ensures ∙ ends) c.if-ends_at_once.false;
    }

pub returns : goal.returns
returns c =
    let nodes = table-length c.args.table.now c.requires.readable in
    search_ended c.loop-i.invariant.searched (omega arith)
