-- Each turn takes one more node on the stacks and writes its entries (proofs/Unused.antt, proofs/Filling.antt).
use Rattle.std.proofs.Common.{◌≤◌, ◌∙◌, ℕ, List, [], length, refl, sym, true, false, arith}
use Rattle.esterel.specs.Statement.{size}
use Rattle.table.specs.Program.{program_of}
use Rattle.table.proofs.Bytes.{table-length}
use Rattle.table.proofs.Filling.{filling-next, filling-end, whole}
use Rattle.analysis.specs.Passes.{words_of, flags_of}
use Rattle.analysis.proofs.Filling.{length-words, words-at, length-flags, flags-at}
use Rattle.analysis.proofs.Nodes.{exit-field}
use Rattle.analysis.proofs.Unused.{begin, no_words, enough, low, next, own_at, words-next, flag_is}
use Rattle.analysis.proofs.fill_sets.Goals as goal

-- the columns are long enough
starts_has : (t : List ℕ) → size (program_of t) ≤ length (words_of false (program_of t))
starts_has t = omega (arith, length-words false (program_of t))

anys_has : (t : List ℕ) → size (program_of t) ≤ length (words_of true (program_of t))
anys_has t = omega (arith, length-words true (program_of t))

flags_has : (t : List ℕ) → size (program_of t) ≤ length (flags_of (program_of t))
flags_has t = omega (arith, length-flags (program_of t))

pub loop-i-init : goal.loop-i-init
loop-i-init c =
    record {
      us = [];
      before = begin _;
      start_words = no_words false _ refl;
      any_words = no_words true _ refl;
      start_column = record { bound = omega arith; is = refl };
      any_column = record { bound = omega arith; is = refl };
      flag_column = record { bound = omega arith; is = refl };
    }

pub overflow_sub-unused : goal.overflow_sub-unused
overflow_sub-unused c =
    let nodes = table-length c.args.table.now c.requires.placed.readable in
    enough c.requires.placed c.loop-i.invariant.before (omega arith) c.kind_at-kind.ensures c.field_at-field.ensures.0 c.arity-unused.ensures

pub offset_bounds-starts-unused : goal.offset_bounds-starts-unused
offset_bounds-starts-unused c =
    let nodes = table-length c.args.table.now c.requires.placed.readable in
    let base = low c.requires.placed c.loop-i.invariant.before (omega arith) c.kind_at-kind.ensures c.field_at-field.ensures.0 c.arity-unused.ensures in
    omega arith

pub bounds-starts-unused : goal.bounds-starts-unused
bounds-starts-unused c =
    let nodes = table-length c.args.table.now c.requires.placed.readable in
    let base = low c.requires.placed c.loop-i.invariant.before (omega arith) c.kind_at-kind.ensures c.field_at-field.ensures.0 c.arity-unused.ensures in
    omega arith

pub offset_bounds-starts-unused-in-loop-i : goal.offset_bounds-starts-unused-in-loop-i
offset_bounds-starts-unused-in-loop-i c =
    let nodes = table-length c.args.table.now c.requires.placed.readable in
    let base = low c.requires.placed c.loop-i.invariant.before (omega arith) c.kind_at-kind.ensures c.field_at-field.ensures.0 c.arity-unused.ensures in
    omega arith

pub bounds-starts-unused-in-loop-i : goal.bounds-starts-unused-in-loop-i
bounds-starts-unused-in-loop-i c =
    let nodes = table-length c.args.table.now c.requires.placed.readable in
    let base = low c.requires.placed c.loop-i.invariant.before (omega arith) c.kind_at-kind.ensures c.field_at-field.ensures.0 c.arity-unused.ensures in
    omega arith

pub offset_bounds-anys-unused : goal.offset_bounds-anys-unused
offset_bounds-anys-unused c =
    let nodes = table-length c.args.table.now c.requires.placed.readable in
    let base = low c.requires.placed c.loop-i.invariant.before (omega arith) c.kind_at-kind.ensures c.field_at-field.ensures.0 c.arity-unused.ensures in
    omega arith

pub bounds-anys-unused : goal.bounds-anys-unused
bounds-anys-unused c =
    let nodes = table-length c.args.table.now c.requires.placed.readable in
    let base = low c.requires.placed c.loop-i.invariant.before (omega arith) c.kind_at-kind.ensures c.field_at-field.ensures.0 c.arity-unused.ensures in
    omega arith

pub overflow_add-unused : goal.overflow_add-unused
overflow_add-unused c =
    let nodes = table-length c.args.table.now c.requires.placed.readable in
    let base = low c.requires.placed c.loop-i.invariant.before (omega arith) c.kind_at-kind.ensures c.field_at-field.ensures.0 c.arity-unused.ensures in
    omega arith

pub bounds-flags-i : goal.bounds-flags-i
bounds-flags-i c =
    let nodes = table-length c.args.table.now c.requires.placed.readable in
    omega (arith, c.requires.flags_room)

pub bounds-start_sets-i : goal.bounds-start_sets-i
bounds-start_sets-i c =
    let nodes = table-length c.args.table.now c.requires.placed.readable in
    omega (arith, c.requires.starts_room)

pub bounds-any_sets-i : goal.bounds-any_sets-i
bounds-any_sets-i c =
    let nodes = table-length c.args.table.now c.requires.placed.readable in
    omega (arith, c.requires.anys_room)

pub push_codes-requires : goal.push_codes-requires
push_codes-requires c =
    let nodes = table-length c.args.table.now c.requires.placed.readable in
    (exit-field c.requires.placed c.loop-i.i (omega arith) c.kind_at-kind.ensures c.field_at-field.ensures.0, low c.requires.placed c.loop-i.invariant.before (omega arith) c.kind_at-kind.ensures c.field_at-field.ensures.0 c.arity-unused.ensures)

pub push_codes-requires-in-loop-i : goal.push_codes-requires-in-loop-i
push_codes-requires-in-loop-i c =
    let nodes = table-length c.args.table.now c.requires.placed.readable in
    (exit-field c.requires.placed c.loop-i.i (omega arith) c.kind_at-kind.ensures c.field_at-field.ensures.0, low c.requires.placed c.loop-i.invariant.before (omega arith) c.kind_at-kind.ensures c.field_at-field.ensures.0 c.arity-unused.ensures)

pub loop-i-preserved : goal.loop-i-preserved
loop-i-preserved c =
    let nodes = table-length c.args.table.now c.requires.placed.readable in
    let p = program_of c.args.table.now in
    let inv = c.loop-i.invariant in
    record {
      us = _;
      before = next c.requires.placed c.loop-i.invariant.before (omega arith) c.kind_at-kind.ensures c.field_at-field.ensures.0 c.arity-unused.ensures;
      start_words = words-next c.requires.placed c.loop-i.invariant.before (omega arith) c.kind_at-kind.ensures c.field_at-field.ensures.0 c.arity-unused.ensures inv.start_words _ c.push_codes.ensures;
      any_words = words-next c.requires.placed c.loop-i.invariant.before (omega arith) c.kind_at-kind.ensures c.field_at-field.ensures.0 c.arity-unused.ensures inv.any_words _ c.push_codes-in-loop-i.ensures;
      start_column =
          filling-next (starts_has c.args.table.now) c.requires.starts_room inv.start_column _ (omega arith)
          (own_at c.requires.placed c.loop-i.invariant.before (omega arith) c.kind_at-kind.ensures c.field_at-field.ensures.0 c.arity-unused.ensures inv.start_words _ c.push_codes.ensures ∙ sym (words-at false p c.loop-i.i (omega arith)));
      any_column =
          filling-next (anys_has c.args.table.now) c.requires.anys_room inv.any_column _ (omega arith)
          (own_at c.requires.placed c.loop-i.invariant.before (omega arith) c.kind_at-kind.ensures c.field_at-field.ensures.0 c.arity-unused.ensures inv.any_words _ c.push_codes-in-loop-i.ensures ∙ sym (words-at true p c.loop-i.i (omega arith)));
      flag_column =
          filling-next (flags_has c.args.table.now) c.requires.flags_room inv.flag_column _ (omega arith)
          (c.first_ends.ensures ∙ flag_is c.requires.placed c.loop-i.invariant.before (omega arith) c.kind_at-kind.ensures c.field_at-field.ensures.0 c.arity-unused.ensures inv.start_words ∙ sym (flags-at p c.loop-i.i (omega arith)));
    }

pub returns-clause-starts : goal.returns-clause-starts
returns-clause-starts c =
    let nodes = table-length c.args.table.now c.requires.placed.readable in
    let p = program_of c.args.table.now in
    filling-end (starts_has c.args.table.now) c.requires.starts_room c.loop-i.invariant.start_column (omega arith) ∙ whole (words_of false p) _ (size p) (length-words false p)

pub returns-clause-anys : goal.returns-clause-anys
returns-clause-anys c =
    let nodes = table-length c.args.table.now c.requires.placed.readable in
    let p = program_of c.args.table.now in
    filling-end (anys_has c.args.table.now) c.requires.anys_room c.loop-i.invariant.any_column (omega arith) ∙ whole (words_of true p) _ (size p) (length-words true p)

pub returns-clause-flags : goal.returns-clause-flags
returns-clause-flags c =
    let nodes = table-length c.args.table.now c.requires.placed.readable in
    let p = program_of c.args.table.now in
    filling-end (flags_has c.args.table.now) c.requires.flags_room c.loop-i.invariant.flag_column (omega arith) ∙ whole (flags_of p) _ (size p) (length-flags p)
