use Rattle.std.proofs.Common.{rules, arith}
use Rattle.std.proofs.lemmas.List.{length_push}
use Rattle.std.proofs.lemmas.Slice.Zip.{zip_turn, zip_end}
use Rattle.rows.proofs.Sweeps.{finds, found}
use Rattle.rows.proofs.best_sum.Goals as goal

pub loop-number-preserved : goal.loop-number-preserved
loop-number-preserved c =
    let h = zip_turn c.args.row.now.of c.args.need.now.of c.loop-number.yielded _ _ c.next.new.self _ (search rules) (search rules) c.loop-number.yielded_by _ c.in-Some.is c.next.ensures.steps in
    rw length_push (finds c.loop-number.invariant (h.2 0) (h.3 0) c.join.ensures c.pick-found.ensures)

pub returns : goal.returns
returns c =
    let h = zip_end c.args.row.now.of c.args.need.now.of c.loop-number.yielded _ _ c.next.new.self _ (search rules) (search rules) c.loop-number.yielded_by c.in-None.is c.next.ensures.steps in
    found c.requires.0 c.requires.1 c.loop-number.invariant (omega (arith, h))
