-- What is joined is 0 exactly where no bit from node `n` on is 1: proofs/Clearing.antt.
use Rattle.std.proofs.Common.{◌≡◌, ◌+◌, ◌/◌, arith}
use Rattle.packing.proofs.Clearing.{clear-joined, tail-unclear}
use Rattle.packing.proofs.is_clear_from.Goals as goal

pub returns-then-tail_of-eq0 : goal.returns-then-tail_of-eq0
returns-then-tail_of-eq0 c =
    let used : c.div_ceil-used.result ≡ (c.args.n + 7) / 8 = omega (arith, c.div_ceil-used.ensures) in
    clear-joined c.args.n c.args.state.now c.requires.0 (λ i. omega (arith, c.type_inv.state i)) c.tail_of.ensures c.if-tail_of-eq0.true (rw used at c.join.ensures)

pub returns-else-tail_of-eq0 : goal.returns-else-tail_of-eq0
returns-else-tail_of-eq0 c =
    tail-unclear c.args.n c.args.state.now c.requires.0 (λ i. omega (arith, c.type_inv.state i)) c.tail_of.ensures c.if-tail_of-eq0.false
