-- The whole bytes are packed one by one, then what is left of the nodes, and the others become 0.
use Rattle.std.proofs.Common.{◌≡◌, ◌+◌, ◌/◌, refl, arith}
use Rattle.std.proofs.Math.Logic.{inl, inr}
use Rattle.codes.proofs.Bools.{false-not-true}
use Rattle.packing.proofs.Bytes.{packed-next, packed-end, joined}
use Rattle.packing.proofs.Zeros.{filled}
use Rattle.packing.proofs.pack.Goals as goal
use Rattle.packing.proofs.pack.Goals.{then-not-is_multiple_of, else-not-is_multiple_of}

pub loop-j-preserved : goal.loop-j-preserved
loop-j-preserved c =
    packed-next c.args.bytes.now c.args.state.now c.requires.0 c.requires.1 c.requires.2 c.loop-j.invariant _ c.loop-j-test.true c.byte_of.ensures

pub returns : goal.returns
returns c =
    let used : c.div_ceil-used.result ≡ (c.args.n + 7) / 8 = omega (arith, c.div_ceil-used.ensures) in
    rw used
    (packed-end c.args.bytes.now c.args.state.now c.requires.0 c.requires.1 c.requires.2
    (joined c.args.bytes.now c.args.state.now c.requires.0 c.requires.1 c.requires.2 c.loop-j.invariant (omega arith) c.if-not-is_multiple_of.state
    (elim c.if-not-is_multiple_of.branch [ then-not-is_multiple_of w ↦ inl (λ z. false-not-true refl (w.if-not-is_multiple_of.ensures.1 z), _, w.byte_of-then-not-is_multiple_of.ensures, w.state-is) | else-not-is_multiple_of w ↦ inr (w.if-not-is_multiple_of.ensures.0 refl, w.state-is) ]))
    _ (rw used at (filled c.if-not-is_multiple_of.state _ _ (omega arith) (c.fill.ensures.after (λ y h. h)))))
