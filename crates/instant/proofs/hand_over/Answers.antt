-- A closed run hands its pauses and emissions over: proofs/Closing.antt.
use Rattle.std.proofs.Common.{ap, ◌++◌, drop, arith}
use Rattle.std.proofs.Math.Seq.{length-take-le}
use Rattle.instant.proofs.Closing.{closed-of, handed-over}
use Rattle.instant.proofs.hand_over.Goals as goal

pub copy_from_slice-requires : goal.copy_from_slice-requires
copy_from_slice-requires c = omega (arith, length-take-le 256 c.args.emissions.now c.requires.2)

pub returns : goal.returns
returns c =
    handed-over c.args.held.now c.args.marks.now c.args.state.now c.args.emissions.now c.args.n
    (closed-of c.args.ran c.in_ok-reaction.reaction _ c.in_ok-reaction.ensures.value) (omega arith) c.pack.ensures
    (ap (λ l. l ++ drop 256 c.args.emissions.now) c.copy_from_slice.ensures.after)
