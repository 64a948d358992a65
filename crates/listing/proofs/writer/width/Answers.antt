-- A logarithm to the base says how many digits there are: proofs/Digits.antt.
use Rattle.std.proofs.Common.{length, refl, sym, ap, lit≤, arith}
use Rattle.std.proofs.Math.Logic.{⊎_elim}
use Rattle.codes.proofs.Bools.{false-not-true}
use Rattle.listing.proofs.Digits.{lt_or_le, digits-one, digits-counted}
use Rattle.listing.proofs.writer.width.Goals as goal

pub returns-in-Some : goal.returns-in-Some
returns-in-Some c =
    let o = c.in-Some.ensures in
    (sym (digits-counted c.args.base c.requires c.in-Some.power c.args.n o.bound o.power_le o.next_power_gt), omega (arith, o.bound))

pub returns-in-None : goal.returns-in-None
returns-in-None c =
    ⊎_elim
    (λ l. (sym (ap length (digits-one c.args.base c.args.n (omega (arith, c.requires)))), lit≤ tt))
    (λ g. absurd (false-not-true refl (c.in-None.ensures.variant.1 (omega arith, c.requires))))
    (lt_or_le c.args.n 1)
