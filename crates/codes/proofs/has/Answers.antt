use Rattle.std.proofs.Common.{ℕ, eqb, ap, ◌/◌, ◌^◌}
use Rattle.std.specs.Int.Bits.{and_mask}
use Rattle.codes.specs.Words.{◌∋◌}
use Rattle.codes.proofs.has.Goals as goal

pub returns : goal.returns
unfolding ◌∋◌
returns c = ap (λ (x : ℕ). eqb x 1) (and_mask (c.args.set / 2 ^ c.args.code) 1)
