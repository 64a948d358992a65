-- What was read fills the buffer exactly where as many bytes came.
use Rattle.std.proofs.Common.{arith, ◌≡◌, length, sym, eq-eqb}
use Rattle.input.proofs.Reading.{within}
use Rattle.input.proofs.read_full.Goals as goal

pub returns : goal.returns
returns g c =
    let w = within c.in_ok-read.ensures in
    let n : c.in_ok-read.field-0 ≡ length c.read.new.buffer = omega (arith, w) in
    record { input = _; reads = c.in_ok-read.ensures; answer = sym (eq-eqb _ _ n); reason = λ e h. cc }
