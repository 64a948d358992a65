-- A turn's read leaves what stands before it, and what is made of it is `step_of`.
use Rattle.std.proofs.Common.{arith, ◌≡◌, ◌∙◌, ℕ, ◌-◌, ◌<◌, List, Result, length, take, drop, sym, subst}
use Rattle.std.specs.declared.io.Error.{Error}
use borrow.Rule.Slice.PartMut.{put_mid, mid_len, same_len_mid}
use Rattle.input.specs.Reads.{Within, ReadBehind, full, over, on}
use Rattle.input.proofs.Reading.{on-within, behind, read-within}
use Rattle.input.proofs.read.Goals as goal

turned : (done : ℕ) (b rest : List ℕ) (piece : Result ℕ Error) → done < length b → length rest ≡ length (take (length b - done) (drop done b)) → Within piece (length rest) → ReadBehind done b (put_mid done (length b - done) b rest) piece
turned done b rest piece room size came =
    let m = mid_len done (length b) b (omega arith) in
    behind done b rest piece room (subst (λ n. Within piece n) (size ∙ m) came) (same_len_mid done (length b - done) b rest size)

pub loop-done-preserved : goal.loop-done-preserved
loop-done-preserved g c =
    let is = turned c.loop-done.done c.loop-done.buffer c.read.new.buf c.read.result c.loop-done-test.true c.read.auto.buf (read-within c.read.result c.read.new.buf c.read.ensures.bound) in
    let more = on-within c.loop-done.done (length c.loop-done.buffer - c.loop-done.done) c.read.result (sym c.in-On.ensures) is.came in
    record {
      within = omega (arith, more.1, is.room, is.size);
      size = omega (arith, is.size, c.loop-done.invariant.size);
      goes_on = λ b' r reads. c.loop-done.invariant.goes_on b' r (on _ is (sym c.in-On.ensures) reads);
    }

pub returns-in-Over : goal.returns-in-Over
returns-in-Over g c =
    let is = turned c.loop-done.done c.loop-done.buffer c.read.new.buf c.read.result c.loop-done-test.true c.read.auto.buf (read-within c.read.result c.read.new.buf c.read.ensures.bound) in
    c.loop-done.invariant.goes_on _ _ (over _ is (sym c.in-Over.ensures))

pub returns : goal.returns
returns g c = let h = c.loop-done.invariant in h.goes_on _ _ (full (omega (arith, h.within)))
