-- What a caller learns of a reading, and one read of it.
use Prim.Native.Nat.{ℕ, zero, suc, ◌+◌, ◌-◌, ◌≤◌, ◌<◌}
use native.Mathlib.Omega.{arith}
use mathlib.Core.Path.{◌≡◌, refl, sym, subst, ◌∙◌}
use mathlib.Core.List.{List}
use lib.ListN.{length, take}
use lib.Seq.{take-take, length-take-le, take_all}
use borrow.Rule.Slice.PartMut.{put_mid, take_put}
use Rattle.std.specs.Prelude.{Result, Ok, Err}
use Rattle.std.specs.declared.io.Error.{Error}
use Rattle.std.specs.Io.{ReadsAtMost}
use Rattle.input.specs.Reads.{Within, step_of, ReadBehind, Reads, full, over, on, OfInput}
use Rattle.input.specs.declared.Progress.TheVariants.{On, Over}

module _ {E : Type 0} where
  -- ---- one read

  -- some bytes came: reading goes on behind them. It stands for crates above: here the clause of `step` is enough
  pub step-on : (done n : ℕ) → (n ≡ 0 → ⊥) → On (done + n) ≡ step_of {E = E} done (Ok n)
  step-on done zero h = absurd (h refl)
  step-on done (suc n) h = refl

  -- a read answers no more bytes than its buffer has
  pub read-within : (r : Result ℕ E) (buf : List ℕ) → ReadsAtMost r buf → Within r (length buf)
  read-within (Ok n) buf h = h.0
  read-within (Err e) buf h = tt

  -- the place behind them is in the room
  pub on-within : (done room : ℕ) (piece : Result ℕ E) {next : ℕ} → step_of done piece ≡ On next → Within piece room → (done < next) × (next ≤ done + room)
  on-within done room (Ok zero) e w = let z : ◌≡◌ {A = ℕ} 0 1 = cc in absurd (omega arith)
  on-within done room (Ok (suc n)) {next} e w = let z : done + suc n ≡ next = cc in (omega arith, omega arith)
  on-within done room (Err x) e w = let z : ◌≡◌ {A = ℕ} 0 1 = cc in absurd (omega arith)

  -- what is answered when it is over is the bytes done, or a failure
  over-within : (done room : ℕ) (piece r : Result ℕ E) → step_of done piece ≡ Over r → done ≤ room → Within r room
  over-within done room (Ok zero) (Ok n) e h = let z : done ≡ n = cc in omega arith
  over-within done room (Ok (suc k)) (Ok n) e h = let z : ◌≡◌ {A = ℕ} 0 1 = cc in absurd (omega arith)
  over-within done room (Err x) (Ok n) e h = let z : ◌≡◌ {A = ℕ} 0 1 = cc in absurd (omega arith)
  over-within done room piece (Err x) e h = tt

  -- a read into the lent rest of the buffer, which came back with the same length
  pub behind : (done : ℕ) (b rest : List ℕ) (piece : Result ℕ E) → done < length b → Within piece (length b - done) → length (put_mid done (length b - done) b rest) ≡ length b → ReadBehind done b (put_mid done (length b - done) b rest) piece
  behind done b rest piece room came size =
      record { room = room; came = came; front = take_put done (length b - done) b rest (omega arith); size = size }

  -- ---- all of them

  -- the buffer's length stays
  pub same_size : {done : ℕ} {b b' : List ℕ} {r : Result ℕ E} → Reads done b b' r → length b' ≡ length b
  same_size (full e) = refl
  same_size (over piece k e) = k.size
  same_size (on piece k e reads) = same_size reads ∙ k.size

  -- what was answered lies within the buffer
  pub within : {done : ℕ} {b b' : List ℕ} {r : Result ℕ E} → Reads done b b' r → Within r (length b')
  within (full e) = omega arith
  within {done} {b} {b'} {r} (over piece k e) = over-within done (length b') piece r e (omega (arith, k.room, k.size))
  within (on piece k e reads) = within reads

  -- what was delivered stays, in front
  pub delivered : {done : ℕ} {b b' : List ℕ} {r : Result ℕ E} → Reads done b b' r → take done b' ≡ take done b
  delivered (full e) = refl
  delivered (over piece k e) = k.front
  delivered {done} {b} {b'} (on {next = next} {c = c} piece k e reads) =
      let more = on-within done (length b - done) piece e k.came in
      sym (take-take done next b' (omega (arith, more.0))) ∙ rw (delivered reads) (take-take done next c (omega (arith, more.0))) ∙ k.front

-- ---- of the whole input

module _ {b b' : List ℕ} {Said : List ℕ → Type 0} where
  -- what is said of more than `most` bytes at the front of an input, and so of all of them, is said of the whole input
  pub of-front :
      {read : ℕ} (most : ℕ) → most < length b → Reads {E = Error} 0 b b' (Ok read) →
      ((n : ℕ) (input : List ℕ) → most < n → Said (take n input) → Said input) → Said (take read b') → OfInput b b' Said
  of-front {read} most room reads front o =
      record { read = read; reads = reads; whole = λ input e. front (length b') input (omega (arith, same_size reads)) (subst Said (sym e) o) }

  -- the input may be what was read and no more
  pub of_read : (x : OfInput b b' Said) → Said (take x.read b')
  of_read x =
      let n : length (take x.read b') ≤ length b' = omega (arith, length-take-le x.read b' (within x.reads), within x.reads) in
      x.whole (take x.read b') (take_all (length b') (take x.read b') n)
