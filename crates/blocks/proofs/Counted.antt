-- The block that counts for a part, if there is one.
use mathlib.Core.Path.{◌≡◌, refl, sym, ap, ◌∙◌}
use mathlib.Core.Bool.{Bool, true, false, ◌&&◌}
use mathlib.Core.Option.{Option, none, some}
use mathlib.Core.List.{List}
use Prim.Native.Nat.{ℕ, ◌+◌, ◌-◌, ◌≤◌, ◌<◌}
use native.Mathlib.Omega.{arith}
use borrow.Author.Tests.{eqb-true, eq-eqb}
use lib.Dec.{eqb}
use lib.ListN.{length, take, drop, length-drop}
use lib.Seq.{length-take-le}
use Rattle.codes.proofs.Bools.{both, left, right}
use Rattle.blocks.specs.Block.{content_size, program_in, edition_in, part_in, good}
use Rattle.blocks.specs.Editions.{file_fits, blocks_in, block_at, is_for, counted, start_of, length_of, content_of}
use Rattle.blocks.specs.Fetching.{handed, Locating}
use Rattle.blocks.specs.Steps.{CountedPlace}
use Rattle.blocks.specs.Theorems.{GoodBlock}
use Rattle.blocks.specs.declared.Place.{Place}
use Rattle.blocks.specs.declared.Span.{Span}
use Rattle.blocks.proofs.Blocks.{block_within}
use Rattle.blocks.proofs.Good.{good-is}
use Rattle.blocks.proofs.Last.{Last, nothing, last, last_view}
use Rattle.blocks.proofs.Finding.{counts}

module _ {file : List ℕ} {p e k : ℕ} where
  pub good-counts : {i : ℕ} → GoodBlock file p e k i → counts file p e k i ≡ true
  unfolding is_for
  good-counts g = both g.is_good (both (eq-eqb _ _ g.program) (both (eq-eqb _ _ g.edition) (eq-eqb _ _ g.part)))

  pub counts-good : (i : ℕ) → i < blocks_in file → counts file p e k i ≡ true → GoodBlock file p e k i
  unfolding is_for
  counts-good i h t =
      let b = block_at file i in
      let numbers = right (good b) t in
      let rest = right (eqb (program_in b) p) numbers in
      record {
        within = block_within file i h;
        is_good = left (good b) (is_for p e k b) t;
        program = eqb-true _ _ (left (eqb (program_in b) p) (eqb (edition_in b) e && eqb (part_in b) k) numbers);
        edition = eqb-true _ _ (left (eqb (edition_in b) e) (eqb (part_in b) k) rest);
        part = eqb-true _ _ (right (eqb (edition_in b) e) rest);
      }

pub data Counts (file : List ℕ) (p e k : ℕ) : Option ℕ → Type 0 where
  missing : Counts file p e k none
  block : (i : ℕ) → GoodBlock file p e k i → Counts file p e k (some i)

of_last : {file : List ℕ} {p e k : ℕ} {o : Option ℕ} → Last (counts file p e k) (blocks_in file) o → Counts file p e k o
of_last (nothing h) = missing
of_last (last i b t h) = block i (counts-good i b t)

pub counted_view : (file : List ℕ) (p e k : ℕ) → Counts file p e k (counted file p e k)
unfolding counted
counted_view file p e k = of_last (last_view (counts file p e k) (blocks_in file))

pub counted-good : {file : List ℕ} {p e k i : ℕ} → counted file p e k ≡ some i → GoodBlock file p e k i
counted-good {file} {p} {e} {k} {i} c = go (counted_view file p e k) c
  where
    go : {o : Option ℕ} → Counts file p e k o → o ≡ some i → GoodBlock file p e k i
    go missing q = absurd (let z : ◌≡◌ {A = ℕ} 0 1 = cc in omega arith)
    go (block j g) q = let same : j ≡ i = cc in rw same at g

module _ {file : List ℕ} {p e k : ℕ} where
  pub used-short : {o : Option ℕ} → Counts file p e k o → length_of file o ≤ content_size
  used-short missing = omega arith
  used-short (block i g) = (good-is (block_at file i) g.is_good).short

  pub used-within : {o : Option ℕ} → Counts file p e k o → start_of o + length_of file o ≤ length file
  used-within missing = omega arith
  used-within (block i g) = omega (arith, (good-is (block_at file i) g.is_good).short, g.within)

  pub content-length : {o : Option ℕ} → Counts file p e k o → length (content_of file o) ≡ length_of file o
  content-length {o} c = length-take-le (length_of file o) (drop (start_of o) file) (omega (arith, used-within c, length-drop (start_of o) file))

-- a part of the file, where the used content of a block is
pub slice_content : (file : List ℕ) (o : Option ℕ) {from long : ℕ} → from ≡ start_of o → long ≡ length_of file o → take (from + long - from) (drop from file) ≡ content_of file o
slice_content file o {from} {long} a b =
    let n : from + long - from ≡ length_of file o = omega (arith, b) in
    ap (λ m. take m (drop from file)) n ∙ ap (λ m. take (length_of file o) (drop m file)) a

module _ {file : List ℕ} {p e k : ℕ} {l : Place} (w : CountedPlace file p e k l) where
  pub place_short : l.span.length ≤ content_size
  place_short = rw w.place.used (used-short (counted_view file p e k))

  pub place-within : l.span.from + l.span.length ≤ length file
  place-within = rw (w.place.from, w.place.used) (used-within (counted_view file p e k))

  pub place-content : take (l.span.from + l.span.length - l.span.from) (drop l.span.from file) ≡ content_of file (counted file p e k)
  place-content = slice_content file (counted file p e k) w.place.from w.place.used

-- what `locate` answers, by the block that counts
module _ (file : List ℕ) (p e k : ℕ) {r : Bool} {s : Span} (q : r ≡ file_fits file) where
  pub counted-located : {o : Option ℕ} → r ≡ true → counted file p e k ≡ o → s.from ≡ start_of o → s.length ≡ length_of file o → Locating file p e k s
  unfolding handed
  counted-located {o} t c a b =
      let same : o ≡ handed file p e k = rw (sym q ∙ t) (sym c) in
      let room : start_of o + length_of file o ≤ length file = rw c at (used-within (counted_view file p e k)) in
      record { from = a ∙ ap start_of same; used = b ∙ ap (length_of file) same; within = omega arith }

  pub refused-located : r ≡ false → s.from ≡ 0 → s.length ≡ 0 → Locating file p e k s
  unfolding handed
  refused-located t a b =
      let missing-one : none ≡ handed file p e k = rw (sym q ∙ t) refl in
      record {
        from = a ∙ ap start_of missing-one;
        used = b ∙ ap (length_of file) missing-one;
        within = omega arith;
      }
