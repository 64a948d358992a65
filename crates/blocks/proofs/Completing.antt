-- Whether an edition is whole, part by part.
use mathlib.Core.Path.{◌≡◌, refl, sym, ap, ◌∙◌}
use mathlib.Core.Bool.{true, false, ◌&&◌, ◌||◌}
use mathlib.Core.List.{List}
use mathlib.Core.Option.{none}
use Prim.Native.Nat.{ℕ, ◌+◌, ◌*◌, ◌≤◌, ◌<◌}
use native.Mathlib.Numerals.{add-one}
use native.Mathlib.Omega.{arith}
use borrow.Author.Tests.{le-leb, lt-leb, eq-eqb, ne_eqb}
use lib.Dec.{eqb, leb}
use lib.ListN.{length}
use Rattle.blocks.specs.Block.{content_size}
use Rattle.blocks.specs.Editions.{counted, length_of, named_by, all_below, content_of, parts_of, completes, whole, joined, table_of}
use Rattle.blocks.specs.declared.Place.{Place}
use Rattle.blocks.specs.declared.Fetched.{Fetched}
use Rattle.blocks.specs.Steps.{CountedPlace, edition_of}
use Rattle.std.specs.Prelude.{Some, None}
use Rattle.codes.proofs.Bools.{both, right, cannot_pass, false-not-true}
use Rattle.blocks.proofs.Last.{all-holds}
use Rattle.blocks.proofs.Counted.{counted_view, place_short, content-length}
use Rattle.blocks.proofs.Joining.{joined_length}

-- a part's content
abbrev pub content : (file : List ℕ) (p e k : ℕ) → List ℕ
content file p e k = content_of file (counted file p e k)

abbrev edition : (number parts long : ℕ) → Fetched
edition e m n = record { edition = e; parts = m; length = n }

module _ (file : List ℕ) (p e : ℕ) where
  pub not-whole : whole file p e ≡ false → None ≡ edition_of file p e
  unfolding edition_of
  not-whole w = rw w refl

  pub is_whole : whole file p e ≡ true → Some (edition e (parts_of file p e) (length (table_of file p e))) ≡ edition_of file p e
  unfolding edition_of
  is_whole w = rw w refl

  pub no_parts : {m : ℕ} → m ≡ parts_of file p e → m ≡ 0 → None ≡ edition_of file p e
  unfolding whole
  no_parts n z = not-whole (ap (λ b. b && all_below (completes file p e (parts_of file p e)) (parts_of file p e)) (lt-leb 1 (parts_of file p e) (omega arith)))

  pub incomplete : {m : ℕ} (k : ℕ) → m ≡ parts_of file p e → k < m → completes file p e m k ≡ false → None ≡ edition_of file p e
  unfolding whole
  incomplete {m} k n h c =
      not-whole
      (cannot_pass _ (λ w. false-not-true (rw n at c)
      (all-holds (completes file p e (parts_of file p e)) (parts_of file p e) k (rw n at h) (right (leb 1 (parts_of file p e)) w))))

-- the parts before k are as they must be
pub record Completing (file : List ℕ) (p e m total k : ℕ) : Type 0 where
  pub bound : k ≤ m
  pub named : m ≡ parts_of file p e
  pub complete : all_below (completes file p e m) k ≡ true
  pub is : total ≡ length (joined (content file p e) k)
  pub short : total ≤ content_size * k

pub completing_start : (file : List ℕ) (p e : ℕ) {m : ℕ} → m ≡ parts_of file p e → Completing file p e m 0 0
completing_start file p e n = record { bound = omega arith; named = n; complete = refl; is = refl; short = omega arith }

-- a part without a block
pub missing-part : {file : List ℕ} {p e m total k : ℕ} → Completing file p e m total k → k < m → counted file p e k ≡ none → None ≡ edition_of file p e
unfolding completes
missing-part {file} {p} {e} {m} {total} {k} o h c =
    let z : named_by file (counted file p e k) ≡ 0 = ap (named_by file) c in
    incomplete file p e k o.named h
    (ap (λ b. b && (leb m (k + 1) || eqb (length_of file (counted file p e k)) content_size)) (ne_eqb _ _ (λ q. omega (arith, z, q))))

module _ {file : List ℕ} {p e m total k : ℕ} {l : Place} (o : Completing file p e m total k) (h : k < m) (w : CountedPlace file p e k l) where
  -- the part names another number
  pub unnamed : (l.parts ≡ m → ⊥) → None ≡ edition_of file p e
  unfolding completes
  unnamed d =
      incomplete file p e k o.named h
      (ap (λ b. b && (leb m (k + 1) || eqb (length_of file (counted file p e k)) content_size)) (ne_eqb _ _ (λ q. d (w.place.parts ∙ q))))

  module _ (n : l.parts ≡ m) where
    used : completes file p e m k ≡ leb m (k + 1) || eqb l.span.length content_size
    unfolding completes
    used =
        ap (λ b. b && (leb m (k + 1) || eqb (length_of file (counted file p e k)) content_size)) (eq-eqb _ _ (sym w.place.parts ∙ n))
        ∙ ap (λ u. leb m (k + 1) || eqb u content_size) (sym w.place.used)

    -- it is not the last and does not use all of its content
    pub unfilled : k + 1 < m → (l.span.length ≡ content_size → ⊥) → None ≡ edition_of file p e
    unfilled more d = incomplete file p e k o.named h (used ∙ (rw (lt-leb m (k + 1) more, ne_eqb _ _ d) refl))

    -- it is the last
    pub last-part : m ≤ k + 1 → completes file p e m k ≡ true
    last-part last = used ∙ (rw (le-leb m (k + 1) last) refl)

    -- it uses all of its content
    pub full-part : k + 1 < m → l.span.length ≡ content_size → completes file p e m k ≡ true
    full-part more full = used ∙ (rw (lt-leb m (k + 1) more, eq-eqb _ _ full) refl)

    pub completing_next : completes file p e m k ≡ true → Completing file p e m (total + l.span.length) (k + 1)
    completing_next t =
        record {
          bound = omega arith;
          named = o.named;
          complete = ap (all_below (completes file p e m)) (add-one k) ∙ both o.complete t;
          is = omega (arith, o.is, joined_length (content file p e) k, content-length (counted_view file p e k), w.place.used);
          short = omega (arith, o.short, place_short w);
        }

module _ {file : List ℕ} {p e m total k : ℕ} (o : Completing file p e m total k) where
  pub completing_end : 1 ≤ m → m ≤ k → Some (edition e m total) ≡ edition_of file p e
  unfolding whole table_of
  completing_end l h =
      let all : k ≡ parts_of file p e = omega (arith, o.bound, o.named) in
      let complete : all_below (completes file p e (parts_of file p e)) (parts_of file p e) ≡ true =
      ap (λ n. all_below (completes file p e n) (parts_of file p e)) (sym o.named) ∙ ap (all_below (completes file p e m)) (sym all) ∙ o.complete in
      let some : leb 1 (parts_of file p e) ≡ true = le-leb 1 (parts_of file p e) (omega (arith, o.named)) in
      ap (λ n. Some (edition e n total)) o.named
      ∙ ap (λ n. Some (edition e (parts_of file p e) n)) (o.is ∙ ap (λ n. length (joined (content file p e) n)) all)
      ∙ is_whole file p e (both some complete)

-- the parts of an edition, joined, are its table
pub table_is : (file : List ℕ) (p e : ℕ) {m : ℕ} → m ≡ parts_of file p e → joined (content file p e) m ≡ table_of file p e
unfolding table_of
table_is file p e n = ap (joined (content file p e)) n
