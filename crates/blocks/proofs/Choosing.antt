-- The highest whole edition, from the first block on.
use mathlib.Core.Path.{◌≡◌, refl, sym, ap, ◌∙◌}
use mathlib.Core.Bool.{Bool, true, false, cond}
use mathlib.Core.Option.{Option, none, some}
use mathlib.Core.List.{List}
use Prim.Native.Nat.{ℕ, ◌+◌, ◌*◌, ◌≤◌, ◌<◌}
use native.Mathlib.Decide.{dec_lt}
use native.Mathlib.Omega.{arith}
use borrow.Author.Count.{below_more}
use borrow.Author.Tests.{leb-true, eq-eqb, lt-ltb, ltb-true}
use lib.Dec.{leb}
use lib.ListN.{get_or, take, drop}
use lib.Seq.{get_or-take, get_or-drop}
use Rattle.codes.proofs.Bools.{both, left, cannot_pass, false-not-true}
use Rattle.blocks.specs.Block.{block_size, content_at, Bytes, word, edition_in}
use Rattle.blocks.specs.Editions.{blocks_in, block_at, counted, start_of, named_by, parts_of, whole, newest}
use Rattle.blocks.specs.Steps.{usable, Checked, CountedPlace, chosen, edition_of, higher_than, Best, none_yet, best}
use Rattle.blocks.specs.declared.Place.{Place}
use Rattle.blocks.specs.declared.Fetched.{Fetched}
use Rattle.std.specs.Prelude.{Some, None}
use Rattle.std.specs.Option.{option_or}
use Rattle.std.specs.Prelude.{Option as Optional}
use Rattle.blocks.proofs.Blocks.{block-below}
use Rattle.blocks.proofs.Last.{last_some, last_none}
use Rattle.blocks.proofs.Counted.{counted-good}

-- ---- one more block

-- what a check of an edition says
module _ (file : List ℕ) (p e : ℕ) {next : Optional Fetched} (n : next ≡ edition_of file p e) where
  by-check : (b : Bool) → whole file p e ≡ b → next ≡ cond b (chosen file p (some e)) None
  unfolding edition_of
  by-check b w = n ∙ ap (λ c. cond c (chosen file p (some e)) None) w

  none_told : next ≡ None → whole file p e ≡ false
  none_told t = cannot_pass (whole file p e) (λ w. let q = by-check true w in let z : ◌≡◌ {A = ℕ} 0 1 = cc in omega arith)

  whole-told : {d : Fetched} → next ≡ Some d → (whole file p e ≡ true) × (next ≡ chosen file p (some e))
  whole-told t = go (whole file p e) refl
    where
      go : (b : Bool) → whole file p e ≡ b → (whole file p e ≡ true) × (next ≡ chosen file p (some e))
      go true w = (w, by-check true w)
      go false w = absurd (let q = by-check false w in let z : ◌≡◌ {A = ℕ} 0 1 = cc in omega arith)

module _ {file : List ℕ} {p n : ℕ} {x : Optional Fetched} (b : Best file p n x) where
  -- it changes nothing where no higher edition whose part 0 it is is whole
  passed-by : ((d : ℕ) → counted file p d 0 ≡ some n → higher_than d x ≡ true → whole file p d ≡ false) → Best file p (n + 1) x
  passed-by f = go b f
    where
      go : {y : Optional Fetched} → Best file p n y → ((d : ℕ) → counted file p d 0 ≡ some n → higher_than d y ≡ true → whole file p d ≡ false) → Best file p (n + 1) y
      go (none_yet h) g = none_yet (λ d. below_more (λ i. counted file p d 0 ≡ some i → whole file p d ≡ false) n (h d) (λ c. g d c refl))
      go (best e w h) g =
          best e w
          (λ d. below_more (λ i. counted file p d 0 ≡ some i → e < d → whole file p d ≡ false) n (h d) (λ c l. g d c (lt-ltb e d l)))

  raised : (e : ℕ) → edition_in (block_at file n) ≡ e → higher_than e x ≡ true → whole file p e ≡ true → Best file p (n + 1) (chosen file p (some e))
  raised e q t w =
      best e w
      (λ d. below_more (λ i. counted file p d 0 ≡ some i → e < d → whole file p d ≡ false) n
      (λ i h c l. go b t d i h c l)
      (λ c l. absurd (omega (arith, (counted-good c).edition))))
    where
      go : {y : Optional Fetched} → Best file p n y → higher_than e y ≡ true → (d i : ℕ) → i < n → counted file p d 0 ≡ some i → e < d → whole file p d ≡ false
      go (none_yet h) u d i a c l = h d i a c
      go (best f v h) u d i a c l = h d i a c (omega (arith, ltb-true f e u))

  -- `consider`, by its returns
  pub bad_block : {marks : List Bool} → Checked file p marks → n < blocks_in file → get_or marks n false ≡ false → Best file p (n + 1) x
  unfolding usable
  bad_block m h t =
      passed-by (λ d c. let g = counted-good c in absurd (false-not-true (sym (m.marked n h) ∙ t) (both (eq-eqb _ _ g.program) g.is_good)))

  module _ {e : ℕ} (q : e ≡ edition_in (block_at file n)) where
    own : {d : ℕ} → counted file p d 0 ≡ some n → d ≡ e
    own c = sym (q ∙ (counted-good c).edition)

    pub unbeaten : higher_than e x ≡ false → Best file p (n + 1) x
    unbeaten t = passed-by (λ d c u. absurd (false-not-true (ap (λ k. higher_than k x) (own c) ∙ t) u))

    pub unheld : counted file p e 0 ≡ none → Best file p (n + 1) x
    unheld z = passed-by (λ d c u. let q = sym z ∙ ap (λ k. counted file p k 0) (sym (own c)) ∙ c in cc)

    pub elsewhere : {l : Place} → CountedPlace file p e 0 l → (l.span.from ≡ block_size * n + content_at → ⊥) → Best file p (n + 1) x
    elsewhere w h =
        passed-by (λ d c u. absurd (h (w.place.from ∙ ap start_of (ap (λ k. counted file p k 0) (sym (own c)) ∙ c))))

    module _ {next : Optional Fetched} (v : next ≡ edition_of file p e) where
      pub retained : next ≡ None → Best file p (n + 1) x
      retained t = passed-by (λ d c u. ap (whole file p) (own c) ∙ none_told file p e v t)

      pub surpassed : {d : Fetched} → higher_than e x ≡ true → next ≡ Some d → Best file p (n + 1) next
      surpassed u t = let (w, r) = whole-told file p e v t in rw r (raised e (sym q) u w)

      pub considered : higher_than e x ≡ true → Best file p (n + 1) (option_or next x)
      considered u = go next refl
        where
          go : (y : Optional Fetched) → next ≡ y → Best file p (n + 1) (option_or y x)
          go None t = retained t
          go (Some d) t = rw t at (surpassed u t)

-- ---- all blocks

pub best_none : (file : List ℕ) (p : ℕ) → Best file p 0 None
best_none file p = none_yet (λ d i h. absurd (omega arith))

-- a whole edition has a block for its part 0
pub led : (file : List ℕ) (p e : ℕ) → whole file p e ≡ true → (i : ℕ) × (counted file p e 0 ≡ some i)
unfolding whole parts_of
led file p e w = go (counted file p e 0) refl (leb-true _ _ (left (leb 1 (parts_of file p e)) _ w))
  where
    go : (o : Option ℕ) → counted file p e 0 ≡ o → 1 ≤ named_by file o → (i : ℕ) × (counted file p e 0 ≡ some i)
    go none c l = absurd (omega arith)
    go (some i) c l = (i, c)

module _ (file : List ℕ) (p : ℕ) (bytes : Bytes file) where
  edition-below : (i : ℕ) → edition_in (block_at file i) < 65536
  unfolding word block_at
  edition-below i =
      let at = block_size * i in
      let low : get_or (take block_size (drop at file)) 2 0 ≡ get_or file (at + 2) 0 = get_or-take block_size (drop at file) 2 0 (omega arith) ∙ get_or-drop at file 2 0 in
      let high : get_or (take block_size (drop at file)) 3 0 ≡ get_or file (at + 3) 0 = get_or-take block_size (drop at file) 3 0 (omega arith) ∙ get_or-drop at file 3 0 in
      omega (arith, low, high, bytes (at + 2), bytes (at + 3))

  pub whole_below : (d : ℕ) → whole file p d ≡ true → d < 65536
  whole_below d w = let (i, c) = led file p d w in rw (← (counted-good c).edition) (edition-below i)

  -- where no edition that has its part 0 in the file passes
  fails : (e : ℕ) → ((i : ℕ) → i < blocks_in file → counted file p e 0 ≡ some i → whole file p e ≡ false) → whole file p e ≡ true → ⊥
  fails e h w = let (i, c) = led file p e w in false-not-true (h i (block-below file i (counted-good c).within) c) w

  pub best-is : {x : Optional Fetched} → Best file p (blocks_in file) x → x ≡ chosen file p (newest file p)
  unfolding newest
  best-is (none_yet h) = ap (chosen file p) (sym ((last_none (whole file p) 65536).1 (λ e l w. fails e (h e) w)))
  best-is (best e w h) =
      ap (chosen file p) (sym ((last_some (whole file p) 65536 e).1 (whole_below e w, w, λ d l v. go d v (dec_lt e d))))
    where
      go : (d : ℕ) → whole file p d ≡ true → Dec (e < d) → d ≤ e
      go d v (yes l) = absurd (fails d (λ i b c. h d i b c l) v)
      go d v (no l) = omega arith
