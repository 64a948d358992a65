-- The block that counts, from the last block down.
use mathlib.Core.Path.{◌≡◌, refl, sym, ap, ◌∙◌}
use mathlib.Core.Bool.{Bool, true, false, ◌&&◌}
use mathlib.Core.Option.{none, some}
use mathlib.Core.List.{List}
use Prim.Native.Nat.{ℕ, ◌+◌, ◌≤◌}
use native.Mathlib.Numerals.{add-one}
use native.Mathlib.Omega.{arith}
use lib.ListN.{get_or}
use Rattle.blocks.specs.Editions.{blocks_in, block_at, last_below, is_good_for, counted}
use Rattle.blocks.specs.declared.Place.{Place}
use Rattle.blocks.specs.Steps.{Checked, is_part, Placed, CountedPlace}
use Rattle.blocks.proofs.Good.{good_for_is}

module _ (f : ℕ → Bool) (j : ℕ) where
  pub last-next : f j ≡ false → last_below f (j + 1) ≡ last_below f j
  last-next e = ap (last_below f) (add-one j) ∙ (rw e refl)

  pub last_found : f j ≡ true → last_below f (j + 1) ≡ some j
  last_found e = ap (last_below f) (add-one j) ∙ (rw e refl)

-- block i is a good one for a program, an edition and a part
abbrev pub counts : (file : List ℕ) (p e k : ℕ) → ℕ → Bool
counts file p e k i = is_good_for p e k (block_at file i)

-- no block from i on counts
pub record Searching (file : List ℕ) (p e k i : ℕ) : Type 0 where
  pub bound : i ≤ blocks_in file
  pub is : counted file p e k ≡ last_below (counts file p e k) i

pub search_start : (file : List ℕ) (p e k : ℕ) → Searching file p e k (blocks_in file)
unfolding counted
search_start file p e k = record { bound = omega arith; is = refl }

module _ {file : List ℕ} {p e k i : ℕ} (o : Searching file p e k i) (j : ℕ) (s : i ≡ j + 1) where
  here : counted file p e k ≡ last_below (counts file p e k) (j + 1)
  here = o.is ∙ ap (last_below (counts file p e k)) s

  pub search_next : counts file p e k j ≡ false → Searching file p e k j
  search_next t = record { bound = omega (arith, o.bound); is = here ∙ last-next (counts file p e k) j t }

  pub search_hit : counts file p e k j ≡ true → counted file p e k ≡ some j
  search_hit t = here ∙ last_found (counts file p e k) j t

pub search_none : {file : List ℕ} {p e k i : ℕ} → Searching file p e k i → i ≤ 0 → counted file p e k ≡ none
search_none {file} {p} {e} {k} {i} o h = let left : i ≡ 0 = omega arith in o.is ∙ ap (last_below (counts file p e k)) left

-- the same by the marks of the blocks: block j is passed over, it is for another part, it counts
module _ {file : List ℕ} {marks : List Bool} {p e k i : ℕ} (c : Checked file p marks) (o : Searching file p e k i) (j : ℕ) (s : i ≡ j + 1) where
  mark : {b : Bool} → get_or marks j false ≡ b → counts file p e k j ≡ b && is_part e k (block_at file j)
  mark g = good_for_is p e k (block_at file j) ∙ ap (λ b. b && is_part e k (block_at file j)) (sym (c.marked j (omega (arith, o.bound))) ∙ g)

  pub search_bad : get_or marks j false ≡ false → Searching file p e k j
  search_bad g = search_next o j s (mark g)

  pub search_other : {r : Bool} → get_or marks j false ≡ true → r ≡ is_part e k (block_at file j) → r ≡ false → Searching file p e k j
  search_other g q t = search_next o j s (mark g ∙ sym q ∙ t)

  pub search_found : {r : Bool} {l : Place} → get_or marks j false ≡ true → r ≡ is_part e k (block_at file j) → r ≡ true → Placed file (some j) l → CountedPlace file p e k l
  search_found g q t w = let c = search_hit o j s (mark g ∙ sym q ∙ t) in record { block = j; counts = c; place = rw c w }
