-- A block is good, test by test.
use mathlib.Core.Path.{◌≡◌, refl, sym, ap, ◌∙◌}
use mathlib.Core.Bool.{Bool, true, false, ◌&&◌, and-true, and-false}
use mathlib.Core.List.{List}
use Prim.Native.Nat.{ℕ, ◌+◌, ◌-◌, ◌≤◌, ◌<◌}
use native.Mathlib.Omega.{arith}
use borrow.Author.Tests.{eqb-true, eq-eqb, ne_eqb, leb-true, le-leb, lt-leb}
use lib.Dec.{eqb, leb}
use lib.ListN.{get_or, take, drop}
use Rattle.codes.proofs.Bools.{both, left, right}
use Rattle.std.specs.Prelude.{IsTrue, EachIndex, ◌↔◌}
use Rattle.esterel.proofs.Scanning.{Tests, each, fails-at}
use Rattle.blocks.specs.Block.{content_at, content_size, checks_at, program_in, edition_in, part_in, used_in, first_check, second_check, checks_match, length_fits, all_zero, zero_filled, good}
use Rattle.blocks.specs.Editions.{is_for, is_good_for}
use Rattle.blocks.specs.Steps.{usable, is_part}

pub all-zero : Tests all_zero (λ x. eqb x 0)
all-zero = record { none = refl; first = λ x xs. refl }

-- a test that passes exactly where each byte is zero
pub each_zero : (xs : List ℕ) {r : Bool} → (IsTrue r ↔ EachIndex xs (λ k. get_or xs k 0 ≡ 0)) → r ≡ all_zero xs
each_zero xs {r} h = go r (all_zero xs) refl h
  where
    go : (r b : Bool) → all_zero xs ≡ b → (IsTrue r ↔ EachIndex xs (λ k. get_or xs k 0 ≡ 0)) → r ≡ b
    go true true e h = refl
    go false false e h = refl
    go false true e h = h.1 (λ k l. eqb-true _ _ (each all-zero refl xs e k))
    go true false e h = let (k, l, t) = fails-at all-zero xs e in sym (sym t ∙ eq-eqb _ _ (h.0 refl k l))

-- what the tests of a good block say
pub record Good (b : List ℕ) : Type 0 where
  pub first : get_or b checks_at 0 ≡ first_check (take checks_at b)
  pub second : get_or b (checks_at + 1) 0 ≡ second_check (take checks_at b)
  pub some : 1 ≤ used_in b
  pub short : used_in b ≤ content_size
  pub zeros : zero_filled b ≡ true

pub good-is : (b : List ℕ) → good b ≡ true → Good b
unfolding good checks_match length_fits
good-is b g =
    let checks = left (checks_match b) (length_fits b && zero_filled b) g in
    let rest = right (checks_match b) g in
    let used = left (length_fits b) (zero_filled b) rest in
    record {
      first = eqb-true _ _ (left (eqb (get_or b checks_at 0) (first_check (take checks_at b))) (eqb (get_or b (checks_at + 1) 0) (second_check (take checks_at b))) checks);
      second = eqb-true _ _ (right (eqb (get_or b checks_at 0) (first_check (take checks_at b))) checks);
      some = leb-true _ _ (left (leb 1 (used_in b)) (leb (used_in b) content_size) used);
      short = leb-true _ _ (right (leb 1 (used_in b)) used);
      zeros = right (length_fits b) rest;
    }

pub is-good : (b : List ℕ) → Good b → good b ≡ true
unfolding good checks_match length_fits
is-good b g =
    both (both (eq-eqb _ _ g.first) (eq-eqb _ _ g.second))
    (both (both (le-leb _ _ g.some) (le-leb _ _ g.short)) g.zeros)

-- `is_good`, by its returns
module _ (b : List ℕ) where
  pub first_bad : {x a : ℕ} → x ≡ get_or b checks_at 0 → a ≡ first_check (take checks_at b) → (x ≡ a → ⊥) → false ≡ good b
  unfolding good checks_match
  first_bad p q h = rw (ne_eqb (get_or b checks_at 0) (first_check (take checks_at b)) (λ e. h (p ∙ e ∙ sym q))) refl

  pub second_bad : {x a y s : ℕ} → x ≡ get_or b checks_at 0 → a ≡ first_check (take checks_at b) → x ≡ a → y ≡ get_or b (checks_at + 1) 0 → s ≡ second_check (take checks_at b) → (y ≡ s → ⊥) → false ≡ good b
  unfolding good checks_match
  second_bad p q e r t h =
      rw (eq-eqb (get_or b checks_at 0) (first_check (take checks_at b)) (sym p ∙ e ∙ q), ne_eqb (get_or b (checks_at + 1) 0) (second_check (take checks_at b)) (λ f. h (r ∙ f ∙ sym t))) refl

  pub matching : {x a y s : ℕ} → x ≡ get_or b checks_at 0 → a ≡ first_check (take checks_at b) → x ≡ a → y ≡ get_or b (checks_at + 1) 0 → s ≡ second_check (take checks_at b) → y ≡ s → checks_match b ≡ true
  unfolding checks_match
  matching p q e r t f =
      rw (eq-eqb (get_or b checks_at 0) (first_check (take checks_at b)) (sym p ∙ e ∙ q), eq-eqb (get_or b (checks_at + 1) 0) (second_check (take checks_at b)) (sym r ∙ f ∙ t)) refl

  -- the check bytes are right
  module _ (m : checks_match b ≡ true) {used : ℕ} (u : used ≡ used_in b) where
    pub too_short : used < 1 → false ≡ good b
    unfolding good length_fits
    too_short h = rw (m, lt-leb 1 (used_in b) (rw u at h)) refl

    pub too_long : 1 ≤ used → content_size < used → false ≡ good b
    unfolding good length_fits
    too_long l h = rw (m, le-leb 1 (used_in b) (rw u at l), lt-leb (used_in b) content_size (rw u at h)) refl

    pub filled : {r : Bool} → 1 ≤ used → used ≤ content_size → r ≡ all_zero (take (checks_at - (content_at + used)) (drop (content_at + used) b)) → r ≡ good b
    unfolding good length_fits zero_filled
    filled l h e =
        let n : checks_at - (content_at + used) ≡ content_size - used_in b = omega arith in
        e
        ∙ ap (λ k. all_zero (take k (drop (content_at + used) b))) n
        ∙ ap (λ k. all_zero (take (content_size - used_in b) (drop (content_at + k) b))) u
        ∙ (rw (m, le-leb 1 (used_in b) (rw u at l), le-leb (used_in b) content_size (rw u at h)) refl)

-- a block of a program
module _ (b : List ℕ) {p q : ℕ} (e : q ≡ program_in b) where
  pub of_another : (q ≡ p → ⊥) → false ≡ usable p b
  unfolding usable
  of_another d = rw (ne_eqb (program_in b) p (λ s. d (e ∙ s))) refl

  pub of_this : {r : Bool} → q ≡ p → r ≡ good b → r ≡ usable p b
  unfolding usable
  of_this s g = g ∙ (rw (eq-eqb (program_in b) p (sym e ∙ s)) refl)

-- a good block for a program, an edition and a part: the part is looked at first, or the program, and only then the sums
module _ (p e k : ℕ) (b : List ℕ) where
  pub good_for_is : is_good_for p e k b ≡ usable p b && is_part e k b
  unfolding is_for usable is_part
  good_for_is = shifted (good b) (eqb (program_in b) p) (eqb (edition_in b) e && eqb (part_in b) k)
    where
      shifted : (g a x : Bool) → g && (a && x) ≡ (a && g) && x
      shifted true true x = refl
      shifted true false x = refl
      shifted false true x = refl
      shifted false false x = refl

  pub other-part : {r : Bool} → r ≡ is_part e k b → r ≡ false → false ≡ is_good_for p e k b
  other-part q t = sym (good_for_is ∙ ap (λ x. usable p b && x) (sym q ∙ t) ∙ and-false (usable p b))

  pub this_part : {r u : Bool} → r ≡ is_part e k b → r ≡ true → u ≡ usable p b → u ≡ is_good_for p e k b
  this_part q t v = v ∙ sym (good_for_is ∙ ap (λ x. usable p b && x) (sym q ∙ t) ∙ and-true (usable p b))
