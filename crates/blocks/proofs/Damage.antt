-- The theorem `Damage` of specs/Theorems.antt.
use mathlib.Core.Path.{◌≡◌, refl, sym, ap, ◌∙◌}
use mathlib.Core.Logic.{inl, inr, ⊎_elim}
use mathlib.Core.Bool.{true, false}
use mathlib.Core.List.{List, [], ◌∷◌}
use Prim.Native.Nat.{ℕ, zero, suc, ◌+◌, ◌-◌, ◌≤◌, ◌<◌}
use native.Mathlib.Nat.{add-zero, add-mod_right, div-add-mod}
use native.Mathlib.Decide.{dec_lt}
use native.Mathlib.Omega.{arith}
use borrow.Author.Tests.{eqb-true}
use lib.ListN.{length, get_or, take, drop, set}
use lib.Seq.{take-set-lt, take-set-le, drop-set-lt, get_or-set_same, get_or-set_other, get_or-take, get_or-drop, length-take-le}
use Rattle.blocks.specs.Block.{content_at, content_size, checks_at, word, used_in, reduced, sum, first_check, running_from, second_check, all_zero, zero_filled, good}
use Rattle.blocks.specs.Theorems.{Changed, Alike, Unruled, Damage}
use Rattle.blocks.proofs.Good.{all-zero, Good, good-is, is-good}
use Rattle.codes.proofs.Bools.{cannot_pass}
use Rattle.esterel.proofs.Scanning.{each}

-- sums, with one value changed for one that is alike
same-reduced : (a : ℕ) → reduced (a + 255) ≡ reduced (a + 0)
same-reduced a = add-mod_right a 255 ∙ ap reduced (sym (add-zero a))

reduced-alike : (a x y : ℕ) → Alike x y → reduced (a + y) ≡ reduced (a + x)
reduced-alike a x y (inl (p, q)) = rw (p, q) (same-reduced a)
reduced-alike a x y (inr (p, q)) = rw (p, q) (sym (same-reduced a))

running_alike : (a : ℕ) (xs : List ℕ) (i v : ℕ) → i < length xs → Alike (get_or xs i 0) v → running_from a (set xs i v) ≡ running_from a xs
running_alike a [] i v h s = absurd (omega arith)
running_alike a (x ∷ xs) zero v h s = ap (λ n. n ∷ running_from n xs) (reduced-alike a x v s)
running_alike a (x ∷ xs) (suc i) v h s = ap (λ l. reduced (a + x) ∷ l) (running_alike (reduced (a + x)) xs i v (omega arith) s)

second_alike : (xs : List ℕ) (i v : ℕ) → i < length xs → Alike (get_or xs i 0) v → second_check (set xs i v) ≡ second_check xs
unfolding second_check
second_alike xs i v h s = ap (λ l. reduced (sum l)) (running_alike 0 xs i v h s)

-- the sum of the others
rest : List ℕ → ℕ → ℕ
rest xs i = sum (set xs i 0)

sum-rest : (xs : List ℕ) (i v : ℕ) → i < length xs → sum (set xs i v) ≡ rest xs i + v
unfolding rest
sum-rest [] i v h = absurd (omega arith)
sum-rest (x ∷ xs) zero v h = omega arith
sum-rest (x ∷ xs) (suc i) v h = omega (arith, sum-rest xs i v (omega arith))

sum-own : (xs : List ℕ) (i : ℕ) → i < length xs → sum xs ≡ rest xs i + get_or xs i 0
unfolding rest
sum-own [] i h = absurd (omega arith)
sum-own (x ∷ xs) zero h = omega arith
sum-own (x ∷ xs) (suc i) h = omega (arith, sum-own xs i (omega arith))

first_alike : (xs : List ℕ) (i v : ℕ) → i < length xs → Alike (get_or xs i 0) v → first_check (set xs i v) ≡ first_check xs
unfolding first_check
first_alike xs i v h s = ap reduced (sum-rest xs i v h) ∙ reduced-alike (rest xs i) (get_or xs i 0) v s ∙ ap reduced (sym (sum-own xs i h))

-- and only those are alike
reduced_differ : (a x y : ℕ) → x < 256 → y < 256 → (y ≡ x → ⊥) → reduced (a + x) ≡ reduced (a + y) → Alike x y
reduced_differ a x y hx hy d e = go (dec_lt x y) (dec_lt y x)
  where
    go : Dec (x < y) → Dec (y < x) → Alike x y
    go (yes l) r = inl (omega (arith, div-add-mod (a + x) 255, div-add-mod (a + y) 255), omega (arith, div-add-mod (a + x) 255, div-add-mod (a + y) 255))
    go (no l) (yes r) = inr (omega (arith, div-add-mod (a + x) 255, div-add-mod (a + y) 255), omega (arith, div-add-mod (a + x) 255, div-add-mod (a + y) 255))
    go (no l) (no r) = absurd (d (omega arith))

first_differ : (xs : List ℕ) (i v : ℕ) → i < length xs → get_or xs i 0 < 256 → v < 256 → (v ≡ get_or xs i 0 → ⊥) → first_check xs ≡ first_check (set xs i v) → Alike (get_or xs i 0) v
unfolding first_check
first_differ xs i v h hx hv d e =
    reduced_differ (rest xs i) (get_or xs i 0) v hx hv d (ap reduced (sym (sum-own xs i h)) ∙ e ∙ ap reduced (sum-rest xs i v h))

zero-at : (xs : List ℕ) (j : ℕ) → all_zero xs ≡ true → get_or xs j 0 ≡ 0
zero-at xs j z = eqb-true _ _ (each all-zero refl xs z j)

filler-zero : (b : List ℕ) (i : ℕ) → zero_filled b ≡ true → content_at + used_in b ≤ i → i < checks_at → get_or b i 0 ≡ 0
unfolding zero_filled
filler-zero b i z l h =
    let m = content_at + used_in b in
    let same : m + (i - m) ≡ i = omega arith in
    ap (λ n. get_or b n 0) (sym same)
    ∙ sym (get_or-take (content_size - used_in b) (drop m b) (i - m) 0 (omega arith) ∙ get_or-drop m b (i - m) 0)
    ∙ zero-at (take (content_size - used_in b) (drop m b)) (i - m) z

-- a block with one byte changed
module _ (b : List ℕ) (i v : ℕ) (c : Changed b i v) where
  before-checks : length (take checks_at b) ≡ checks_at
  before-checks = length-take-le checks_at b (omega (arith, c.size))

  own : i < checks_at → get_or (take checks_at b) i 0 ≡ get_or b i 0
  own h = get_or-take checks_at b i 0 h

  stored : (j : ℕ) → (j ≡ i → ⊥) → get_or (set b i v) j 0 ≡ get_or b j 0
  stored j d = get_or-set_other b i j v 0 d

  new : get_or (set b i v) i 0 ≡ v
  new = get_or-set_same b i v 0 (omega (arith, c.size, c.place))

  used-kept : (6 ≡ i → ⊥) → (7 ≡ i → ⊥) → used_in (set b i v) ≡ used_in b
  unfolding word
  used-kept p q = omega (arith, stored 6 p, stored 7 q)

  -- a check byte that is changed is not the sum any more, since the bytes before it are as they were
  changed-check : (j : ℕ) (f : List ℕ → ℕ) → checks_at ≤ i → i ≡ j → get_or b j 0 ≡ f (take checks_at b) → get_or (set b i v) j 0 ≡ f (take checks_at (set b i v)) → ⊥
  changed-check j f l at before after =
      c.other (sym new ∙ ap (λ n. get_or (set b i v) n 0) at ∙ after ∙ ap f (take-set-le checks_at b i v l) ∙ sym before ∙ ap (λ n. get_or b n 0) (sym at))

  alike_if : Good b → Good (set b i v) → (i < checks_at) × Alike (get_or b i 0) v
  alike_if g k = go (dec_lt i checks_at) (dec_lt checks_at i)
    where
      go : Dec (i < checks_at) → Dec (checks_at < i) → (i < checks_at) × Alike (get_or b i 0) v
      go (yes h) r =
          let same : first_check (take checks_at b) ≡ first_check (set (take checks_at b) i v) =
          sym g.first ∙ sym (stored checks_at (λ e. omega arith)) ∙ k.first ∙ ap first_check (take-set-lt checks_at b i v h) in
          (h, rw (own h) at (first_differ (take checks_at b) i v (omega (arith, before-checks)) (rw (own h) c.before) c.after (λ e. c.other (e ∙ own h)) same))
      go (no h) (no r) = absurd (changed-check checks_at first_check (omega arith) (omega arith) g.first k.first)
      go (no h) (yes r) = absurd (changed-check (checks_at + 1) second_check (omega arith) (omega (arith, c.place)) g.second k.second)

  -- the used length would leave its range
  not-used : Good b → Good (set b i v) → Alike (get_or b i 0) v → 6 ≤ i → i < content_at → ⊥
  unfolding word
  not-used g k s l h = go (dec_lt i 7)
    where
      changed : (j : ℕ) → i ≡ j → (get_or b j 0 ≡ get_or b i 0) × (get_or (set b i v) j 0 ≡ v)
      changed j e = (ap (λ n. get_or b n 0) (sym e), ap (λ n. get_or (set b i v) n 0) (sym e) ∙ new)

      go : Dec (i < 7) → ⊥
      go (yes a) =
          let (x, y) = changed 6 (omega arith) in
          ⊎_elim (λ t. omega (arith, g.some, g.short, k.some, k.short, stored 7 (λ q. omega arith)))
          (λ t. omega (arith, g.some, g.short, k.some, k.short, stored 7 (λ q. omega arith))) s
      go (no a) =
          let (x, y) = changed 7 (omega arith) in
          ⊎_elim (λ t. omega (arith, g.short, k.short)) (λ t. omega (arith, g.short, k.short)) s

  not-filler : Good b → Good (set b i v) → i < checks_at → content_at + used_in b ≤ i → ⊥
  not-filler g k h l =
      let used : used_in (set b i v) ≡ used_in b = used-kept (λ e. omega arith) (λ e. omega arith) in
      c.other (sym new ∙ filler-zero (set b i v) i k.zeros (omega arith) h ∙ sym (filler-zero b i g.zeros l h))

  unruled_if : Good b → Good (set b i v) → i < checks_at → Alike (get_or b i 0) v → Unruled b i
  unruled_if g k h s = go (dec_lt i 6) (dec_lt i content_at) (dec_lt i (content_at + used_in b))
    where
      go : Dec (i < 6) → Dec (i < content_at) → Dec (i < content_at + used_in b) → Unruled b i
      go (yes a) q r = inl a
      go (no a) (yes q) r = absurd (not-used g k s (omega arith) q)
      go (no a) (no q) (yes r) = inr (omega arith, r)
      go (no a) (no q) (no r) = absurd (not-filler g k h (omega arith))

  still-good : Good b → Alike (get_or b i 0) v → Unruled b i → Good (set b i v)
  unfolding zero_filled
  still-good g s u =
      let low : i < content_at + used_in b = ⊎_elim (λ a. omega (arith, g.some)) (λ a. a.1) u in
      let h : i < checks_at = omega (arith, g.short) in
      let p : 6 ≡ i → ⊥ = λ e. ⊎_elim (λ a. omega arith) (λ a. omega arith) u in
      let q : 7 ≡ i → ⊥ = λ e. ⊎_elim (λ a. omega arith) (λ a. omega arith) u in
      let used : used_in (set b i v) ≡ used_in b = used-kept p q in
      let front : take checks_at (set b i v) ≡ set (take checks_at b) i v = take-set-lt checks_at b i v h in
      let alike : Alike (get_or (take checks_at b) i 0) v = rw (own h) s in
      record {
        first =
            stored checks_at (λ e. omega arith) ∙ g.first ∙ sym (ap first_check front ∙ first_alike (take checks_at b) i v (omega (arith, before-checks)) alike);
        second =
            stored (checks_at + 1) (λ e. omega arith) ∙ g.second ∙ sym (ap second_check front ∙ second_alike (take checks_at b) i v (omega (arith, before-checks)) alike);
        some = omega (arith, g.some);
        short = omega (arith, g.short);
        zeros =
            ap (λ n. all_zero (take (content_size - n) (drop (content_at + n) (set b i v)))) used
            ∙ ap (λ l. all_zero (take (content_size - used_in b) l)) (drop-set-lt (content_at + used_in b) b i v low)
            ∙ g.zeros;
      }

passed_over_lem : (b : List ℕ) (i v : ℕ) → good b ≡ true → Changed b i v → ((i < checks_at) × Alike (get_or b i 0) v → ⊥) → good (set b i v) ≡ false
passed_over_lem b i v g c d = cannot_pass (good (set b i v)) (λ e. d (alike_if b i v c (good-is b g) (good-is (set b i v) e)))

pub damage : Damage
damage =
    record {
      passed_over = passed_over_lem;
      unseen =
          λ b i v g c. (
            λ e.
                let k = good-is (set b i v) e in
                let seen = alike_if b i v c (good-is b g) k in
                (seen.1, unruled_if b i v c (good-is b g) k seen.0 seen.1),
            λ (s, u). is-good (set b i v) (still-good b i v c (good-is b g) s u),
          );
    }
