-- What the bytes of a program keep, they keep at each of its nodes.
use mathlib.Core.Path.{◌≡◌, refl, sym, ap, ◌∙◌, subst}
use mathlib.Core.Bool.{true}
use mathlib.Core.List.{List, []}
use Prim.Native.Nat.{ℕ, suc, ◌+◌, ◌-◌, ◌<◌}
use native.Mathlib.Decide.{dec_lt}
use native.Mathlib.Omega.{arith}
use lib.ListN.{take, drop, get_or-eq_default, drop_of_length-le}
use lib.Seq.{take_all, take-take}
use Rattle.codes.proofs.Bools.{cannot_pass}
use Rattle.esterel.specs.Statement.{nothing, Binary, present, sequence, parallel, Stmt, leaf, one, two, size, nodes}
use Rattle.esterel.specs.Instant.{zeros, holds, first, second, apart}
use Rattle.esterel.specs.Outcome.{statement_at}
use Rattle.esterel.specs.Reentry.{bytes_at, Holding}
use Rattle.esterel.specs.Theorems.{Invariant}
use Rattle.esterel.proofs.Held.{holds-zeros, Joint, Shaped, Fits, fits-leaf, fits-pause, fits_one, fits-two, first_one, first_two, second-two, fits-length, child_fits, left-fits, right-fits, joint}
use Rattle.esterel.proofs.Parts.{part_at, holds-front, holds-rest}
use Rattle.esterel.proofs.Sizes.{length-nodes, size_pos}
use Rattle.esterel.proofs.Ranges.{Over, over-join, over_last}
use Rattle.esterel.proofs.Nodes.{Sits, sits-own}
use Rattle.esterel.proofs.Subtrees.{inside, two-children}
use Rattle.esterel.proofs.Reentry.Kept.{false-true, Joined, Kept, holds-one}

-- the bytes of the s nodes from n on
abbrev pub part_of : ℕ → ℕ → List ℕ → List ℕ
part_of n s held = take s (drop n held)

-- those of the children
pub child-part : (n : ℕ) (p : Stmt) (held : List ℕ) → first p (part_of n (suc (size p)) held) ≡ part_of n (size p) held
child-part n p held = take-take (size p) (suc (size p)) (drop n held) (omega arith)

pub left-part : (n : ℕ) (p q : Stmt) (held : List ℕ) → first p (part_of n (suc (size p + size q)) held) ≡ part_of n (size p) held
left-part n p q held = take-take (size p) (suc (size p + size q)) (drop n held) (omega arith)

pub right-part : (n : ℕ) (p q : Stmt) (held : List ℕ) → second p q (part_of n (suc (size p + size q)) held) ≡ part_of (n + size p) (size q) held
right-part n p q held = part_at n (size p) (size q) (suc (size p + size q)) held (omega arith)

module _ (p₀ : Stmt) (held : List ℕ) where
  -- those of the node at the end of a statement's
  pub bytes-own : (w : Stmt) (n i : ℕ) → statement_at (nodes p₀) i ≡ w → n + size w ≡ suc i → bytes_at p₀ held i ≡ part_of n (size w) held
  bytes-own w n i e z = let at : suc i - size w ≡ n = omega arith in rw (e, at)

  module _ {J : Joint} where
    own-node : (w : Stmt) (n s : ℕ) → statement_at (nodes p₀) (n + s) ≡ w → size w ≡ suc s → Shaped J w (part_of n (size w) held) → Shaped J (statement_at (nodes p₀) (n + s)) (bytes_at p₀ held (n + s))
    own-node w n s e z f = rw (bytes-own w n (n + s) e (omega arith), e) f

    each-node : (p : Stmt) (n : ℕ) → Sits (nodes p₀) n p → Shaped J p (part_of n (size p) held) → Over (λ i. Shaped J (statement_at (nodes p₀) i) (bytes_at p₀ held i)) n (size p)
    each-node (leaf l) n w f = over_last _ n 0 (λ i lo hi. absurd (omega arith)) (own-node (leaf l) n 0 (let z : n + 0 ≡ n = omega arith in rw z w) (omega arith) f)
    each-node (one u p) n w f =
        over_last _ n (size p) (each-node p n w.0 (rw (child-part n p held) at (child_fits f))) (own-node (one u p) n (size p) w.1 (omega arith) f)
    each-node (two b p q) n w f =
        over_last _ n (size p + size q)
        (over-join _ n (size p) (size q) (each-node p n w.0 (rw (left-part n p q held) at (left-fits f))) (each-node q (n + size p) w.1 (rw (right-part n p q held) at (right-fits f))))
        (own-node (two b p q) n (size p + size q) w.2 (omega arith) f)

    at-node : Shaped J p₀ held → (i : ℕ) → i < size p₀ → Shaped J (statement_at (nodes p₀) i) (bytes_at p₀ held i)
    at-node f i h =
        let whole : part_of 0 (size p₀) held ≡ held = take_all (size p₀) held (omega (arith, fits-length f)) in
        each-node p₀ 0 (sits-own p₀) (rw whole f) i (omega arith) (omega arith)

    -- a node that holds is one of the program's
    pub holding-inside : Shaped J p₀ held → (i : ℕ) → Holding p₀ held i → i < size p₀
    holding-inside f i h = go (dec_lt i (size p₀))
      where
        go : Dec (i < size p₀) → i < size p₀
        go (yes y) = y
        go (no y) =
            let past : statement_at (nodes p₀) i ≡ leaf nothing = get_or-eq_default (nodes p₀) (leaf nothing) (rw length-nodes (omega arith)) in
            let from : suc i - 1 ≡ i = omega arith in
            let none : drop i held ≡ [] = drop_of_length-le held {i = i} (omega (arith, fits-length f)) in
            false-true (rw (past, from, none) at h)

  -- the children of node i
  module _ (i : ℕ) (b : Binary) (q r : Stmt) (e : statement_at (nodes p₀) i ≡ two b q r) where
    pub bytes_left : first q (bytes_at p₀ held i) ≡ bytes_at p₀ held (i - 1 - size r)
    bytes_left =
        let c = two-children p₀ i b q r e in
        let n = i - (size q + size r) in
        let pos = size_pos r in
        ap (first q) (bytes-own (two b q r) n i e (omega arith)) ∙ left-part n q r held ∙ sym (bytes-own q n (i - 1 - size r) c.2 (let pos' = size_pos q in omega arith))

    pub bytes-right : second q r (bytes_at p₀ held i) ≡ bytes_at p₀ held (i - 1)
    bytes-right =
        let c = two-children p₀ i b q r e in
        let n = i - (size q + size r) in
        let pos = size_pos r in
        ap (second q r) (bytes-own (two b q r) n i e (omega arith)) ∙ right-part n q r held ∙ sym (bytes-own r (n + size q) (i - 1) c.1 (omega arith))

  -- what the children of node i keep
  module _ {J : Joint} (f : Shaped J p₀ held) (i : ℕ) (b : Binary) (q r : Stmt) (e : statement_at (nodes p₀) i ≡ two b q r) where
    here : Shaped J (two b q r) (bytes_at p₀ held i)
    here = subst (λ w. Shaped J w (bytes_at p₀ held i)) e (at-node f i (inside p₀ i (two b q r) e (λ z. let y : ◌≡◌ {A = ℕ} 0 1 = cc in omega arith)))

    children-keep : J b q r (holds (bytes_at p₀ held (i - 1 - size r))) (holds (bytes_at p₀ held (i - 1)))
    children-keep = rw (bytes_left i b q r e, bytes-right i b q r e) at (joint here)

-- The invariant of specs/Theorems.antt.

both_hold : (b : Binary) → apart b true true ≡ true → b ≡ parallel
both_hold (present s) e = false-true e
both_hold sequence e = false-true e
both_hold parallel e = refl

pub invariant : (p : Stmt) (held : List ℕ) → Kept p held → Fits p held → Invariant p held
invariant p held f g =
    record {
      paused = λ i h. holds-one (at-node p held f i (holding-inside p held f i h)) h;
      second = λ i q r e h. children-keep p held f i sequence q r e h;
      left_alone = λ i q r e h n. (children-keep p held f i parallel q r e).0 h (cannot_pass _ n);
      right_alone = λ i q r e n h. (children-keep p held f i parallel q r e).1 (cannot_pass _ n) h;
      one_child = λ i b q r e h h'. both_hold b (rw (h, h') at (children-keep p held g i b q r e));
    }

-- and back: a state that fits and has the invariant is kept
module _ (p₀ : Stmt) (held : List ℕ) (o : Invariant p₀ held) where
  kept-joint : (i : ℕ) (b : Binary) (q r : Stmt) → statement_at (nodes p₀) i ≡ two b q r → Joined b q r (holds (bytes_at p₀ held (i - 1 - size r))) (holds (bytes_at p₀ held (i - 1)))
  kept-joint i (present s) q r e = tt
  kept-joint i sequence q r e = o.second i q r e
  kept-joint i parallel q r e = (λ h n. o.left_alone i q r e h (λ y. false-true (sym n ∙ y)), λ n h. o.right_alone i q r e (λ y. false-true (sym n ∙ y)) h)

  kept-part : (q : Stmt) (n : ℕ) {h : List ℕ} → Sits (nodes p₀) n q → Fits q h → h ≡ part_of n (size q) held → Kept q h
  kept-part _ n w (fits-leaf l) e = fits-leaf l
  kept-part _ n w fits-pause e = fits-pause
  kept-part _ n w (fits_one {p = p} u f) e = fits_one u (kept-part p n w.0 f (sym (first_one f) ∙ ap (first p) e ∙ child-part n p held))
  kept-part _ n w (fits-two {p = p} {q = q} b f g z) e =
      let i = n + (size p + size q) in
      let pos = size_pos q in
      let left = sym (first_two f g) ∙ ap (first p) e ∙ left-part n p q held in
      let right = sym (second-two f g) ∙ ap (second p q) e ∙ right-part n p q held in
      let c = two-children p₀ i b p q w.2 in
      let at_left = left ∙ sym (bytes-own p₀ held p n (i - 1 - size q) c.2 (let pos' = size_pos p in omega arith)) in
      let at_right = right ∙ sym (bytes-own p₀ held q (n + size p) (i - 1) c.1 (omega arith)) in
      fits-two b (kept-part p n w.0 f left) (kept-part q (n + size p) w.1 g right) (rw (at_left, at_right) (kept-joint i b p q w.2))

  pub kept_of : Fits p₀ held → Kept p₀ held
  kept_of f = kept-part p₀ 0 (sits-own p₀) f (sym (take_all (size p₀) held (omega (arith, fits-length f))))

-- nothing is held before the start
pub none-holding : {A : Type 0} (p : Stmt) (n i : ℕ) → Holding p (zeros n) i → A
none-holding p n i h =
    let s = size (statement_at (nodes p) i) in
    false-true (sym (holds-zeros n) ∙ holds-rest (suc i - s) (zeros n) (holds-front s (drop (suc i - s) (zeros n)) h))
