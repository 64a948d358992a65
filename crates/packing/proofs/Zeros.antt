-- Zeros: a part that is filled with them, one more behind some, and what holds nothing.
use mathlib.Core.Path.{◌≡◌, refl, sym, ap, ap₂, ◌∙◌}
use mathlib.Core.Bool.{false}
use mathlib.Core.List.{List, [], ◌∷◌, ◌++◌, append_assoc}
use Prim.Native.Nat.{ℕ, zero, suc, ◌+◌, ◌-◌, ◌≤◌}
use native.Mathlib.Omega.{arith}
use lib.ListN.{length, get_or, set, take, drop, replicate, length-drop, length-replicate, replicate-append-replicate}
use lib.Seq.{sets, sets-eq, length-take-le, drop-drop}
use borrow.Rule.Slice.PartMut.{put_mid}
use Rattle.esterel.specs.Instant.{zeros, holds}
use Rattle.table.proofs.Buffers.{sets-append}

-- a part that is filled with 0
pub filled : (l : List ℕ) (a k : ℕ) {v : List ℕ} → a + k ≤ length l → v ≡ replicate (length (take k (drop a l))) 0 → v ≡ zeros k
filled l a k le e = e ∙ ap (λ n. replicate n 0) (length-take-le k (drop a l) (omega (arith, length-drop a l)))

pub cleared : (l : List ℕ) (a k : ℕ) {v : List ℕ} → a + k ≤ length l → v ≡ replicate (length (take k (drop a l))) 0 → put_mid a k l v ≡ sets l a (zeros k)
cleared l a k {v} le e =
    let long : length (zeros k) ≡ k = length-replicate {A = ℕ} k 0 in
    ap₂ (λ x y. take a l ++ (x ++ y)) (filled l a k le e) (drop-drop k a l)
    ∙ sym (append_assoc (take a l) (zeros k) (drop (a + k) l))
    ∙ sym (sets-eq (zeros k) l a (omega arith) ∙ ap (λ n. (take a l ++ zeros k) ++ drop (a + n) l) long)

-- one zero more
zeros_snoc : (l : List ℕ) (f n : ℕ) → set (sets l f (zeros n)) (f + n) 0 ≡ sets l f (zeros (n + 1))
zeros_snoc l f n =
    sym (ap (λ v. sets l f v) (sym (replicate-append-replicate n 1 0)) ∙ sets-append l f (zeros n) (0 ∷ []) ∙ ap (λ k. set (sets l f (zeros n)) (f + k) 0) (length-replicate {A = ℕ} n 0))

pub zeros-more : (l : List ℕ) (f i : ℕ) → f ≤ i → set (sets l f (zeros (i - f))) i 0 ≡ sets l f (zeros (i + 1 - f))
zeros-more l f i le =
    let at : f + (i - f) ≡ i = omega arith in
    let more : i - f + 1 ≡ i + 1 - f = omega arith in
    ap (λ k. set (sets l f (zeros (i - f))) k 0) (sym at) ∙ zeros_snoc l f (i - f) ∙ ap (λ k. sets l f (zeros k)) more

-- what holds nothing is zeros
pub none-at : (h : List ℕ) → holds h ≡ false → (j : ℕ) → get_or h j 0 ≡ 0
none-at [] e j = refl
none-at (zero ∷ h) e zero = refl
none-at (zero ∷ h) e (suc j) = none-at h e j
none-at (suc b ∷ h) e j = cc

pub holds-none : (h : List ℕ) → ((j : ℕ) → get_or h j 0 ≡ 0) → holds h ≡ false
holds-none [] z = refl
holds-none (zero ∷ h) z = holds-none h (λ j. z (suc j))
holds-none (suc b ∷ h) z = absurd (let e = z 0 in omega arith)
