-- The bytes of a subtree as a part of the state, and what they hold as the counts tell it.
use mathlib.Core.Path.{◌≡◌, refl, sym, ap, ◌∙◌}
use mathlib.Core.Bool.{false}
use mathlib.Core.List.{List, [], ◌∷◌, ◌++◌}
use Prim.Native.Nat.{ℕ, zero, suc, ◌+◌, ◌-◌, ◌<◌, ◌≤◌}
use native.Mathlib.Omega.{arith}
use lib.Dec.{ltb}
use lib.ListN.{length, get_or, take, drop, length-append}
use lib.Seq.{sets, set-get_or, drop-cons, get_or-take, get_or-drop, get_or_at}
use borrow.Author.Tests.{lt-ltb, le-ltb}
use Rattle.esterel.specs.Statement.{Unary, Binary, Stmt, one, two, size}
use Rattle.esterel.specs.Instant.{holds}
use Rattle.esterel.proofs.Held.{Fits, fits_one, fits-two, fits-length}
use Rattle.packing.proofs.Zeros.{none-at}
use Rattle.instant.proofs.Sets.{Zero}

-- the elements that stand there already
pub sets_same : (l : List ℕ) (f n : ℕ) → f + n ≤ length l → sets l f (take n (drop f l)) ≡ l
sets_same l f zero le = refl
sets_same l f (suc n) le =
    rw (drop-cons l f 0 (omega arith)) (ap (λ m. sets m (suc f) (take n (drop (suc f) l))) (set-get_or l f 0) ∙ sets_same l (suc f) n (omega arith))

at_part : (l : List ℕ) (i n j : ℕ) → i ≤ j → j < i + n → get_or (take n (drop i l)) (j - i) 0 ≡ get_or l j 0
at_part l i n j lo hi =
    get_or-take n (drop i l) (j - i) 0 (omega arith) ∙ get_or-drop i l (j - i) 0 ∙ (let z : i + (j - i) ≡ j = omega arith in ap (λ k. get_or l k 0) z)

pub zero-part : (l : List ℕ) (i n : ℕ) → holds (take n (drop i l)) ≡ false → Zero l i n
zero-part l i n e j lo hi = sym (at_part l i n j lo hi) ∙ none-at (take n (drop i l)) e (j - i)

-- a node's own byte comes last
own-one : {u : Unary} {p : Stmt} {h : List ℕ} → Fits (one u p) h → get_or h (size p) 0 ≡ 0
own-one (fits_one {p = p} {h = h} u f) = get_or_at h 0 [] 0 (size p) (fits-length f)

own-two : {b : Binary} {p q : Stmt} {h : List ℕ} → Fits (two b p q) h → get_or h (size p + size q) 0 ≡ 0
own-two (fits-two {p = p} {q = q} {h = h} {g = g} b f e z) =
    get_or_at (h ++ g) 0 [] 0 (size p + size q) (length-append h g ∙ (let a = fits-length f in let c = fits-length e in omega arith))

module _ (l : List ℕ) (f i : ℕ) where
  pub own-one-at : (u : Unary) (p : Stmt) → f + size p ≡ i → Fits (one u p) (take (suc (size p)) (drop f l)) → get_or l i 0 ≡ 0
  own-one-at u p at o = sym (at_part l f (suc (size p)) i (omega arith) (omega arith)) ∙ (let z : i - f ≡ size p = omega arith in rw z (own-one o))

  pub own-two-at : (b : Binary) (p q : Stmt) → f + (size p + size q) ≡ i → Fits (two b p q) (take (suc (size p + size q)) (drop f l)) → get_or l i 0 ≡ 0
  own-two-at b p q at o = sym (at_part l f (suc (size p + size q)) i (omega arith) (omega arith)) ∙ (let z : i - f ≡ size p + size q = omega arith in rw z (own-two o))

-- the counts grow by each byte
abbrev pub Counts : (counts l : List ℕ) (i n : ℕ) → Type 0
Counts counts l i n = (j : ℕ) → i ≤ j → j < i + n → get_or counts (suc j) 0 ≡ get_or counts j 0 + get_or l j 0

module _ (counts l : List ℕ) where
  grows : (i n : ℕ) → Counts counts l i n → get_or counts i 0 ≤ get_or counts (i + n) 0
  grows i zero c = let z : i + 0 ≡ i = omega arith in rw z (omega arith)
  grows i (suc n) c =
      let z : i + suc n ≡ suc i + n = omega arith in
      rw z (omega (arith, c i (omega arith) (omega arith), grows (suc i) n (λ j lo hi. c j (omega arith) (omega arith))))

  pub holds-counted : (i n : ℕ) → i + n ≤ length l → Counts counts l i n → holds (take n (drop i l)) ≡ ltb (get_or counts i 0) (get_or counts (i + n) 0)
  holds-counted i zero le c = let z : i + 0 ≡ i = omega arith in rw z (sym (le-ltb (get_or counts i 0) (get_or counts i 0) (omega arith)))
  holds-counted i (suc n) le c =
      let z : i + suc n ≡ suc i + n = omega arith in
      rw (drop-cons l i 0 (omega arith), z)
      (go (get_or l i 0) (c i (omega arith) (omega arith)) (holds-counted (suc i) n (omega arith) rest) (grows (suc i) n rest))
    where
      rest : Counts counts l (suc i) n
      rest j lo hi = c j (omega arith) (omega arith)

      go : (b : ℕ) → get_or counts (suc i) 0 ≡ get_or counts i 0 + b → holds (take n (drop (suc i) l)) ≡ ltb (get_or counts (suc i) 0) (get_or counts (suc i + n) 0) → get_or counts (suc i) 0 ≤ get_or counts (suc i + n) 0 → holds (b ∷ take n (drop (suc i) l)) ≡ ltb (get_or counts i 0) (get_or counts (suc i + n) 0)
      go zero e ih le = let z : get_or counts (suc i) 0 ≡ get_or counts i 0 = omega arith in ih ∙ ap (λ k. ltb k (get_or counts (suc i + n) 0)) z
      go (suc b) e ih le = sym (lt-ltb (get_or counts i 0) (get_or counts (suc i + n) 0) (omega arith))
