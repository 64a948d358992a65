-- A column of numbers f i, f (i + 1), .., entry by entry.
use mathlib.Core.Path.{◌≡◌, refl, sym, ap, ap₂, ◌∙◌}
use mathlib.Core.List.{List, ◌++◌, append_assoc}
use Prim.Native.Nat.{ℕ, zero, suc, ◌+◌, ◌≤◌, ◌<◌}
use native.Mathlib.Decide.{dec_lt}
use native.Mathlib.Omega.{arith}
use lib.ListN.{length, get_or, take, drop, length-drop, get_or-eq_default}
use lib.Seq.{ext_get_or, get_or-take, get_or-drop, length-take-le, take_at, take-add, drop-drop}
use borrow.Rule.Slice.PartMut.{put_mid}
use Rattle.std.proofs.lemmas.List.{drop_at}
use Rattle.table.proofs.Buffers.{front}
use Rattle.packing.specs.Packing.{column}

module _ (f : ℕ → ℕ) where
  pub length-column : (i n : ℕ) → length (column f i n) ≡ n
  unfolding column
  length-column i zero = refl
  length-column i (suc n) = ap suc (length-column (suc i) n)

  pub column-at : (i n j : ℕ) → j < n → get_or (column f i n) j 0 ≡ f (i + j)
  unfolding column
  column-at i zero j h = absurd (omega arith)
  column-at i (suc n) zero h = let e : i ≡ i + 0 = omega arith in ap f e
  column-at i (suc n) (suc j) h = let e : suc i + j ≡ i + suc j = omega arith in column-at (suc i) n j (omega arith) ∙ ap f e

  pub column-past : (i n j : ℕ) → n ≤ j → get_or (column f i n) j 0 ≡ 0
  column-past i n j h = get_or-eq_default (column f i n) 0 (let e = length-column i n in omega arith)

  -- the whole column is 0 where each entry is
  pub column-zero : (i n : ℕ) → ((j : ℕ) → i ≤ j → j < i + n → f j ≡ 0) → (j : ℕ) → get_or (column f i n) j 0 ≡ 0
  column-zero i n z j = go (dec_lt j n)
    where
      go : Dec (j < n) → get_or (column f i n) j 0 ≡ 0
      go (yes h) = column-at i n j h ∙ z (i + j) (omega arith) (omega arith)
      go (no h) = column-past i n j (omega arith)

-- the first i entries of c, and the next m of them written over those of `old`
pub front-more : (c old : List ℕ) (i m : ℕ) → i + m ≤ length c → i + m ≤ length old → (v : List ℕ) → length v ≡ m → ((k : ℕ) → k < m → get_or v k 0 ≡ get_or c (i + k) 0) → put_mid i m (front c old i) v ≡ front c old (i + m)
front-more c old i m lc lo v long same =
    let wide : length (take i c) ≡ i = length-take-le i c (omega arith) in
    let part : v ≡ take m (drop i c) =
    ext_get_or 0 v (take m (drop i c)) (long ∙ sym (length-take-le m (drop i c) (let z = length-drop i c in omega arith)))
    (λ k lk. let h : k < m = omega arith in same k h ∙ sym (get_or-take m (drop i c) k 0 h ∙ get_or-drop i c k 0)) in
    ap₂ (λ a b. a ++ (v ++ drop m b)) (take_at (take i c) (drop i old) i wide) (drop_at (take i c) (drop i old) i wide)
    ∙ ap₂ (λ x y. take i c ++ (x ++ y)) part (drop-drop m i old)
    ∙ sym (append_assoc (take i c) (take m (drop i c)) (drop (i + m) old))
    ∙ ap (λ x. x ++ drop (i + m) old) (sym (take-add i m c))
