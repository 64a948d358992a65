-- A buffer that is filled entry by entry with the numbers of a list, from the first on or from the last down. Past the list it stays.
use mathlib.Core.Path.{◌≡◌, ap, ◌∙◌}
use mathlib.Core.List.{List, [], ◌∷◌, ◌++◌, append_assoc}
use Prim.Native.Nat.{ℕ, suc, ◌+◌, ◌≤◌, ◌<◌}
use native.Mathlib.Omega.{arith}
use lib.ListN.{length, get_or, take, drop, set, length-append, length-drop, take-append-drop, get_or-append}
use lib.Seq.{sets, sets-eq, length-take-le, take-length, drop-length, take-suc, drop-cons, set_at, get_or-take}
use Rattle.table.specs.Columns.{onto}

-- stores one after the other
pub sets-append : (l : List ℕ) (i : ℕ) (a b : List ℕ) → sets l i (a ++ b) ≡ sets (sets l i a) (i + length a) b
sets-append l i [] b = ap (λ (j : ℕ). sets l j b) (omega arith)
sets-append l i (x ∷ a) b = sets-append (set l i x) (suc i) a b ∙ ap (λ (j : ℕ). sets (sets (set l i x) (suc i) a) j b) (omega arith)

-- stores at the front
pub sets-front : (s old : List ℕ) → length s ≤ length old → sets old 0 s ≡ onto s old
sets-front s old h =
    let none : 0 + length s ≡ length s = omega arith in
    sets-eq s old 0 (omega arith) ∙ ap (λ k. s ++ drop k old) none

module _ (s old : List ℕ) where
  -- the first i entries are the list's
  abbrev pub front : ℕ → List ℕ
  front i = take i s ++ drop i old

  -- the entries from i on are the list's
  abbrev pub back : ℕ → List ℕ
  back i = take i old ++ (drop i s ++ drop (length s) old)

  pub front-all : front (length s) ≡ s ++ drop (length s) old
  front-all = ap (λ l. l ++ drop (length s) old) (take-length s)

  pub back_none : back (length s) ≡ old
  back_none = rw (drop-length s) (take-append-drop (length s) old)

  pub front-suc : (i v : ℕ) → i < length s → i < length old → v ≡ get_or s i 0 → set (front i) i v ≡ front (suc i)
  front-suc i v h l e =
      ap (λ x. set (take i s ++ x) i v) (drop-cons old i 0 l)
      ∙ set_at (take i s) (get_or old i 0) (drop (suc i) old) v i (length-take-le i s (omega arith))
      ∙ rw (e, take-suc s i 0 h, append_assoc)

  pub length_front : (i : ℕ) → i ≤ length s → i ≤ length old → length (front i) ≡ length old
  length_front i h l = simp (length-append, length-drop, length-take-le i s h) (omega arith)

  pub front_at : (i j : ℕ) → i ≤ length s → j < i → get_or (front i) j 0 ≡ get_or s j 0
  front_at i j h l = get_or-append (take i s) (drop i old) 0 j (rw (length-take-le i s h) l) ∙ get_or-take i s j 0 l

  module _ (room : length s ≤ length old) where
    pub back_pred : (i v : ℕ) → i < length s → v ≡ get_or s i 0 → set (back (suc i)) i v ≡ back i
    back_pred i v h e =
        ap (λ l. set (l ++ (drop (suc i) s ++ drop (length s) old)) i v) (take-suc old i 0 (omega arith))
        ∙ ap (λ l. set l i v) (append_assoc (take i old) (get_or old i 0 ∷ []) (drop (suc i) s ++ drop (length s) old))
        ∙ set_at (take i old) (get_or old i 0) (drop (suc i) s ++ drop (length s) old) v i (length-take-le i old (omega arith))
        ∙ rw (e, drop-cons s i 0 h)

    pub length_back : (i : ℕ) → i ≤ length s → length (back i) ≡ length old
    length_back i h = simp (length-append, length-drop, length-take-le i old (omega arith)) (omega arith)

    -- what is not reached yet is as it was
    pub back_at : (i j : ℕ) → i ≤ length s → j < i → get_or (back i) j 0 ≡ get_or old j 0
    back_at i j h l = get_or-append (take i old) (drop i s ++ drop (length s) old) 0 j (rw (length-take-le i old (omega arith)) l) ∙ get_or-take i old j 0 l
