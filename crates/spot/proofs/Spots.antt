-- One byte more, and the fields of the line.
use mathlib.Core.Path.{◌≡◌, refl, sym, ap}
use mathlib.Core.List.{List, [], ◌∷◌, ◌++◌}
use mathlib.Core.Bool.{Bool, true, false, cond}
use Prim.Native.Nat.{ℕ, suc, ◌+◌, ◌≤◌, ◌<◌}
use Prim.Native.Char.{code}
use lib.Dec.{eqb, ltb}
use native.Mathlib.Numerals.{add-one}
use native.Mathlib.Omega.{arith}
use lib.ListN.{length, get_or, take, length-append}
use lib.Seq.{take-suc}
use borrow.Author.Tests.{lt-ltb}
use Rattle.grammar.specs.Ascii.{ascii}
use Rattle.listing.specs.Text.{decimal, fields}
use Rattle.listing.specs.declared.writer.Writer.{Writer}
use Rattle.listing.proofs.Digits.{few-digits}
use Rattle.listing.proofs.Writing.{left-all}
use Rattle.listing.proofs.Fields.{FieldsLeft}
use Rattle.spot.specs.Spots.{line_feeds, last_line, line_after, column_after, spot_text}

-- the bytes xs with a line feed more
module _ (b : ℕ) (e : eqb b (code "\n") ≡ true) where
  feeds_feed : (xs : List ℕ) → line_feeds (xs ++ (b ∷ [])) ≡ suc (line_feeds xs)
  feeds_feed [] = rw e
  feeds_feed (x ∷ xs) = go (eqb x (code "\n")) (feeds_feed xs)
    where
      go : (c : Bool) {n m : ℕ} → m ≡ suc n → cond c (suc m) m ≡ suc (cond c (suc n) n)
      go true h = ap suc h
      go false h = h

  last_feed : (xs : List ℕ) → last_line (xs ++ (b ∷ [])) ≡ []
  last_feed [] = rw e
  last_feed (x ∷ xs) = rw (feeds_feed (x ∷ xs), lt-ltb 0 (suc (line_feeds (x ∷ xs))) (omega arith)) (last_feed xs)

-- and with another byte more
module _ (b : ℕ) (e : eqb b (code "\n") ≡ false) where
  feeds_other : (xs : List ℕ) → line_feeds (xs ++ (b ∷ [])) ≡ line_feeds xs
  feeds_other [] = rw e
  feeds_other (x ∷ xs) = rw (feeds_other xs)

  last-other : (xs : List ℕ) → last_line (xs ++ (b ∷ [])) ≡ last_line xs ++ (b ∷ [])
  last-other [] = rw e
  last-other (x ∷ xs) = rw (feeds_other (x ∷ xs)) (go (ltb 0 (line_feeds (x ∷ xs))) (last-other xs))
    where
      go : (c : Bool) → last_line (xs ++ (b ∷ [])) ≡ last_line xs ++ (b ∷ []) →
          cond c (last_line (xs ++ (b ∷ []))) (x ∷ xs ++ (b ∷ [])) ≡ cond c (last_line xs) (x ∷ xs) ++ (b ∷ [])
      go true h = h
      go false h = refl

line-more : (xs : List ℕ) (b : ℕ) → line_after (1 + line_feeds xs) b ≡ 1 + line_feeds (xs ++ (b ∷ []))
line-more xs b = go (eqb b (code "\n")) refl
  where
    go : (c : Bool) → eqb b (code "\n") ≡ c → cond c (1 + line_feeds xs + 1) (1 + line_feeds xs) ≡ 1 + line_feeds (xs ++ (b ∷ []))
    go true e = omega (arith, feeds_feed b e xs)
    go false e = omega (arith, feeds_other b e xs)

column-more : (xs : List ℕ) (b : ℕ) → column_after (1 + length (last_line xs)) b ≡ 1 + length (last_line (xs ++ (b ∷ [])))
column-more xs b = go (eqb b (code "\n")) refl
  where
    go : (c : Bool) → eqb b (code "\n") ≡ c → cond c 1 (1 + length (last_line xs) + 1) ≡ 1 + length (last_line (xs ++ (b ∷ [])))
    go true e = rw (last_feed b e xs)
    go false e = rw (last-other b e xs) (omega (arith, length-append (last_line xs) (b ∷ [])))

-- one byte more of a text
module _ (x : List ℕ) (i : ℕ) (h : i < length x) where
  one_more : take i x ++ (get_or x i 0 ∷ []) ≡ take (i + 1) x
  one_more = let z : i + 1 ≡ suc i = add-one i in rw z (sym (take-suc x i 0 h))

  pub line-next : (line : ℕ) → line ≡ 1 + line_feeds (take i x) → line_after line (get_or x i 0) ≡ 1 + line_feeds (take (i + 1) x)
  line-next line e = rw (e, ← one_more) (line-more (take i x) (get_or x i 0))

  pub column-next : (column : ℕ) → column ≡ 1 + length (last_line (take i x)) → column_after column (get_or x i 0) ≡ 1 + length (last_line (take (i + 1) x))
  column-next column e = rw (e, ← one_more) (column-more (take i x) (get_or x i 0))

-- neither is beyond the bytes before
pub few_feeds : (xs : List ℕ) → line_feeds xs ≤ length xs
few_feeds [] = omega arith
few_feeds (x ∷ xs) = go (eqb x (code "\n")) (few_feeds xs)
  where
    go : (c : Bool) → line_feeds xs ≤ length xs → cond c (suc (line_feeds xs)) (line_feeds xs) ≤ suc (length xs)
    go true h = omega arith
    go false h = omega arith

pub last-short : (xs : List ℕ) → length (last_line xs) ≤ length xs
last-short [] = omega arith
last-short (x ∷ xs) = go (ltb 0 (line_feeds (x ∷ xs))) (last-short xs)
  where
    go : (c : Bool) → length (last_line xs) ≤ length xs → length (cond c (last_line xs) (x ∷ xs)) ≤ suc (length xs)
    go true h = omega arith
    go false h = omega arith

module _ (line column : ℕ) where
  abbrev pub spot_fields : List (List ℕ)
  spot_fields = ascii "line" ∷ decimal line ∷ ascii "column" ∷ decimal column ∷ []

  pub spot-left : (w : Writer) → FieldsLeft w (spot_text line column) w spot_fields
  unfolding spot_text
  spot-left w = record { left = left-all w (fields spot_fields) }

  pub spot-short : length (spot_text line column) ≤ 142
  unfolding spot_text
  spot-short = simp length-append (omega (arith, few-digits 10 line, few-digits 10 column))
