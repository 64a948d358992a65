-- The bytes of the nodes as they are made: those of one byte of the state from its lowest bit on, and all from the first on.
use mathlib.Core.Path.{◌≡◌, sym, ap, ◌∙◌}
use mathlib.Core.List.{List, [], ◌++◌}
use Prim.Native.Nat.{ℕ, ◌+◌, ◌*◌, ◌/◌, ◌%◌, ◌^◌, ◌≤◌, ◌<◌}
use native.Mathlib.Omega.{arith}
use lib.ListN.{length, get_or, set, take, drop, length-drop}
use lib.Pow.{shr-shr}
use lib.Seq.{take_all, drop-length, length-take-le}
use borrow.Rule.Slice.PartMut.{put_mid}
use Rattle.std.proofs.lemmas.List.{append-nil}
use Rattle.codes.specs.Words.{◌∋◌}
use Rattle.codes.proofs.Bits.{bit_test}
use Rattle.table.proofs.Buffers.{length_front}
use Rattle.packing.specs.Packing.{bit_of, column, unpack}
use Rattle.table.proofs.Filling.{Filling, filling-next, filling-end}
use Rattle.packing.proofs.Columns.{length-column, column-at, front-more}
use Rattle.packing.proofs.Bits.{held_at, length-unpack, unpack-at}

-- ---- one byte

low_bit : (w k : ℕ) → (w / 2 ^ k) % 2 ≡ bit_of w k
unfolding ◌∋◌
low_bit w k = sym (bit_test ((w / 2 ^ k) % 2) (omega arith))

-- the bits before i are stored, and `rest` has those from i on
pub record Spread (w : ℕ) (old now : List ℕ) (rest i : ℕ) : Type 0 where
  pub left : rest ≡ w / 2 ^ i
  pub is : Filling (column (bit_of w) 0 (length old)) old now (length old) i

module _ (w : ℕ) (old : List ℕ) where
  long : length old ≤ length (column (bit_of w) 0 (length old))
  long = let e = length-column (bit_of w) 0 (length old) in omega arith

  module _ {now : List ℕ} {rest i : ℕ} (o : Spread w old now rest i) where
    pub spread_next : i < length old → Spread w old (set now i (rest % 2)) (rest / 2) (i + 1)
    spread_next l =
        let at : 0 + i ≡ i = omega arith in
        record {
          left = ap (λ x. x / 2) o.left ∙ shr-shr w i 1;
          is = filling-next long (omega arith) o.is (rest % 2) l
              (ap (λ x. x % 2) o.left ∙ low_bit w i ∙ ap (bit_of w) (sym at) ∙ sym (column-at (bit_of w) 0 (length old) i l));
        }

    pub spread_end : length old ≤ i → now ≡ column (bit_of w) 0 (length old)
    spread_end e =
        let none : drop (length old) old ≡ [] = drop-length old in
        filling-end long (omega arith) o.is e ∙ rw (none, take_all (length old) (column (bit_of w) 0 (length old)) (omega (arith, length-column (bit_of w) 0 (length old)))) (append-nil (column (bit_of w) 0 (length old)))

-- ---- all nodes

-- the bytes of the first i nodes
abbrev pub unpacked_to : (s old : List ℕ) (n i : ℕ) → List ℕ
unpacked_to s old n i = take i (unpack n s) ++ drop i old

-- of the nodes of j bytes
pub record Unpacking (s old : List ℕ) (n : ℕ) (now : List ℕ) (j : ℕ) : Type 0 where
  pub bound : j ≤ n / 8
  pub is : now ≡ unpacked_to s old n (8 * j)

module _ (s old : List ℕ) {n : ℕ} (room : n ≤ length old) where
  -- the nodes of byte j, or as many of them as there are
  spread_over : (j m : ℕ) → 8 * j + m ≤ n → m ≤ 8 → put_mid (8 * j) m (unpacked_to s old n (8 * j)) (column (bit_of (get_or s j 0)) 0 m) ≡ unpacked_to s old n (8 * j + m)
  spread_over j m le few =
      front-more (unpack n s) old (8 * j) m (omega (arith, length-unpack n s)) (omega arith) (column (bit_of (get_or s j 0)) 0 m) (length-column (bit_of (get_or s j 0)) 0 m)
      (λ k lk. let e : 0 + k ≡ k = omega arith in
      column-at (bit_of (get_or s j 0)) 0 m k lk ∙ ap (bit_of (get_or s j 0)) e ∙ sym (unpack-at n s (8 * j + k) (omega arith) ∙ held_at s j k (omega arith)))

  all-unpacked : unpacked_to s old n n ≡ unpack n s ++ drop n old
  all-unpacked = ap (λ l. l ++ drop n old) (take_all n (unpack n s) (omega (arith, length-unpack n s)))

  unpacked-wide : (i : ℕ) → i ≤ n → length (unpacked_to s old n i) ≡ length old
  unpacked-wide i le = length_front (unpack n s) old i (omega (arith, length-unpack n s)) (omega arith)

  module _ {now : List ℕ} {j : ℕ} (o : Unpacking s old n now j) where
    pub unpacked-length : length now ≡ length old
    unpacked-length = ap length o.is ∙ unpacked-wide (8 * j) (omega (arith, o.bound))

    -- k bytes of the nodes are written from the first of byte j on
    over : (k : ℕ) → 8 * j + k ≤ n → k ≤ 8 → (v : List ℕ) → v ≡ column (bit_of (get_or s j 0)) 0 (length (take k (drop (8 * j) now))) → put_mid (8 * j) k now v ≡ unpacked_to s old n (8 * j + k)
    over k le few v e =
        let part : length (take k (drop (8 * j) now)) ≡ k = length-take-le k (drop (8 * j) now) (omega (arith, length-drop (8 * j) now, unpacked-length)) in
        rw (e, part, o.is) (spread_over j k le few)

    pub unpacked-next : (k : ℕ) → k ≡ 8 → j < n / 8 → (v : List ℕ) → v ≡ column (bit_of (get_or s j 0)) 0 (length (take k (drop (8 * j) now))) → Unpacking s old n (put_mid (8 * j) k now v) (j + 1)
    unpacked-next k ek l v e =
        let next : 8 * j + k ≡ 8 * (j + 1) = omega arith in
        record { bound = omega arith; is = over k (omega arith) (omega arith) v e ∙ ap (unpacked_to s old n) next }

    -- what is left of the nodes
    pub unpacked-last : (w k : ℕ) → j ≡ w → w ≡ n / 8 → 8 * w + k ≡ n → (v : List ℕ) → v ≡ column (bit_of (get_or s w 0)) 0 (length (take k (drop (8 * w) now))) → put_mid (8 * w) k now v ≡ unpack n s ++ drop n old
    unpacked-last w k at all end v e = rw (← at) (over k (omega arith) (omega arith) v (rw at e) ∙ ap (unpacked_to s old n) (rw at end) ∙ all-unpacked)

    pub unpacked-end : n / 8 ≤ j → n % 8 ≡ 0 → now ≡ unpack n s ++ drop n old
    unpacked-end l e = let all : 8 * j ≡ n = omega (arith, o.bound) in o.is ∙ ap (unpacked_to s old n) all ∙ all-unpacked
