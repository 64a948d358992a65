-- The bits of a packed state, and the bytes that they come from.
use mathlib.Core.Path.{◌≡◌, refl, sym, ap, ap₂, ◌∙◌}
use mathlib.Core.Bool.{Bool, true, false, not}
use mathlib.Core.List.{List}
use Prim.Native.Nat.{ℕ, zero, suc, ◌+◌, ◌*◌, ◌/◌, ◌%◌, ◌≤◌, ◌<◌}
use native.Mathlib.Omega.{arith}
use lib.Dec.{eqb}
use lib.ListN.{length, get_or}
use lib.Seq.{ext_get_or}
use Rattle.codes.specs.Codes.{bit}
use Rattle.codes.specs.Words.{◌∋◌, set_of}
use Rattle.codes.proofs.WordBits.{below_lt, ∋_below, below-same, below_set}
use Rattle.esterel.specs.Limits.{max_nodes}
use Rattle.packing.specs.Packing.{state_bytes, held_bit, unpack, bits_from, byte_of, pack}
use Rattle.packing.proofs.Columns.{length-column, column-at, column-past}

-- a bit is 0 or 1, and is 1 where it is not 0
pub bit_le : (b : Bool) → bit b ≤ 1
bit_le true = omega arith
bit_le false = omega arith

pub bit-not-zero : (b : Bool) → not (eqb (bit b) 0) ≡ b
bit-not-zero true = refl
bit-not-zero false = refl

pub not-zero-bit : (x : ℕ) → x ≤ 1 → bit (not (eqb x 0)) ≡ x
not-zero-bit zero h = refl
not-zero-bit (suc zero) h = refl
not-zero-bit (suc (suc x)) h = absurd (omega arith)

pub bit-zero : (b : Bool) → bit b ≡ 0 → b ≡ false
bit-zero true e = absurd (omega arith)
bit-zero false e = refl

-- ---- a packed byte

pub byte_lt : (h : List ℕ) (j : ℕ) → byte_of h j < 256
unfolding byte_of bits_from
byte_lt h j = below_lt 8 (λ k. not (eqb (get_or h (8 * j + k) 0) 0))

byte_has : (h : List ℕ) (j k : ℕ) → k < 8 → (byte_of h j ∋ k) ≡ not (eqb (get_or h (8 * j + k) 0) 0)
unfolding byte_of bits_from
byte_has h j k l = ∋_below 8 (λ k. not (eqb (get_or h (8 * j + k) 0) 0)) k l

-- a byte whose bits are those of eight bytes of h
pub is_byte : (h : List ℕ) (j w : ℕ) → w < 256 → ((k : ℕ) → k < 8 → not (eqb (get_or h (8 * j + k) 0) 0) ≡ (w ∋ k)) → byte_of h j ≡ w
unfolding byte_of bits_from
is_byte h j w l same = below-same 8 (λ k. not (eqb (get_or h (8 * j + k) 0) 0)) (set_of w) same ∙ below_set 8 w l

-- ---- the bit of a node

pub held-is : (s : List ℕ) (i : ℕ) → held_bit s i ≡ bit (get_or s (i / 8) 0 ∋ (i % 8))
unfolding held_bit
held-is s i = refl

pub held_le : (s : List ℕ) (i : ℕ) → held_bit s i ≤ 1
unfolding held_bit
held_le s i = bit_le (get_or s (i / 8) 0 ∋ (i % 8))

-- of node 8 j + k
pub held_at : (s : List ℕ) (j k : ℕ) → k < 8 → held_bit s (8 * j + k) ≡ bit (get_or s j 0 ∋ k)
held_at s j k l =
    let q : (8 * j + k) / 8 ≡ j = omega arith in
    let r : (8 * j + k) % 8 ≡ k = omega arith in
    held-is s (8 * j + k) ∙ ap₂ (λ a b. bit (get_or s a 0 ∋ b)) q r

-- ---- packed and unpacked

pub length-pack : (h : List ℕ) → length (pack h) ≡ state_bytes
unfolding pack
length-pack h = length-column (byte_of h) 0 state_bytes

pub pack-at : (h : List ℕ) (j : ℕ) → j < state_bytes → get_or (pack h) j 0 ≡ byte_of h j
unfolding pack
pack-at h j l = let e : 0 + j ≡ j = omega arith in column-at (byte_of h) 0 state_bytes j l ∙ ap (byte_of h) e

pub length-unpack : (n : ℕ) (s : List ℕ) → length (unpack n s) ≡ n
unfolding unpack
length-unpack n s = length-column (held_bit s) 0 n

pub unpack-at : (n : ℕ) (s : List ℕ) (i : ℕ) → i < n → get_or (unpack n s) i 0 ≡ held_bit s i
unfolding unpack
unpack-at n s i l = let e : 0 + i ≡ i = omega arith in column-at (held_bit s) 0 n i l ∙ ap (held_bit s) e

pub unpack-past : (n : ℕ) (s : List ℕ) (i : ℕ) → n ≤ i → get_or (unpack n s) i 0 ≡ 0
unfolding unpack
unpack-past n s i l = column-past (held_bit s) 0 n i l

-- the same bits, the same bytes
pub unpack-same : (n : ℕ) (s t : List ℕ) → ((i : ℕ) → i < n → held_bit s i ≡ held_bit t i) → unpack n s ≡ unpack n t
unpack-same n s t same =
    let long = length-unpack n s in
    ext_get_or 0 (unpack n s) (unpack n t) (long ∙ sym (length-unpack n t)) (λ i l. let m : i < n = omega arith in unpack-at n s i m ∙ same i m ∙ sym (unpack-at n t i m))

-- the bit of a node is 1 where its byte is not 0
pub packed-bit : (h : List ℕ) (i : ℕ) → i < max_nodes → held_bit (pack h) i ≡ bit (not (eqb (get_or h i 0) 0))
packed-bit h i l =
    let whole : 8 * (i / 8) + i % 8 ≡ i = omega arith in
    held-is (pack h) i
    ∙ ap (λ x. bit (x ∋ (i % 8))) (pack-at h (i / 8) (omega arith))
    ∙ ap bit (byte_has h (i / 8) (i % 8) (omega arith))
    ∙ ap (λ x. bit (not (eqb (get_or h x 0) 0))) whole
