-- Packing and unpacking undo each other.
use mathlib.Core.Path.{◌≡◌, sym, ap, ap₂, ◌∙◌}
use mathlib.Core.Bool.{true, not, ◌&&◌}
use mathlib.Core.List.{List}
use Prim.Native.Nat.{ℕ, ◌+◌, ◌*◌, ◌/◌, ◌%◌, ◌≤◌, ◌<◌}
use native.Mathlib.Decide.{dec_lt}
use native.Mathlib.Omega.{arith}
use lib.Dec.{eqb}
use lib.ListN.{length, get_or, take, length-replicate, get_or-eq_default}
use lib.Seq.{ext_get_or, take_all, get_or-take}
use Rattle.codes.specs.Codes.{bit}
use Rattle.codes.specs.Words.{◌∋◌}
use Rattle.codes.proofs.Bools.{same_test}
use Rattle.codes.proofs.Bits.{∋_none}
use Rattle.esterel.specs.Limits.{max_nodes}
use Rattle.esterel.specs.Statement.{Stmt, size}
use Rattle.esterel.specs.Instant.{zeros, admitted}
use Rattle.esterel.proofs.Held.{holds-zeros}
use Rattle.packing.specs.Packing.{state_bytes, held_bit, unpack, pack, is_clear_from, admits}
use Rattle.packing.specs.Theorems.{Packed, Packs}
use Rattle.packing.proofs.Zeros.{none-at}
use Rattle.packing.proofs.Bits.{bit-not-zero, not-zero-bit, byte_lt, is_byte, held-is, held_at, held_le, length-pack, pack-at, length-unpack, unpack-at, unpack-past, unpack-same, packed-bit}
use Rattle.packing.proofs.Clearing.{clear_at, is-clear}

pub pack-bits : (h : List ℕ) → ((i : ℕ) → get_or h i 0 ≤ 1) → (i : ℕ) → i < max_nodes → held_bit (pack h) i ≡ get_or h i 0
pack-bits h bits i l = packed-bit h i l ∙ not-zero-bit (get_or h i 0) (bits i)

pub pack-clear : (n : ℕ) (h : List ℕ) → length h ≤ n → is_clear_from n (pack h) ≡ true
pack-clear n h le =
    is-clear n (pack h) (λ i lo hi. packed-bit h i hi ∙ ap (λ x. bit (not (eqb x 0))) (get_or-eq_default h 0 {n = i} (omega arith)))

pack_lt : (h : List ℕ) (j : ℕ) → get_or (pack h) j 0 < 256
pack_lt h j = go (dec_lt j state_bytes)
  where
    go : Dec (j < state_bytes) → get_or (pack h) j 0 < 256
    go (yes y) = omega (arith, pack-at h j y, byte_lt h j)
    go (no y) = let e = get_or-eq_default (pack h) 0 {n = j} (omega (arith, length-pack h)) in omega arith

pub unpack-bits : (n : ℕ) (s : List ℕ) (i : ℕ) → get_or (unpack n s) i 0 ≤ 1
unpack-bits n s i = go (dec_lt i n)
  where
    go : Dec (i < n) → get_or (unpack n s) i 0 ≤ 1
    go (yes y) = omega (arith, unpack-at n s i y, held_le s i)
    go (no y) = omega (arith, unpack-past n s i (omega arith))

pub unpack-pack : (n : ℕ) → n ≤ max_nodes → (h : List ℕ) → length h ≡ n → ((i : ℕ) → get_or h i 0 ≤ 1) → unpack n (pack h) ≡ h
unpack-pack n few h long bits =
    ext_get_or 0 (unpack n (pack h)) h (length-unpack n (pack h) ∙ sym long) (λ i l. let m : i < n = omega (arith, length-unpack n (pack h)) in unpack-at n (pack h) i m ∙ pack-bits h bits i (omega arith))

-- the only 128 bytes with these bits
only-packed : (h s : List ℕ) → length s ≡ state_bytes → ((j : ℕ) → get_or s j 0 < 256) → ((i : ℕ) → i < max_nodes → held_bit s i ≡ get_or h i 0) → s ≡ pack h
only-packed h s long small same =
    sym
    (ext_get_or 0 (pack h) s (length-pack h ∙ sym long) (λ j l. let m : j < state_bytes = omega (arith, length-pack h) in pack-at h j m ∙ is_byte h j (get_or s j 0) (small j) (λ k lk. at j k m lk)))
  where
    at : (j k : ℕ) → j < state_bytes → k < 8 → not (eqb (get_or h (8 * j + k) 0) 0) ≡ (get_or s j 0 ∋ k)
    at j k lj lk = ap (λ x. not (eqb x 0)) (sym (same (8 * j + k) (omega arith)) ∙ held_at s j k lk) ∙ bit-not-zero (get_or s j 0 ∋ k)

pack-unpack : (n : ℕ) (s : List ℕ) → Packed n s → pack (unpack n s) ≡ s
pack-unpack n s o = sym (only-packed (unpack n s) s o.places o.bytes (λ i l. same i l (dec_lt i n)))
  where
    same : (i : ℕ) → i < max_nodes → Dec (i < n) → held_bit s i ≡ get_or (unpack n s) i 0
    same i l (yes y) = sym (unpack-at n s i y)
    same i l (no y) = clear_at n s o.clear i (omega arith) l ∙ sym (unpack-past n s i (omega arith))

-- ---- the first 128 bytes say all

module _ (s : List ℕ) where
  held-take : (i : ℕ) → i < max_nodes → held_bit (take state_bytes s) i ≡ held_bit s i
  held-take i l =
      held-is (take state_bytes s) i ∙ ap (λ x. bit (x ∋ (i % 8))) (get_or-take state_bytes s (i / 8) 0 (omega arith)) ∙ sym (held-is s i)

  unpack-take : (n : ℕ) → n ≤ max_nodes → unpack n (take state_bytes s) ≡ unpack n s
  unpack-take n few = unpack-same n (take state_bytes s) s (λ i l. held-take i (omega arith))

  clear-take : (n : ℕ) → is_clear_from n (take state_bytes s) ≡ is_clear_from n s
  clear-take n =
      same_test (is_clear_from n (take state_bytes s)) (is_clear_from n s)
      (λ e. is-clear n s (λ i lo hi. sym (held-take i hi) ∙ clear_at n (take state_bytes s) e i lo hi))
      (λ e. is-clear n (take state_bytes s) (λ i lo hi. held-take i hi ∙ clear_at n s e i lo hi))

  pub admits-take : (p : Stmt) → size p ≤ max_nodes → admits p (take state_bytes s) ≡ admits p s
  admits-take p few = ap₂ (λ a h. a && admitted p h) (clear-take (size p)) (unpack-take (size p) few)

  -- where they are zeros
  pub zero_held : take state_bytes s ≡ zeros state_bytes → (i : ℕ) → i < max_nodes → held_bit s i ≡ 0
  zero_held e i l =
      sym (held-take i l) ∙ ap (λ x. held_bit x i) e ∙ held-is (zeros state_bytes) i
      ∙ ap (λ x. bit (x ∋ (i % 8))) (none-at (zeros state_bytes) (holds-zeros state_bytes) (i / 8)) ∙ ap bit (∋_none (i % 8))

  -- where they are those of a packed state
  module _ (n : ℕ) (few : n ≤ max_nodes) (h : List ℕ) (long : length h ≡ n) (front : take state_bytes s ≡ pack h) where
    pub unpack_of : ((i : ℕ) → get_or h i 0 ≤ 1) → unpack n s ≡ h
    unpack_of small = sym (unpack-take n few) ∙ ap (unpack n) front ∙ unpack-pack n few h long small

    pub clear_of : is_clear_from n s ≡ true
    clear_of = sym (clear-take n) ∙ ap (is_clear_from n) front ∙ pack-clear n h (omega arith)

-- two states with the same 128 bytes
module _ (s t : List ℕ) (same : take state_bytes s ≡ take state_bytes t) where
  pub same-unpacked : (n : ℕ) → n ≤ max_nodes → unpack n s ≡ unpack n t
  same-unpacked n few = sym (unpack-take s n few) ∙ ap (unpack n) same ∙ unpack-take t n few

  pub same-admits : (p : Stmt) → size p ≤ max_nodes → admits p s ≡ admits p t
  same-admits p few = sym (admits-take s p few) ∙ ap (admits p) same ∙ admits-take t p few

-- nothing held
pub pack-zeros : (n : ℕ) → pack (zeros n) ≡ zeros state_bytes
pack-zeros n =
    sym
    (only-packed (zeros n) (zeros state_bytes) (length-replicate {A = ℕ} state_bytes 0) (λ j. omega (arith, none-at (zeros state_bytes) (holds-zeros state_bytes) j))
    (λ i l. zero_held (zeros state_bytes) (take_all state_bytes (zeros state_bytes) (omega (arith, length-replicate {A = ℕ} state_bytes 0))) i l ∙ sym (none-at (zeros n) (holds-zeros n) i)))

pub packs : Packs
packs =
    record {
      packed = λ n h long. record { places = length-pack h; bytes = pack_lt h; clear = pack-clear n h (omega arith) };
      unpacked = λ n s. record { places = length-unpack n s; bits = unpack-bits n s };
      unpack_pack = λ n few h o. unpack-pack n few h o.places o.bits;
      pack_unpack = pack-unpack;
      lists = unpack-at;
      bits = λ n h o. pack-bits h o.bits;
      only = only-packed;
    }
