-- What packing and unpacking promise of each other. The statements alone; the proofs are in proofs/Theorems.antt.
use Rattle.std.specs.Prelude.{ℕ, ◌≤◌, ◌<◌, ◌≡◌, true, List, length, get_or}
use Rattle.esterel.specs.Limits.{max_nodes}
use Rattle.packing.specs.Packing.{state_bytes, held_bit, unpack, pack, is_clear_from}

-- a state of n nodes by bytes, each 0 or 1
pub record Unpacked (n : ℕ) (h : List ℕ) : Type 0 where
  pub places : length h ≡ n
  pub bits : (i : ℕ) → get_or h i 0 ≤ 1

-- a packed state of n nodes: 128 bytes, with no bit from n on
pub record Packed (n : ℕ) (s : List ℕ) : Type 0 where
  pub places : length s ≡ state_bytes
  pub bytes : (j : ℕ) → get_or s j 0 < 256
  pub clear : is_clear_from n s ≡ true

-- each is a state of the other kind, and undoes the other
pub record Packs : Type 0 where
  pub packed : (n : ℕ) (h : List ℕ) → length h ≡ n → Packed n (pack h)
  pub unpacked : (n : ℕ) (s : List ℕ) → Unpacked n (unpack n s)
  pub unpack_pack : (n : ℕ) → n ≤ max_nodes → (h : List ℕ) → Unpacked n h → unpack n (pack h) ≡ h
  pub pack_unpack : (n : ℕ) (s : List ℕ) → Packed n s → pack (unpack n s) ≡ s
  -- the request's words: what is unpacked are the nodes' bits, and in what is packed every node that a table can have has its byte as its
  -- bit, 0 past the end of h
  pub lists : (n : ℕ) (s : List ℕ) (i : ℕ) → i < n → get_or (unpack n s) i 0 ≡ held_bit s i
  pub bits : (n : ℕ) (h : List ℕ) → Unpacked n h → (i : ℕ) → i < max_nodes → held_bit (pack h) i ≡ get_or h i 0
  -- and no other 128 bytes have these bits
  pub only :
      (h s : List ℕ) → length s ≡ state_bytes → ((j : ℕ) → get_or s j 0 < 256) →
      ((i : ℕ) → i < max_nodes → held_bit s i ≡ get_or h i 0) → s ≡ pack h
