-- The packed bytes as they are made: one from its last node down, and all from the first on.
use mathlib.Core.Path.{◌≡◌, refl, sym, ap, ap₂, ◌∙◌}
use mathlib.Core.Bool.{Bool, not}
use mathlib.Core.Logic.{◌⊎◌, inl, inr}
use mathlib.Core.List.{List, [], ◌∷◌, ◌++◌}
use Prim.Native.Nat.{ℕ, suc, ◌+◌, ◌-◌, ◌*◌, ◌/◌, ◌%◌, ◌^◌, ◌≤◌, ◌<◌}
use native.Mathlib.Omega.{arith}
use lib.Dec.{eqb}
use lib.ListN.{length, get_or, set, take, drop, length-append, length-replicate, get_or-replicate, get_or-eq_default}
use lib.Pow.{pow_mono}
use lib.Seq.{get_or-take, get_or-drop, length-take-le, take_all, take-take}
use borrow.Rule.Slice.PartMut.{put_mid}
use Rattle.std.specs.List.{push}
use Rattle.std.proofs.Math.Seq.{take-append_seam, take-length, get_or-append_seam}
use Rattle.std.proofs.lemmas.Slice.{between_is}
use Rattle.codes.specs.Codes.{bit}
use Rattle.codes.proofs.WordBits.{below_lt, below-same, below_none, below-first}
use Rattle.esterel.specs.Limits.{max_nodes}
use Rattle.esterel.specs.Instant.{zeros}
use Rattle.table.proofs.Buffers.{front-suc}
use Rattle.table.proofs.Filling.{Filling, filling-next}
use Rattle.packing.specs.Packing.{state_bytes, bits_from, byte_of, pack}
use Rattle.packing.proofs.Columns.{front-more}
use Rattle.packing.proofs.Bits.{length-pack, pack-at}

-- ---- one byte

bits_lt : (h : List ℕ) (i m : ℕ) → bits_from h i m < 2 ^ m
unfolding bits_from
bits_lt h i m = below_lt m (λ k. not (eqb (get_or h (i + k) 0) 0))

bits-past : (h : List ℕ) (i m : ℕ) → length h ≤ i → bits_from h i m ≡ 0
unfolding bits_from
bits-past h i m l = below_none m (λ k. not (eqb (get_or h (i + k) 0) 0)) (λ k lk. ap (λ x. not (eqb x 0)) (get_or-eq_default h 0 {n = i + k} (omega arith)))

bits-more : (h : List ℕ) (i m : ℕ) → bits_from h i (suc m) ≡ bit (not (eqb (get_or h i 0) 0)) + 2 * bits_from h (suc i) m
unfolding bits_from
bits-more h i m =
    let a : (ℕ → Bool) = λ k. not (eqb (get_or h (i + k) 0) 0) in
    let at : i + 0 ≡ i = omega arith in
    let rest = below-same m (λ k. a (suc k)) (λ k. not (eqb (get_or h (suc i + k) 0) 0)) (λ k lk. let e : i + suc k ≡ suc i + k = omega arith in ap (λ x. not (eqb (get_or h x 0) 0)) e) in
    below-first m a ∙ ap₂ (λ x y. bit (not (eqb (get_or h x 0) 0)) + 2 * y) at rest

-- the bits of the nodes from i on
pub record Gathered (bytes : List ℕ) (i byte : ℕ) : Type 0 where
  pub high : i ≤ length bytes
  pub is : byte ≡ bits_from bytes i (8 - i)

module _ (bytes : List ℕ) where
  pub gather_begin : Gathered bytes (length bytes) 0
  gather_begin = record { high = omega arith; is = sym (bits-past bytes (length bytes) (8 - length bytes) (omega arith)) }

  module _ (few : length bytes ≤ 8) {i byte : ℕ} (o : Gathered bytes i byte) (more : 0 < i) where
    pub gather_lt : byte < 128
    gather_lt =
        let a = bits_lt bytes i (8 - i) in
        let b : 2 ^ (8 - i) ≤ 2 ^ 7 = pow_mono {i = 8 - i} {j = 7} (omega arith) in
        omega (arith, o.is)

    pub gather_next : (x : ℕ) → x ≡ bit (not (eqb (get_or bytes (i - 1) 0) 0)) → Gathered bytes (i - 1) (2 * byte + x)
    gather_next x e =
        let up : suc (i - 1) ≡ i = omega arith in
        let count : 8 - (i - 1) ≡ suc (8 - i) = omega (arith, o.high) in
        let step : bits_from bytes (i - 1) (8 - (i - 1)) ≡ bit (not (eqb (get_or bytes (i - 1) 0) 0)) + 2 * bits_from bytes (suc (i - 1)) (8 - i) =
        ap (bits_from bytes (i - 1)) count ∙ bits-more bytes (i - 1) (8 - i) in
        let rest : byte ≡ bits_from bytes (suc (i - 1)) (8 - i) = o.is ∙ ap (λ y. bits_from bytes y (8 - i)) (sym up) in
        record { high = omega (arith, o.high); is = omega (arith, step, e, rest) }

-- `rest` is left, the front of the bytes, and the bits of those behind it are gathered
pub record Gathering (bytes rest : List ℕ) (byte : ℕ) : Type 0 where
  pub front : rest ≡ take (length rest) bytes
  pub gathered : Gathered bytes (length rest) byte

pub gathering_begin : (bytes : List ℕ) → Gathering bytes bytes 0
gathering_begin bytes = record { front = sym (take-length bytes); gathered = gather_begin bytes }

module _ (bytes : List ℕ) (few : length bytes ≤ 8) {rest : List ℕ} {byte : ℕ} (o : Gathering bytes rest byte) where
  -- the last of what is left comes next
  module _ (left : List ℕ) (x : ℕ) (e : rest ≡ push left x) where
    longer : length rest ≡ length left + 1
    longer = ap length e ∙ length-append left (x ∷ [])

    pub gathering_lt : byte < 128
    gathering_lt = gather_lt bytes few o.gathered (omega (arith, longer))

    last : x ≡ get_or bytes (length left) 0
    last =
        sym (get_or-append_seam left x [] 0)
        ∙ ap (λ l. get_or l (length left) 0) (sym e ∙ o.front)
        ∙ get_or-take (length rest) bytes (length left) 0 (omega (arith, longer))

    before : left ≡ take (length left) bytes
    before =
        sym (take-append_seam left (x ∷ []))
        ∙ ap (take (length left)) (sym e ∙ o.front)
        ∙ take-take (length left) (length rest) bytes (omega (arith, longer))

    pub gathering_next : {y : ℕ} → y ≡ bit (not (eqb x 0)) → Gathering bytes left (2 * byte + y)
    gathering_next {y} ey =
        let here : length rest - 1 ≡ length left = omega (arith, longer) in
        let own : y ≡ bit (not (eqb (get_or bytes (length rest - 1) 0) 0)) = ey ∙ ap (λ v. bit (not (eqb v 0))) (last ∙ ap (λ i. get_or bytes i 0) (sym here)) in
        record { front = before; gathered = rw here at (gather_next bytes few o.gathered (omega (arith, longer)) y own) }

  pub gathering_end : length rest ≡ 0 → byte ≡ bits_from bytes 0 8
  gathering_end e = o.gathered.is ∙ ap (λ i. bits_from bytes i (8 - i)) e

-- ---- all bytes

-- those past the nodes are 0
byte_past : (h : List ℕ) (j : ℕ) → length h ≤ 8 * j → byte_of h j ≡ 0
unfolding byte_of
byte_past h j l = bits-past h (8 * j) 8 l

-- the bytes in which the nodes stand, and zeros behind them
packed-whole : (h old : List ℕ) (used : ℕ) → length h ≤ 8 * used → used ≤ state_bytes → state_bytes ≤ length old → put_mid used (state_bytes - used) (take used (pack h) ++ drop used old) (zeros (state_bytes - used)) ≡ pack h ++ drop state_bytes old
packed-whole h old used l le room =
    let long = length-pack h in
    let end : used + (state_bytes - used) ≡ state_bytes = omega arith in
    front-more (pack h) old used (state_bytes - used) (omega arith) (omega arith) (zeros (state_bytes - used)) (length-replicate {A = ℕ} (state_bytes - used) 0)
    (λ k lk. get_or-replicate (state_bytes - used) k 0 0 lk ∙ sym (pack-at h (used + k) (omega arith) ∙ byte_past h (used + k) (omega arith)))
    ∙ ap (λ k. take k (pack h) ++ drop k old) end
    ∙ ap (λ x. x ++ drop state_bytes old) (take_all state_bytes (pack h) (omega arith))

-- the same bytes from i on, the same bits
bits-same : (g h : List ℕ) (i n : ℕ) → ((k : ℕ) → k < n → get_or g (i + k) 0 ≡ get_or h (i + k) 0) → bits_from g i n ≡ bits_from h i n
unfolding bits_from
bits-same g h i n same = below-same n (λ k. not (eqb (get_or g (i + k) 0) 0)) (λ k. not (eqb (get_or h (i + k) 0) 0)) (λ k l. ap (λ x. not (eqb x 0)) (same k l))

-- bytes of a part are those of the whole from there on
bits-part : (bytes : List ℕ) (a e n : ℕ) → bits_from (take (e - a) (drop a bytes)) 0 n ≡ bits_from (take e bytes) a n
unfolding bits_from
bits-part bytes a e n =
    below-same n (λ k. not (eqb (get_or (take (e - a) (drop a bytes)) (0 + k) 0) 0)) (λ k. not (eqb (get_or (take e bytes) (a + k) 0) 0))
    (λ k l. let at : 0 + k ≡ k = omega arith in ap (λ x. not (eqb x 0)) (ap (λ i. get_or (take (e - a) (drop a bytes)) i 0) at ∙ ap (λ l. get_or l k 0) (between_is bytes a e) ∙ get_or-drop a (take e bytes) k 0))

byte_is : (h : List ℕ) (j : ℕ) → bits_from h (8 * j) 8 ≡ byte_of h j
unfolding byte_of
byte_is h j = refl

module _ (bytes old : List ℕ) {n : ℕ} (long : n ≤ length bytes) (few : n ≤ max_nodes) (room : state_bytes ≤ length old) where
  -- the first j bytes of the packed state
  abbrev pub packed_to : ℕ → List ℕ
  packed_to j = take j (pack (take n bytes)) ++ drop j old

  -- the whole ones
  module _ {state : List ℕ} {j : ℕ} (o : Filling (pack (take n bytes)) old state (n / 8) j) where
    pub packed-next : (v : ℕ) → j < n / 8 → v ≡ bits_from (take (8 * j + 8 - 8 * j) (drop (8 * j) bytes)) 0 8 → Filling (pack (take n bytes)) old (set state j v) (n / 8) (j + 1)
    packed-next v l e =
        filling-next (omega (arith, length-pack (take n bytes))) (omega arith) o v l
        (e
        ∙ bits-part bytes (8 * j) (8 * j + 8) 8
        ∙ bits-same (take (8 * j + 8) bytes) (take n bytes) (8 * j) 8 (λ k lk. get_or-take (8 * j + 8) bytes (8 * j + k) 0 (omega arith) ∙ sym (get_or-take n bytes (8 * j + k) 0 (omega arith)))
        ∙ byte_is (take n bytes) j
        ∙ sym (pack-at (take n bytes) j (omega arith)))

    -- and what is left of the nodes
    packed-last : j ≡ n / 8 → (n % 8 ≡ 0 → ⊥) → (v : ℕ) → v ≡ bits_from (take (n - 8 * (n / 8)) (drop (8 * (n / 8)) bytes)) 0 8 → set state (n / 8) v ≡ packed_to ((n + 7) / 8)
    packed-last all f v e =
        let used : suc (n / 8) ≡ (n + 7) / 8 = omega (arith, f) in
        ap (λ s. set s (n / 8) v) (o.is ∙ ap packed_to all)
        ∙ front-suc (pack (take n bytes)) old (n / 8) v (omega (arith, length-pack (take n bytes), f)) (omega (arith, f))
        (e ∙ bits-part bytes (8 * (n / 8)) n 8 ∙ byte_is (take n bytes) (n / 8) ∙ sym (pack-at (take n bytes) (n / 8) (omega (arith, f))))
        ∙ ap packed_to used

    packed_none : j ≡ n / 8 → n % 8 ≡ 0 → state ≡ packed_to ((n + 7) / 8)
    packed_none all e = let end : j ≡ (n + 7) / 8 = omega arith in o.is ∙ ap packed_to end

    pub joined : j ≡ n / 8 → (new : List ℕ) → ((n % 8 ≡ 0 → ⊥) × (v : ℕ) × (v ≡ bits_from (take (n - 8 * (n / 8)) (drop (8 * (n / 8)) bytes)) 0 8) × (new ≡ set state (n / 8) v)) ⊎ ((n % 8 ≡ 0) × (new ≡ state)) → new ≡ packed_to ((n + 7) / 8)
    joined all new (inl (f, v, e, is)) = is ∙ packed-last all f v e
    joined all new (inr (e, is)) = is ∙ packed_none all e

  pub packed-end : {state : List ℕ} → state ≡ packed_to ((n + 7) / 8) → (z : List ℕ) → z ≡ zeros (state_bytes - (n + 7) / 8) → put_mid ((n + 7) / 8) (state_bytes - (n + 7) / 8) state z ≡ pack (take n bytes) ++ drop state_bytes old
  packed-end is z e =
      let own = length-take-le n bytes long in
      rw (is, e) (packed-whole (take n bytes) old ((n + 7) / 8) (omega arith) (omega arith) room)
