-- When no bit from n on is 1: by the nodes, and by the bytes.
use mathlib.Core.Path.{◌≡◌, refl, sym, ap, ◌∙◌}
use mathlib.Core.Bool.{Bool, true, false, not, ◌||◌, cond}
use mathlib.Core.List.{List, [], ◌∷◌}
use Prim.Native.Nat.{ℕ, zero, suc, ◌+◌, ◌-◌, ◌*◌, ◌/◌, ◌%◌, ◌^◌, ◌≤◌, ◌<◌}
use native.Mathlib.Decide.{dec_lt}
use native.Mathlib.Omega.{arith}
use lib.Dec.{eqb, eqb→eq}
use lib.ListN.{get_or, take, drop, length-take, get_or-eq_default}
use lib.Bits.{bit_or, or_lt}
use lib.Pow.{shr_le}
use lib.Seq.{get_or-take, get_or-drop}
use Rattle.std.specs.List.{fold}
use Rattle.codes.specs.Codes.{bit}
use Rattle.codes.specs.Words.{◌∋◌, set_of}
use Rattle.codes.proofs.Bools.{from_not, to_t, false-not-true, same_test}
use Rattle.codes.proofs.Bits.{∋_shr, ∋_none, ∋_past, ∋_or}
use Rattle.codes.proofs.WordBits.{below_set, below_none}
use Rattle.esterel.specs.Limits.{max_nodes}
use Rattle.esterel.specs.Instant.{holds}
use Rattle.packing.specs.Packing.{state_bytes, held_bit, column, is_clear_from, tail_of}
use Rattle.packing.proofs.Zeros.{none-at, holds-none}
use Rattle.packing.proofs.Columns.{column-at, column-zero}
use Rattle.packing.proofs.Bits.{bit-zero, held-is, held_at}

-- a byte without a bit is 0
byte_clear : (w : ℕ) → w < 256 → ((k : ℕ) → k < 8 → (w ∋ k) ≡ false) → w ≡ 0
byte_clear w l z = sym (below_set 8 w l) ∙ below_none 8 (set_of w) z

-- a join is 0 where both are
neither : (x y : Bool) → (x || y) ≡ false → (x ≡ false) × (y ≡ false)
neither true y z = let q : ◌≡◌ {A = ℕ} 0 1 = cc in absurd (omega arith)
neither false y z = (refl, z)

or-zero : (a b : ℕ) → a < 256 → b < 256 → bit_or a b ≡ 0 → (a ≡ 0) × (b ≡ 0)
or-zero a b la lb e = (byte_clear a la (λ k lk. (bits k).0), byte_clear b lb (λ k lk. (bits k).1))
  where
    bits : (k : ℕ) → ((a ∋ k) ≡ false) × ((b ∋ k) ≡ false)
    bits k = neither (a ∋ k) (b ∋ k) (sym (∋_or a b k) ∙ ap (λ (x : ℕ). x ∋ k) e ∙ ∋_none k)

module _ (n : ℕ) (s : List ℕ) where
  pub clear_at : is_clear_from n s ≡ true → (i : ℕ) → n ≤ i → i < max_nodes → held_bit s i ≡ 0
  unfolding is_clear_from
  clear_at e i lo hi =
      let at : i ≡ n + (i - n) = omega arith in
      ap (held_bit s) at ∙ sym (column-at (held_bit s) n (max_nodes - n) (i - n) (omega arith))
      ∙ none-at (column (held_bit s) n (max_nodes - n)) (from_not (holds (column (held_bit s) n (max_nodes - n))) (to_t _ e)) (i - n)

  pub is-clear : ((i : ℕ) → n ≤ i → i < max_nodes → held_bit s i ≡ 0) → is_clear_from n s ≡ true
  unfolding is_clear_from
  is-clear z = ap not (holds-none (column (held_bit s) n (max_nodes - n)) (column-zero (held_bit s) n (max_nodes - n) (λ j lo hi. z j lo (omega arith))))

  -- then each byte past node n is 0
  byte_zero : is_clear_from n s ≡ true → (j : ℕ) → n ≤ 8 * j → j < state_bytes → get_or s j 0 < 256 → get_or s j 0 ≡ 0
  byte_zero e j lo hi l =
      byte_clear (get_or s j 0) l (λ k lk. bit-zero (get_or s j 0 ∋ k) (sym (held_at s j k lk) ∙ clear_at e (8 * j + k) (omega arith) (omega arith)))

  -- and so is what the byte where it stands has from there on
  tail-zero : is_clear_from n s ≡ true → n ≤ max_nodes → get_or s (n / 8) 0 < 256 → tail_of n s ≡ 0
  tail-zero e h l = go (eqb (n % 8) 0) refl
    where
      w : ℕ
      w = get_or s (n / 8) 0

      m : ℕ
      m = n % 8

      bit_of_lem : (m ≡ 0 → ⊥) → (k : ℕ) → Dec (m + k < 8) → (w ∋ (m + k)) ≡ false
      bit_of_lem f k (yes y) = bit-zero (w ∋ (m + k)) (sym (held_at s (n / 8) (m + k) y) ∙ clear_at e (8 * (n / 8) + (m + k)) (omega arith) (omega (arith, f)))
      bit_of_lem f k (no y) = ∋_past w 8 (m + k) l (omega arith)

      go : (b : Bool) → eqb m 0 ≡ b → cond b 0 (w / 2 ^ m) ≡ 0
      go true q = refl
      go false q =
          byte_clear (w / 2 ^ m) (omega (arith, shr_le w m)) (λ k lk. ∋_shr w m k ∙ bit_of_lem (λ z. false-not-true q (rw z)) k (dec_lt (m + k) 8))

  -- by the bytes: that of node n from there on, and all behind it
  all-clear : tail_of n s ≡ 0 → ((j : ℕ) → (n + 7) / 8 ≤ j → j < state_bytes → get_or s j 0 ≡ 0) → is_clear_from n s ≡ true
  all-clear e z = is-clear (λ i lo hi. held-is s i ∙ ap bit (go i lo hi (dec_lt (i / 8) ((n + 7) / 8))))
    where
      shifted : (b : Bool) → eqb (n % 8) 0 ≡ b → (n % 8 ≡ 0 → ⊥) → cond b 0 (get_or s (n / 8) 0 / 2 ^ (n % 8)) ≡ 0 → get_or s (n / 8) 0 / 2 ^ (n % 8) ≡ 0
      shifted true q f x = absurd (f (eqb→eq (n % 8) 0 (to_t (eqb (n % 8) 0) q)))
      shifted false q f x = x

      within : (i : ℕ) → n ≤ i → i / 8 ≡ n / 8 → i / 8 < (n + 7) / 8 → (get_or s (n / 8) 0 ∋ (i % 8)) ≡ false
      within i lo same y =
          let at : n % 8 + (i % 8 - n % 8) ≡ i % 8 = omega arith in
          ap (λ (k : ℕ). get_or s (n / 8) 0 ∋ k) (sym at)
          ∙ sym (∋_shr (get_or s (n / 8) 0) (n % 8) (i % 8 - n % 8))
          ∙ ap (λ (x : ℕ). x ∋ (i % 8 - n % 8)) (shifted (eqb (n % 8) 0) refl (λ q. omega arith) e)
          ∙ ∋_none (i % 8 - n % 8)

      go : (i : ℕ) → n ≤ i → i < max_nodes → Dec (i / 8 < (n + 7) / 8) → (get_or s (i / 8) 0 ∋ (i % 8)) ≡ false
      go i lo hi (yes y) = let same : i / 8 ≡ n / 8 = omega arith in ap (λ j. get_or s j 0 ∋ (i % 8)) same ∙ within i lo same y
      go i lo hi (no y) = ap (λ x. x ∋ (i % 8)) (z (i / 8) (omega arith) (omega arith)) ∙ ∋_none (i % 8)

-- bytes joined are 0 exactly where each is
joined-zero : (xs : List ℕ) → ((i : ℕ) → get_or xs i 0 ≡ 0) → fold bit_or 0 xs ≡ 0
joined-zero [] z = refl
joined-zero (x ∷ xs) z = let first : x ≡ 0 = z 0 in rw first (joined-zero xs (λ i. z (suc i)))

zero-joined : (a : ℕ) (xs : List ℕ) → a < 256 → ((i : ℕ) → get_or xs i 0 < 256) → fold bit_or a xs ≡ 0 → (a ≡ 0) × ((i : ℕ) → get_or xs i 0 ≡ 0)
zero-joined a [] la small e = (e, λ i. refl)
zero-joined a (x ∷ xs) la small e =
    let rest : (bit_or a x ≡ 0) × ((i : ℕ) → get_or xs i 0 ≡ 0) = zero-joined (bit_or a x) xs (or_lt 8 a x la (small 0)) (λ i. small (suc i)) e in
    let both : (a ≡ 0) × (x ≡ 0) = or-zero a x la (small 0) rest.0 in
    (both.0, at both.1 rest.1)
  where
    at : x ≡ 0 → ((i : ℕ) → get_or xs i 0 ≡ 0) → (i : ℕ) → get_or (x ∷ xs) i 0 ≡ 0
    at e z zero = e
    at e z (suc i) = z i

-- the bytes from `used` up to the last of the state
module _ (s : List ℕ) (used : ℕ) where
  abbrev behind : List ℕ
  behind = take (state_bytes - used) (drop used s)

  behind_at : (k : ℕ) → k < state_bytes - used → get_or behind k 0 ≡ get_or s (used + k) 0
  behind_at k l = get_or-take (state_bytes - used) (drop used s) k 0 l ∙ get_or-drop used s k 0

  behind_past : (k : ℕ) → state_bytes - used ≤ k → get_or behind k 0 ≡ 0
  behind_past k l = get_or-eq_default behind 0 {n = k} (omega (arith, length-take (state_bytes - used) (drop used s)))

  behind_small : ((i : ℕ) → get_or s i 0 < 256) → (k : ℕ) → get_or behind k 0 < 256
  behind_small small k = go (dec_lt k (state_bytes - used))
    where
      go : Dec (k < state_bytes - used) → get_or behind k 0 < 256
      go (yes l) = rw (behind_at k l) (small (used + k))
      go (no l) = let z = behind_past k (omega arith) in omega arith

  behind-zero : ((i : ℕ) → used ≤ i → i < state_bytes → get_or s i 0 ≡ 0) → (k : ℕ) → get_or behind k 0 ≡ 0
  behind-zero z k = go (dec_lt k (state_bytes - used))
    where
      go : Dec (k < state_bytes - used) → get_or behind k 0 ≡ 0
      go (yes l) = behind_at k l ∙ z (used + k) (omega arith) (omega arith)
      go (no l) = behind_past k (omega arith)

  zero-behind : ((k : ℕ) → get_or behind k 0 ≡ 0) → (i : ℕ) → used ≤ i → i < state_bytes → get_or s i 0 ≡ 0
  zero-behind z i lo hi = let at : i ≡ used + (i - used) = omega arith in ap (λ j. get_or s j 0) at ∙ sym (behind_at (i - used) (omega arith)) ∙ z (i - used)

module _ (n : ℕ) (s : List ℕ) (few : n ≤ max_nodes) (small : (i : ℕ) → get_or s i 0 < 256) {t : ℕ} (e : t ≡ tail_of n s) where
  pub clear-joined : t ≡ 0 → {j : ℕ} → j ≡ fold bit_or 0 (take (state_bytes - (n + 7) / 8) (drop ((n + 7) / 8) s)) → eqb j 0 ≡ is_clear_from n s
  clear-joined none {j} ej =
      same_test (eqb j 0) (is_clear_from n s)
      (λ q. all-clear n s (sym e ∙ none) (zero-behind s ((n + 7) / 8) (zero-joined 0 (behind s ((n + 7) / 8)) (omega arith) (behind_small s ((n + 7) / 8) small) (sym ej ∙ eqb→eq j 0 (to_t (eqb j 0) q))).1))
      (λ q. let z : j ≡ 0 = ej ∙ joined-zero (behind s ((n + 7) / 8)) (behind-zero s ((n + 7) / 8) (λ i lo hi. byte_zero n s q i (omega arith) hi (small i))) in rw z)

  pub tail-unclear : (t ≡ 0 → ⊥) → eqb t 0 ≡ is_clear_from n s
  tail-unclear some =
      same_test (eqb t 0) (is_clear_from n s)
      (λ q. absurd (some (eqb→eq t 0 (to_t (eqb t 0) q))))
      (λ q. absurd (some (e ∙ tail-zero n s q few (small (n / 8)))))
