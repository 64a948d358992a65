-- The check bytes as running sums, one more byte at a time.
use mathlib.Core.Path.{◌≡◌, sym, ap, ◌∙◌}
use mathlib.Core.List.{List, [], ◌∷◌, ◌++◌}
use Prim.Native.Nat.{ℕ, ◌+◌, ◌*◌, ◌≤◌, ◌<◌}
use native.Mathlib.Nat.{add-zero, mod-add-mod, add-mod-mod}
use native.Mathlib.Numerals.{add-one}
use native.Mathlib.Omega.{arith}
use lib.ListN.{length, get_or, take}
use lib.Seq.{take-suc, take-length}
use Rattle.blocks.specs.Block.{block_size, reduced, sum, first_check, running_from, second_check}

pub sum-append : (xs ys : List ℕ) → sum (xs ++ ys) ≡ sum xs + sum ys
sum-append [] ys = omega arith
sum-append (x ∷ xs) ys = omega (arith, sum-append xs ys)

pub sum_snoc : (xs : List ℕ) (x : ℕ) → sum (xs ++ (x ∷ [])) ≡ sum xs + x
sum_snoc xs x = sum-append xs (x ∷ []) ∙ ap (λ n. sum xs + n) (add-zero x)

-- the running values from a on
running_snoc : (a : ℕ) (xs : List ℕ) (x : ℕ) → running_from a (xs ++ (x ∷ [])) ≡ running_from a xs ++ (reduced (a + sum xs + x) ∷ [])
running_snoc a [] x = ap (λ n. reduced (n + x) ∷ []) (sym (add-zero a))
running_snoc a (y ∷ xs) x =
    let s = reduced (a + y) in
    let left : s + sum xs + x ≡ s + (sum xs + x) = omega arith in
    let right : a + y + (sum xs + x) ≡ a + (y + sum xs) + x = omega arith in
    let same : reduced (s + sum xs + x) ≡ reduced (a + (y + sum xs) + x) = ap reduced left ∙ mod-add-mod (a + y) 255 (sum xs + x) ∙ ap reduced right in
    ap (λ l. s ∷ l) (running_snoc s xs x ∙ ap (λ v. running_from s xs ++ (v ∷ [])) same)

pub second_snoc : (xs : List ℕ) (x : ℕ) → second_check (xs ++ (x ∷ [])) ≡ reduced (second_check xs + (sum xs + x))
unfolding second_check
second_snoc xs x =
    let r = running_from 0 xs in
    let total : 0 + sum xs + x ≡ sum xs + x = omega arith in
    ap (λ l. reduced (sum l)) (running_snoc 0 xs x ∙ ap (λ n. r ++ (reduced n ∷ [])) total)
    ∙ ap reduced (sum_snoc r (reduced (sum xs + x)))
    ∙ add-mod-mod (sum r) (sum xs + x) 255
    ∙ sym (mod-add-mod (sum r) 255 (sum xs + x))

-- the bytes before i are summed, and not reduced yet
pub record Summing (bytes : List ℕ) (a b i : ℕ) : Type 0 where
  pub bound : i ≤ length bytes
  pub first : a ≡ sum (take i bytes)
  pub second : reduced b ≡ second_check (take i bytes)
  pub first_low : a ≤ 255 * i
  pub second_low : b ≤ 255 * block_size * i

module _ {bytes : List ℕ} {first second i : ℕ} (o : Summing bytes first second i) where
  pub summing_next : (b : ℕ) → length bytes ≤ block_size → i < length bytes → b < 256 → b ≡ get_or bytes i 0 → Summing bytes (first + b) (second + (first + b)) (i + 1)
  summing_next b l h low e =
      let front : take (i + 1) bytes ≡ take i bytes ++ (get_or bytes i 0 ∷ []) = ap (λ n. take n bytes) (add-one i) ∙ take-suc bytes i 0 h in
      let next : first + b ≡ sum (take i bytes) + get_or bytes i 0 = omega (arith, o.first, e) in
      record {
        bound = omega arith;
        first = next ∙ sym (ap sum front ∙ sum_snoc (take i bytes) (get_or bytes i 0));
        second =
            sym (mod-add-mod second 255 (first + b))
            ∙ ap (λ n. reduced (n + (first + b))) o.second
            ∙ ap (λ n. reduced (second_check (take i bytes) + n)) next
            ∙ sym (ap second_check front ∙ second_snoc (take i bytes) (get_or bytes i 0));
        first_low = omega (arith, o.first_low);
        second_low = omega (arith, o.first_low, o.second_low);
      }

  pub summing_end : length bytes ≤ i → (reduced first ≡ first_check bytes) × (reduced second ≡ second_check bytes)
  unfolding first_check
  summing_end h =
      let all : i ≡ length bytes = omega (arith, o.bound) in
      let whole : take i bytes ≡ bytes = ap (λ n. take n bytes) all ∙ take-length bytes in
      (ap reduced (o.first ∙ ap sum whole), o.second ∙ ap second_check whole)
