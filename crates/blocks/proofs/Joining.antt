-- The parts of an edition, joined one after the other.
use mathlib.Core.Path.{◌≡◌, refl, sym, ap, ◌∙◌}
use mathlib.Core.List.{List, [], ◌++◌, append_assoc, append-nil}
use Prim.Native.Nat.{ℕ, zero, suc, ◌+◌, ◌-◌, ◌≤◌, ◌<◌}
use native.Mathlib.Decide.{dec_lt}
use native.Mathlib.Numerals.{add-one}
use native.Mathlib.Omega.{arith}
use lib.ListN.{length, take, drop, length-append, length-drop, drop_of_length-le}
use lib.Seq.{take_at, drop_at, take-length, drop-drop}
use borrow.Rule.Slice.PartMut.{mid_of, post_of, put_mid}
use Rattle.blocks.specs.Editions.{joined}

module _ (f : ℕ → List ℕ) where
  pub joined-next : (k : ℕ) → joined f (k + 1) ≡ joined f k ++ f k
  joined-next k = ap (joined f) (add-one k)

  pub joined_length : (k : ℕ) → length (joined f (k + 1)) ≡ length (joined f k) + length (f k)
  joined_length k = ap length (joined-next k) ∙ length-append (joined f k) (f k)

  pub joined-grows : (m k : ℕ) → k < m → length (joined f k) + length (f k) ≤ length (joined f m)
  joined-grows zero k h = absurd (omega arith)
  joined-grows (suc m) k h = go (λ l. joined-grows m k l) (dec_lt k m)
    where
      go : (k < m → length (joined f k) + length (f k) ≤ length (joined f m)) → Dec (k < m) → length (joined f k) + length (f k) ≤ length (joined f m ++ f m)
      go r (yes l) = omega (arith, r l, length-append (joined f m) (f m))
      go r (no l) =
          let s : k ≡ m = omega arith in
          let here : length (joined f m) + length (f m) ≤ length (joined f m ++ f m) = omega (arith, length-append (joined f m) (f m)) in
          rw s here

pub joined_same : (f g : ℕ → List ℕ) (m : ℕ) → ((k : ℕ) → k < m → f k ≡ g k) → joined f m ≡ joined g m
joined_same f g zero h = refl
joined_same f g (suc m) h = ap (λ l. l ++ f m) (joined_same f g m (λ k l. h k (omega arith))) ∙ ap (λ l. joined g m ++ l) (h m (omega arith))

-- the parts before k are written at the front of a table
pub record Joining (f : ℕ → List ℕ) (m : ℕ) (old now : List ℕ) (at k : ℕ) : Type 0 where
  pub bound : k ≤ m
  pub is : now ≡ joined f k ++ drop at old
  pub end : at ≡ length (joined f k)

-- a part without content
pub joining_skip : {f : ℕ → List ℕ} {m : ℕ} {old now : List ℕ} {at k : ℕ} → Joining f m old now at k → k < m → f k ≡ [] → Joining f m old now at (k + 1)
joining_skip {f} {m} {old} {now} {at} {k} o h e =
    let same : joined f (k + 1) ≡ joined f k = joined-next f k ∙ ap (λ l. joined f k ++ l) e ∙ append-nil (joined f k) in
    record { bound = omega arith; is = o.is ∙ ap (λ l. l ++ drop at old) (sym same); end = o.end ∙ ap length (sym same) }

module _ {f : ℕ → List ℕ} {m : ℕ} {old now : List ℕ} {at k : ℕ} (room : length (joined f m) ≤ length old) (o : Joining f m old now at k) where
  at-within : at ≤ length old
  at-within = go (dec_lt k m)
    where
      go : Dec (k < m) → at ≤ length old
      go (yes h) = omega (arith, joined-grows f m k h, o.end)
      go (no h) = let all : k ≡ m = omega (arith, o.bound) in omega (arith, o.end, ap (λ n. length (joined f n)) all)

  pub joining_long : length now ≡ length old
  joining_long = omega (arith, ap length o.is, length-append (joined f k) (drop at old), o.end, length-drop at old, at-within)

  pub joining_at : at ≤ length now
  joining_at = omega (arith, joining_long, at-within)

  -- the table as lent from `at` on is as it was, and nothing is kept back behind it
  behind : mid_of at (length now - at) now ≡ drop at old
  behind =
      let rest : drop at now ≡ drop at old = ap (drop at) o.is ∙ drop_at (joined f k) (drop at old) at (sym o.end) in
      let all : length now - at ≡ length (drop at old) = omega (arith, ap length rest, length-drop at now) in
      ap (take (length now - at)) rest ∙ ap (λ n. take n (drop at old)) all ∙ take-length (drop at old)

  pub joining_room : {bytes : List ℕ} → k < m → bytes ≡ f k → at + length bytes ≤ length now
  joining_room h e = omega (arith, joined-grows f m k h, o.end, ap length e, joining_long)

  pub joining_lent : {bytes : List ℕ} → k < m → bytes ≡ f k → length bytes ≤ length (mid_of at (length now - at) now)
  joining_lent h e = omega (arith, joining_room h e, joining_long, ap length behind, length-drop at old)

  pub joining_next : {bytes ys : List ℕ} {n : ℕ} → k < m → bytes ≡ f k → n ≡ length bytes → ys ≡ bytes ++ drop (length bytes) (mid_of at (length now - at) now) → Joining f m old (put_mid at (length now - at) now ys) (at + n) (k + 1)
  joining_next {bytes} {ys} {n} h e q w =
      let front : take at now ≡ joined f k = ap (take at) o.is ∙ take_at (joined f k) (drop at old) at (sym o.end) in
      let nothing : post_of at (length now - at) now ≡ [] = drop_of_length-le (drop at now) {i = length now - at} (omega (arith, length-drop at now)) in
      let rest : drop (length bytes) (mid_of at (length now - at) now) ≡ drop (at + n) old =
      ap (drop (length bytes)) behind ∙ drop-drop (length bytes) at old ∙ ap (λ j. drop (at + j) old) (sym q) in
      let part : ys ≡ f k ++ drop (at + n) old = w ∙ ap (λ l. l ++ drop (length bytes) (mid_of at (length now - at) now)) e ∙ ap (λ l. f k ++ l) rest in
      record {
        bound = omega arith;
        is =
            ap (λ l. l ++ (ys ++ post_of at (length now - at) now)) front
            ∙ ap (λ l. joined f k ++ (ys ++ l)) nothing
            ∙ ap (λ l. joined f k ++ l) (append-nil ys ∙ part)
            ∙ sym (append_assoc (joined f k) (f k) (drop (at + n) old))
            ∙ ap (λ l. l ++ drop (at + n) old) (sym (joined-next f k));
        end = omega (arith, o.end, q, ap length e, joined_length f k);
      }

  pub joining_end : m ≤ k → now ≡ joined f m ++ drop (length (joined f m)) old
  joining_end h =
      let all : k ≡ m = omega (arith, o.bound) in
      o.is ∙ ap (λ n. joined f k ++ drop n old) o.end ∙ ap (λ n. joined f n ++ drop (length (joined f n)) old) all
