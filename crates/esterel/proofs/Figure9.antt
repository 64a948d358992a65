-- S is that of Figure 9 without the codes past the traps around a node, and no statement there has such a code.
use mathlib.Core.Path.{◌≡◌, refl, sym, ap, ap₂, ◌∙◌}
use mathlib.Core.Bool.{Bool, true, false, ◌&&◌, or-true, or-false, and-true, and-false}
use mathlib.Core.List.{map, map-append}
use Prim.Native.Nat.{ℕ, zero, suc, ◌+◌, ◌≤◌, ◌<◌}
use native.Mathlib.Decide.{dec_le}
use native.Mathlib.Omega.{arith}
use borrow.Author.Tests.{le-leb, lt-leb, ne_eqb}
use lib.Dec.{leb, eqb-zero-suc}
use Rattle.codes.proofs.Bools.{both, right, cannot_pass, same_test}
use Rattle.codes.proofs.Members.{up_to_in, up_to_out, empty-most, given-most, under-parallel-most}
use Rattle.codes.proofs.Laws.{word_same}
use Rattle.codes.proofs.Ends.{up_to-same}
use Rattle.esterel.specs.Statement.{Unary, signal, suspend, loop, trap, Binary, present, sequence, parallel, Stmt, leaf, one, two, kind, field, traps_under}
use Rattle.esterel.specs.Codes.{Codes, empty, only, union, given, without_ended, meets, under_parallel, bit, word, AtMost}
use Rattle.esterel.specs.Sets.{start_set, any_instant_set, at, places, under, under_first, under_left, under_right}
use Rattle.esterel.specs.Checks.{line, line_of}
use Rattle.esterel.specs.Figure9.{figure_under, figure_branch, figure_left, figure_right, figure_places, figure_line, Figure9}
use Rattle.esterel.proofs.Low.{Exits, start-low, any-low, under_low, first-low}
use Rattle.esterel.proofs.Accepted.{exits_in}

-- S of `Sets` and F of Figure 9, of a node with t traps around it. An F that has a code past the traps came from a parallel, and has 1
record Agree (t : ℕ) (S F : Codes) : Type 0 where
  same : (k : ℕ) → k ≤ 1 + t → S k ≡ F k
  low : AtMost (suc t) S
  wide : (k : ℕ) → 1 + t < k → F k ≡ true → F 1 ≡ true

module _ {t : ℕ} {S F : Codes} (g : Agree t S F) where
  cut : (k : ℕ) → S k ≡ (leb k (1 + t) && F k)
  cut k = go (dec_le k (1 + t))
    where
      go : Dec (k ≤ 1 + t) → S k ≡ (leb k (1 + t) && F k)
      go (yes h) = g.same k h ∙ sym (ap (λ b. b && F k) (le-leb k (1 + t) h))
      go (no h) = cannot_pass (S k) (λ e. omega (arith, g.low k e)) ∙ sym (ap (λ b. b && F k) (lt-leb k (1 + t) (omega arith)))

  -- a set without a code past the traps does not tell them apart
  same_meets : (C : Codes) → AtMost (suc t) C → meets C S ≡ meets C F
  same_meets C low = up_to-same (λ k. C k && S k) (λ k. C k && F k) 63 (λ k h. at_code k (C k) refl)
    where
      at_code : (k : ℕ) (b : Bool) → C k ≡ b → (C k && S k) ≡ (C k && F k)
      at_code k true e = ap (λ b. C k && b) (g.same k (omega (arith, low k e)))
      at_code k false e = rw e

  -- one is empty exactly if the other is
  same_some : meets S S ≡ meets F F
  same_some = same_test (meets S S) (meets F F) into back
    where
      into : meets S S ≡ true → meets F F ≡ true
      into e =
          let (k, h, f) = up_to_out (λ k. S k && S k) 63 e in
          let x : F k ≡ true = right (leb k (1 + t)) (sym (cut k) ∙ right (S k) f) in
          up_to_in (λ k. F k && F k) k 63 h (both x x)

      has : (k : ℕ) → k ≤ 63 → k ≤ 1 + t → F k ≡ true → meets S S ≡ true
      has k h l x = let y : S k ≡ true = g.same k l ∙ x in up_to_in (λ k. S k && S k) k 63 h (both y y)

      found : (k : ℕ) → k ≤ 63 → F k ≡ true → Dec (k ≤ 1 + t) → meets S S ≡ true
      found k h x (yes l) = has k h l x
      found k h x (no l) = has 1 (omega arith) (omega arith) (g.wide k (omega arith) x)

      back : meets F F ≡ true → meets S S ≡ true
      back e =
          let (k, h, f) = up_to_out (λ k. F k && F k) 63 e in
          found k h (right (F k) f) (dec_le k (1 + t))

-- a loop adds nothing but 0
but_0 : (P : Codes) (k : ℕ) → under loop P (suc k) ≡ P (suc k)
but_0 P k = rw eqb-zero-suc (or-false (P (suc k)))

agree_under : (u : Unary) {t : ℕ} {S F : Codes} → Agree t S F → Agree (traps_under u t) (under u S) (under u F)
agree_under (signal s) g = g
agree_under (suspend s) g = g
agree_under loop {t} {S} {F} g = record { same = same; low = under_low loop t S g.low; wide = wide }
  where
    same : (k : ℕ) → k ≤ 1 + t → under loop S k ≡ under loop F k
    same zero h = or-true (S 0) ∙ sym (or-true (F 0))
    same (suc k) h = but_0 S k ∙ g.same (suc k) h ∙ sym (but_0 F k)

    wide : (k : ℕ) → 1 + t < k → under loop F k ≡ true → under loop F 1 ≡ true
    wide zero h e = absurd (omega arith)
    wide (suc k) h e = but_0 F 0 ∙ g.wide (suc k) h (sym (but_0 F k) ∙ e)
agree_under trap {t} {S} {F} g = record { same = same; low = under_low trap t S g.low; wide = wide }
  where
    same : (k : ℕ) → k ≤ 1 + suc t → under trap S k ≡ under trap F k
    same zero h = g.same 0 (omega arith)
    same (suc zero) h = g.same 1 (omega arith)
    same (suc (suc zero)) h = g.same 0 (omega arith)
    same (suc (suc (suc k))) h = g.same (suc (suc k)) (omega arith)

    wide : (k : ℕ) → 1 + suc t < k → under trap F k ≡ true → F 1 ≡ true
    wide zero h e = absurd (omega arith)
    wide (suc zero) h e = absurd (omega arith)
    wide (suc (suc zero)) h e = absurd (omega arith)
    wide (suc (suc (suc k))) h e = g.wide (suc (suc k)) (omega arith) e

agree_branch : {t : ℕ} {S F : Codes} → Agree t S F → Agree t (under_parallel t S) (figure_branch F)
agree_branch {t} {S} {F} g =
    record {
      same = λ k h. ap₂ ◌&&◌ (le-leb k (1 + t) h) (same_some g) ∙ sym (and-true (meets F F));
      low = under-parallel-most t S;
      wide = λ k h e. e;
    }

agree_first : (q : Stmt) {t : ℕ} {S F : Codes} → Exits t q → Agree t S F → Agree t (under_first S (start_set q)) (under_first F (start_set q))
agree_first q {t} {S} {F} x g = record { same = same; low = first-low t S (start_set q) g.low; wide = wide }
  where
    same : (k : ℕ) → k ≤ 1 + t → under_first S (start_set q) k ≡ under_first F (start_set q) k
    same zero h = same_meets g (start_set q) (start-low q t x)
    same (suc k) h = g.same (suc k) h

    wide : (k : ℕ) → 1 + t < k → under_first F (start_set q) k ≡ true → F 1 ≡ true
    wide zero h e = absurd (omega arith)
    wide (suc k) h e = g.wide (suc k) h e

agree_second : (test : Bool) {t : ℕ} {S F : Codes} → Agree t S F → Agree t (given test S) (given test F)
agree_second true {t} {S} g = record { same = λ k h. g.same k h; low = given-most (suc t) true S g.low; wide = λ k h e. g.wide k h e }
agree_second false {t} {S} g = record { same = λ k h. refl; low = given-most (suc t) false S g.low; wide = λ k h e. e }

-- what Figure 9 prints of P is what `Sets` has of it
under-is : (u : Unary) (P : Codes) (k : ℕ) → figure_under u P k ≡ under u P k
under-is (signal s) P k = refl
under-is (suspend s) P k = refl
under-is loop P zero = sym (or-true (P 0))
under-is loop P (suc k) = rw eqb-zero-suc (sym (or-false (P (suc k))))
under-is trap P zero = simp (and-false, or-false)
under-is trap P (suc zero) = simp (and-false, or-false)
under-is trap P (suc (suc zero)) = and-true (P 0)
under-is trap P (suc (suc (suc k))) = rw (ne_eqb 2 (suc (suc (suc k))) (omega arith), and-false, or-false)

first-is : (P K : Codes) (k : ℕ) → union (without_ended P) (given (meets K P) (only 0)) k ≡ under_first P K k
first-is P K zero = and-true (meets K P)
first-is P K (suc k) = rw (eqb-zero-suc, and-false, or-false)

agree_as : {t : ℕ} {S F G : Codes} → ((k : ℕ) → G k ≡ F k) → Agree t S F → Agree t S G
agree_as e g =
    record {
      same = λ k h. g.same k h ∙ sym (e k);
      low = g.low;
      wide = λ k h f. e 1 ∙ g.wide k h (sym (e k) ∙ f);
    }

agree_left : (b : Binary) (q : Stmt) {t : ℕ} {S F : Codes} → Exits t q → Agree t S F → Agree t (under_left b t S q) (figure_left b F q)
agree_left (present s) q x g = g
agree_left sequence q {F = F} x g = agree_as (first-is F (start_set q)) (agree_first q x g)
agree_left parallel q x g = agree_branch g

agree_right : (b : Binary) (p : Stmt) {t : ℕ} {S F : Codes} → Agree t S F → Agree t (under_right b t S p) (figure_right b F p)
agree_right (present s) p g = g
agree_right sequence p g = agree_second (start_set p 0) g
agree_right parallel p g = agree_branch g

own_line : (p : Stmt) (d : ℕ) {t : ℕ} {S F : Codes} → Exits t p → Agree t S F → line_of (at d t S p) ≡ figure_line (at d t F p)
own_line p d {t} x g =
    ap₂ (line (kind p) (field p) (word (start_set p)) (word (any_instant_set p))) (word_same _ _ (λ k h. cut g k))
    (ap bit (same_meets g (any_instant_set p) (any-low p t x)))

lines : (p : Stmt) (d : ℕ) {t : ℕ} {S F : Codes} → Exits t p → Agree t S F → map line_of (places d t S p) ≡ map figure_line (figure_places d t F p)
lines (leaf l) d x g = rw (own_line (leaf l) d x g)
lines (one u p) d {F = F} x g = simp (map-append, lines p (suc d) x (agree_as (under-is u F) (agree_under u g)), own_line (one u p) d x g)
lines (two b p q) d x g =
    simp (map-append, lines p (suc d) x.0 (agree_left b q x.1 g), lines q (suc d) x.1 (agree_right b p g), own_line (two b p q) d x g)

pub figure9 : Figure9
figure9 p a =
    let outside : Agree 0 empty empty = record { same = λ k h. refl; low = empty-most 1; wide = λ k h e. e } in
    lines p 1 (exits_in p a) outside
