-- A state is admitted exactly if it holds something and each node's part of it fits.
use mathlib.Core.Path.{◌≡◌, refl, sym, ap, subst, ◌∙◌}
use mathlib.Core.Bool.{Bool, true, false, ◌&&◌}
use mathlib.Core.List.{List, [], ◌∷◌, ◌++◌}
use Prim.Native.Nat.{ℕ, zero, suc, ◌+◌, ◌-◌, ◌≤◌, ◌<◌}
use native.Mathlib.Decide.{dec_lt}
use native.Mathlib.Omega.{arith}
use borrow.Author.Tests.{lt-ltb, le-ltb}
use lib.Dec.{ltb}
use lib.ListN.{length, get_or, take, drop, length-append}
use lib.Seq.{take-take, take-add, take_at, get_or-take, length-take-le}
use Rattle.std.specs.List.{list_all, range_with_len}
use Rattle.codes.proofs.Bools.{both, left, right, same_test}
use Rattle.esterel.specs.Statement.{Binary, Stmt, leaf, one, two, size, nodes}
use Rattle.esterel.specs.Instant.{holds, first, second, apart, at_pauses, one_branch, admitted}
use Rattle.esterel.specs.Outcome.{statement_at}
use Rattle.esterel.proofs.Parts.{part_at}
use Rattle.esterel.proofs.Nodes.{Sits, sits-own}
use Rattle.esterel.proofs.Ranges.{Over, over-join, over_last}
use Rattle.esterel.proofs.Sizes.{length-nodes}
use Rattle.packing.specs.Packing.{unpack, is_clear_from}
use Rattle.packing.proofs.Bits.{length-unpack}
use Rattle.instant.specs.Admission.{Admitting, count_held, Counted, byte_fits, children_apart, node_fits}

-- counts and holds
pub count-append : (a b : List ℕ) → count_held (a ++ b) ≡ count_held a + count_held b
count-append [] b = omega arith
count-append (zero ∷ a) b = count-append a b
count-append (suc x ∷ a) b = omega (arith, count-append a b)

holds-count : (h : List ℕ) → holds h ≡ ltb 0 (count_held h)
holds-count [] = refl
holds-count (zero ∷ h) = holds-count h
holds-count (suc b ∷ h) = sym (lt-ltb 0 (suc (count_held h)) (omega arith))

-- the count over a part
pub count_rises : (h : List ℕ) (f k : ℕ) → count_held (take (f + k) h) ≡ count_held (take f h) + count_held (take k (drop f h))
count_rises h f k = ap count_held (take-add f k h) ∙ count-append (take f h) (take k (drop f h))

-- a part holds something exactly if the count rises over it
pub part-holds : (h : List ℕ) (f k : ℕ) → holds (take k (drop f h)) ≡ ltb (count_held (take f h)) (count_held (take (f + k) h))
part-holds h f k =
    holds-count (take k (drop f h)) ∙ go (count_held (take f h)) (count_held (take (f + k) h)) (count_held (take k (drop f h))) (count_rises h f k)
  where
    go : (a b c : ℕ) → b ≡ a + c → ltb 0 c ≡ ltb a b
    go a b zero e = sym (le-ltb a b (omega arith))
    go a b (suc c) e = lt-ltb 0 (suc c) (omega arith) ∙ sym (lt-ltb a b (omega arith))

-- each node's byte
pub all-bytes : (ps : List Stmt) (h : List ℕ) → length ps ≡ length h → ((i : ℕ) → i < length ps → byte_fits (statement_at ps i) (get_or h i 0) ≡ true) → at_pauses ps h ≡ true
all-bytes [] [] e f = refl
all-bytes [] (b ∷ h) e f = absurd (omega arith)
all-bytes (p ∷ ps) [] e f = absurd (omega arith)
all-bytes (p ∷ ps) (b ∷ h) e f = both (f 0 (omega arith)) (all-bytes ps h (omega arith) (λ i l. f (suc i) (omega arith)))

pub byte_of : (ps : List Stmt) (h : List ℕ) → at_pauses ps h ≡ true → (i : ℕ) → i < length ps → byte_fits (statement_at ps i) (get_or h i 0) ≡ true
byte_of [] h e i l = absurd (omega arith)
byte_of (p ∷ ps) [] e i l = cc
byte_of (p ∷ ps) (b ∷ h) e zero l = left (byte_fits p b) (at_pauses ps h) e
byte_of (p ∷ ps) (b ∷ h) e (suc i) l = byte_of ps h (right (byte_fits p b) e) i (omega arith)

module _ (ps : List Stmt) (h : List ℕ) where
  -- the bytes of p, whose first node is f
  abbrev pub part : Stmt → ℕ → List ℕ
  part p f = take (size p) (drop f h)

  part-first : (p : Stmt) (f k : ℕ) → size p ≤ k → first p (take k (drop f h)) ≡ part p f
  part-first p f k e = take-take (size p) k (drop f h) e

  part-second : (p q : Stmt) (f k : ℕ) → size p + size q ≤ k → second p q (take k (drop f h)) ≡ part q (f + size p)
  part-second p q f k e = part_at f (size p) (size q) k h e

  own-two : (b : Binary) (p q : Stmt) (f i : ℕ) → i ≡ f + (size p + size q) → children_apart (two b p q) h i ≡ apart b (holds (part p f)) (holds (part q (f + size p)))
  own-two b p q f i e =
      let x : i - size q - size p ≡ f = omega arith in
      let y : i - size q ≡ f + size p = omega arith in
      rw (x, y)

  abbrev pub Apart : ℕ → Type 0
  Apart i = children_apart (statement_at ps i) h i ≡ true

  pub each-apart : (p : Stmt) (f : ℕ) → Sits ps f p → one_branch p (part p f) ≡ true → Over Apart f (size p)
  each-apart (leaf l) f w o = λ i a z. let e : i ≡ f = omega arith in rw (e, w)
  each-apart (one u p) f w o =
      over_last Apart f (size p) (each-apart p f w.0 (rw (part-first p f (suc (size p)) (omega arith)) at o)) (rw w.1)
  each-apart (two b p q) f w o =
      let o' : apart b (holds (part p f)) (holds (part q (f + size p))) && (one_branch p (part p f) && one_branch q (part q (f + size p))) ≡ true = rw (part-first p f (suc (size p + size q)) (omega arith), part-second p q f (suc (size p + size q)) (omega arith)) at o in
      let children = right (apart b (holds (part p f)) (holds (part q (f + size p)))) o' in
      over_last Apart f (size p + size q)
      (over-join Apart f (size p) (size q) (each-apart p f w.0 (left (one_branch p (part p f)) _ children)) (each-apart q (f + size p) w.1 (right (one_branch p (part p f)) children)))
      (rw w.2 (own-two b p q f _ refl ∙ left (apart b (holds (part p f)) (holds (part q (f + size p)))) _ o'))

  pub apart-each : (p : Stmt) (f : ℕ) → Sits ps f p → Over Apart f (size p) → one_branch p (part p f) ≡ true
  apart-each (leaf l) f w o = refl
  apart-each (one u p) f w o = rw (part-first p f (suc (size p)) (omega arith)) (apart-each p f w.0 (λ i a z. o i a (omega arith)))
  apart-each (two b p q) f w o =
      let own = rw w.2 at (o (f + (size p + size q)) (omega arith) (omega arith)) in
      rw (part-first p f (suc (size p + size q)) (omega arith), part-second p q f (suc (size p + size q)) (omega arith))
      (both (sym (own-two b p q f _ refl) ∙ own)
      (both (apart-each p f w.0 (λ i a z. o i a (omega arith))) (apart-each q (f + size p) w.1 (λ i a z. o i (omega arith) (omega arith)))))

-- a test of each of n numbers from a on
all-of : (test : ℕ → Bool) (a n : ℕ) → list_all test (range_with_len a n) ≡ true → (i : ℕ) → a ≤ i → i < a + n → test i ≡ true
all-of test a zero e i lo hi = absurd (omega arith)
all-of test a (suc n) e i lo hi = go (dec_lt a i) (λ l. all-of test (a + 1) n (right (test a) e) i (omega arith) (omega arith))
  where
    go : Dec (a < i) → (a < i → test i ≡ true) → test i ≡ true
    go (yes l) next = next l
    go (no l) next = let z : i ≡ a = omega arith in rw z (left (test a) (list_all test (range_with_len (a + 1) n)) e)

of-all : (test : ℕ → Bool) (a n : ℕ) → ((i : ℕ) → a ≤ i → i < a + n → test i ≡ true) → list_all test (range_with_len a n) ≡ true
of-all test a zero f = refl
of-all test a (suc n) f = both (f a (omega arith) (omega arith)) (of-all test (a + 1) n (λ i lo hi. f i (omega arith) (omega arith)))

module _ (p : Stmt) (state : List ℕ) (room : size p ≤ length state) where
  abbrev own : List ℕ
  own = take (size p) state

  own_byte : (i : ℕ) → i < size p → get_or own i 0 ≡ get_or state i 0
  own_byte i h = get_or-take (size p) state i 0 h

  own-length : length (nodes p) ≡ length own
  own-length = length-nodes p ∙ sym (length-take-le (size p) state room)

  node-fits : admitted p own ≡ true → (i : ℕ) → i < size p → node_fits (nodes p) state i ≡ true
  node-fits e i h =
      let rest = right (holds own) e in
      both (rw (own_byte i h) at (byte_of (nodes p) own (left (at_pauses (nodes p) own) (one_branch p own) rest) i (omega (arith, length-nodes p))))
      (each-apart (nodes p) state p 0 (sits-own p) (right (at_pauses (nodes p) own) rest) i (omega arith) (omega arith))

  module _ {counts : List ℕ} (c : Counted state counts (size p)) {n : ℕ} (en : n ≡ size p) where
    own-holds : holds own ≡ ltb 0 (get_or counts n 0)
    own-holds = rw en (holds-count own ∙ ap (ltb 0) (sym (c.entry (size p) (omega arith))))

    pub nothing-held : get_or counts n 0 ≡ 0 → false ≡ admitted p own
    nothing-held e = sym (ap (λ x. x && (at_pauses (nodes p) own && one_branch p own)) (own-holds ∙ ap (ltb 0) e))

    is-admitted : (get_or counts n 0 ≡ 0 → ⊥) → ((i : ℕ) → i < size p → node_fits (nodes p) state i ≡ true) → admitted p own ≡ true
    is-admitted some fits =
        both (own-holds ∙ lt-ltb 0 (get_or counts n 0) (omega (arith, some)))
        (both (all-bytes (nodes p) own own-length (λ j k. let l : j < size p = omega (arith, length-nodes p) in rw (own_byte j l) (left (byte_fits (statement_at (nodes p) j) (get_or state j 0)) _ (fits j l))))
        (apart-each (nodes p) state p 0 (sits-own p) (λ j k l. right (byte_fits (statement_at (nodes p) j) (get_or state j 0)) (fits j (omega arith)))))

    pub all-fit : (get_or counts n 0 ≡ 0 → ⊥) → {r : Bool} → r ≡ list_all (node_fits (nodes p) state) (range_with_len 0 n) → r ≡ admitted p own
    all-fit some {r} e =
        same_test r (admitted p own)
        (λ y. is-admitted some (λ i l. all-of (node_fits (nodes p) state) 0 n (sym e ∙ y) i (omega arith) (omega arith)))
        (λ y. e ∙ of-all (node_fits (nodes p) state) 0 n (λ i lo hi. node-fits y i (omega arith)))

-- the front of what is unpacked
pub front-unpacked : (state old : List ℕ) {held : List ℕ} (n : ℕ) → held ≡ unpack n state ++ drop n old → take n held ≡ unpack n state
front-unpacked state old n e = ap (take n) e ∙ take_at (unpack n state) (drop n old) n (length-unpack n state)

pub unpacked-long : (state old : List ℕ) {held : List ℕ} (n : ℕ) → held ≡ unpack n state ++ drop n old → n ≤ length held
unpacked-long state old n e = let x = ap length e ∙ length-append (unpack n state) (drop n old) in let y = length-unpack n state in omega arith

-- check 12 of a packed state: the bits from the program's end on, then the bytes that are unpacked
module _ (p : Stmt) (state held : List ℕ) {held' counts' : List ℕ} {n : ℕ} (en : n ≡ size p) (u : held' ≡ unpack n state ++ drop n held) (c : Counted held' counts' n) where
  unpacked-is : held' ≡ unpack (size p) state ++ drop (size p) held
  unpacked-is = u ∙ ap (λ k. unpack k state ++ drop k held) en

  module _ {b : Bool} (e : b ≡ is_clear_from n state) where
    clear-is : is_clear_from (size p) state ≡ b
    clear-is = ap (λ i. is_clear_from i state) (sym en) ∙ sym e

    pub admitting_strays : b ≡ false → Admitting p state held held' counts' b
    admitting_strays z =
        record {
          answer = z ∙ sym (ap (λ x. x && admitted p (unpack (size p) state)) (clear-is ∙ z));
          unpacked = unpacked-is;
          counted = subst (Counted held' counts') en c;
        }

    pub admitting_by : b ≡ true → {r : Bool} → r ≡ admitted p (take (size p) held') → Admitting p state held held' counts' r
    admitting_by z a =
        record {
          answer = a ∙ ap (admitted p) (front-unpacked state held (size p) unpacked-is) ∙ sym (ap (λ x. x && admitted p (unpack (size p) state)) (clear-is ∙ z));
          unpacked = unpacked-is;
          counted = subst (Counted held' counts') en c;
        }
