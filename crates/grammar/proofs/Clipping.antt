-- A statement with its fields as bytes has the depths and traps of the statement, its exits are caught, and where checks 8 and 9 pass it is the
-- statement.
use mathlib.Core.Path.{◌≡◌, refl, sym, ap, ◌∙◌}
use mathlib.Core.Bool.{Bool, true, false, ◌||◌, not, cond}
use mathlib.Core.Option.{Option, none, some}
use mathlib.Core.List.{List, [], ◌∷◌, ◌++◌}
use Prim.Native.Nat.{ℕ, suc, ◌%◌, ◌≤◌, ◌<◌}
use native.Mathlib.Omega.{arith}
use lib.Dec.{ltb, leb}
use lib.ListN.{length}
use borrow.Author.Tests.{ltb-true, ltb-false, lt-leb}
use Rattle.grammar.specs.Tree as T
use Rattle.grammar.specs.Tree.{Name}
use Rattle.grammar.specs.Kernel as K
use Rattle.grammar.specs.Kernel.{Kernel}
use Rattle.esterel.specs.Limits.{max_traps}
use Rattle.esterel.specs.Statement.{nothing, pause, emit, exit, Unary, signal, suspend, loop, trap, Binary, present, sequence, parallel, Stmt, leaf, one, two, kind, field, nodes, size}
use Rattle.esterel.specs.Codes.{Codes}
use Rattle.esterel.specs.Sets.{Place, at, places, under, under_left, under_right}
use Rattle.esterel.specs.Table.{postfix}
use Rattle.esterel.specs.Checks.{too_deep, too_many_traps, uncaught, first_node}
use Rattle.esterel.proofs.Reading.{bytes-append}
use Rattle.grammar.specs.Names.{place, has, see}
use Rattle.grammar.specs.Meaning.{signals_from, untrapped, resolve}
use Rattle.grammar.specs.Clipping.{low_bytes, clip}
use Rattle.grammar.proofs.Writing.{see-has, Longer, longer-then, longer-see, longer-signals, place_kept}

pub low-append : (xs ys : List ℕ) → low_bytes (xs ++ ys) ≡ low_bytes xs ++ low_bytes ys
low-append [] ys = refl
low-append (x ∷ xs) ys = ap (λ (l : List ℕ). x % 256 ∷ l) (low-append xs ys)

low-one : (u v : Unary) (p q : Stmt) → low_bytes (postfix p) ≡ postfix q → kind (one u p) % 256 ≡ kind (one v q) → field (one u p) % 256 ≡ field (one v q) → low_bytes (postfix (one u p)) ≡ postfix (one v q)
low-one u v p q e a b =
    let l : low_bytes (postfix p) ++ (kind (one u p) % 256 ∷ field (one u p) % 256 ∷ []) ≡ postfix q ++ (kind (one v q) ∷ field (one v q) ∷ []) = rw (e, a, b) in
    ap (λ (z : List ℕ). low_bytes z) (bytes-append (nodes p) (one u p ∷ [])) ∙ low-append (postfix p) (kind (one u p) ∷ field (one u p) ∷ []) ∙ l ∙ sym (bytes-append (nodes q) (one v q ∷ []))

low-two : (u v : Binary) (p q r s : Stmt) → low_bytes (postfix p) ≡ postfix r → low_bytes (postfix q) ≡ postfix s → kind (two u p q) % 256 ≡ kind (two v r s) → field (two u p q) % 256 ≡ field (two v r s) → low_bytes (postfix (two u p q)) ≡ postfix (two v r s)
low-two u v p q r s e f a b =
    let l : (low_bytes (postfix p) ++ low_bytes (postfix q)) ++ (kind (two u p q) % 256 ∷ field (two u p q) % 256 ∷ []) ≡ (postfix r ++ postfix s) ++ (kind (two v r s) ∷ field (two v r s) ∷ []) = rw (e, f, a, b) in
    ap (λ (z : List ℕ). low_bytes z) (bytes-append (nodes p ++ nodes q) (two u p q ∷ []) ∙ ap (λ (z : List ℕ). z ++ (kind (two u p q) ∷ field (two u p q) ∷ [])) (bytes-append (nodes p) (nodes q)))
    ∙ low-append (postfix p ++ postfix q) (kind (two u p q) ∷ field (two u p q) ∷ [])
    ∙ ap (λ (z : List ℕ). z ++ (kind (two u p q) % 256 ∷ field (two u p q) % 256 ∷ [])) (low-append (postfix p) (postfix q))
    ∙ l
    ∙ sym (bytes-append (nodes r ++ nodes s) (two v r s ∷ []) ∙ ap (λ (z : List ℕ). z ++ (kind (two v r s) ∷ field (two v r s) ∷ [])) (bytes-append (nodes r) (nodes s)))

pub low-postfix : (p : Stmt) → low_bytes (postfix p) ≡ postfix (clip p)
low-postfix (leaf nothing) = refl
low-postfix (leaf pause) = refl
low-postfix (leaf (emit s)) = refl
low-postfix (leaf (exit level)) = refl
low-postfix (one (signal s) p) = low-one (signal s) (signal (s % 256)) p (clip p) (low-postfix p) refl refl
low-postfix (one (suspend s) p) = low-one (suspend s) (suspend (s % 256)) p (clip p) (low-postfix p) refl refl
low-postfix (one loop p) = low-one loop loop p (clip p) (low-postfix p) refl refl
low-postfix (one trap p) = low-one trap trap p (clip p) (low-postfix p) refl refl
low-postfix (two (present s) p q) = low-two (present s) (present (s % 256)) p q (clip p) (clip q) (low-postfix p) (low-postfix q) refl refl
low-postfix (two sequence p q) = low-two sequence sequence p q (clip p) (clip q) (low-postfix p) (low-postfix q) refl refl
low-postfix (two parallel p q) = low-two parallel parallel p q (clip p) (clip q) (low-postfix p) (low-postfix q) refl refl

pub size-clip : (p : Stmt) → size (clip p) ≡ size p
size-clip (leaf nothing) = refl
size-clip (leaf pause) = refl
size-clip (leaf (emit s)) = refl
size-clip (leaf (exit level)) = refl
size-clip (one (signal s) p) = ap suc (size-clip p)
size-clip (one (suspend s) p) = ap suc (size-clip p)
size-clip (one loop p) = ap suc (size-clip p)
size-clip (one trap p) = ap suc (size-clip p)
size-clip (two (present s) p q) = omega (arith, size-clip p, size-clip q)
size-clip (two sequence p q) = omega (arith, size-clip p, size-clip q)
size-clip (two parallel p q) = omega (arith, size-clip p, size-clip q)

-- a test of each place
abbrev tests : (Place → Bool) → List Place → List Bool
tests f [] = []
tests f (x ∷ xs) = f x ∷ tests f xs

tests-append : (f : Place → Bool) (xs ys : List Place) → tests f (xs ++ ys) ≡ tests f xs ++ tests f ys
tests-append f [] ys = refl
tests-append f (x ∷ xs) ys = ap (λ (l : List Bool). f x ∷ l) (tests-append f xs ys)

abbrev first_true : List Bool → ℕ → Option ℕ
first_true [] n = none
first_true (b ∷ bs) n = cond b (some n) (first_true bs (suc n))

first-tests : (f : Place → Bool) (xs : List Place) (n : ℕ) → first_node f xs n ≡ first_true (tests f xs) n
first-tests f [] n = refl
first-tests f (x ∷ xs) n = ap (λ (o : Option ℕ). cond (f x) (some n) o) (first-tests f xs (suc n))

-- a test that looks at no field and no set
abbrev Blind : (Place → Bool) → Type 0
Blind f = (d t : ℕ) (P Q : Codes) (p : Stmt) → f (at d t Q (clip p)) ≡ f (at d t P p)

same-one : (f : Place → Bool) (xs ys : List Place) (a b : Place) → tests f xs ≡ tests f ys → f a ≡ f b → tests f (xs ++ (a ∷ [])) ≡ tests f (ys ++ (b ∷ []))
same-one f xs ys a b e h = let l : tests f xs ++ (f a ∷ []) ≡ tests f ys ++ (f b ∷ []) = rw (e, h) in tests-append f xs (a ∷ []) ∙ l ∙ sym (tests-append f ys (b ∷ []))

same-join : (f : Place → Bool) (xs ys us vs : List Place) → tests f xs ≡ tests f ys → tests f us ≡ tests f vs → tests f (xs ++ us) ≡ tests f (ys ++ vs)
same-join f xs ys us vs e h = let l : tests f xs ++ tests f us ≡ tests f ys ++ tests f vs = rw (e, h) in tests-append f xs us ∙ l ∙ sym (tests-append f ys vs)

module _ (f : Place → Bool) (h : Blind f) where
  same_tests : (p : Stmt) (d t : ℕ) (P Q : Codes) → tests f (places d t Q (clip p)) ≡ tests f (places d t P p)
  same_tests (leaf nothing) d t P Q = ap (λ (b : Bool). b ∷ []) (h d t P Q (leaf nothing))
  same_tests (leaf pause) d t P Q = ap (λ (b : Bool). b ∷ []) (h d t P Q (leaf pause))
  same_tests (leaf (emit s)) d t P Q = ap (λ (b : Bool). b ∷ []) (h d t P Q (leaf (emit s)))
  same_tests (leaf (exit level)) d t P Q = ap (λ (b : Bool). b ∷ []) (h d t P Q (leaf (exit level)))
  same_tests (one (signal s) p) d t P Q = same-one f (places (suc d) t Q (clip p)) (places (suc d) t P p) (at d t Q (clip (one (signal s) p))) (at d t P (one (signal s) p)) (same_tests p (suc d) t P Q) (h d t P Q (one (signal s) p))
  same_tests (one (suspend s) p) d t P Q = same-one f (places (suc d) t Q (clip p)) (places (suc d) t P p) (at d t Q (clip (one (suspend s) p))) (at d t P (one (suspend s) p)) (same_tests p (suc d) t P Q) (h d t P Q (one (suspend s) p))
  same_tests (one loop p) d t P Q = same-one f (places (suc d) t (under loop Q) (clip p)) (places (suc d) t (under loop P) p) (at d t Q (clip (one loop p))) (at d t P (one loop p)) (same_tests p (suc d) t (under loop P) (under loop Q)) (h d t P Q (one loop p))
  same_tests (one trap p) d t P Q = same-one f (places (suc d) (suc t) (under trap Q) (clip p)) (places (suc d) (suc t) (under trap P) p) (at d t Q (clip (one trap p))) (at d t P (one trap p)) (same_tests p (suc d) (suc t) (under trap P) (under trap Q)) (h d t P Q (one trap p))
  same_tests (two (present s) p q) d t P Q = same-one f ((places (suc d) t Q (clip p)) ++ (places (suc d) t Q (clip q))) ((places (suc d) t P p) ++ (places (suc d) t P q)) (at d t Q (clip (two (present s) p q))) (at d t P (two (present s) p q)) (same-join f (places (suc d) t Q (clip p)) (places (suc d) t P p) (places (suc d) t Q (clip q)) (places (suc d) t P q) (same_tests p (suc d) t P Q) (same_tests q (suc d) t P Q)) (h d t P Q (two (present s) p q))
  same_tests (two sequence p q) d t P Q = same-one f ((places (suc d) t (under_left sequence t Q (clip q)) (clip p)) ++ (places (suc d) t (under_right sequence t Q (clip p)) (clip q))) ((places (suc d) t (under_left sequence t P q) p) ++ (places (suc d) t (under_right sequence t P p) q)) (at d t Q (clip (two sequence p q))) (at d t P (two sequence p q)) (same-join f (places (suc d) t (under_left sequence t Q (clip q)) (clip p)) (places (suc d) t (under_left sequence t P q) p) (places (suc d) t (under_right sequence t Q (clip p)) (clip q)) (places (suc d) t (under_right sequence t P p) q) (same_tests p (suc d) t (under_left sequence t P q) (under_left sequence t Q (clip q))) (same_tests q (suc d) t (under_right sequence t P p) (under_right sequence t Q (clip p)))) (h d t P Q (two sequence p q))
  same_tests (two parallel p q) d t P Q = same-one f ((places (suc d) t (under_left parallel t Q (clip q)) (clip p)) ++ (places (suc d) t (under_right parallel t Q (clip p)) (clip q))) ((places (suc d) t (under_left parallel t P q) p) ++ (places (suc d) t (under_right parallel t P p) q)) (at d t Q (clip (two parallel p q))) (at d t P (two parallel p q)) (same-join f (places (suc d) t (under_left parallel t Q (clip q)) (clip p)) (places (suc d) t (under_left parallel t P q) p) (places (suc d) t (under_right parallel t Q (clip p)) (clip q)) (places (suc d) t (under_right parallel t P p) q) (same_tests p (suc d) t (under_left parallel t P q) (under_left parallel t Q (clip q))) (same_tests q (suc d) t (under_right parallel t P p) (under_right parallel t Q (clip p)))) (h d t P Q (two parallel p q))

  pub same_first : (p : Stmt) (d t n : ℕ) (P : Codes) → first_node f (places d t P (clip p)) n ≡ first_node f (places d t P p) n
  same_first p d t n P = first-tests f (places d t P (clip p)) n ∙ ap (λ (l : List Bool). first_true l n) (same_tests p d t P P) ∙ sym (first-tests f (places d t P p) n)

pub deep_blind : Blind too_deep
deep_blind d t P Q p = refl

pub traps_blind : Blind too_many_traps
traps_blind d t P Q (leaf nothing) = refl
traps_blind d t P Q (leaf pause) = refl
traps_blind d t P Q (leaf (emit s)) = refl
traps_blind d t P Q (leaf (exit level)) = refl
traps_blind d t P Q (one (signal s) p) = refl
traps_blind d t P Q (one (suspend s) p) = refl
traps_blind d t P Q (one loop p) = refl
traps_blind d t P Q (one trap p) = refl
traps_blind d t P Q (two (present s) p q) = refl
traps_blind d t P Q (two sequence p q) = refl
traps_blind d t P Q (two parallel p q) = refl

-- no place for which the test holds
abbrev any_of : (Place → Bool) → List Place → Bool
any_of f [] = false
any_of f (x ∷ xs) = f x || any_of f xs

pub none_first : (f : Place → Bool) (xs : List Place) (n : ℕ) → any_of f xs ≡ false → first_node f xs n ≡ none
none_first f [] n e = refl
none_first f (x ∷ xs) n e = go (f x) refl (λ h. none_first f xs (suc n) h)
  where
    go : (b : Bool) → f x ≡ b → (any_of f xs ≡ false → first_node f xs (suc n) ≡ none) → cond (f x) (some n) (first_node f xs (suc n)) ≡ none
    go true z ih = let y : f x || any_of f xs ≡ true = rw z in let w : ◌≡◌ {A = ℕ} 0 1 = cc in absurd (omega arith)
    go false z ih = let y : f x || any_of f xs ≡ any_of f xs = rw z in rw z (ih (sym y ∙ e))

pub first-none : (f : Place → Bool) (xs : List Place) (n : ℕ) → first_node f xs n ≡ none → any_of f xs ≡ false
first-none f [] n e = refl
first-none f (x ∷ xs) n e = go (f x) refl (λ h. first-none f xs (suc n) h)
  where
    go : (b : Bool) → f x ≡ b → (first_node f xs (suc n) ≡ none → any_of f xs ≡ false) → f x || any_of f xs ≡ false
    go true z ih = let y : cond (f x) (some n) (first_node f xs (suc n)) ≡ some n = rw z in let w : ◌≡◌ {A = ℕ} 0 1 = cc in absurd (omega arith)
    go false z ih = let y : cond (f x) (some n) (first_node f xs (suc n)) ≡ first_node f xs (suc n) = rw z in rw z (ih (sym y ∙ e))

or-false : (a b : Bool) → a ≡ false → b ≡ false → a || b ≡ false
or-false a b e f = rw (e, f)

or_left : (a b : Bool) → a || b ≡ false → a ≡ false
or_left true b e = e
or_left false b e = refl

or_right : (a b : Bool) → a || b ≡ false → b ≡ false
or_right true b e = let y : ◌≡◌ {A = ℕ} 0 1 = cc in absurd (omega arith)
or_right false b e = e

any_append : (f : Place → Bool) (xs ys : List Place) → any_of f (xs ++ ys) ≡ any_of f xs || any_of f ys
any_append f [] ys = refl
any_append f (x ∷ xs) ys = go (f x) (any_append f xs ys)
  where
    go : (b : Bool) → any_of f (xs ++ ys) ≡ any_of f xs || any_of f ys → b || any_of f (xs ++ ys) ≡ (b || any_of f xs) || any_of f ys
    go true e = refl
    go false e = e

none-join : (f : Place → Bool) (xs ys : List Place) → any_of f xs ≡ false → any_of f ys ≡ false → any_of f (xs ++ ys) ≡ false
none-join f xs ys a b = any_append f xs ys ∙ or-false (any_of f xs) (any_of f ys) a b

none-parts : (f : Place → Bool) (xs ys : List Place) → any_of f (xs ++ ys) ≡ false → (any_of f xs ≡ false) × (any_of f ys ≡ false)
none-parts f xs ys e = let h : any_of f xs || any_of f ys ≡ false = sym (any_append f xs ys) ∙ e in (or_left (any_of f xs) (any_of f ys) h, or_right (any_of f xs) (any_of f ys) h)

not-false : (b : Bool) → not b ≡ false → b ≡ true
not-false true e = refl
not-false false e = let y : ◌≡◌ {A = ℕ} 0 1 = cc in absurd (omega arith)

pub caught : (fin ts : List Name) (t : Kernel) (d : ℕ) (Q : Codes) → untrapped ts t ≡ false → any_of uncaught (places d (length ts) Q (clip (resolve fin ts t))) ≡ false
caught fin ts (K.leaf T.nothing) d Q e = refl
caught fin ts (K.leaf T.pause) d Q e = refl
caught fin ts (K.leaf (T.emit s)) d Q e = refl
caught fin ts (K.leaf (T.exit t)) d Q e =
    let h : place ts t < length ts = ltb-true (place ts t) (length ts) (not-false (has ts t) e) in
    or-false (leb (length ts) (place ts t % 256)) false (lt-leb (length ts) (place ts t % 256) (omega arith)) refl
caught fin ts (K.one (T.signal s) p) d Q e = none-join uncaught (places (suc d) (length ts) Q (clip (resolve fin ts p))) _ (caught fin ts p (suc d) Q e) refl
caught fin ts (K.one (T.suspend s) p) d Q e = none-join uncaught (places (suc d) (length ts) Q (clip (resolve fin ts p))) _ (caught fin ts p (suc d) Q e) refl
caught fin ts (K.one T.loop p) d Q e = none-join uncaught (places (suc d) (length ts) (under loop Q) (clip (resolve fin ts p))) _ (caught fin ts p (suc d) (under loop Q) e) refl
caught fin ts (K.one (T.trap t) p) d Q e = none-join uncaught (places (suc d) (length (t ∷ ts)) (under trap Q) (clip (resolve fin (t ∷ ts) p))) _ (caught fin (t ∷ ts) p (suc d) (under trap Q) e) refl
caught fin ts (K.two (T.present s) p q) d Q e =
    none-join uncaught ((places (suc d) (length ts) Q (clip (resolve fin ts p))) ++ (places (suc d) (length ts) Q (clip (resolve fin ts q)))) (at d (length ts) Q (two (present (place fin s % 256)) (clip (resolve fin ts p)) (clip (resolve fin ts q))) ∷ [])
    (none-join uncaught (places (suc d) (length ts) Q (clip (resolve fin ts p))) (places (suc d) (length ts) Q (clip (resolve fin ts q))) (caught fin ts p (suc d) Q (or_left (untrapped ts p) (untrapped ts q) e)) (caught fin ts q (suc d) Q (or_right (untrapped ts p) (untrapped ts q) e))) refl
caught fin ts (K.two T.sequence p q) d Q e =
    none-join uncaught ((places (suc d) (length ts) (under_left sequence (length ts) Q (clip (resolve fin ts q))) (clip (resolve fin ts p))) ++ (places (suc d) (length ts) (under_right sequence (length ts) Q (clip (resolve fin ts p))) (clip (resolve fin ts q)))) (at d (length ts) Q (two sequence (clip (resolve fin ts p)) (clip (resolve fin ts q))) ∷ [])
    (none-join uncaught (places (suc d) (length ts) (under_left sequence (length ts) Q (clip (resolve fin ts q))) (clip (resolve fin ts p))) (places (suc d) (length ts) (under_right sequence (length ts) Q (clip (resolve fin ts p))) (clip (resolve fin ts q))) (caught fin ts p (suc d) (under_left sequence (length ts) Q (clip (resolve fin ts q))) (or_left (untrapped ts p) (untrapped ts q) e)) (caught fin ts q (suc d) (under_right sequence (length ts) Q (clip (resolve fin ts p))) (or_right (untrapped ts p) (untrapped ts q) e))) refl
caught fin ts (K.two T.parallel p q) d Q e =
    none-join uncaught ((places (suc d) (length ts) (under_left parallel (length ts) Q (clip (resolve fin ts q))) (clip (resolve fin ts p))) ++ (places (suc d) (length ts) (under_right parallel (length ts) Q (clip (resolve fin ts p))) (clip (resolve fin ts q)))) (at d (length ts) Q (two parallel (clip (resolve fin ts p)) (clip (resolve fin ts q))) ∷ [])
    (none-join uncaught (places (suc d) (length ts) (under_left parallel (length ts) Q (clip (resolve fin ts q))) (clip (resolve fin ts p))) (places (suc d) (length ts) (under_right parallel (length ts) Q (clip (resolve fin ts p))) (clip (resolve fin ts q))) (caught fin ts p (suc d) (under_left parallel (length ts) Q (clip (resolve fin ts q))) (or_left (untrapped ts p) (untrapped ts q) e)) (caught fin ts q (suc d) (under_right parallel (length ts) Q (clip (resolve fin ts p))) (or_right (untrapped ts p) (untrapped ts q) e))) refl

-- where check 9 passes, all fields are bytes
small : (fin : List Name) (s : Name) → length fin ≤ 256 → place fin s < length fin → place fin s % 256 ≡ place fin s
small fin s a b = omega arith

module _ (fin : List Name) (few : length fin ≤ 256) where
  name-small : (ns : List Name) (s : Name) → Longer (see ns s) fin → place fin s % 256 ≡ place fin s
  name-small ns s l = small fin s few (place_kept s (see-has ns s) l).1

  pub clip-same : (ns ts : List Name) (t : Kernel) (d : ℕ) (P : Codes) → Longer (signals_from ns t) fin → untrapped ts t ≡ false → length ts ≤ max_traps → any_of too_many_traps (places d (length ts) P (resolve fin ts t)) ≡ false → clip (resolve fin ts t) ≡ resolve fin ts t
  clip-same ns ts (K.leaf T.nothing) d P l e h k = refl
  clip-same ns ts (K.leaf T.pause) d P l e h k = refl
  clip-same ns ts (K.leaf (T.emit s)) d P l e h k = ap (λ (z : ℕ). leaf (emit z)) (name-small ns s l)
  clip-same ns ts (K.leaf (T.exit t)) d P l e h k =
      let i : place ts t < length ts = ltb-true (place ts t) (length ts) (not-false (has ts t) e) in
      let j : place ts t % 256 ≡ place ts t = omega arith in
      ap (λ (z : ℕ). leaf (exit z)) j
  clip-same ns ts (K.one (T.signal s) p) d P l e h k =
      let a : place fin s % 256 ≡ place fin s = name-small ns s (longer-then (longer-signals p (see ns s)) l) in
      let b : clip (resolve fin ts p) ≡ resolve fin ts p = clip-same (see ns s) ts p (suc d) P l e h (none-parts too_many_traps (places (suc d) (length ts) P (resolve fin ts p)) _ k).0 in
      cc
  clip-same ns ts (K.one (T.suspend s) p) d P l e h k =
      let a : place fin s % 256 ≡ place fin s = name-small (signals_from ns p) s l in
      let b : clip (resolve fin ts p) ≡ resolve fin ts p = clip-same ns ts p (suc d) P (longer-then (longer-see (signals_from ns p) s) l) e h (none-parts too_many_traps (places (suc d) (length ts) P (resolve fin ts p)) _ k).0 in
      cc
  clip-same ns ts (K.one T.loop p) d P l e h k = ap (λ (z : Stmt). one loop z) (clip-same ns ts p (suc d) (under loop P) l e h (none-parts too_many_traps (places (suc d) (length ts) (under loop P) (resolve fin ts p)) _ k).0)
  clip-same ns ts (K.one (T.trap t) p) d P l e h k =
      let i = none-parts too_many_traps (places (suc d) (length (t ∷ ts)) (under trap P) (resolve fin (t ∷ ts) p)) (at d (length ts) P (one trap (resolve fin (t ∷ ts) p)) ∷ []) k in
      let j : suc (length ts) ≤ max_traps = ltb-false max_traps (suc (length ts)) (or_left (ltb max_traps (suc (length ts))) false i.1) in
      ap (λ (z : Stmt). one trap z) (clip-same ns (t ∷ ts) p (suc d) (under trap P) l e j i.0)
  clip-same ns ts (K.two (T.present s) p q) d P l e h k =
      let i = none-parts too_many_traps (places (suc d) (length ts) P (resolve fin ts p) ++ places (suc d) (length ts) P (resolve fin ts q)) _ k in
      let j = none-parts too_many_traps (places (suc d) (length ts) P (resolve fin ts p)) (places (suc d) (length ts) P (resolve fin ts q)) i.0 in
      let m : Longer (signals_from (see ns s) p) fin = longer-then (longer-signals q (signals_from (see ns s) p)) l in
      let a : place fin s % 256 ≡ place fin s = name-small ns s (longer-then (longer-signals p (see ns s)) m) in
      let b : clip (resolve fin ts p) ≡ resolve fin ts p = clip-same (see ns s) ts p (suc d) P m (or_left (untrapped ts p) (untrapped ts q) e) h j.0 in
      let c : clip (resolve fin ts q) ≡ resolve fin ts q = clip-same (signals_from (see ns s) p) ts q (suc d) P l (or_right (untrapped ts p) (untrapped ts q) e) h j.1 in
      cc
  clip-same ns ts (K.two T.sequence p q) d P l e h k =
      let i = none-parts too_many_traps (places (suc d) (length ts) (under_left sequence (length ts) P (resolve fin ts q)) (resolve fin ts p) ++ places (suc d) (length ts) (under_right sequence (length ts) P (resolve fin ts p)) (resolve fin ts q)) _ k in
      let j = none-parts too_many_traps (places (suc d) (length ts) (under_left sequence (length ts) P (resolve fin ts q)) (resolve fin ts p)) (places (suc d) (length ts) (under_right sequence (length ts) P (resolve fin ts p)) (resolve fin ts q)) i.0 in
      let m : Longer (signals_from ns p) fin = longer-then (longer-signals q (signals_from ns p)) l in
      let b : clip (resolve fin ts p) ≡ resolve fin ts p = clip-same ns ts p (suc d) (under_left sequence (length ts) P (resolve fin ts q)) m (or_left (untrapped ts p) (untrapped ts q) e) h j.0 in
      let c : clip (resolve fin ts q) ≡ resolve fin ts q = clip-same (signals_from ns p) ts q (suc d) (under_right sequence (length ts) P (resolve fin ts p)) l (or_right (untrapped ts p) (untrapped ts q) e) h j.1 in
      cc
  clip-same ns ts (K.two T.parallel p q) d P l e h k =
      let i = none-parts too_many_traps (places (suc d) (length ts) (under_left parallel (length ts) P (resolve fin ts q)) (resolve fin ts p) ++ places (suc d) (length ts) (under_right parallel (length ts) P (resolve fin ts p)) (resolve fin ts q)) _ k in
      let j = none-parts too_many_traps (places (suc d) (length ts) (under_left parallel (length ts) P (resolve fin ts q)) (resolve fin ts p)) (places (suc d) (length ts) (under_right parallel (length ts) P (resolve fin ts p)) (resolve fin ts q)) i.0 in
      let m : Longer (signals_from ns p) fin = longer-then (longer-signals q (signals_from ns p)) l in
      let b : clip (resolve fin ts p) ≡ resolve fin ts p = clip-same ns ts p (suc d) (under_left parallel (length ts) P (resolve fin ts q)) m (or_left (untrapped ts p) (untrapped ts q) e) h j.0 in
      let c : clip (resolve fin ts q) ≡ resolve fin ts q = clip-same (signals_from ns p) ts q (suc d) (under_right parallel (length ts) P (resolve fin ts p)) l (or_right (untrapped ts p) (untrapped ts q) e) h j.1 in
      cc
