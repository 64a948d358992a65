-- A start under ties is a start of the statement whose tied tests are replaced by the branch that they take.
use mathlib.Core.Path.{◌≡◌, refl, ap, ap₂, ◌∙◌, fun_ext}
use mathlib.Core.List.{List, [], ◌∷◌}
use Prim.Native.Nat.{ℕ, zero, suc, ◌+◌}
use Rattle.esterel.specs.Codes.{Codes, union, given, without_ended, larger, caught}
use Rattle.esterel.specs.Statement.{nothing, pause, emit, exit, signal, suspend, loop, trap, present, sequence, parallel, Stmt, leaf, one, two, size}
use Rattle.esterel.specs.Sets.{start_set}
use Rattle.esterel.specs.Instant.{started, Entry, entry, Result, zeros, single, enter, onto, zeros_then, then_zeros, and_then, beside, body, catch, start}
use Rattle.tied.specs.Ties.{Ties, inside, test, start_tied, by_tie}
use Rattle.tied.specs.declared.Tie.{Tie}
use Rattle.tied.specs.declared.Tie.TheVariants.{Unknown, Absent, Present}
use Rattle.tied.specs.Narrowed.{tested, narrowed, ties_under}
use Rattle.tied.specs.Theorems.{replaced, Alike, close, starve, stick}
use Rattle.tied.proofs.Spots.{under_stays}

-- ---- the sets

tested_as : (t : Tie) (a b : Codes) (w p q : Stmt) → a ≡ start_set p → b ≡ start_set q → union a b ≡ start_set w → tested t a b ≡ start_set (by_tie t w q p)
tested_as Unknown a b w p q ea eb e = e
tested_as Absent a b w p q ea eb e = eb
tested_as Present a b w p q ea eb e = ea

pub narrowed_as : (c : Ties) (p : Stmt) → narrowed c p ≡ start_set (replaced c p)
narrowed_as c (leaf nothing) = refl
narrowed_as c (leaf pause) = refl
narrowed_as c (leaf (exit level)) = refl
narrowed_as c (leaf (emit s)) = refl
narrowed_as c (two sequence p q) = ap₂ (λ a b. union (without_ended a) (given (a 0) b)) (narrowed_as c p) (narrowed_as c q)
narrowed_as c (two (present s) p q) =
    tested_as (c s) (narrowed c p) (narrowed c q) (two (present s) (replaced c p) (replaced c q)) (replaced c p) (replaced c q) (narrowed_as c p) (narrowed_as c q) (ap₂ union (narrowed_as c p) (narrowed_as c q))
narrowed_as c (one trap p) = ap caught (narrowed_as c p)
narrowed_as c (two parallel p q) = ap₂ larger (narrowed_as c p) (narrowed_as c q)
narrowed_as c (one loop p) = ap without_ended (narrowed_as c p)
narrowed_as c (one (signal s) p) = narrowed_as (inside s c) p
narrowed_as c (one (suspend s) p) = narrowed_as c p

-- where nothing is known, none is replaced
pub none-replaced : (c : Ties) → ((s : ℕ) → c s ≡ Unknown) → (p : Stmt) → replaced c p ≡ p
none-replaced c o (leaf l) = refl
none-replaced c o (one u p) = ap (one u) (none-replaced (ties_under u c) (λ s. under_stays u c s (o s)) p)
none-replaced c o (two (present s) p q) =
    ap (λ t. by_tie t (two (present s) (replaced c p) (replaced c q)) (replaced c q) (replaced c p)) (o s) ∙ ap₂ (two (present s)) (none-replaced c o p) (none-replaced c o q)
none-replaced c o (two sequence p q) = ap₂ (two sequence) (none-replaced c o p) (none-replaced c o q)
none-replaced c o (two parallel p q) = ap₂ (two parallel) (none-replaced c o p) (none-replaced c o q)

-- ---- the starts: each part of a rule keeps them alike

leaf-alike : (n m k b : ℕ) (ans : List ℕ) → Alike (single n started k b ans) (single m started k b ans)
leaf-alike n m k b ans = close k (entry n started k ∷ []) (entry m started k ∷ []) (b ∷ []) (b ∷ []) ans

enter-alike : {x y : Result} (n m : ℕ) → Alike x y → Alike (enter n started x) (enter m started y)
enter-alike n m (close k t u h g r) = close k _ _ _ _ r
enter-alike n m starve = starve
enter-alike n m stick = stick

-- a tied test is entered, and the branch in its place is not
enter-left : {x y : Result} (n : ℕ) → Alike x y → Alike (enter n started x) y
enter-left n (close k t u h g r) = close k _ u _ g r
enter-left n starve = starve
enter-left n stick = stick

onto-alike : {x y : Result} (code : ℕ → ℕ) (t u : List Entry) (h g : List ℕ) → Alike x y → Alike (onto code t h x) (onto code u g y)
onto-alike code t u h g (close k v w f e r) = close (code k) _ _ _ _ r
onto-alike code t u h g starve = starve
onto-alike code t u h g stick = stick

zeros-alike : {x y : Result} (n m : ℕ) → Alike x y → Alike (zeros_then n x) (zeros_then m y)
zeros-alike n m o = onto-alike (λ l. l) [] [] (zeros n) (zeros m) o

zeros-left : {x y : Result} (n : ℕ) → Alike x y → Alike (zeros_then n x) y
zeros-left n (close k t u h g r) = close k t u _ g r
zeros-left n starve = starve
zeros-left n stick = stick

alike-zeros : {x y : Result} (n m : ℕ) → Alike x y → Alike (then_zeros x n) (then_zeros y m)
alike-zeros n m (close k t u h g r) = close k t u _ _ r
alike-zeros n m starve = starve
alike-zeros n m stick = stick

left-zeros : {x y : Result} (n : ℕ) → Alike x y → Alike (then_zeros x n) y
left-zeros n (close k t u h g r) = close k t u _ g r
left-zeros n starve = starve
left-zeros n stick = stick

body_alike : {x y : Result} → Alike x y → Alike (body x) (body y)
body_alike (close zero t u h g r) = stick
body_alike (close (suc k) t u h g r) = close (suc k) t u h g r
body_alike starve = starve
body_alike stick = stick

catch-alike : {x y : Result} → Alike x y → Alike (catch x) (catch y)
catch-alike (close zero t u h g r) = close 0 t u h g r
catch-alike (close (suc zero) t u h g r) = close 1 t u h g r
catch-alike (close (suc (suc zero)) t u h g r) = close 0 t u _ _ r
catch-alike (close (suc (suc (suc k))) t u h g r) = close (suc (suc k)) t u h g r
catch-alike starve = starve
catch-alike stick = stick

module _ {next next' : List ℕ → Result} (go : (r : List ℕ) → Alike (next r) (next' r)) where
  then-alike : {x y : Result} (n m : ℕ) → Alike x y → Alike (and_then x n next) (and_then y m next')
  then-alike n m (close zero t u h g r) = onto-alike (λ l. l) t u h g (go r)
  then-alike n m (close (suc k) t u h g r) = close (suc k) t u _ _ r
  then-alike n m starve = starve
  then-alike n m stick = stick

  beside-alike : {x y : Result} → Alike x y → Alike (beside x next) (beside y next')
  beside-alike (close k t u h g r) = onto-alike _ t u h g (go r)
  beside-alike starve = starve
  beside-alike stick = stick

-- a test, from its branches, for any answers
module _ (n m s : ℕ) (p q p' q' : Stmt) {then other : List ℕ → Result} (first : (k : ℕ) (r : List ℕ) → Alike (then r) (start k p' r)) (last : (k : ℕ) (r : List ℕ) → Alike (other r) (start k q' r)) where
  test-alike : (t : Tie) (ans : List ℕ) → Alike (test t (λ r. enter (n + (size p + size q)) started (then_zeros (then r) (size q))) (λ r. enter (n + (size p + size q)) started (zeros_then (size p) (other r))) ans) (start m (by_tie t (two (present s) p' q') q' p') ans)
  test-alike Unknown [] = starve
  test-alike Unknown (suc a ∷ ans) = enter-alike _ _ (alike-zeros (size q) (size q') (first m ans))
  test-alike Unknown (zero ∷ ans) = enter-alike _ _ (zeros-alike (size p) (size p') (last (m + size p') ans))
  test-alike Absent ans = enter-left _ (zeros-left (size p) (last m ans))
  test-alike Present ans = enter-left _ (left-zeros (size q) (first m ans))

pub start-alike : (c : Ties) (p : Stmt) (n m : ℕ) (ans : List ℕ) → Alike (start_tied c n p ans) (start m (replaced c p) ans)
start-alike c (leaf nothing) n m ans = leaf-alike n m 0 0 ans
start-alike c (leaf pause) n m ans = leaf-alike n m 1 1 ans
start-alike c (leaf (exit level)) n m ans = leaf-alike n m (2 + level) 0 ans
start-alike c (leaf (emit s)) n m ans = leaf-alike n m 0 0 ans
start-alike c (two sequence p q) n m ans =
    enter-alike _ _ (then-alike (λ r. start-alike c q (n + size p) (m + size (replaced c p)) r) (size q) (size (replaced c q)) (start-alike c p n m ans))
start-alike c (two (present s) p q) n m ans =
    test-alike n m s p q (replaced c p) (replaced c q) (λ k r. start-alike c p n k r) (λ k r. start-alike c q (n + size p) k r) (c s) ans
start-alike c (one trap p) n m ans = enter-alike _ _ (catch-alike (start-alike c p n m ans))
start-alike c (two parallel p q) n m ans =
    enter-alike _ _ (beside-alike (λ r. start-alike c q (n + size p) (m + size (replaced c p)) r) (start-alike c p n m ans))
start-alike c (one loop p) n m ans = enter-alike _ _ (body_alike (start-alike c p n m ans))
start-alike c (one (signal s) p) n m ans = enter-alike _ _ (start-alike (inside s c) p n m ans)
start-alike c (one (suspend s) p) n m ans = enter-alike _ _ (start-alike c p n m ans)

-- ---- where nothing is known, the start is that of document 01

module _ (n : ℕ) (s : ℕ) (p q : Stmt) {then other : List ℕ → Result} (first : (r : List ℕ) → then r ≡ start n p r) (last : (r : List ℕ) → other r ≡ start (n + size p) q r) where
  test_untied : (ans : List ℕ) → test Unknown (λ r. enter (n + (size p + size q)) started (then_zeros (then r) (size q))) (λ r. enter (n + (size p + size q)) started (zeros_then (size p) (other r))) ans ≡ start n (two (present s) p q) ans
  test_untied [] = refl
  test_untied (suc a ∷ ans) = ap (λ x. enter (n + (size p + size q)) started (then_zeros x (size q))) (first ans)
  test_untied (zero ∷ ans) = ap (λ x. enter (n + (size p + size q)) started (zeros_then (size p) x)) (last ans)

pub start_untied : (c : Ties) → ((s : ℕ) → c s ≡ Unknown) → (p : Stmt) (n : ℕ) (ans : List ℕ) → start_tied c n p ans ≡ start n p ans
start_untied c o (leaf nothing) n ans = refl
start_untied c o (leaf pause) n ans = refl
start_untied c o (leaf (exit level)) n ans = refl
start_untied c o (leaf (emit s)) n ans = refl
start_untied c o (two sequence p q) n ans =
    ap₂ (λ x f. enter (n + (size p + size q)) started (and_then x (size q) f)) (start_untied c o p n ans) (fun_ext (λ r. start_untied c o q (n + size p) r))
start_untied c o (two (present s) p q) n ans =
    ap (λ t. test t (λ r. enter (n + (size p + size q)) started (then_zeros (start_tied c n p r) (size q))) (λ r. enter (n + (size p + size q)) started (zeros_then (size p) (start_tied c (n + size p) q r))) ans) (o s)
    ∙ test_untied n s p q (start_untied c o p n) (start_untied c o q (n + size p)) ans
start_untied c o (one trap p) n ans = ap (λ x. enter (n + size p) started (catch x)) (start_untied c o p n ans)
start_untied c o (two parallel p q) n ans =
    ap₂ (λ x f. enter (n + (size p + size q)) started (beside x f)) (start_untied c o p n ans) (fun_ext (λ r. start_untied c o q (n + size p) r))
start_untied c o (one loop p) n ans = ap (λ x. enter (n + size p) started (body x)) (start_untied c o p n ans)
start_untied c o (one (signal s) p) n ans = ap (enter (n + size p) started) (start_untied (inside s c) (λ x. under_stays (signal s) c x (o x)) p n ans)
start_untied c o (one (suspend s) p) n ans = ap (enter (n + size p) started) (start_untied c o p n ans)
