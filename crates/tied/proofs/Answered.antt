-- A start under ties is a start by document 01's rules, for some answers: the tied ones are put in.
use mathlib.Core.Path.{◌≡◌, refl, ap, ◌∙◌}
use mathlib.Core.List.{List, [], ◌∷◌}
use Prim.Native.Nat.{ℕ, zero, suc, ◌+◌, max}
use Rattle.esterel.specs.Statement.{nothing, pause, emit, exit, signal, suspend, loop, trap, present, sequence, parallel, Stmt, leaf, one, two, size}
use Rattle.esterel.specs.Instant.{started, Entry, Result, closed, starved, stuck, enter, onto, zeros_then, then_zeros, and_then, beside, body, catch, start}
use Rattle.tied.specs.Ties.{Ties, inside, test, start_tied}
use Rattle.tied.specs.declared.Tie.{Tie}
use Rattle.tied.specs.declared.Tie.TheVariants.{Unknown, Absent, Present}
use Rattle.tied.specs.Theorems.{Answered}

-- where a result is closed, some answers make the run close so, and leave whatever is wanted
data Reached (run : List ℕ → Result) : Result → Type 0 where
  close : (k : ℕ) (t : List Entry) (h r : List ℕ) → ((rest : List ℕ) → (all : List ℕ) × (run all ≡ closed k t h rest)) → Reached run (closed k t h r)
  starve : Reached run starved
  stick : Reached run stuck

module _ {run : List ℕ → Result} where
  enter-reached : {x : Result} (n : ℕ) → Reached run x → Reached (λ a. enter n started (run a)) (enter n started x)
  enter-reached n (close k t h r f) = close k _ _ r (λ rest. let (a, e) = f rest in (a, ap (enter n started) e))
  enter-reached n starve = starve
  enter-reached n stick = stick

  body-reached : {x : Result} → Reached run x → Reached (λ a. body (run a)) (body x)
  body-reached (close zero t h r f) = stick
  body-reached (close (suc k) t h r f) = close (suc k) t h r (λ rest. let (a, e) = f rest in (a, ap body e))
  body-reached starve = starve
  body-reached stick = stick

  catch-reached : {x : Result} → Reached run x → Reached (λ a. catch (run a)) (catch x)
  catch-reached (close zero t h r f) = close 0 t h r (λ rest. let (a, e) = f rest in (a, ap catch e))
  catch-reached (close (suc zero) t h r f) = close 1 t h r (λ rest. let (a, e) = f rest in (a, ap catch e))
  catch-reached (close (suc (suc zero)) t h r f) = close 0 t _ r (λ rest. let (a, e) = f rest in (a, ap catch e))
  catch-reached (close (suc (suc (suc k))) t h r f) = close (suc (suc k)) t h r (λ rest. let (a, e) = f rest in (a, ap catch e))
  catch-reached starve = starve
  catch-reached stick = stick

-- what has run is followed by what the next reaches, from the answers that are left
onto-reached : {next : List ℕ → Result} {y : Result} {whole : List ℕ → Result} (code : ℕ → ℕ) (t : List Entry) (h : List ℕ) → ((b : List ℕ) → (a : List ℕ) × (whole a ≡ onto code t h (next b))) → Reached next y → Reached whole (onto code t h y)
onto-reached code t h f (close k u g r e) =
    close (code k) _ _ r (λ rest. let (b, z) = e rest in let (a, w) = f b in (a, w ∙ ap (onto code t h) z))
onto-reached code t h f starve = starve
onto-reached code t h f stick = stick

-- two parts of a start
module _ {run next : List ℕ → Result} {then : List ℕ → Result} (g : (r : List ℕ) → Reached next (then r)) where
  then-reached : {x : Result} (n : ℕ) → Reached run x → Reached (λ a. and_then (run a) n next) (and_then x n then)
  then-reached n (close zero t h r f) = onto-reached (λ l. l) t h (λ b. let (a, e) = f b in (a, ap (λ x. and_then x n next) e)) (g r)
  then-reached n (close (suc k) t h r f) = close (suc k) t _ r (λ rest. let (a, e) = f rest in (a, ap (λ x. and_then x n next) e))
  then-reached n starve = starve
  then-reached n stick = stick

  beside-reached : {x : Result} → Reached run x → Reached (λ a. beside (run a) next) (beside x then)
  beside-reached (close k t h r f) = onto-reached (max k) t h (λ b. let (a, e) = f b in (a, ap (λ x. beside x next) e)) (g r)
  beside-reached starve = starve
  beside-reached stick = stick

-- a test: the tied answer is put in before those of the branch
module _ (n s : ℕ) (p q : Stmt) where
  then-branch : {x : Result} → Reached (start n p) x → Reached (start n (two (present s) p q)) (enter (n + (size p + size q)) started (then_zeros x (size q)))
  then-branch (close k t h r f) = close k _ _ r (λ rest. let (a, e) = f rest in (1 ∷ a, ap (λ x. enter (n + (size p + size q)) started (then_zeros x (size q))) e))
  then-branch starve = starve
  then-branch stick = stick

  else_branch_lem : {x : Result} → Reached (start (n + size p) q) x → Reached (start n (two (present s) p q)) (enter (n + (size p + size q)) started (zeros_then (size p) x))
  else_branch_lem (close k t h r f) = close k _ _ r (λ rest. let (a, e) = f rest in (0 ∷ a, ap (λ x. enter (n + (size p + size q)) started (zeros_then (size p) x)) e))
  else_branch_lem starve = starve
  else_branch_lem stick = stick

  module _ {then other : List ℕ → Result} (first : (r : List ℕ) → Reached (start n p) (then r)) (last : (r : List ℕ) → Reached (start (n + size p) q) (other r)) where
    test-reached : (t : Tie) (ans : List ℕ) → Reached (start n (two (present s) p q)) (test t (λ r. enter (n + (size p + size q)) started (then_zeros (then r) (size q))) (λ r. enter (n + (size p + size q)) started (zeros_then (size p) (other r))) ans)
    test-reached Unknown [] = starve
    test-reached Unknown (suc a ∷ ans) = then-branch (first ans)
    test-reached Unknown (zero ∷ ans) = else_branch_lem (last ans)
    test-reached Absent ans = else_branch_lem (last ans)
    test-reached Present ans = then-branch (first ans)

reached : (c : Ties) (p : Stmt) (n : ℕ) (ans : List ℕ) → Reached (start n p) (start_tied c n p ans)
reached c (leaf nothing) n ans = close 0 _ _ ans (λ rest. (rest, refl))
reached c (leaf pause) n ans = close 1 _ _ ans (λ rest. (rest, refl))
reached c (leaf (exit level)) n ans = close (2 + level) _ _ ans (λ rest. (rest, refl))
reached c (leaf (emit s)) n ans = close 0 _ _ ans (λ rest. (rest, refl))
reached c (two sequence p q) n ans = enter-reached _ (then-reached (λ r. reached c q (n + size p) r) (size q) (reached c p n ans))
reached c (two (present s) p q) n ans = test-reached n s p q (λ r. reached c p n r) (λ r. reached c q (n + size p) r) (c s) ans
reached c (one trap p) n ans = enter-reached _ (catch-reached (reached c p n ans))
reached c (two parallel p q) n ans = enter-reached _ (beside-reached (λ r. reached c q (n + size p) r) (reached c p n ans))
reached c (one loop p) n ans = enter-reached _ (body-reached (reached c p n ans))
reached c (one (signal s) p) n ans = enter-reached _ (reached (inside s c) p n ans)
reached c (one (suspend s) p) n ans = enter-reached _ (reached c p n ans)

pub answered : Answered
answered c p first answers k trail held rest e = go (reached c p first answers) e
  where
    go : {x : Result} → Reached (start first p) x → x ≡ closed k trail held rest → (all : List ℕ) × (start first p all ≡ closed k trail held rest)
    go (close l t h r f) z = let (all, y) = f r in (all, y ∙ z)
    go starve z = (answers, cc)
    go stick z = (answers, cc)
