-- What the recursion over a statement gives is what its starts do; and what it weighs is exact.
use mathlib.Core.Path.{◌≡◌, refl, sym, ap, ◌∙◌}
use mathlib.Core.Bool.{true, false}
use mathlib.Core.Option.{Option, none, some}
use mathlib.Core.List.{List, [], ◌++◌, append-nil}
use Prim.Native.Nat.{ℕ, ◌≤◌, ◌<◌}
use native.Mathlib.Omega.{arith}
use lib.ListN.{length, length-append}
use Rattle.esterel.specs.Statement.{Stmt}
use Rattle.esterel.specs.Sets.{start_set}
use Rattle.esterel.specs.Instant.{Entry, closed, starved, start}
use Rattle.esterel.proofs.Theorems.{exactness}
use Rattle.starts.specs.Ticks.{presents}
use Rattle.starts.specs.Summary.{Starts, starts, Gives, Ran, summary, weighed}
use Rattle.starts.proofs.Related.{related}
use Rattle.starts.proofs.Sound.{Gave, gave, starves, start-gave}
use Rattle.starts.proofs.Complete.{start_comes}
use Rattle.starts.proofs.Exact.{Weighs, Reached, Exact, exact-keeps}

module _ (p : Stmt) (first : ℕ) where
  pub ran : (k : ℕ) (u : List ℕ) (n : ℕ) → Gives p k u n → Ran (start first p) k u n
  ran k u n x =
      let o = start_comes p first k u n x in
      (o.trail, o.held, ap (start first p) (sym (append-nil u)) ∙ o.is [], o.many)

  given : {ans : List ℕ} {k : ℕ} {t : List Entry} {h r : List ℕ} → Gave (Gives p) (presents p) ans (closed k t h r) → (used : List ℕ) × (ans ≡ used ++ r) × (length used ≤ presents p) × Gives p k used (length t)
  given (gave used k t h r e l g) = (used, e, l, g)

  pub taken : (ans : List ℕ) (k : ℕ) (t : List Entry) (h r : List ℕ) → start first p ans ≡ closed k t h r → (used : List ℕ) × (ans ≡ used ++ r) × (length used ≤ presents p) × Gives p k used (length t)
  taken ans k t h r e = given (rw e at (start-gave p first ans))

  pub gives : (k : ℕ) (u : List ℕ) (n : ℕ) → Ran (start first p) k u n → Gives p k u n
  gives k u n (t, h, e, l) =
      let (used, z, b, x) = taken u k t h [] e in
      let w : used ≡ u = sym (z ∙ append-nil used) in
      rw (w, l) at x

  few : (ans : List ℕ) → Gave (Gives p) (presents p) ans starved → length ans < presents p
  few ans (starves l) = l

  pub starved-few : (ans : List ℕ) → start first p ans ≡ starved → length ans < presents p
  starved-few ans e = few ans (rw e at (start-gave p first ans))

-- what is given has at most as many answers as there are presents
pub few-answers : (p : Stmt) (k : ℕ) (u : List ℕ) (n : ℕ) → Gives p k u n → length u ≤ presents p
few-answers p k u n x =
    let (t, h, e, l) = ran p 0 k u n x in
    let (used, z, b, y) = taken p 0 u k t h [] e in
    let w = ap length z ∙ length-append used [] in
    omega arith

-- what is in K a start gives
pub in_gives : (p : Stmt) (k : ℕ) → start_set p k ≡ true → (u : List ℕ) × (n : ℕ) × Gives p k u n
in_gives p k e =
    let (ans, t, h, r, z) = (exactness p 0 k).0 e in
    let (used, y, b, x) = taken p 0 ans k t h r z in
    (used, length t, x)

-- what a start gives is in K
pub in_start : (p : Stmt) (k : ℕ) (u : List ℕ) (n : ℕ) → Gives p k u n → start_set p k ≡ true
in_start p k u n x =
    let (t, h, z, l) = ran p 0 k u n x in
    (exactness p 0 k).1 (u, t, h, [], z)

module _ {A : Type 0} {pick join : A → A → A} {weigh : List ℕ → ℕ → A} {Le : A → A → Type 0} (w : Weighs pick join weigh Le) where
  pub exact : (p : Stmt) (k : ℕ) → Exact weigh Le (summary (weighed pick join weigh) p k) (Gives p k)
  exact p k = related (weighed pick join weigh) starts (Exact weigh Le) (exact-keeps w) p k

  pub reached : {G : Starts} (x : Option A) (y : A) → x ≡ some y → Exact weigh Le x G → Reached weigh Le y G
  reached none y e o = let z : ◌≡◌ {A = ℕ} 0 1 = cc in absurd (omega arith)
  reached (some x) y e o = let z : x ≡ y = cc in rw z at o

  pub there : (G : Starts) (x : Option A) (u : List ℕ) (n : ℕ) → G u n → Exact weigh Le x G → (y : A) × (x ≡ some y)
  there G none u n x o = absurd (o u n x)
  there G (some y) u n x o = (y, refl)

  -- a code that is not in K is not weighed
  pub lacking : (p : Stmt) (k : ℕ) → start_set p k ≡ false → summary (weighed pick join weigh) p k ≡ none
  lacking p k e = go (summary (weighed pick join weigh) p k) (exact p k)
    where
      go : (x : Option A) → Exact weigh Le x (Gives p k) → x ≡ none
      go none o = refl
      go (some x) o =
          let f : start_set p k ≡ true = in_start p k o.used o.many o.is in
          let z : ◌≡◌ {A = ℕ} 0 1 = cc in
          absurd (omega arith)
