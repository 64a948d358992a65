-- Code 1 passes down: where it is in S of a node, it is in S of what a start of that node may enter beneath it.
use mathlib.Core.Path.{◌≡◌}
use mathlib.Core.Bool.{true}
use Prim.Native.Nat.{ℕ, suc, ◌+◌, ◌≤◌}
use native.Mathlib.Omega.{arith}
use Rattle.codes.proofs.Bools.{both, inl_true}
use Rattle.esterel.specs.Statement.{Unary, signal, suspend, loop, trap, Binary, present, sequence, parallel, Stmt, leaf, one, two, size, nodes}
use Rattle.esterel.specs.Codes.{Codes, only}
use Rattle.esterel.specs.Sets.{at, context_of, places_of, place_at, under, under_left, under_right}
use Rattle.esterel.specs.Reentry.{Beneath}
use Rattle.esterel.proofs.Nodes.{Sits, within}
use Rattle.esterel.proofs.Ranges.{Over, over-join, over_last}
use Rattle.esterel.proofs.Reentry.Contexts.{under_trap_in, under_parallel_in}
use Rattle.esterel.proofs.Reentry.Places.{Placed}
use Rattle.esterel.proofs.Reentry.Seen.{Opens, Live}

in_under : (u : Unary) (P : Codes) → P 1 ≡ true → under u P 1 ≡ true
in_under (signal s) P e = e
in_under (suspend s) P e = e
in_under loop P e = inl_true (P 1) (only 0 1) e
in_under trap P e = under_trap_in P 1 e

in_left : (b : Binary) (t : ℕ) (P : Codes) (q : Stmt) → P 1 ≡ true → under_left b t P q 1 ≡ true
in_left (present s) t P q e = e
in_left sequence t P q e = e
in_left parallel t P q e = under_parallel_in t P 1 1 (omega arith) (omega arith) e

in_right : (b : Binary) (t : ℕ) (P : Codes) (p : Stmt) → Opens b p → P 1 ≡ true → under_right b t P p 1 ≡ true
in_right (present s) t P p o e = e
in_right sequence t P p o e = both o e
in_right parallel t P p o e = under_parallel_in t P 1 1 (omega arith) (omega arith) e

module _ (p₀ : Stmt) where
  -- S of node i has 1
  abbrev pub PausedIn : ℕ → Type 0
  PausedIn i = context_of (place_at p₀ i) 1 ≡ true

  own-context : (w : Stmt) (n d t : ℕ) (P : Codes) → place_at p₀ n ≡ at d t P w → P 1 ≡ true → PausedIn n
  own-context w n d t P e c = rw e c

  -- from a statement to each of its nodes
  down : (p : Stmt) (n d t : ℕ) (P : Codes) → Placed (places_of p₀) n d t P p → P 1 ≡ true → Over (λ i. Live n p i → PausedIn i) n (size p)
  down (leaf l) n d t P w c = over_last _ n 0 (λ i lo hi. absurd (omega arith)) (λ _. let z : n + 0 ≡ n = omega arith in rw z (own-context (leaf l) n d t P w c))
  down (one u p) n d t P w c =
      over_last _ n (size p) (λ i lo hi v. down p n _ _ (under u P) w.0 (in_under u P c) i lo hi (v hi)) (λ _. own-context (one u p) (n + size p) d t P w.1 c)
  down (two b p q) n d t P w c =
      over_last _ n (size p + size q)
      (over-join _ n (size p) (size q) (λ i lo hi v. down p n _ _ (under_left b t P q) w.0 (in_left b t P q c) i lo hi (v.0 hi))
      (λ i lo hi v.
      let o = v.1 lo (omega arith) in
      down q (n + size p) _ _ (under_right b t P p) w.1 (in_right b t P p o.0 c) i lo hi o.1))
      (λ _. own-context (two b p q) (n + (size p + size q)) d t P w.2 c)

  -- from a node c around node i
  module _ (i : ℕ) where
    abbrev Passes : ℕ → Stmt → ℕ → Type 0
    Passes n p c = Beneath p₀ c i → Live n p i → n ≤ i → PausedIn c → PausedIn i

    top-passes : (p : Stmt) (n d t : ℕ) (P : Codes) (c : ℕ) → suc c ≡ n + size p → place_at p₀ c ≡ at d t P p → Placed (places_of p₀) n d t P p → Passes n p c
    top-passes p n d t P c z own w y v lo e = down p n d t P w (rw own at e) i lo (omega (arith, y.0)) v

    pub passes : (p : Stmt) (n d t : ℕ) (P : Codes) → Sits (nodes p₀) n p → Placed (places_of p₀) n d t P p → Over (Passes n p) n (size p)
    passes (leaf l) n d t P s w = λ c lo hi y v le e. absurd (omega (arith, y.0))
    passes (one u p) n d t P s w =
        over_last (Passes n (one u p)) n (size p) (λ c lo hi y v le e. passes p n _ _ (under u P) s.0 w.0 c lo hi y (v (omega (arith, y.0))) le e)
        (top-passes (one u p) n d t P (n + size p) (omega arith) w.1 w)
    passes (two b p q) n d t P s w =
        over_last (Passes n (two b p q)) n (size p + size q)
        (over-join (Passes n (two b p q)) n (size p) (size q)
        (λ c lo hi y v le e. passes p n _ _ (under_left b t P q) s.0 w.0 c lo hi y (v.0 (omega (arith, y.0))) le e)
        (λ c lo hi y v le e.
        let low : n + size p ≤ i = omega (arith, within (nodes p₀) q (n + size p) s.1 c lo hi, y.1) in
        passes q (n + size p) _ _ (under_right b t P p) s.1 w.1 c lo hi y (v.1 low (omega (arith, y.0))).1 low e))
        (top-passes (two b p q) n d t P (n + (size p + size q)) (omega arith) w.2 w)
