-- Where a statement's nodes stand in the postorder list.
use mathlib.Core.Path.{◌≡◌, refl}
use mathlib.Core.List.{List}
use Prim.Native.Nat.{ℕ, suc, ◌+◌, ◌-◌, ◌≤◌}
use native.Mathlib.Omega.{arith}
use Rattle.esterel.specs.Statement.{nothing, Stmt, leaf, one, two, size, nodes}
use Rattle.esterel.specs.Outcome.{statement_at}
use Rattle.esterel.proofs.Sizes.{size_pos}
use Rattle.esterel.proofs.Ranges.{Over, over-join, over_last}
use Rattle.esterel.proofs.Postorder.{Part, part-whole, Postorder, part-child, part-first, part-second, part-own}

-- p's nodes stand in ps from n on
abbrev pub Sits : List Stmt → ℕ → Stmt → Type 0
Sits ps n (leaf l) = statement_at ps n ≡ leaf l
Sits ps n (one u p) = Sits ps n p × (statement_at ps (n + size p) ≡ one u p)
Sits ps n (two b p q) = Sits ps n p × Sits ps (n + size p) q × (statement_at ps (n + (size p + size q)) ≡ two b p q)

-- the statements themselves have nothing from their parents
pub in_nodes : Postorder {D = Unit {0}} (λ u d. d) (λ d p. p) (λ d p. nodes p)
in_nodes = record { none = λ d l. refl; single = λ d u p. refl; pair = λ d b p q. refl }

module _ (ps : List Stmt) where
  pub sits : (p : Stmt) (n : ℕ) → Part ps n (nodes p) → Sits ps n p
  sits (leaf l) n c = part-own in_nodes ps (leaf nothing) tt (leaf l) n (omega arith) c
  sits (one u p) n c = (sits p n (part-child in_nodes ps tt u p c), part-own in_nodes ps (leaf nothing) tt (one u p) (n + size p) (omega arith) c)
  sits (two b p q) n c =
      (sits p n (part-first in_nodes ps tt b p q c), sits q (n + size p) (part-second in_nodes ps tt b p q c), part-own in_nodes ps (leaf nothing) tt (two b p q) (n + (size p + size q)) (omega arith) c)

  -- a statement is its last node's
  pub root : (p : Stmt) (n : ℕ) → Sits ps n p → (j : ℕ) → n + size p ≡ suc j → statement_at ps j ≡ p
  root (leaf l) n w j e = let z : j ≡ n = omega arith in rw z w
  root (one u p) n w j e = let z : j ≡ n + size p = omega arith in rw z w.1
  root (two b p q) n w j e = let z : j ≡ n + (size p + size q) = omega arith in rw z w.2

  -- the subtree of each of p's nodes is within p's
  pub within : (p : Stmt) (n : ℕ) → Sits ps n p → Over (λ c. n + size (statement_at ps c) ≤ suc c) n (size p)
  within (leaf l) n w = over_last _ n 0 (λ i lo hi. absurd (omega arith)) (let z : n + 0 ≡ n = omega arith in rw (z, w) (omega arith))
  within (one u p) n w = over_last _ n (size p) (within p n w.0) (rw w.1 (omega arith))
  within (two b p q) n w =
      over_last _ n (size p + size q)
      (over-join _ n (size p) (size q) (within p n w.0) (λ i lo hi. let z = within q (n + size p) w.1 i lo hi in omega arith)) (rw w.2 (omega arith))

-- a program's nodes stand in its own list from 0 on
pub sits-own : (p : Stmt) → Sits (nodes p) 0 p
sits-own p = sits (nodes p) p 0 (part-whole (nodes p))

-- and the last is the program itself
pub last-node : (p : Stmt) → statement_at (nodes p) (size p - 1) ≡ p
last-node p = root (nodes p) p 0 (sits-own p) (size p - 1) (omega (arith, size_pos p))
