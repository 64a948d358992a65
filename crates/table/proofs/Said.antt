-- What a statement's kind says of its children and of checks 9 and 10.
use mathlib.Core.Path.{◌≡◌, refl, ◌∙◌}
use mathlib.Core.Bool.{Bool, true, false, ◌&&◌}
use mathlib.Core.List.{List}
use Prim.Native.Nat.{ℕ, suc, ◌+◌, ◌≤◌}
use native.Mathlib.Omega.{arith}
use lib.ListN.{length}
use lib.Dec.{leb, ltb}
use Rattle.esterel.specs.Limits.{max_traps}
use Rattle.esterel.specs.Statement.{nothing, pause, emit, exit, Unary, signal, suspend, loop, trap, present, sequence, parallel, Stmt, leaf, one, two, kind, field, traps_under, loops_under}
use Rattle.esterel.specs.Codes.{Codes, bit}
use Rattle.esterel.specs.Sets.{at}
use Rattle.esterel.specs.Checks.{too_many_traps, uncaught}
use Rattle.table.specs.Kinds.{kind_of, is_trap, is_loop, is_exit}
use Rattle.table.proofs.Walk.{Waiting, children}
use Rattle.table.proofs.Bytes.{children_of}
use Rattle.table.proofs.Stacks.{Last}

-- the traps and the loops that a statement puts around its children
abbrev pub traps_of : Stmt → ℕ
traps_of (leaf l) = 0
traps_of (one u p) = traps_under u 0
traps_of (two b p q) = 0

abbrev pub loops_of : Stmt → ℕ
loops_of (leaf l) = 0
loops_of (one u p) = loops_under u 0
loops_of (two b p q) = 0

-- a loop has a body
pub loop-body : (s : Stmt) → loops_of s ≤ children_of s
loop-body (leaf l) = omega arith
loop-body (one (signal s) p) = omega arith
loop-body (one (suspend s) p) = omega arith
loop-body (one loop p) = omega arith
loop-body (one trap p) = omega arith
loop-body (two b p q) = omega arith

-- traps and loops: what it says of these; many and loose: of a node that fails check 9 or 10
pub record Said (s : Stmt) : Type 0 where
  pub traps : bit (is_trap (kind_of (kind s))) ≡ traps_of s
  pub loops : bit (is_loop (kind_of (kind s))) ≡ loops_of s
  pub many : (d t : ℕ) (S : Codes) → (is_trap (kind_of (kind s)) && ltb max_traps (suc t)) ≡ too_many_traps (at d t S s)
  pub loose : (d t : ℕ) (S : Codes) → (is_exit (kind_of (kind s)) && leb t (field s)) ≡ uncaught (at d t S s)

pub said : (s : Stmt) → Said s
unfolding kind_of
said (leaf nothing) = record { traps = refl; loops = refl; many = λ d t S. refl; loose = λ d t S. refl }
said (leaf pause) = record { traps = refl; loops = refl; many = λ d t S. refl; loose = λ d t S. refl }
said (leaf (emit s)) = record { traps = refl; loops = refl; many = λ d t S. refl; loose = λ d t S. refl }
said (leaf (exit level)) = record { traps = refl; loops = refl; many = λ d t S. refl; loose = λ d t S. refl }
said (one (signal s) p) = record { traps = refl; loops = refl; many = λ d t S. refl; loose = λ d t S. refl }
said (one (suspend s) p) = record { traps = refl; loops = refl; many = λ d t S. refl; loose = λ d t S. refl }
said (one loop p) = record { traps = refl; loops = refl; many = λ d t S. refl; loose = λ d t S. refl }
said (one trap p) = record { traps = refl; loops = refl; many = λ d t S. refl; loose = λ d t S. refl }
said (two (present s) p q) = record { traps = refl; loops = refl; many = λ d t S. refl; loose = λ d t S. refl }
said (two sequence p q) = record { traps = refl; loops = refl; many = λ d t S. refl; loose = λ d t S. refl }
said (two parallel p q) = record { traps = refl; loops = refl; many = λ d t S. refl; loose = λ d t S. refl }

pub bit-small : (b : Bool) → bit b ≤ 1
bit-small true = omega arith
bit-small false = omega arith

traps-more : (u : Unary) (n : ℕ) → n + traps_under u 0 ≡ traps_under u n
traps-more (signal s) n = omega arith
traps-more (suspend s) n = omega arith
traps-more loop n = omega arith
traps-more trap n = omega arith

loops-more : (u : Unary) (n : ℕ) → n + loops_under u 0 ≡ loops_under u n
loops-more (signal s) n = omega arith
loops-more (suspend s) n = omega arith
loops-more loop n = omega arith
loops-more trap n = omega arith

-- what each child has
module _ (d t l : ℕ) (P : Codes) where
  pub depth_below : (s : Stmt) (v : ℕ) → v ≡ d + 1 → Last (λ c. c.depth) d t l P s v v
  depth_below (leaf x) v e = tt
  depth_below (one u p) v e = omega arith
  depth_below (two b p q) v e = (omega arith, omega arith)

  pub traps-below : (s : Stmt) (v : ℕ) → v ≡ t + traps_of s → Last (λ c. c.traps) d t l P s v v
  traps-below (leaf x) v e = tt
  traps-below (one u p) v e = e ∙ traps-more u t
  traps-below (two b p q) v e = (omega arith, omega arith)

  pub loops-below : (s : Stmt) (v : ℕ) → v ≡ l + loops_of s → Last (λ c. c.loops) d t l P s v v
  loops-below (leaf x) v e = tt
  loops-below (one u p) v e = e ∙ loops-more u l
  loops-below (two b p q) v e = (omega arith, omega arith)

  pub count-below : (s : Stmt) (ws : List Waiting) → length ws + children_of s ≡ length (children d t l P s ws)
  count-below (leaf x) ws = omega arith
  count-below (one u p) ws = omega arith
  count-below (two b p q) ws = omega arith
