-- K is a part of A, and the members of the context sets.
use mathlib.Core.Path.{◌≡◌}
use mathlib.Core.Bool.{true}
use Prim.Native.Nat.{ℕ, zero, suc, ◌+◌, ◌≤◌}
use native.Mathlib.Omega.{arith}
use borrow.Author.Tests.{le-leb}
use Rattle.codes.proofs.Bools.{both, inr_true}
use Rattle.codes.proofs.Members.{meets_in, Within, without-ended-within, caught-within, union-within, sequence-within, larger-within}
use Rattle.esterel.specs.Statement.{nothing, pause, emit, exit, signal, suspend, loop, trap, present, sequence, parallel, Stmt, leaf, one, two}
use Rattle.esterel.specs.Codes.{Codes, only, union, catch_code, under_trap, under_parallel}
use Rattle.esterel.specs.Sets.{codes, start_set, any_instant_set}

-- the more codes a pause has, the more has a statement
module _ (a b : Codes) (more : Within a b) where
  pub codes-more : (p : Stmt) → Within (codes a p) (codes b p)
  codes-more (leaf nothing) = λ k e. e
  codes-more (leaf pause) = more
  codes-more (leaf (exit level)) = λ k e. e
  codes-more (leaf (emit s)) = λ k e. e
  codes-more (two sequence p q) = sequence-within (codes-more p) (codes-more q)
  codes-more (two (present s) p q) = union-within (codes-more p) (codes-more q)
  codes-more (one trap p) = caught-within (codes-more p)
  codes-more (two parallel p q) = larger-within (codes-more p) (codes-more q)
  codes-more (one loop p) = without-ended-within (codes-more p)
  codes-more (one (signal s) p) = codes-more p
  codes-more (one (suspend s) p) = codes-more p

pub start-any : (p : Stmt) (k : ℕ) → start_set p k ≡ true → any_instant_set p k ≡ true
start-any = codes-more (only 1) (union (only 0) (only 1)) (λ k e. inr_true (only 0 k) (only 1 k) e)

-- a trap's body may leave with what the trap turns into a code of P
pub under_trap_in : (P : Codes) (k : ℕ) → P (catch_code k) ≡ true → under_trap P k ≡ true
under_trap_in P zero e = e
under_trap_in P (suc zero) e = e
under_trap_in P (suc (suc zero)) e = e
under_trap_in P (suc (suc (suc k))) e = e

-- a parallel's child may leave with every code up to 1 + t, where P has any
pub under_parallel_in : (t : ℕ) (P : Codes) (j k : ℕ) → j ≤ suc t → k ≤ 63 → P k ≡ true → under_parallel t P j ≡ true
under_parallel_in t P j k h l e = both (le-leb j (1 + t) (omega arith)) (meets_in P P k l e e)
