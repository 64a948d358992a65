-- A statement whose exits are caught by the traps around it has no code past theirs, and neither has its context.
use Prim.Native.Nat.{ℕ, zero, suc, ◌+◌, ◌≤◌, ◌<◌}
use native.Mathlib.Omega.{arith}
use Rattle.codes.proofs.Members.{only-most, given-most, without-ended-most, union-most, larger-most, caught-most, under-trap-most, under-parallel-most}
use Rattle.esterel.specs.Statement.{nothing, pause, emit, exit, Unary, signal, suspend, loop, trap, Binary, present, sequence, parallel, Stmt, leaf, one, two, traps_under}
use Rattle.esterel.specs.Codes.{Codes, only, union, given, without_ended, catch_code, AtMost}
use Rattle.esterel.specs.Sets.{codes, start_set, any_instant_set, under, under_first, under_left, under_right}

-- every exit in p is caught by one of the t traps around p or by one in p
abbrev pub Exits : ℕ → Stmt → Type 0
Exits t (leaf nothing) = Unit {0}
Exits t (leaf pause) = Unit {0}
Exits t (leaf (emit s)) = Unit {0}
Exits t (leaf (exit level)) = level < t
Exits t (one u p) = Exits (traps_under u t) p
Exits t (two b p q) = Exits t p × Exits t q

-- codes up to 1 + t
abbrev pub Low : ℕ → ℕ → Type 0
Low t k = k ≤ suc t

pub low-catch : (t k : ℕ) → k ≤ suc (suc t) → catch_code k ≤ suc t
low-catch t zero h = omega arith
low-catch t (suc zero) h = omega arith
low-catch t (suc (suc zero)) h = omega arith
low-catch t (suc (suc (suc k))) h = omega arith

-- the codes of a statement are low, where those of a pause are 0 and 1 alone
module _ (paused : Codes) (few : AtMost 1 paused) where
  pub codes-low : (p : Stmt) (t : ℕ) → Exits t p → AtMost (suc t) (codes paused p)
  codes-low (leaf nothing) t x = only-most (suc t) 0 (omega arith)
  codes-low (leaf pause) t x = λ k e. omega (arith, few k e)
  codes-low (leaf (exit level)) t x = only-most (suc t) (2 + level) (omega arith)
  codes-low (leaf (emit s)) t x = only-most (suc t) 0 (omega arith)
  codes-low (two sequence p q) t x =
      union-most (suc t) (without_ended (codes paused p)) (given (codes paused p 0) (codes paused q))
      (without-ended-most (suc t) (codes paused p) (codes-low p t x.0)) (given-most (suc t) (codes paused p 0) (codes paused q) (codes-low q t x.1))
  codes-low (two (present s) p q) t x = union-most (suc t) (codes paused p) (codes paused q) (codes-low p t x.0) (codes-low q t x.1)
  codes-low (one trap p) t x = caught-most t (codes paused p) (codes-low p (suc t) x)
  codes-low (two parallel p q) t x = larger-most (suc t) (codes paused p) (codes paused q) (codes-low p t x.0) (codes-low q t x.1)
  codes-low (one loop p) t x = without-ended-most (suc t) (codes paused p) (codes-low p t x)
  codes-low (one (signal s) p) t x = codes-low p t x
  codes-low (one (suspend s) p) t x = codes-low p t x

-- the codes of a pause in K and in A
pub start-pause : AtMost 1 (only 1)
start-pause = only-most 1 1 (omega arith)

pub any-pause : AtMost 1 (union (only 0) (only 1))
any-pause = union-most 1 (only 0) (only 1) (only-most 1 0 (omega arith)) start-pause

pub start-low : (p : Stmt) (t : ℕ) → Exits t p → AtMost (suc t) (start_set p)
start-low = codes-low (only 1) start-pause

pub any-low : (p : Stmt) (t : ℕ) → Exits t p → AtMost (suc t) (any_instant_set p)
any-low = codes-low (union (only 0) (only 1)) any-pause

-- and so is the context of a child, where its parent's is

pub under_low : (u : Unary) (t : ℕ) (P : Codes) → AtMost (suc t) P → AtMost (suc (traps_under u t)) (under u P)
under_low (signal s) t P l = l
under_low (suspend s) t P l = l
under_low loop t P l = union-most (suc t) P (only 0) l (only-most (suc t) 0 (omega arith))
under_low trap t P l = under-trap-most t P l

pub first-low : (t : ℕ) (P K : Codes) → AtMost (suc t) P → AtMost (suc t) (under_first P K)
first-low t P K l zero e = omega arith
first-low t P K l (suc k) e = l (suc k) e

pub left-low : (b : Binary) (t : ℕ) (P : Codes) (q : Stmt) → AtMost (suc t) P → AtMost (suc t) (under_left b t P q)
left-low (present s) t P q l = l
left-low sequence t P q l = first-low t P (start_set q) l
left-low parallel t P q l = under-parallel-most t P

pub right-low : (b : Binary) (t : ℕ) (P : Codes) (p : Stmt) → AtMost (suc t) P → AtMost (suc t) (under_right b t P p)
right-low (present s) t P p l = l
right-low sequence t P p l = given-most (suc t) (start_set p 0) P l
right-low parallel t P p l = under-parallel-most t P
