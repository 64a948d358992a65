-- What is known at a node of an accepted table: what a start or a resumption of it keeps.
use mathlib.Core.Path.{◌≡◌}
use mathlib.Core.Bool.{true}
use mathlib.Core.List.{List}
use Prim.Native.Nat.{ℕ, suc, zero, ◌+◌, ◌*◌, ◌<◌, ◌≤◌}
use native.Mathlib.Nat.{max-le, mul-le-mul}
use native.Mathlib.Omega.{arith}
use Rattle.esterel.specs.Statement.{nothing, pause, emit, exit, Unary, signal, suspend, loop, trap, Stmt, leaf, one, two, size, nodes, traps_under, loops_under, loop_depth}
use Rattle.esterel.specs.Sets.{start_set}
use Rattle.esterel.specs.Checks.{planned}
use Rattle.esterel.specs.Instant.{Result, start, resume, admitted}
use Rattle.esterel.specs.Theorems.{Accepted}
use Rattle.esterel.proofs.Sizes.{load, load-planned}
use Rattle.esterel.proofs.Held.{Fits, fits-length}
use Rattle.esterel.proofs.Nodes.{Sits, sits}
use Rattle.esterel.proofs.Run.{Run, ran, asked, no_rule}
use Rattle.esterel.proofs.Start.{In, start-run}
use Rattle.esterel.proofs.Low.{Exits, Low}
use Rattle.esterel.proofs.Resume.{resume-run}
use Rattle.esterel.proofs.Admitted.{admitted-fits, admitted-holds}
use Rattle.esterel.proofs.Accepted.{ends-not, accepted-read}
use Rattle.esterel.proofs.Subtrees.{subtrees}
use Rattle.table.specs.Program.{program_of, Readable}
use Rattle.instant.specs.Run.{stmt_at, first_at, Runnable}
use Rattle.instant.proofs.Algebra.{Sized, Few, Quiet}

-- enough traps around a statement catch all its exits
more-traps : (u : Unary) (a b : ℕ) → a ≤ b → traps_under u a ≤ traps_under u b
more-traps (signal s) a b le = le
more-traps (suspend s) a b le = le
more-traps loop a b le = le
more-traps trap a b le = omega arith

exits-more : (p : Stmt) (a b : ℕ) → a ≤ b → Exits a p → Exits b p
exits-more (leaf nothing) a b le x = tt
exits-more (leaf pause) a b le x = tt
exits-more (leaf (emit s)) a b le x = tt
exits-more (leaf (exit level)) a b le x = omega arith
exits-more (one u p) a b le x = exits-more p (traps_under u a) (traps_under u b) (more-traps u a b le) x
exits-more (two c p q) a b le x = (exits-more p a b le x.0, exits-more q a b le x.1)

exits-enough : (p : Stmt) → (a : ℕ) × Exits a p
exits-enough (leaf nothing) = (0, tt)
exits-enough (leaf pause) = (0, tt)
exits-enough (leaf (emit s)) = (0, tt)
exits-enough (leaf (exit level)) = (suc level, omega arith)
exits-enough (one u p) = let (a, x) = exits-enough p in (a, exits-more p a (traps_under u a) (under u a) x)
  where
    under : (u : Unary) (a : ℕ) → a ≤ traps_under u a
    under (signal s) a = omega arith
    under (suspend s) a = omega arith
    under loop a = omega arith
    under trap a = omega arith
exits-enough (two c p q) =
    let (a, x) = exits-enough p in
    let (b, y) = exits-enough q in
    (a + b, (exits-more p a (a + b) (omega arith) x, exits-more q b (a + b) (omega arith) y))

-- the entries of a resumption
depth_le : (p : Stmt) → loop_depth p ≤ size p
depth_le (leaf l) = omega arith
depth_le (one u p) = omega (arith, under u (loop_depth p), depth_le p)
  where
    under : (u : Unary) (n : ℕ) → loops_under u n ≤ suc n
    under (signal s) n = omega arith
    under (suspend s) n = omega arith
    under loop n = omega arith
    under trap n = omega arith
depth_le (two c p q) = max-le (omega (arith, depth_le p)) (omega (arith, depth_le q))

pub load_le : (p : Stmt) (n : ℕ) → size p ≤ n → load p ≤ n * suc n
load_le p n le =
    let less : planned p ≤ n * suc n = mul-le-mul {n₁ = size p} {m₁ = 1 + loop_depth p} {n₂ = n} {m₂ = suc n} le (omega (arith, depth_le p)) in
    omega (arith, load-planned p)

module _ {ps : List Stmt} {p : Stmt} {C : ℕ → Type 0} {L : ℕ} {ans : List ℕ} where
  run-sized : {x : Result} → Run ps ⊥ (Fits p) C L ans x → Sized (size p) x
  run-sized (ran k u h r o) = fits-length o.fit
  run-sized (asked o) = tt
  run-sized (no_rule o) = o

  run_quiet : {x : Result} → Run ps ⊥ (Fits p) C L ans x → Quiet x
  run_quiet (ran zero u h r o) = o.shown
  run_quiet (ran (suc k) u h r o) = tt
  run_quiet (asked o) = tt
  run_quiet (no_rule o) = o

  run-few : {x : Result} → Run ps ⊥ (Fits p) C L ans x → Few L x
  run-few (ran k u h r o) = o.short
  run-few (asked o) = tt
  run-few (no_rule o) = o

module _ {t : List ℕ} (ok : Runnable t) where
  pub fine : Readable t
  fine = record { reads = (accepted-read t (program_of t) ok.accepted).0 }

  pub accepted : Accepted (program_of t)
  accepted = (accepted-read t (program_of t) ok.accepted).1

  module _ (j : ℕ) (h : j < size (program_of t)) where
    sits-at : Sits (nodes (program_of t)) (first_at t j) (stmt_at t j)
    sits-at =
        let (pre, post, is, len) = subtrees.piece (program_of t) j h in
        sits (nodes (program_of t)) (stmt_at t j) (first_at t j) record { pre = pre; post = post; is = is; at = omega arith }

    -- a start of it never is without a rule
    starts : (ans : List ℕ) → Run (nodes (program_of t)) ⊥ (Fits (stmt_at t j)) (In (start_set (stmt_at t j))) (size (stmt_at t j)) ans (start (first_at t j) (stmt_at t j) ans)
    starts ans = start-run (nodes (program_of t)) ⊥ (ends-not (program_of t) accepted) (stmt_at t j) (first_at t j) ans sits-at

    pub start-sized : (ans : List ℕ) → Sized (size (stmt_at t j)) (start (first_at t j) (stmt_at t j) ans)
    start-sized ans = run-sized (starts ans)

    pub start-few : (ans : List ℕ) → Few (size (stmt_at t j)) (start (first_at t j) (stmt_at t j) ans)
    start-few ans = run-few (starts ans)

    -- nor is a resumption of what is admitted
    module _ (bytes : List ℕ) (a : admitted (stmt_at t j) bytes ≡ true) (ans : List ℕ) where
      resumes : (x : ℕ) → Exits x (stmt_at t j) → Run (nodes (program_of t)) ⊥ (Fits (stmt_at t j)) (Low x) (load (stmt_at t j)) ans (resume (first_at t j) (stmt_at t j) bytes ans)
      resumes x e = resume-run (nodes (program_of t)) ⊥ (ends-not (program_of t) accepted) (stmt_at t j) (first_at t j) x bytes ans sits-at e (admitted-fits (stmt_at t j) bytes a) (admitted-holds (stmt_at t j) bytes a)

      pub resume-sized : Sized (size (stmt_at t j)) (resume (first_at t j) (stmt_at t j) bytes ans)
      resume-sized = let (x, e) = exits-enough (stmt_at t j) in run-sized (resumes x e)

      pub resume-few : Few (load (stmt_at t j)) (resume (first_at t j) (stmt_at t j) bytes ans)
      resume-few = let (x, e) = exits-enough (stmt_at t j) in run-few (resumes x e)

      pub resume_quiet : Quiet (resume (first_at t j) (stmt_at t j) bytes ans)
      resume_quiet = let (x, e) = exits-enough (stmt_at t j) in run_quiet (resumes x e)
