-- What a resumption keeps, for every statement whose exits are caught and bytes that fit it and hold a pause.
use mathlib.Core.Path.{◌≡◌, refl}
use mathlib.Core.Bool.{true, false}
use mathlib.Core.List.{List, [], ◌∷◌}
use Prim.Native.Nat.{ℕ, zero, suc, ◌+◌, ◌<◌}
use native.Mathlib.Nat.{max-le}
use native.Mathlib.Omega.{arith}
use lib.Dec.{eqb}
use Rattle.esterel.specs.Statement.{nothing, pause, emit, exit, signal, suspend, loop, trap, present, sequence, parallel, Stmt, leaf, one, two, kind, size}
use Rattle.esterel.specs.Sets.{start_set}
use Rattle.esterel.specs.Instant.{resumed, entry, Result, zeros, enter, start, resume, idle, holds, first, second}
use Rattle.esterel.specs.Outcome.{statement_at}
use Rattle.esterel.proofs.Sizes.{load, size-load}
use Rattle.esterel.proofs.Held.{holds-zeros, Fits, fits-leaf, fits_one, fits-two, fits-zeros, fits-ended, fits-left, fits-right, child_fits, child-holds, left-fits, right-fits, right-holds, leaf-holds}
use Rattle.esterel.proofs.Run.{Run, ran, asked, weaken, enter-run, alone-run, skip_run, and_then-run, beside-run, again-run, catch-run, cond-run}
use Rattle.esterel.proofs.Nodes.{Sits}
use Rattle.esterel.proofs.Low.{Exits, Low, low-catch, start-low}
use Rattle.esterel.proofs.Start.{Inside, dropped, start-run}

module _ (ps : List Stmt) (S : Type 0) (ends : (n : ℕ) (p : Stmt) → statement_at ps n ≡ one loop p → start_set p 0 ≡ true → S) where
  abbrev Resumes : Stmt → ℕ → List ℕ → Result → Type 0
  Resumes p t ans x = Run ps S (Fits p) (Low t) (load p) ans x

  idle-run : (p : Stmt) (t : ℕ) (ans : List ℕ) → Resumes p t ans (idle (size p) ans)
  idle-run p t ans =
      ran 0 [] (zeros (size p)) ans
      record {
        code = omega arith;
        fit = fits-zeros p;
        shown = holds-zeros (size p);
        trail = refl;
        short = omega arith;
        used = [];
        lent = refl;
        counted = refl;
      }

  -- w, with k nodes below it, is entered
  entered : {t : ℕ} {ans : List ℕ} {x : Result} (w : Stmt) (n k L : ℕ) → statement_at ps (n + k) ≡ w → eqb (kind w) 7 ≡ false → L < load w → Run ps S (Inside w) (Low t) L ans x → Resumes w t ans (enter (n + k) resumed x)
  entered w n k L own a l o = enter-run (n + k) resumed [] (λ k c. refl) (λ k. rw (own, a) refl) (λ h f. f) l o

  -- a started second child
  second_run : (q : Stmt) (n t : ℕ) (r : List ℕ) → Sits ps n q → Exits t q → Resumes q t r (start n q r)
  second_run q n t r w x = weaken (λ h f. f) (start-low q t x) (size-load q) (start-run ps S ends q n r w)

  pub resume-run : (p : Stmt) (n t : ℕ) (held ans : List ℕ) → Sits ps n p → Exits t p → Fits p held → holds held ≡ true → Resumes p t ans (resume n p held ans)
  resume-run (leaf nothing) n t held ans w x f h = leaf-holds f h (λ e. let z : ◌≡◌ {A = ℕ} 0 1 = cc in absurd (omega arith))
  resume-run (leaf pause) n t held ans w x f h =
      ran 0 (entry n resumed 0 ∷ []) (0 ∷ []) ans
      record {
        code = omega arith;
        fit = fits-leaf pause;
        shown = refl;
        trail = refl;
        short = omega arith;
        used = [];
        lent = refl;
        counted = rw w refl;
      }
  resume-run (leaf (exit level)) n t held ans w x f h = leaf-holds f h (λ e. let z : ◌≡◌ {A = ℕ} 0 1 = cc in absurd (omega arith))
  resume-run (leaf (emit s)) n t held ans w x f h = leaf-holds f h (λ e. let z : ◌≡◌ {A = ℕ} 0 1 = cc in absurd (omega arith))
  resume-run (two sequence p q) n t held ans w x f h =
      entered (two sequence p q) n (size p + size q) (load p + load q) w.2 refl (omega arith)
      (cond-run (holds (first p held))
      (λ b. and_then-run (size q) (λ h f. fits-left sequence q f) (λ h g f e z. fits-ended sequence f e z) (λ k c. c) (λ l _ c. c) (omega arith)
      (resume-run p n t (first p held) ans w.0 x.0 (left-fits f) b) (λ r. second_run q (n + size p) t r w.1 x.1))
      (λ b. skip_run (size p) (λ h f. fits-right sequence p f) (λ k c. c) (omega arith)
      (resume-run q (n + size p) t (second p q held) ans w.1 x.1 (right-fits f) (right-holds f h b))))
  resume-run (two (present s) p q) n t held ans w x f h =
      entered (two (present s) p q) n (size p + size q) (load p + load q) w.2 refl (omega arith)
      (cond-run (holds (first p held))
      (λ b. alone-run (size q) (λ h f. fits-left (present s) q f) (λ k c. c) (omega arith) (resume-run p n t (first p held) ans w.0 x.0 (left-fits f) b))
      (λ b. skip_run (size p) (λ h f. fits-right (present s) p f) (λ k c. c) (omega arith)
      (resume-run q (n + size p) t (second p q held) ans w.1 x.1 (right-fits f) (right-holds f h b))))
  resume-run (one trap p) n t held ans w x f h =
      entered (one trap p) n (size p) (load p) w.1 refl (omega arith)
      (catch-run (λ h f. fits_one trap f) (dropped trap) (low-catch t) (omega arith)
      (resume-run p n (suc t) (first p held) ans w.0 x (child_fits f) (child-holds f h)))
  resume-run (two parallel p q) n t held ans w x f h =
      entered (two parallel p q) n (size p + size q) (load p + load q) w.2 refl (omega arith)
      (beside-run (λ h g f e. fits-two parallel f e refl) (λ k l c d. max-le c d) (omega arith)
      (cond-run (holds (first p held)) (λ b. resume-run p n t (first p held) ans w.0 x.0 (left-fits f) b) (λ b. idle-run p t ans))
      (λ r. cond-run (holds (second p q held)) (λ b. resume-run q (n + size p) t (second p q held) r w.1 x.1 (right-fits f) b) (λ b. idle-run q t r)))
  resume-run (one loop p) n t held ans w x f h =
      entered (one loop p) n (size p) (load p + size p) w.1 refl (omega arith)
      (again-run (ends (n + size p) p w.1) (λ h f. fits_one loop f) (λ h f. fits_one loop f) (λ k c. c) (λ k c. start-low p t x (suc k) c) (omega arith)
      (resume-run p n t (first p held) ans w.0 x (child_fits f) (child-holds f h)) (λ r. start-run ps S ends p n r w.0))
  resume-run (one (signal s) p) n t held ans w x f h =
      entered (one (signal s) p) n (size p) (load p) w.1 refl (omega arith)
      (weaken (λ h f. fits_one (signal s) f) (λ k c. c) (omega arith) (resume-run p n t (first p held) ans w.0 x (child_fits f) (child-holds f h)))
  resume-run (one (suspend s) p) n t held [] w x f h = asked (omega arith)
  resume-run (one (suspend s) p) n t held (suc a ∷ ans) w x f h =
      ran 1 (entry (n + size p) resumed 1 ∷ []) held ans
      record {
        code = omega arith;
        fit = f;
        shown = h;
        trail = refl;
        short = omega arith;
        used = suc a ∷ [];
        lent = refl;
        counted = rw w.1 refl;
      }
  resume-run (one (suspend s) p) n t held (zero ∷ ans) w x f h =
      enter-run (n + size p) resumed (zero ∷ []) (λ k c. refl) (λ k. rw w.1 refl) (λ h f. fits_one (suspend s) f) (omega arith)
      (resume-run p n t (first p held) ans w.0 x (child_fits f) (child-holds f h))
