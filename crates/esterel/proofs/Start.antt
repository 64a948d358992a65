-- What a start keeps, for every statement: its code is in K, its bytes fit, its trail's codes are in the nodes' K, it has at most one
-- entry a node, and each answer taken has an entry of its own.
use mathlib.Core.Path.{◌≡◌, refl}
use mathlib.Core.Bool.{true, false}
use mathlib.Core.List.{List, [], ◌∷◌, ◌++◌}
use Prim.Native.Nat.{ℕ, zero, suc, ◌+◌}
use native.Mathlib.Omega.{arith}
use lib.Dec.{eqb}
use lib.ListN.{length}
use Rattle.codes.proofs.Bools.{inl_true, inr_true}
use Rattle.codes.proofs.Members.{only_in, larger_in, sequence-first, sequence-second, caught_in}
use Rattle.esterel.specs.Statement.{Leaf, nothing, pause, emit, exit, Unary, signal, suspend, loop, trap, present, sequence, parallel, Stmt, leaf, one, two, kind, size}
use Rattle.esterel.specs.Codes.{Codes}
use Rattle.esterel.specs.Sets.{start_set}
use Rattle.esterel.specs.Instant.{started, entry, Result, single, enter, zeros, start, holds}
use Rattle.esterel.specs.Outcome.{statement_at}
use Rattle.esterel.proofs.Held.{Shows, Fits, fits-leaf, fits-pause, fits_one, fits-two, fits-length, fits-zeros, fits-ended, fits-left, fits-right}
use Rattle.esterel.proofs.Run.{Run, ran, asked, weaken, enter-run, alone-run, skip_run, and_then-run, beside-run, body_run, catch-run}
use Rattle.esterel.proofs.Nodes.{Sits}

abbrev pub In : Codes → ℕ → Type 0
In a k = a k ≡ true

-- what the children of w left, before w's own byte
abbrev pub Inside : Stmt → List ℕ → Type 0
Inside w h = Fits w (h ++ (0 ∷ []))

-- a trap that catches leaves nothing held
pub dropped : (u : Unary) {p : Stmt} (h : List ℕ) → Fits p h → Inside (one u p) (zeros (length h))
dropped u {p} h f = rw (fits-length f) (fits_one u (fits-zeros p))

-- S is what a loop whose started body ends leads to
module _ (ps : List Stmt) (S : Type 0) (ends : (n : ℕ) (p : Stmt) → statement_at ps n ≡ one loop p → start_set p 0 ≡ true → S) where
  abbrev Starts : Stmt → List ℕ → Result → Type 0
  Starts p ans x = Run ps S (Fits p) (In (start_set p)) (size p) ans x

  leaf-run : (l : Leaf) (n k b : ℕ) (ans : List ℕ) → statement_at ps n ≡ leaf l → start_set (leaf l) k ≡ true → Fits (leaf l) (b ∷ []) → Shows k (holds (b ∷ [])) → eqb (kind (leaf l)) 6 ≡ false → Starts (leaf l) ans (single n started k b ans)
  leaf-run l n k b ans own c f s a =
      ran k (entry n started k ∷ []) (b ∷ []) ans
      record {
        code = c;
        fit = f;
        shown = s;
        trail = rw (own, c) refl;
        short = omega arith;
        used = [];
        lent = refl;
        counted = rw (own, a) refl;
      }

  -- w, with L nodes below it, is entered; a present takes an answer
  entered : {ans : List ℕ} {x : Result} (w : Stmt) (n L : ℕ) → statement_at ps (n + L) ≡ w → size w ≡ suc L → eqb (kind w) 6 ≡ false → Run ps S (Inside w) (In (start_set w)) L ans x → Starts w ans (enter (n + L) started x)
  entered w n L own z a o = enter-run (n + L) started [] (λ k c. rw own c) (λ k. rw (own, a) refl) (λ h f. f) (omega arith) o

  answered : {ans : List ℕ} {x : Result} (w : Stmt) (n L a : ℕ) → statement_at ps (n + L) ≡ w → size w ≡ suc L → eqb (kind w) 6 ≡ true → Run ps S (Inside w) (In (start_set w)) L ans x → Starts w (a ∷ ans) (enter (n + L) started x)
  answered w n L a own z e o = enter-run (n + L) started (a ∷ []) (λ k c. rw own c) (λ k. rw (own, e) refl) (λ h f. f) (omega arith) o

  pub start-run : (p : Stmt) (n : ℕ) (ans : List ℕ) → Sits ps n p → Starts p ans (start n p ans)
  start-run (leaf nothing) n ans own = leaf-run nothing n 0 0 ans own refl (fits-leaf nothing) refl refl
  start-run (leaf pause) n ans own = leaf-run pause n 1 1 ans own refl fits-pause refl refl
  start-run (leaf (exit level)) n ans own =
      leaf-run (exit level) n (2 + level) 0 ans own (only_in (2 + level)) (fits-leaf (exit level)) (let z : 2 + level ≡ suc (suc level) = omega arith in rw z tt) refl
  start-run (leaf (emit s)) n ans own = leaf-run (emit s) n 0 0 ans own refl (fits-leaf (emit s)) refl refl
  start-run (two sequence p q) n ans w =
      entered (two sequence p q) n (size p + size q) w.2 refl refl
      (and_then-run (size q) (λ h f. fits-left sequence q f) (λ h g f e z. fits-ended sequence f e z) (sequence-first (start_set p) (start_set q)) (sequence-second (start_set p) (start_set q)) (omega arith)
      (start-run p n ans w.0) (λ r. start-run q (n + size p) r w.1))
  start-run (two (present s) p q) n [] w = asked (omega arith)
  start-run (two (present s) p q) n (suc a ∷ ans) w =
      answered (two (present s) p q) n (size p + size q) (suc a) w.2 refl refl
      (alone-run (size q) (λ h f. fits-left (present s) q f) (λ l c. inl_true (start_set p l) (start_set q l) c) (omega arith) (start-run p n ans w.0))
  start-run (two (present s) p q) n (zero ∷ ans) w =
      answered (two (present s) p q) n (size p + size q) zero w.2 refl refl
      (skip_run (size p) (λ h f. fits-right (present s) p f) (λ l c. inr_true (start_set p l) (start_set q l) c) (omega arith) (start-run q (n + size p) ans w.1))
  start-run (one trap p) n ans w =
      entered (one trap p) n (size p) w.1 refl refl
      (catch-run (λ h f. fits_one trap f) (dropped trap) (caught_in (start_set p)) (omega arith) (start-run p n ans w.0))
  start-run (two parallel p q) n ans w =
      entered (two parallel p q) n (size p + size q) w.2 refl refl
      (beside-run (λ h g f e. fits-two parallel f e refl) (larger_in (start_set p) (start_set q)) (omega arith) (start-run p n ans w.0) (λ r. start-run q (n + size p) r w.1))
  start-run (one loop p) n ans w =
      entered (one loop p) n (size p) w.1 refl refl
      (body_run (ends (n + size p) p w.1) (λ h f. fits_one loop f) (λ k c. c) (omega arith) (start-run p n ans w.0))
  start-run (one (signal s) p) n ans w =
      entered (one (signal s) p) n (size p) w.1 refl refl (weaken (λ h f. fits_one (signal s) f) (λ k c. c) (omega arith) (start-run p n ans w.0))
  start-run (one (suspend s) p) n ans w =
      entered (one (suspend s) p) n (size p) w.1 refl refl (weaken (λ h f. fits_one (suspend s) f) (λ k c. c) (omega arith) (start-run p n ans w.0))
