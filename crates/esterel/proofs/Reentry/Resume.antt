-- What a resumption leaves behind, for every statement at its place in the program and bytes that keep the invariant and hold a pause.
use mathlib.Core.Path.{◌≡◌, refl}
use mathlib.Core.Bool.{true}
use mathlib.Core.List.{List, [], ◌∷◌, ◌++◌}
use Prim.Native.Nat.{ℕ, zero, suc, ◌+◌, ◌≤◌, max}
use native.Mathlib.Nat.{le_refl}
use native.Mathlib.Omega.{arith}
use Rattle.codes.proofs.Bools.{both, inl_true, inr_true}
use Rattle.codes.proofs.Members.{meets_in, larger_in, sequence-first, sequence-second, caught_in}
use Rattle.esterel.specs.Statement.{nothing, pause, emit, exit, signal, suspend, loop, trap, present, sequence, parallel, Stmt, leaf, one, two, size}
use Rattle.esterel.specs.Codes.{Codes, only, union}
use Rattle.esterel.specs.Sets.{Place, at, start_set, any_instant_set, under, under_left, under_right}
use Rattle.esterel.specs.Instant.{resumed, entry, Result, zeros, enter, resume, idle, holds, first, second}
use Rattle.esterel.proofs.Every.{none}
use Rattle.esterel.proofs.Held.{holds-zeros, fits-leaf, fits_one, fits-two, fits-length, child_fits, left-fits, right-fits, joint, child-holds, left-holds, right-holds}
use Rattle.esterel.proofs.Start.{In}
use Rattle.esterel.proofs.Low.{any-pause}
use Rattle.esterel.proofs.Caught.{Caught}
use lib.ListN.{length-replicate}
use Rattle.esterel.proofs.Reentry.Trails.{empty}
use Rattle.esterel.proofs.Reentry.Contexts.{start-any, under_trap_in, under_parallel_in}
use Rattle.esterel.proofs.Reentry.Places.{place_in, Placed}
use Rattle.esterel.proofs.Reentry.Kept.{Kept, kept-zeros, holds-one}
use Rattle.esterel.proofs.Reentry.Results.{leaves, asked, no_rule, cond-leaves}
use Rattle.esterel.proofs.Reentry.Went.{Went, single_went, enter_went, same_went, alone_went, skip_went, catch_went, and_then_went, beside_went, again_went}
use Rattle.esterel.proofs.Reentry.Seen.{Live, Again, Seen, lift, own-seen, apart, before-own}
use Rattle.esterel.proofs.Reentry.Start.{first_alone, both-joined, code-low, started_low, start_went}

module _ (xs : List Place) (caught : (i : ℕ) → Caught (place_in xs i)) where
  any-code-low : (p : Stmt) (n d t : ℕ) (P : Codes) → Placed xs n d t P p → (k : ℕ) → any_instant_set p k ≡ true → (k ≤ suc t) × (k ≤ 63)
  any-code-low = code-low xs caught (union (only 0) (only 1)) any-pause

  abbrev pub Resumes : Stmt → ℕ → Codes → Result → Type 0
  Resumes p n P x = Went (Again xs) (size p) (Kept p) (In (any_instant_set p)) (Seen xs n (size p) (Live n p) P) x

  -- what the children of w, of s nodes, left
  abbrev Inner : Stmt → (n s : ℕ) → Codes → Result → Type 0
  Inner w n s P x = Went (Again xs) s (λ h. Kept w (h ++ (0 ∷ []))) (In (any_instant_set w)) (Seen xs n s (Live n w) P) x

  -- w itself is entered, after the s nodes beneath it
  enter-own : {x : Result} (w : Stmt) (n s d t : ℕ) (P : Codes) → place_in xs (n + s) ≡ at d t P w → Inner w n s P x → Went (Again xs) (suc s) (Kept w) (In (any_instant_set w)) (Seen xs n (suc s) (Live n w) P) (enter (n + s) resumed x)
  enter-own w n s d t P e o =
      enter_went (n + s) resumed (λ h b. b) (λ k c. own-seen xs w n s d t P resumed k e c) (λ k e. lift xs (le_refl n) (omega arith) (λ i lo hi l c. (l, c)) e)
      (λ k e y. before-own xs resumed k e y) o

  -- a parallel's child that has ended
  idle_went : (p : Stmt) (n : ℕ) (P : Codes) (ans : List ℕ) → any_instant_set p 0 ≡ true → Resumes p n P (idle (size p) ans)
  idle_went p n P ans c =
      leaves 0 [] (zeros (size p)) ans
      record { code = c; bytes = record { long = length-replicate (size p) 0; shown = holds-zeros (size p); kept = λ le. kept-zeros p }; entries = none; pairs = empty }

  pub resume_went : (p : Stmt) (n d t : ℕ) (P : Codes) (held ans : List ℕ) → Placed xs n d t P p → Kept p held → holds held ≡ true → Resumes p n P (resume n p held ans)
  resume_went (leaf nothing) n d t P held ans w f h = no_rule
  resume_went (leaf pause) n d t P held ans w f h =
      single_went 0 (entry n resumed 0) (0 ∷ []) ans refl record { long = refl; shown = refl; kept = λ le. fits-leaf pause }
      record { lo = le_refl n; hi = omega arith; any = rw w refl; back = λ l c. rw w c }
  resume_went (leaf (exit level)) n d t P held ans w f h = no_rule
  resume_went (leaf (emit s)) n d t P held ans w f h = no_rule
  resume_went (two sequence p q) n d t P held ans w f h =
      enter-own (two sequence p q) n (size p + size q) d t P w.2
      (cond-leaves (holds (first p held))
      (λ b. and_then_went (λ h k. fits-two sequence k (kept-zeros q) (first_alone p q (holds h))) (λ h g c k l. fits-two sequence k l (λ _. c))
      (sequence-first (any_instant_set p) (any_instant_set q)) (λ l c cq. sequence-second (any_instant_set p) (any_instant_set q) l c (start-any q l cq))
      (λ k e. lift xs (le_refl n) (omega arith) (λ i lo hi l c. (l.0 hi, c)) e)
      (λ k e cq. lift xs (le_refl n) (omega arith) (λ i lo hi l c. (l.0 hi, meets_in (start_set q) P k (started_low xs caught q (n + size p) (suc d) t _ w.1 k cq).1 cq c)) e)
      (λ k e cp y. lift xs (omega arith) (omega arith) (λ i lo hi l c. let o = l.1 lo (omega arith) in (o.1, both o.0 c)) e y.0)
      (λ k l e e' y y'. apart xs (le_refl (n + size p)) e e' y y'.0)
      (resume_went p n (suc d) t (under_left sequence t P q) (first p held) ans w.0 (left-fits f) b)
      (λ r. start_went xs caught q (n + size p) (suc d) t (under_right sequence t P p) r w.1))
      (λ b. let in-a : any_instant_set p 0 ≡ true = joint f (right-holds f h b) in
      skip_went (size p) (λ h k. fits-two sequence (kept-zeros p) k (λ _. in-a)) (λ k c. sequence-second (any_instant_set p) (any_instant_set q) k in-a c)
      (λ k e. lift xs (omega arith) (omega arith) (λ i lo hi l c. let o = l.1 lo (omega arith) in (o.1, both o.0 c)) e)
      (resume_went q (n + size p) (suc d) t (under_right sequence t P p) (second p q held) ans w.1 (right-fits f) (right-holds f h b))))
  resume_went (two (present s) p q) n d t P held ans w f h =
      enter-own (two (present s) p q) n (size p + size q) d t P w.2
      (cond-leaves (holds (first p held))
      (λ b. alone_went (size q) (λ h k. fits-two (present s) k (kept-zeros q) tt) (λ k c. inl_true (any_instant_set p k) (any_instant_set q k) c)
      (λ k e. lift xs (le_refl n) (omega arith) (λ i lo hi l c. (l.0 hi, c)) e)
      (resume_went p n (suc d) t P (first p held) ans w.0 (left-fits f) b))
      (λ b. skip_went (size p) (λ h k. fits-two (present s) (kept-zeros p) k tt) (λ k c. inr_true (any_instant_set p k) (any_instant_set q k) c)
      (λ k e. lift xs (omega arith) (omega arith) (λ i lo hi l c. ((l.1 lo (omega arith)).1, c)) e)
      (resume_went q (n + size p) (suc d) t P (second p q held) ans w.1 (right-fits f) (right-holds f h b))))
  resume_went (one trap p) n d t P held ans w f h =
      enter-own (one trap p) n (size p) d t P w.1
      (catch_went (λ h k. fits_one trap k) (fits_one trap (kept-zeros p)) (caught_in (any_instant_set p))
      (λ k e. lift xs (le_refl n) (le_refl (n + size p)) (λ i lo hi l c. (l hi, under_trap_in P k c)) e)
      (resume_went p n (suc d) (suc t) (under trap P) (first p held) ans w.0 (child_fits f) (child-holds f h)))
  resume_went (two parallel p q) n d t P held ans w f h =
      enter-own (two parallel p q) n (size p + size q) d t P w.2
      (beside_went (λ h g k l k1 l1 c cq s r x y. fits-two parallel x y (both-joined p q k l _ _ k1 l1 c cq s r)) (larger_in (any_instant_set p) (any_instant_set q))
      (λ k l e cp cq. lift xs (le_refl n) (omega arith)
      (λ i lo hi y c.
      let (kt, k63) = any-code-low p n (suc d) t _ w.0 k cp in
      let (lt, l63) = any-code-low q (n + size p) (suc d) t _ w.1 l cq in
      (y.0 hi, under_parallel_in t P k (max k l) kt (omega arith) c))
      e)
      (λ k l e cp cq. lift xs (omega arith) (omega arith)
      (λ i lo hi y c.
      let (kt, k63) = any-code-low p n (suc d) t _ w.0 k cp in
      let (lt, l63) = any-code-low q (n + size p) (suc d) t _ w.1 l cq in
      ((y.1 lo (omega arith)).1, under_parallel_in t P l (max k l) lt (omega arith) c))
      e)
      (λ k l e e' y y'. apart xs (le_refl (n + size p)) e e' y y')
      (cond-leaves (holds (first p held)) (λ b. resume_went p n (suc d) t (under_left parallel t P q) (first p held) ans w.0 (left-fits f) b)
      (λ b. idle_went p n (under_left parallel t P q) ans ((joint f).1 b (right-holds f h b))))
      (λ r. cond-leaves (holds (second p q held)) (λ b. resume_went q (n + size p) (suc d) t (under_right parallel t P p) (second p q held) r w.1 (right-fits f) b)
      (λ b. idle_went q (n + size p) (under_right parallel t P p) r ((joint f).0 (left-holds f h b) b))))
  resume_went (one loop p) n d t P held ans w f h =
      enter-own (one loop p) n (size p) d t P w.1
      (again_went (λ h k. fits_one loop k) (λ k c. c) (λ k c. start-any p (suc k) c)
      (λ k e. lift xs (le_refl n) (le_refl (n + size p)) (λ i lo hi l c. (l hi, inl_true (P (suc k)) (only 0 (suc k)) c)) e)
      (λ k e. lift xs (le_refl n) (le_refl (n + size p)) (λ i lo hi l c. (l hi, inr_true (P 0) (only 0 0) refl)) e)
      (λ k e y. lift xs (le_refl n) (le_refl (n + size p)) (λ i lo hi l c. (l hi, inl_true (P (suc k)) (only 0 (suc k)) c)) e y.0)
      (λ l e e' y y' z. (y.back (rw z y'.1.live) (inr_true (P 0) (only 0 0) refl), y'.1.mode))
      (resume_went p n (suc d) t (under loop P) (first p held) ans w.0 (child_fits f) (child-holds f h)) (λ r. start_went xs caught p n (suc d) t (under loop P) r w.0))
  resume_went (one (signal s) p) n d t P held ans w f h =
      enter-own (one (signal s) p) n (size p) d t P w.1
      (same_went (λ h k. fits_one (signal s) k) (λ k c. c) (λ k e. lift xs (le_refl n) (le_refl (n + size p)) (λ i lo hi l c. (l hi, c)) e)
      (resume_went p n (suc d) t P (first p held) ans w.0 (child_fits f) (child-holds f h)))
  resume_went (one (suspend s) p) n d t P held [] w f h = asked
  resume_went (one (suspend s) p) n d t P held (suc a ∷ ans) w f h =
      single_went 1 (entry (n + size p) resumed 1) held ans (holds-one f h) record { long = fits-length f; shown = h; kept = λ le. f }
      (own-seen xs (one (suspend s) p) n (size p) d t P resumed 1 w.1 (holds-one f h))
  resume_went (one (suspend s) p) n d t P held (zero ∷ ans) w f h =
      enter-own (one (suspend s) p) n (size p) d t P w.1
      (same_went (λ h k. fits_one (suspend s) k) (λ k c. c) (λ k e. lift xs (le_refl n) (le_refl (n + size p)) (λ i lo hi l c. (l hi, c)) e)
      (resume_went p n (suc d) t P (first p held) ans w.0 (child_fits f) (child-holds f h)))
