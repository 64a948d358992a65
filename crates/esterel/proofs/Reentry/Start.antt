-- What a start leaves behind, for every statement at its place in the program.
use mathlib.Core.Path.{◌≡◌, refl, sym, ◌∙◌}
use mathlib.Core.Bool.{Bool, true, false}
use mathlib.Core.List.{List, [], ◌∷◌, ◌++◌}
use Prim.Native.Nat.{ℕ, zero, suc, ◌+◌, ◌≤◌, max}
use native.Mathlib.Nat.{le_refl}
use native.Mathlib.Omega.{arith}
use Rattle.codes.proofs.Bools.{both, inl_true, inr_true}
use Rattle.codes.proofs.Members.{only_in, meets_in, larger_in, sequence-first, sequence-second, caught_in}
use Rattle.esterel.specs.Statement.{Leaf, nothing, pause, emit, exit, signal, suspend, loop, trap, present, sequence, parallel, Stmt, leaf, one, two, size}
use Rattle.esterel.specs.Codes.{Codes, only, AtMost}
use Rattle.esterel.specs.Sets.{Place, at, codes, start_set, any_instant_set, under, under_left, under_right}
use Rattle.esterel.specs.Instant.{started, Entry, entry, Result, single, enter, zeros, start, holds}
use Rattle.esterel.proofs.Held.{holds-zeros, Shows, fits-leaf, fits-pause, fits_one, fits-two}
use Rattle.esterel.proofs.Start.{In}
use Rattle.esterel.proofs.Low.{codes-low, start-pause}
use Rattle.esterel.proofs.Caught.{Caught}
use Rattle.esterel.proofs.Reentry.Contexts.{start-any, under_trap_in, under_parallel_in}
use Rattle.esterel.proofs.Reentry.Places.{place_in, Placed, placed-root}
use Rattle.esterel.proofs.Reentry.Kept.{false-true, Joined, Kept, kept-zeros}
use Rattle.esterel.proofs.Reentry.Results.{asked}
use Rattle.esterel.proofs.Reentry.Went.{Went, single_went, enter_went, same_went, alone_went, skip_went, body_went, catch_went, and_then_went, beside_went}
use Rattle.esterel.proofs.Reentry.Seen.{Live, live-one, live-two, live-first, live-second, Again, Seen, Fresh, lift-both, own-seen, apart, before-own}

-- a sequence whose second child holds nothing, and a parallel whose children ended or paused with codes of their A
pub first_alone : (p q : Stmt) (x : Bool) → Joined sequence p q x (holds (zeros (size q)))
first_alone p q x e = false-true (sym (holds-zeros (size q)) ∙ e)

ended_in : (p : Stmt) (k : ℕ) (x : Bool) → k ≤ 1 → any_instant_set p k ≡ true → Shows k x → x ≡ false → any_instant_set p 0 ≡ true
ended_in p zero x le a s e = a
ended_in p (suc zero) x le a s e = false-true (sym e ∙ s)
ended_in p (suc (suc k)) x le a s e = absurd (omega arith)

pub both-joined : (p q : Stmt) (k l : ℕ) (x y : Bool) → k ≤ 1 → l ≤ 1 → any_instant_set p k ≡ true → any_instant_set q l ≡ true → Shows k x → Shows l y → Joined parallel p q x y
both-joined p q k l x y k1 l1 a b s r = (λ _ e. ended_in q l y l1 b r e, λ e _. ended_in p k x k1 a s e)

module _ (xs : List Place) (caught : (i : ℕ) → Caught (place_in xs i)) where
  pub caught-here : (p : Stmt) (n d t : ℕ) (P : Codes) → Placed xs n d t P p → Caught (at d t P p)
  caught-here p n d t P w = let (i, e) = placed-root xs p n d t P w in rw e at (caught i)

  -- a code is below 64, where those of a pause are 0 and 1 alone
  pub code-low : (paused : Codes) → AtMost 1 paused → (p : Stmt) (n d t : ℕ) (P : Codes) → Placed xs n d t P p → (k : ℕ) → codes paused p k ≡ true → (k ≤ suc t) × (k ≤ 63)
  code-low paused few p n d t P w k c =
      let z = caught-here p n d t P w in
      let low = codes-low paused few p t z.exits k c in
      (low, omega (arith, z.few))

  pub started_low : (p : Stmt) (n d t : ℕ) (P : Codes) → Placed xs n d t P p → (k : ℕ) → start_set p k ≡ true → (k ≤ suc t) × (k ≤ 63)
  started_low = code-low (only 1) start-pause

  abbrev pub StartEntry : Stmt → (n s : ℕ) → Codes → ℕ → Entry → Type 0
  StartEntry w n s P k e = Seen xs n s (Live n w) P k e × Fresh xs (Live n w) e

  abbrev pub Starts : Stmt → ℕ → Codes → Result → Type 0
  Starts p n P x = Went (Again xs) (size p) (Kept p) (In (start_set p)) (StartEntry p n (size p) P) x

  -- what the children of w, of s nodes, left
  abbrev Inner : Stmt → (n s : ℕ) → Codes → Result → Type 0
  Inner w n s P x = Went (Again xs) s (λ h. Kept w (h ++ (0 ∷ []))) (In (start_set w)) (StartEntry w n s P) x

  leaf_went : (l : Leaf) (n d t : ℕ) (P : Codes) (k b : ℕ) (ans : List ℕ) → place_in xs n ≡ at d t P (leaf l) → start_set (leaf l) k ≡ true → Kept (leaf l) (b ∷ []) → Shows k (holds (b ∷ [])) → Starts (leaf l) n P (single n started k b ans)
  leaf_went l n d t P k b ans e c f s =
      single_went k (entry n started k) (b ∷ []) ans c record { long = refl; shown = s; kept = λ le. f }
      (record { lo = le_refl n; hi = omega arith; any = rw e (start-any (leaf l) k c); back = λ l c. rw e c }, record { live = tt; mode = refl })

  -- w itself is entered, after the s nodes beneath it
  enter-own : {x : Result} (w : Stmt) (n s d t : ℕ) (P : Codes) → Live n w (n + s) → place_in xs (n + s) ≡ at d t P w → Inner w n s P x → Went (Again xs) (suc s) (Kept w) (In (start_set w)) (StartEntry w n (suc s) P) (enter (n + s) started x)
  enter-own w n s d t P l e o =
      enter_went (n + s) started (λ h b. b) (λ k c. (own-seen xs w n s d t P started k e (start-any w k c), record { live = l; mode = refl }))
      (λ k e. lift-both xs (le_refl n) (omega arith) (λ i lo hi l c. (l, c)) (λ i lo hi l. l) e) (λ k e y. before-own xs started k e y.0) o

  pub start_went : (p : Stmt) (n d t : ℕ) (P : Codes) (ans : List ℕ) → Placed xs n d t P p → Starts p n P (start n p ans)
  start_went (leaf nothing) n d t P ans w = leaf_went nothing n d t P 0 0 ans w refl (fits-leaf nothing) refl
  start_went (leaf pause) n d t P ans w = leaf_went pause n d t P 1 1 ans w refl fits-pause refl
  start_went (leaf (exit level)) n d t P ans w =
      leaf_went (exit level) n d t P (2 + level) 0 ans w (only_in (2 + level)) (fits-leaf (exit level)) (let z : 2 + level ≡ suc (suc level) = omega arith in rw z tt)
  start_went (leaf (emit s)) n d t P ans w = leaf_went (emit s) n d t P 0 0 ans w refl (fits-leaf (emit s)) refl
  start_went (two sequence p q) n d t P ans w =
      enter-own (two sequence p q) n (size p + size q) d t P (live-two n sequence p q) w.2
      (and_then_went (λ h k. fits-two sequence k (kept-zeros q) (first_alone p q (holds h))) (λ h g c k l. fits-two sequence k l (λ _. start-any p 0 c))
      (sequence-first (start_set p) (start_set q)) (sequence-second (start_set p) (start_set q))
      (λ k e. lift-both xs (le_refl n) (omega arith) (λ i lo hi l c. (l.0 hi, c)) (λ i lo hi l. live-first n sequence p q i hi l) e)
      (λ k e cq. lift-both xs (le_refl n) (omega arith)
      (λ i lo hi l c. (l.0 hi, meets_in (start_set q) P k (started_low q (n + size p) (suc d) t _ w.1 k cq).1 cq c)) (λ i lo hi l. live-first n sequence p q i hi l) e)
      (λ k e cp. lift-both xs (omega arith) (omega arith) (λ i lo hi l c. let o = l.1 lo (omega arith) in (o.1, both o.0 c)) (λ i lo hi l. live-second n sequence p q i lo cp l) e)
      (λ k l e e' y y'. apart xs (le_refl (n + size p)) e e' y.0 y'.0)
      (start_went p n (suc d) t (under_left sequence t P q) ans w.0) (λ r. start_went q (n + size p) (suc d) t (under_right sequence t P p) r w.1))
  start_went (two (present s) p q) n d t P [] w = asked
  start_went (two (present s) p q) n d t P (suc a ∷ ans) w =
      enter-own (two (present s) p q) n (size p + size q) d t P (live-two n (present s) p q) w.2
      (alone_went (size q) (λ h k. fits-two (present s) k (kept-zeros q) tt) (λ k c. inl_true (start_set p k) (start_set q k) c)
      (λ k e. lift-both xs (le_refl n) (omega arith) (λ i lo hi l c. (l.0 hi, c)) (λ i lo hi l. live-first n (present s) p q i hi l) e)
      (start_went p n (suc d) t P ans w.0))
  start_went (two (present s) p q) n d t P (zero ∷ ans) w =
      enter-own (two (present s) p q) n (size p + size q) d t P (live-two n (present s) p q) w.2
      (skip_went (size p) (λ h k. fits-two (present s) (kept-zeros p) k tt) (λ k c. inr_true (start_set p k) (start_set q k) c)
      (λ k e. lift-both xs (omega arith) (omega arith) (λ i lo hi l c. ((l.1 lo (omega arith)).1, c)) (λ i lo hi l. live-second n (present s) p q i lo tt l) e)
      (start_went q (n + size p) (suc d) t P ans w.1))
  start_went (one trap p) n d t P ans w =
      enter-own (one trap p) n (size p) d t P (live-one n trap p) w.1
      (catch_went (λ h k. fits_one trap k) (fits_one trap (kept-zeros p)) (caught_in (start_set p))
      (λ k e. lift-both xs (le_refl n) (le_refl (n + size p)) (λ i lo hi l c. (l hi, under_trap_in P k c)) (λ i lo hi l _. l) e)
      (start_went p n (suc d) (suc t) (under trap P) ans w.0))
  start_went (two parallel p q) n d t P ans w =
      enter-own (two parallel p q) n (size p + size q) d t P (live-two n parallel p q) w.2
      (beside_went (λ h g k l k1 l1 c cq s r x y. fits-two parallel x y (both-joined p q k l _ _ k1 l1 (start-any p k c) (start-any q l cq) s r)) (larger_in (start_set p) (start_set q))
      (λ k l e cp cq. lift-both xs (le_refl n) (omega arith)
      (λ i lo hi y c.
      let (kt, k63) = started_low p n (suc d) t _ w.0 k cp in
      let (lt, l63) = started_low q (n + size p) (suc d) t _ w.1 l cq in
      (y.0 hi, under_parallel_in t P k (max k l) kt (omega arith) c))
      (λ i lo hi y. live-first n parallel p q i hi y) e)
      (λ k l e cp cq. lift-both xs (omega arith) (omega arith)
      (λ i lo hi y c.
      let (kt, k63) = started_low p n (suc d) t _ w.0 k cp in
      let (lt, l63) = started_low q (n + size p) (suc d) t _ w.1 l cq in
      ((y.1 lo (omega arith)).1, under_parallel_in t P l (max k l) lt (omega arith) c))
      (λ i lo hi y. live-second n parallel p q i lo tt y) e)
      (λ k l e e' y y'. apart xs (le_refl (n + size p)) e e' y.0 y'.0)
      (start_went p n (suc d) t (under_left parallel t P q) ans w.0) (λ r. start_went q (n + size p) (suc d) t (under_right parallel t P p) r w.1))
  start_went (one loop p) n d t P ans w =
      enter-own (one loop p) n (size p) d t P (live-one n loop p) w.1
      (body_went (λ h k. fits_one loop k) (λ k c. c)
      (λ k e. lift-both xs (le_refl n) (le_refl (n + size p)) (λ i lo hi l c. (l hi, inl_true (P (suc k)) (only 0 (suc k)) c)) (λ i lo hi l _. l) e)
      (start_went p n (suc d) t (under loop P) ans w.0))
  start_went (one (signal s) p) n d t P ans w =
      enter-own (one (signal s) p) n (size p) d t P (live-one n (signal s) p) w.1
      (same_went (λ h k. fits_one (signal s) k) (λ k c. c)
      (λ k e. lift-both xs (le_refl n) (le_refl (n + size p)) (λ i lo hi l c. (l hi, c)) (λ i lo hi l _. l) e) (start_went p n (suc d) t P ans w.0))
  start_went (one (suspend s) p) n d t P ans w =
      enter-own (one (suspend s) p) n (size p) d t P (live-one n (suspend s) p) w.1
      (same_went (λ h k. fits_one (suspend s) k) (λ k c. c)
      (λ k e. lift-both xs (le_refl n) (le_refl (n + size p)) (λ i lo hi l c. (l hi, c)) (λ i lo hi l _. l) e) (start_went p n (suc d) t P ans w.0))
