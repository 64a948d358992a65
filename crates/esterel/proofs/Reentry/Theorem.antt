-- No unmarked reentry, and the runs of an accepted program: the theorems of specs/Theorems.antt.
use mathlib.Core.Path.{◌≡◌, refl, sym, ap, ◌∙◌, subst}
use mathlib.Core.Bool.{true}
use mathlib.Core.List.{List, ◌∷◌, ◌++◌, append_assoc}
use Prim.Native.Nat.{ℕ, ◌≤◌}
use native.Mathlib.Omega.{arith}
use lib.Seq.{take_all}
use lib.ListN.{take}
use Rattle.codes.proofs.Members.{meets_in}
use Rattle.esterel.specs.Statement.{Stmt, size, nodes}
use Rattle.esterel.specs.Codes.{empty, bit}
use Rattle.esterel.specs.Sets.{Place, at, context_of, stmt_of, places_of, place_at, mark, any_instant_set}
use Rattle.esterel.specs.Instant.{Mode, started, resumed, Entry, entry, Result, closed, resume, holds, admitted}
use Rattle.esterel.specs.Outcome.{statement_at}
use Rattle.esterel.specs.Reentry.{Reached, fresh, onward, Happens, starts, resumes, mark_at, Twice, Entered, Dropped, InWords, Holding, StartedUnentered, SuspendDropped}
use Rattle.esterel.specs.Theorems.{Accepted, Closes, Invariant, Runs, NoUnmarkedReentry}
use Rattle.esterel.proofs.Every.{Every, every_map}
use Rattle.esterel.proofs.Held.{fits-length}
use Rattle.esterel.proofs.Low.{any-low}
use Rattle.esterel.proofs.Admitted.{admitted-holds, admitted-fits}
use Rattle.esterel.proofs.Accepted.{place-statement, passes}
use Rattle.esterel.proofs.Theorems.{demand3}
use Rattle.esterel.proofs.Nodes.{sits-own}
use Rattle.esterel.proofs.Caught.{Caught, caught-at}
use Rattle.esterel.proofs.Reentry.Trails.{Pairs, pairs-two}
use Rattle.esterel.proofs.Reentry.Places.{placed-own}
use Rattle.esterel.proofs.Reentry.Kept.{Kept}
use Rattle.esterel.proofs.Reentry.Invariant.{invariant, kept_of, holding-inside, none-holding}
use Rattle.esterel.proofs.Reentry.Results.{left_of}
use Rattle.esterel.proofs.Reentry.Went.{Behind}
use Rattle.esterel.proofs.Reentry.Seen.{node_of, mode_of, InA, InS, Again}
use Rattle.esterel.proofs.Reentry.Start.{start_went}
use Rattle.esterel.proofs.Reentry.Resume.{resume_went}
use Rattle.esterel.proofs.Reentry.Tracks.{Revisits, member_of, entered, entered-before, Later, later}
use Rattle.esterel.proofs.Reentry.Words.{Gone, gone-further, start_track, resume_track}
use Rattle.esterel.proofs.Reentry.Suspended.{Fate, met, rests, Met, Rests, fate}

-- after code 1 a pause is held
held_of : {R : Entry → Entry → Type 0} {s : ℕ} {B : List ℕ → Type 0} {C : ℕ → Type 0} {E : ℕ → Entry → Type 0} {t : List Entry} {h : List ℕ} → Behind R s B C E 1 t h → B h × (holds h ≡ true)
held_of o = (o.bytes.kept (omega arith), o.bytes.shown)

resumed_started : resumed ≡ started → ⊥
resumed_started e = let z : ◌≡◌ {A = ℕ} 0 1 = cc in omega arith

-- what is gone before it is started again
goes : {p : Stmt} {held : List ℕ} {t : List Entry} → Happens p held t → Revisits (Gone p) t
goes {p} (starts ans k t h r e) = (left_of (rw e at (start_track p (Gone p) (gone-further p) p 0 ans (sits-own p)))).0.pairs
goes {p} (resumes before ans k t h r o e) = (left_of (rw e at (resume_track p p 0 before ans (sits-own p)))).0.pairs

mark_in : (x : Place) (k : ℕ) → k ≤ 63 → any_instant_set (stmt_of x) k ≡ true → context_of x k ≡ true → mark x ≡ 1
mark_in (at d t S p) k h a c = ap bit (meets_in (any_instant_set p) S k h a c)

-- Reached states are admitted.
closed-admitted : (p : Stmt) (answers : List ℕ) {x : Result} {trail : List Entry} {held rest : List ℕ} → Closes p answers x → x ≡ closed 1 trail held rest → admitted p held ≡ true
closed-admitted p answers {trail = trail} {held} {rest} c e = let z : Closes p answers (closed 1 trail held rest) = rw e at c in z.paused refl

reached-admitted : (p : Stmt) → Accepted p → (held : List ℕ) → Reached p held → admitted p held ≡ true
reached-admitted p a _ (fresh answers trail held rest e) = closed-admitted p answers (demand3.starts p a answers) e
reached-admitted p a _ (onward before answers trail held rest o e) =
    closed-admitted p answers (demand3.resumes p a before answers (reached-admitted p a before o)) e

module _ (p : Stmt) (a : Accepted p) where
  caught : (i : ℕ) → Caught (place_at p i)
  caught = caught-at p (passes p a).traps (passes p a).exits

  -- the invariant of reached states
  reached-kept : {h : List ℕ} → Reached p h → Kept p h × (holds h ≡ true)
  reached-kept (fresh ans t h r e) = held_of (left_of (rw e at (start_went (places_of p) caught p 0 1 0 empty ans (placed-own p))))
  reached-kept (onward before ans t h r o e) =
      let z = reached-kept o in
      held_of (left_of (rw e at (resume_went (places_of p) caught p 0 1 0 empty before ans (placed-own p) z.0 z.1)))

  keeps : (held : List ℕ) → Reached p held → Invariant p held
  keeps held o = invariant p held (reached-kept o).0 (admitted-fits p held (reached-admitted p a held o))

  carries : (held answers : List ℕ) → admitted p held ≡ true → Invariant p held → (trail : List Entry) (left rest : List ℕ) → resume 0 p held answers ≡ closed 1 trail left rest → Invariant p left
  carries held answers y o trail left rest e =
      let f = kept_of p held o (admitted-fits p held y) in
      let z = held_of (left_of (rw e at (resume_went (places_of p) caught p 0 1 0 empty held answers (placed-own p) f (admitted-holds p held y)))) in
      invariant p left z.0 (admitted-fits p left (closed-admitted p answers (demand3.resumes p a held answers y) e))

  -- each code of a trail is in A, and in S if the node is entered again
  trails : {held : List ℕ} {t : List Entry} → Happens p held t → Every (InA (places_of p)) t × Pairs (Again (places_of p)) t
  trails (starts ans k t h r e) =
      let o = left_of (rw e at (start_went (places_of p) caught p 0 1 0 empty ans (placed-own p))) in
      (every_map (λ y w. w.0.any) o.entries, o.pairs)
  trails (resumes before ans k t h r o e) =
      let z = reached-kept o in
      let w = left_of (rw e at (resume_went (places_of p) caught p 0 1 0 empty before ans (placed-own p) z.0 z.1)) in
      (every_map (λ y v. v.any) w.entries, w.pairs)

  -- a node that is held is resumed, or beneath a suspend that pauses
  fates : {held : List ℕ} {t : List Entry} → Happens p held t → (n : ℕ) → Holding p held n → Fate p n t
  fates (starts ans k t h r e) n y = none-holding p (size p) n y
  fates (resumes held ans k t h r o e) n y =
      let f = admitted-fits p held (reached-admitted p a held o) in
      let whole : take (size p) held ≡ held = take_all (size p) held (omega (arith, fits-length f)) in
      left_of (rw e at (fate p caught held p 0 1 0 empty held ans (sits-own p) (placed-own p) (sym whole) f n (omega arith) (omega (arith, holding-inside p held f n y)) y))

  marks : (n k : ℕ) → any_instant_set (stmt_of (place_at p n)) k ≡ true → context_of (place_at p n) k ≡ true → mark_at p n ≡ 1
  marks n k i c =
      let x = place_at p n in
      let few : k ≤ 63 = omega (arith, any-low (stmt_of x) _ (caught n).exits k i, (caught n).few) in
      mark_in x k few i c

  paused_in : {held : List ℕ} {t : List Entry} → Happens p held t → (n : ℕ) → Holding p held n → any_instant_set (statement_at (nodes p) n) 1 ≡ true
  paused_in (starts ans k t h r e) n y = none-holding p (size p) n y
  paused_in (resumes held ans k t h r o e) n y = (keeps held o).paused n y

  module _ (held : List ℕ) (t : List Entry) (o : Happens p held t) where
    code_in : (before : List Entry) (n : ℕ) (m : Mode) (k : ℕ) (after : List Entry) → t ≡ before ++ (entry n m k ∷ after) → any_instant_set (statement_at (nodes p) n) k ≡ true
    code_in before n m k after e = rw (← place-statement p n) (member_of before (entry n m k) after e (trails o).0)

    module _ (n : ℕ) (w : Twice t n) where
      is-back : InS (places_of p) (entry n w.mode w.code) × (w.again ≡ started)
      is-back = pairs-two w.before _ w.between (entry n w.again w.code_again) w.after (rw w.is at (trails o).1) refl

      is-marked : mark_at p n ≡ 1
      is-marked = marks n w.code (member_of w.before (entry n w.mode w.code) _ w.is (trails o).0) is-back.0

      -- the request's words
      words : InWords p t n w
      words = record { starts = is-back.1; gone = goes o w.before (entry n w.mode w.code) w.between (entry n w.again w.code_again) w.after w.is refl }

    -- the suspend beneath which n is held is entered again before n is
    module _ (n : ℕ) (y : Rests p n t) (m : List Entry) (e : Entry) (z : List Entry) (w : y.after ≡ m ++ (e ∷ z)) (q : node_of e ≡ n) where
      next : Entered y.pauser m
      next = (y.returns m e z w q).0

      pauser-again : t ≡ y.before ++ (entry y.pauser resumed 1 ∷ (next.before ++ (entry y.pauser next.mode next.code ∷ (next.after ++ (e ∷ z)))))
      pauser-again = y.is ∙ ap (λ l. y.before ++ (entry y.pauser resumed 1 ∷ l)) (w ∙ ap (λ l. l ++ (e ∷ z)) next.is ∙ append_assoc next.before _ (e ∷ z))

      rested_marked : Holding p held n → mark_at p n ≡ 1
      rested_marked h =
          let back = pairs-two y.before _ next.before _ (next.after ++ (e ∷ z)) (rw pauser-again at (trails o).1) refl in
          marks n 1 (rw (place-statement p n) (paused_in o n h)) ((y.returns m e z w q).1 back.0)

      pauser-gone : Dropped p y.pauser y.before m
      pauser-gone =
          let d = goes o y.before (entry y.pauser resumed 1) next.before _ (next.after ++ (e ∷ z)) pauser-again refl refl in
          record { caught = d.caught; over = subst (Entered d.caught.catcher) (sym next.is) (entered-before _ d.over) }

    -- n is held and started
    module _ (n : ℕ) (h : Holding p held n) (b : List Entry) (k : ℕ) (z : List Entry) (w : t ≡ b ++ (entry n started k ∷ z)) where
      -- the start comes after a resumed entry before which n is not entered
      after : (c : List Entry) (x : Entry) (y : List Entry) → t ≡ c ++ (x ∷ y) → (Entered n c → ⊥) → mode_of x ≡ resumed → Later c x y b (entry n started k) z
      after c x y i first m = later c x y b (entry n started k) z (sym i ∙ w) first (λ e. resumed_started (sym m ∙ ap mode_of e))

      after-met : (y : Met p n t) → Later y.before (entry n resumed y.code) y.after b (entry n started k) z
      after-met y = after y.before (entry n resumed y.code) y.after y.is y.unentered refl

      after-rest : (y : Rests p n t) → Later y.before (entry y.pauser resumed 1) y.after b (entry n started k) z
      after-rest y = after y.before (entry y.pauser resumed 1) y.after y.is y.unentered refl

      held-marked : Fate p n t → mark_at p n ≡ 1
      held-marked (met y) =
          let l = after-met y in
          is-marked n
          record {
            before = y.before;
            mode = resumed;
            code = y.code;
            between = l.between;
            again = started;
            code_again = k;
            after = z;
            is = y.is ∙ ap (λ u. y.before ++ (entry n resumed y.code ∷ u)) l.back;
          }
      held-marked (rests y) = let l = after-rest y in rested_marked n y l.between (entry n started k) z l.back refl h

    -- where it is not entered before
    suspended : (n : ℕ) (w : StartedUnentered p held t n) → Fate p n t → SuspendDropped p n w.begins.before
    suspended n w (met y) =
        let l = after-met n w.holding w.begins.before w.begins.code w.begins.after w.begins.is y in
        absurd (w.unentered (entered y.before (entry n resumed y.code) l.between refl l.front))
    suspended n w (rests y) =
        let l = after-rest n w.holding w.begins.before w.begins.code w.begins.after w.begins.is y in
        record {
          pauser = y.pauser;
          is_suspend = y.is_suspend;
          around = y.around;
          earlier = y.before;
          between = l.between;
          is = l.front;
          gone = pauser-gone n y l.between (entry n started w.begins.code) w.begins.after l.back refl;
        }

    suspends : (n : ℕ) (w : StartedUnentered p held t n) → SuspendDropped p n w.begins.before
    suspends n w = suspended n w (fates o n w.holding)

pub runs : Runs
runs = record { admits = reached-admitted; keeps = keeps; carries = carries; in_a = code_in }

pub no_unmarked_reentry : NoUnmarkedReentry
no_unmarked_reentry =
    record {
      marked = is-marked;
      in_words = words;
      same = λ p a held t o n. (λ w. (w, words p a held t o n w), λ (w, _). w);
      held_marked = λ p a held t o n h s. held-marked p a held t o n h s.before s.code s.after s.is (fates p a o n h);
      held_in_words = suspends;
      held_same = λ p a held t o n. (λ w. (w, suspends p a held t o n w), λ (w, _). w);
      starts_once = λ p answers k t h r e n w.
          (left_of (rw e at (start_track p (λ b e m. ⊥) (λ x b e m y. y) p 0 answers (sits-own p)))).0.pairs
          w.before (entry n w.mode w.code) w.between (entry n w.again w.code_again) w.after w.is refl;
    }
