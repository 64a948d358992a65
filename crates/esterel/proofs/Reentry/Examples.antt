-- The small programs of F-6.
use Prim.Native.Nat.{ℕ, suc, ◌+◌, ◌≤◌}
use native.Mathlib.Omega.{arith}
use mathlib.Core.Path.{◌≡◌, refl, sym, ap, ◌∙◌}
use mathlib.Core.List.{List, [], ◌∷◌, ◌++◌}
use lib.Dec.{eqb}
use Rattle.codes.proofs.Members.{only_in}
use Rattle.esterel.specs.Codes.{bit}
use Rattle.esterel.specs.Instant.{Mode, Entry, entry, started, resumed, closed, start, resume}
use Rattle.esterel.specs.Reentry.{Reached, fresh, onward, Happens, starts, resumes, Twice, Entered, Dropped, Holding, Started}
use Rattle.esterel.specs.Examples.{Walker, walker, Sleeper, sleeper, asleep, roused, Idler, idler, Pacer, pacer}
use Rattle.esterel.proofs.Run.{closed-held, closed-trail}
use Rattle.esterel.proofs.Reentry.Kept.{false-true}
use Rattle.esterel.proofs.Reentry.Theorem.{runs}

-- the second of its sequence holds, and 0 is not in A of the first
idler-unreached : Reached idler (0 ∷ 0 ∷ 1 ∷ 0 ∷ 0 ∷ []) → ⊥
idler-unreached o =
    let y = (runs.keeps idler refl _ o).second 3 _ _ refl refl in
    let z : ◌≡◌ {A = ℕ} 0 1 = cc in
    omega arith

pub idler_says : Idler
idler_says = record { read = refl; marks = refl; fits = refl; twice = refl; unreached = idler-unreached }

-- how many entries of a trail are of node n
times : ℕ → List Entry → ℕ
times n [] = 0
times n (entry i m k ∷ t) = bit (eqb i n) + times n t

times_at : (n : ℕ) (b : List Entry) (m : Mode) (k : ℕ) (a : List Entry) → times n (b ++ (entry n m k ∷ a)) ≡ suc (times n b + times n a)
unfolding times
times_at n [] m k a = rw (only_in n) (omega arith)
times_at n (entry i m' k' ∷ b) m k a = omega (arith, times_at n b m k a)

twice_times : {n : ℕ} {t : List Entry} → Twice t n → 2 ≤ times n t
twice_times {n} o =
    let e = times_at n o.before o.mode o.code (o.between ++ (entry n o.again o.code_again ∷ o.after)) in
    omega (arith, ap (times n) o.is, e, times_at n o.between o.again o.code_again o.after)

walker-reached : Reached walker (0 ∷ 1 ∷ 0 ∷ 0 ∷ [])
walker-reached = onward (1 ∷ 0 ∷ 0 ∷ 0 ∷ []) [] _ _ [] (fresh [] _ _ [] refl) refl

pub walker_says : Walker
walker_says = record { reached = walker-reached; third = resumes _ [] 1 _ _ [] walker-reached refl }

-- the sleeper's second instant, up to the suspend's first entry, and from there to the parallel's second one
abbrev up_to : List Entry
up_to = entry 7 resumed 1 ∷ entry 6 resumed 0 ∷ entry 5 resumed 2 ∷ []

abbrev since : List Entry → List Entry
since more = entry 4 resumed 2 ∷ entry 2 resumed 0 ∷ entry 3 started 2 ∷ entry 6 started 1 ∷ entry 5 started 1 ∷ more

suspend_dropped : (more : List Entry) → Dropped sleeper 1 up_to (since more)
suspend_dropped more =
    record {
      caught = record { catcher = 6; is_trap = refl; around = (omega arith, omega arith); mode = resumed; earlier = entry 7 resumed 1 ∷ []; since = []; catches = refl; inside = tt };
      over = record { before = entry 4 resumed 2 ∷ entry 2 resumed 0 ∷ entry 3 started 2 ∷ []; mode = started; code = 1; after = entry 5 started 1 ∷ more; is = refl };
    }

abbrev begun : Started 0 roused
begun = record { before = up_to ++ (entry 1 resumed 1 ∷ since (entry 1 started 1 ∷ [])); code = 1; after = entry 4 started 1 ∷ entry 2 started 1 ∷ []; is = refl }

pause-unentered : Entered 0 (up_to ++ (entry 1 resumed 1 ∷ since (entry 1 started 1 ∷ []))) → ⊥
unfolding times
pause-unentered o = omega (arith, ap (times 0) o.is, times_at 0 o.before o.mode o.code o.after)

pub sleeper_says : Sleeper
sleeper_says =
    record {
      read = refl;
      marks = refl;
      first = refl;
      next = refl;
      happens = resumes asleep (1 ∷ []) 1 roused asleep [] (fresh [] _ asleep [] refl) refl;
      reenters = (
        record { before = up_to; mode = resumed; code = 1; between = since []; again = started; code_again = 1; after = entry 0 started 1 ∷ entry 4 started 1 ∷ entry 2 started 1 ∷ []; is = refl },
        record { starts = refl; gone = λ _. suspend_dropped [] },
      );
      unentered = (
        record { holding = refl; begins = begun; unentered = pause-unentered },
        record {
          pauser = 1;
          is_suspend = refl;
          around = (omega arith, omega arith);
          earlier = up_to;
          between = since (entry 1 started 1 ∷ []);
          is = refl;
          gone = suspend_dropped (entry 1 started 1 ∷ []);
        },
      );
    }

-- the pacer holds its pause, and has two instants
abbrev paused : List ℕ
paused = 0 ∷ 1 ∷ 0 ∷ 0 ∷ []

abbrev begins : List Entry
begins = entry 3 started 1 ∷ entry 2 started 1 ∷ entry 0 started 0 ∷ entry 1 started 1 ∷ []

abbrev goes_on : List Entry
goes_on = entry 3 resumed 1 ∷ entry 2 resumed 0 ∷ entry 1 resumed 0 ∷ entry 2 started 1 ∷ entry 0 started 0 ∷ entry 1 started 1 ∷ []

begin : (ans : List ℕ) → start 0 pacer ans ≡ closed 1 begins paused ans
begin ans = refl

go_on_lem : (ans : List ℕ) → resume 0 pacer paused ans ≡ closed 1 goes_on paused ans
go_on_lem ans = refl

reached-paused : {h : List ℕ} → Reached pacer h → paused ≡ h
reached-paused (fresh ans t h r e) = closed-held (sym (begin ans) ∙ e)
reached-paused (onward before ans t h r o e) = closed-held (sym (go_on_lem ans) ∙ ap (λ s. resume 0 pacer s ans) (reached-paused o) ∙ e)

pacer-once : {h : List ℕ} {t : List Entry} → Happens pacer h t → (times 0 t ≤ 1) × (Holding pacer h 0 → ⊥)
unfolding times
pacer-once (starts ans k t h r e) = (let z = closed-trail (sym (begin ans) ∙ e) in rw (← z) (omega arith), λ y. false-true y)
pacer-once (resumes held ans k t h r o e) =
    let at : paused ≡ held = reached-paused o in
    let z = closed-trail (sym (go_on_lem ans) ∙ ap (λ s. resume 0 pacer s ans) at ∙ e) in
    (rw (← z) (omega arith), λ y. false-true (rw (← at) at y))

pub pacer_says : Pacer
pacer_says =
    record {
      read = refl;
      marks = refl;
      once = λ held trail o w. omega (arith, (pacer-once o).0, twice_times w);
      unheld = λ held trail o. (pacer-once o).1;
    }
