-- The theorems of specs/Theorems.antt.
use mathlib.Core.Path.{◌≡◌, refl, ap, ◌∙◌}
use mathlib.Core.Bool.{true}
use mathlib.Core.List.{List, [], ◌∷◌, ◌++◌, append_assoc}
use Prim.Native.Nat.{ℕ, ◌+◌, ◌≤◌, ◌<◌}
use native.Mathlib.Nat.{le_trans}
use native.Mathlib.Decide.{dec_lt}
use native.Mathlib.Omega.{arith}
use lib.ListN.{length, drop, replicate, length-append, length-replicate}
use Rattle.esterel.specs.Statement.{nothing, Stmt, leaf, size, nodes}
use Rattle.esterel.specs.Sets.{start_set}
use Rattle.esterel.specs.Checks.{planned}
use Rattle.esterel.specs.Instant.{Entry, Result, closed, starved, stuck, zeros, start, resume, admitted}
use Rattle.esterel.specs.Outcome.{taken}
use Rattle.esterel.specs.Theorems.{Reading, Exactness, EndedInK, EndsAtOnce, LoopCheck, Decides, LeftOver, Accepted, Closes, Demand3, NeedsMore, Starving}
use Rattle.esterel.proofs.Sizes.{load, size-load, load-planned, load-bound}
use Rattle.esterel.proofs.Held.{Fits, fits-length, none-zeros}
use Rattle.esterel.proofs.Postorder.{Part}
use Rattle.esterel.proofs.Nodes.{sits, sits-own}
use Rattle.esterel.proofs.Run.{Run, ran, asked, no_rule, weaken}
use Rattle.esterel.proofs.Start.{In, start-run}
use Rattle.esterel.proofs.Low.{Low, start-low}
use Rattle.esterel.proofs.Resume.{resume-run}
use Rattle.esterel.proofs.Answers.{reach, start-decides, resume-decides}
use Rattle.esterel.proofs.Admitted.{admitted-holds, admitted-fits, admits}
use Rattle.esterel.proofs.Reading.{reads_only_lem, reads-back}
use Rattle.esterel.proofs.Accepted.{ends-not, exits_in}
use Rattle.esterel.proofs.LoopCheck.{refuses-lowest, accepts-none, well_formed_lem, lowest_as, none_as}
use Rattle.esterel.proofs.Subtrees.{all-go-on}

pub reading : Reading
reading = record { reads_only = reads_only_lem; reads_back = reads-back }

-- Exactness and what is left over.

-- p's start, wherever its first node is, with no condition on loops
started_run : (p : Stmt) (first : ℕ) (answers : List ℕ) → (ps : List Stmt) × Run ps (Unit {0}) (Fits p) (In (start_set p)) (size p) answers (start first p answers)
started_run p first answers =
    let ps = replicate first (leaf nothing) ++ (nodes p ++ []) in
    let part : Part ps first (nodes p) = record { pre = replicate first (leaf nothing); post = []; is = refl; at = length-replicate first (leaf nothing) } in
    (ps, start-run ps (Unit {0}) (λ n b _ _. tt) p first answers (sits ps p first part))

run-code : {ps : List Stmt} {S : Type 0} {F : List ℕ → Type 0} {C : ℕ → Type 0} {L k : ℕ} {ans : List ℕ} {t : List Entry} {h r : List ℕ} → Run ps S F C L ans (closed k t h r) → C k
run-code (ran k t h r o) = o.code

run_short : {ps : List Stmt} {S : Type 0} {F : List ℕ → Type 0} {C : ℕ → Type 0} {L k : ℕ} {ans : List ℕ} {t : List Entry} {h r : List ℕ} → Run ps S F C L ans (closed k t h r) → length t ≤ L
run_short (ran k t h r o) = o.short

pub exactness : Exactness
exactness p first k = (
  λ e. let c = reach p first k e in (c.used ++ [], c.trail, c.held, [], c.is.is []),
  λ (answers, t, h, r, e). run-code {C = In (start_set p)} (rw e at (started_run p first answers).1),
)

-- Refusal for a loop: a body has 0 in K exactly if it can end at once.

ended-ends : (first : ℕ) (q : Stmt) → EndedInK first q → EndsAtOnce first q
ended-ends first q = (exactness q first 0).0

ends-ended : (first : ℕ) (q : Stmt) → EndsAtOnce first q → EndedInK first q
ends-ended first q = (exactness q first 0).1

pub loop_check : LoopCheck
loop_check =
    record {
      refuses = λ bytes p w i. refuses-lowest w i;
      refuses_exactly = λ bytes p w i.
          (let (there, back) = refuses-lowest w i in
          (λ e. lowest_as ended-ends ends-ended (there e), λ l. back (lowest_as ends-ended ended-ends l)));
      accepts = λ bytes p w. accepts-none w;
      accepts_exactly = λ bytes p w.
          (let (there, back) = accepts-none w in
          (λ e. none_as ended-ends ends-ended p (there e), λ f. back (none_as ends-ended ended-ends p f)));
      well_formed = well_formed_lem;
    }

pub left_over : LeftOver
left_over = record { starts = start-decides; resumes = resume-decides }

-- Demand 3.

module _ (p : Stmt) (a : Accepted p) where
  meets : (answers : List ℕ) (x : Result) → Run (nodes p) ⊥ (Fits p) (Low 0) (load p) answers x → Closes p answers x
  meets answers _ (asked o) = omega (arith, load-planned p)
  meets answers _ (no_rule s) = s
  meets answers _ (ran k t h r o) =
      record {
        code = o.code;
        ended = λ e. rw (fits-length o.fit) at (none-zeros h (rw e at o.shown));
        paused = λ e. admits o.fit (rw e at o.shown);
        in_k = o.trail;
        bodies = all-go-on p t (ends-not p a) o.trail;
        entries = le_trans o.short (load-planned p);
        fewer_entries = rw (← load-bound p) o.short;
        used = o.used;
        lent = o.lent;
        counted = o.counted;
      }

  starts-close : (answers : List ℕ) → Closes p answers (start 0 p answers)
  starts-close answers =
      meets answers (start 0 p answers)
      (weaken (λ h f. f) (start-low p 0 (exits_in p a)) (size-load p) (start-run (nodes p) ⊥ (ends-not p a) p 0 answers (sits-own p)))

  resumes-close : (held answers : List ℕ) → admitted p held ≡ true → Closes p answers (resume 0 p held answers)
  resumes-close held answers e =
      meets answers (resume 0 p held answers)
      (resume-run (nodes p) ⊥ (ends-not p a) p 0 0 held answers (sits-own p) (exits_in p a) (admitted-fits p held e) (admitted-holds p held e))

pub demand3 : Demand3
demand3 =
    record {
      starts = starts-close;
      resumes = resumes-close;
      start_entries = λ p answers k t h r e. run_short {C = In (start_set p)} (rw e at (started_run p 0 answers).1);
    }

-- Check 13.

-- a list that begins with `used` and is no longer than another that does begins with the other's part
prefix_of : (used rest answers more : List ℕ) → answers ++ more ≡ used ++ rest → length used ≤ length answers → answers ≡ used ++ drop (length used) answers
prefix_of [] rest answers more e h = refl
prefix_of (x ∷ used) rest [] more e h = absurd (omega arith)
prefix_of (x ∷ used) rest (y ∷ answers) more e h =
    let head : y ≡ x = cc in
    let tail : answers ++ more ≡ used ++ rest = cc in
    rw (← prefix_of used rest answers more tail (omega arith), head)

module _ (p : Stmt) (run : List ℕ → Result) (decides : Decides run) (closes : (answers : List ℕ) → Closes p answers (run answers)) where
  -- with enough answers it closes; had it not looked past those lent, it would have closed over them
  needs : (answers : List ℕ) → run answers ≡ starved → NeedsMore p run answers
  needs answers s = go (run (answers ++ more)) refl (closes (answers ++ more))
    where
      more : List ℕ
      more = zeros (planned p)

      enough : planned p ≤ length (answers ++ more)
      enough = rw (length-append, length-replicate) (omega arith)

      go : (x : Result) → run (answers ++ more) ≡ x → Closes p (answers ++ more) x → NeedsMore p run answers
      go (closed k t h r) e c = (more, k, t, h, r, e, past (dec_lt (length answers) (taken (nodes p) t)))
        where
          past : Dec (length answers < taken (nodes p) t) → length answers < taken (nodes p) t
          past (yes l) = l
          past (no l) =
              let (used, lent, other) = decides (answers ++ more) k t h r e in
              let same : length (answers ++ more) ≡ length used + length r = ap length lent ∙ length-append used r in
              let same' : length (answers ++ more) ≡ length c.used + length r = ap length c.lent ∙ length-append c.used r in
              let z = prefix_of used r answers more lent (omega (arith, c.counted)) in
              let closed-too : run answers ≡ closed k t h (drop (length used) answers) = ap run z ∙ other (drop (length used) answers) in
              let w : ◌≡◌ {A = ℕ} 0 1 = cc in
              absurd (omega arith)
      go starved e c = absurd (omega (arith, enough))
      go stuck e c = absurd c

  starved_of : (answers : List ℕ) → NeedsMore p run answers → run answers ≡ starved
  starved_of answers (more, k, t, h, r, e, l) = go (run answers) refl (closes answers)
    where
      go : (x : Result) → run answers ≡ x → Closes p answers x → x ≡ starved
      go (closed j u g s) z c =
          let (used, lent, other) = decides answers j u g s z in
          let longer : run (answers ++ more) ≡ closed j u g (s ++ more) = ap run (ap (λ y. y ++ more) lent ∙ append_assoc used s more) ∙ other (s ++ more) in
          let same : u ≡ t = cc in
          let size_of : length answers ≡ length c.used + length s = ap length c.lent ∙ length-append c.used s in
          absurd (omega (arith, c.counted, ap (taken (nodes p)) same))
      go starved z c = refl
      go stuck z c = absurd c

pub starving : Starving
starving =
    record {
      starts = λ p a answers.
          (needs p (start 0 p) (start-decides p 0) (starts-close p a) answers, starved_of p (start 0 p) (start-decides p 0) (starts-close p a) answers);
      resumes = λ p a held answers e.
          let closes : (ans : List ℕ) → Closes p ans (resume 0 p held ans) = λ ans. resumes-close p a held ans e in
          (needs p (resume 0 p held) (resume-decides p 0 held) closes answers, starved_of p (resume 0 p held) (resume-decides p 0 held) closes answers);
    }
