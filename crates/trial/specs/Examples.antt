-- Worked examples of F-13, as one statement. It is proved in proofs/Examples.antt.
use Rattle.std.specs.Prelude.{ℕ, zero, suc, ◌≡◌, true, false, [], ◌∷◌}
use Rattle.esterel.specs.Statement.{nothing, pause, exit, suspend, trap, present, sequence, parallel, Stmt, leaf, one, two}
use Rattle.esterel.specs.Sets.{start_set}
use Rattle.starts.specs.Ticks.{presents}
use Rattle.trial.specs.Lists.{lists}
use Rattle.trial.specs.Trials.{tried, trial_answers}

-- present 5 then nothing else pause end
abbrev pub fork : Stmt
fork = two (present 5) (leaf nothing) (leaf pause)

-- n presents within each other: only with n times present does it pause
abbrev pub nested : ℕ → Stmt
nested zero = leaf pause
nested (suc n) = two (present 5) (nested n) (leaf nothing)

-- a suspend tests nothing when it is started, and the test after the pause is not come to
abbrev pub waits : Stmt
waits = one (suspend 4) (two sequence (leaf pause) fork)

-- trap [ fork; exit 0 || present 6 then exit 1 else nothing end ] end
abbrev pub exits : Stmt
exits = one trap (two parallel (two sequence fork (leaf (exit 0))) (two (present 6) (leaf (exit 1)) (leaf nothing)))

pub record Examples : Type 0 where
  pub lists0 : lists 0 ≡ [] ∷ []
  pub lists2 : lists 2 ≡ (0 ∷ 0 ∷ []) ∷ (1 ∷ 0 ∷ []) ∷ (0 ∷ 1 ∷ []) ∷ (1 ∷ 1 ∷ []) ∷ []
  -- answers that are left over make no difference
  pub fork_ends : tried 3 0 fork 0 ≡ true
  pub fork_pauses : tried 3 0 fork 1 ≡ true
  pub fork_stays : tried 3 0 fork 2 ≡ false
  -- the presents of a statement, its own included, and no suspend
  pub own_counts : presents fork ≡ 1
  pub nested_counts : presents (nested 3) ≡ 3
  pub waits_counts : presents waits ≡ 1
  pub waits_pauses : tried 1 0 waits 1 ≡ true
  pub waits_stays : tried 1 0 waits 0 ≡ false
  -- with an answer less than there are presents a code is missed
  pub enough : tried 3 0 (nested 3) 1 ≡ true
  pub too_few : tried 2 0 (nested 3) 1 ≡ false
  pub in_k : start_set (nested 3) 1 ≡ true
  -- so it is with the 4,096 lists of 12 answers
  pub twelve : tried trial_answers 0 (nested 12) 1 ≡ true
  pub thirteen : tried trial_answers 0 (nested 13) 1 ≡ false
  -- an exit that is caught, a pause, and an exit to the next trap, handed on as 2
  pub exit_caught : tried 2 0 exits 0 ≡ true
  pub exit_pauses : tried 2 0 exits 1 ≡ true
  pub exit_outer : tried 2 0 exits 2 ≡ true
  pub exit_none : tried 2 0 exits 3 ≡ false
