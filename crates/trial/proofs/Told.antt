-- What `trial` answers, case by case (specs/Calls).
use mathlib.Core.Path.{◌≡◌, ap, ◌∙◌}
use mathlib.Core.Bool.{Bool, cond}
use mathlib.Core.List.{List}
use Prim.Native.Nat.{ℕ, suc, ◌-◌, ◌≤◌, ◌<◌}
use lib.Dec.{leb, ltb}
use borrow.Author.Tests.{lt-ltb, le-ltb, le-leb, lt-leb}
use Rattle.esterel.specs.Statement.{Stmt, size, nodes}
use Rattle.esterel.specs.Refusal.{Reply, rejects}
use Rattle.esterel.specs.Table.{passed, refused}
use Rattle.esterel.specs.Checks.{verdict}
use Rattle.esterel.specs.Outcome.{statement_at}
use Rattle.starts.specs.Ticks.{presents}
use Rattle.trial.specs.Trials.{trial_answers}
use Rattle.trial.specs.Calls.{gathered_of, trial_at, tried_of}
use Rattle.trial.specs.declared.Tried.{Tried}

module _ (t : List ℕ) (node : ℕ) {r : Reply Tried} (er : r ≡ tried_of (verdict t) node) where
  pub of_table_lem : (number at : ℕ) → verdict t ≡ refused number at → r ≡ rejects number at
  unfolding tried_of
  of_table_lem number at e = er ∙ ap (λ v. tried_of v node) e

  module _ (p : Stmt) (e : verdict t ≡ passed p) where
    by-node : {b : Bool} → ltb node (size p) ≡ b → r ≡ cond b (trial_at p node) (rejects 21 0)
    unfolding tried_of
    by-node z = er ∙ ap (λ v. tried_of v node) e ∙ ap (λ b. cond b (trial_at p node) (rejects 21 0)) z

    pub outside-is : size p ≤ node → r ≡ rejects 21 0
    outside-is h = by-node (le-ltb node (size p) h)

    module _ (h : node < size p) where
      by-presents : {b : Bool} → leb (presents (statement_at (nodes p) node)) trial_answers ≡ b → r ≡ cond b (gathered_of (suc node - size (statement_at (nodes p) node)) (statement_at (nodes p) node)) (rejects 22 0)
      by-presents z =
          by-node (lt-ltb node (size p) h)
          ∙ ap (λ b. cond b (gathered_of (suc node - size (statement_at (nodes p) node)) (statement_at (nodes p) node)) (rejects 22 0)) z

      pub too_many_is : trial_answers < presents (statement_at (nodes p) node) → r ≡ rejects 22 0
      too_many_is l = by-presents (lt-leb (presents (statement_at (nodes p) node)) trial_answers l)

      pub gathered-is : presents (statement_at (nodes p) node) ≤ trial_answers → r ≡ gathered_of (suc node - size (statement_at (nodes p) node)) (statement_at (nodes p) node)
      gathered-is l = by-presents (le-leb (presents (statement_at (nodes p) node)) trial_answers l)
