-- One law for each return of `trial`.
use mathlib.Core.Path.{◌≡◌, refl, sym, ap, ap₂, ◌∙◌}
use mathlib.Core.Bool.{true}
use mathlib.Core.List.{List}
use Prim.Native.Nat.{ℕ, ◌+◌, ◌<◌, ◌≤◌}
use native.Mathlib.Omega.{arith}
use Rattle.codes.specs.Codes.{word}
use Rattle.esterel.specs.Statement.{size}
use Rattle.esterel.specs.Refusal.{yields, rejects}
use Rattle.esterel.specs.Table.{passed}
use Rattle.esterel.specs.Checks.{verdict}
use Rattle.table.specs.Program.{program_of}
use Rattle.table.specs.Columns.{stmt_at, first_at}
use Rattle.table.specs.declared.Tree.{Tree}
use Rattle.analysis.specs.Analysis.{checked, TreeChecked}
use Rattle.analysis.proofs.Analyses.{verdict-refused}
use Rattle.analysis.proofs.Theorems.{checked-room, checked-passed}
use Rattle.table.proofs.Views.{spans}
use Rattle.starts.specs.Ticks.{presents}
use Rattle.trial.specs.Trials.{tried, trial_answers}
use Rattle.trial.specs.Calls.{tells, tried_of}
use Rattle.trial.proofs.Told.{of_table_lem, outside-is, too_many_is, gathered-is}

module _ {t : List ℕ} (node : ℕ) where
  pub table-refused : {number at : ℕ} → TreeChecked true t (rejects number at) → rejects number at ≡ tried_of (verdict t) node
  table-refused {number} {at} o = sym (of_table_lem t node refl number at (sym (checked-room t) ∙ verdict-refused (checked true t) number at o.answer))

  -- u is the table of the tree that the checks hand out
  module _ {tree : Tree} (o : TreeChecked true t (yields tree)) where
    abbrev u : List ℕ
    u = tree.table.now

    accepted : verdict t ≡ passed (program_of u)
    accepted = checked-passed true t (program_of t) (o.sized tree refl).verdict ∙ ap (λ x. passed (program_of x)) (sym (o.same tree refl))

    module _ {nodes : ℕ} (en : nodes ≡ size (program_of u)) where
      pub outside : nodes ≤ node → rejects 21 0 ≡ tried_of (verdict t) node
      outside h = sym (outside-is t node refl (program_of u) accepted (omega arith))

      module _ (h : node < nodes) where
        within : node < size (program_of u)
        within = omega arith

        -- the size that is found is the statement's
        pub size_fits : {s : ℕ} → s ≡ size (stmt_at u node) → s ≤ node + 1
        size_fits es = omega (arith, spans u node within)

        module _ {n : ℕ} (ep : n ≡ presents (stmt_at u node)) where
          pub too_many : trial_answers < n → rejects 22 0 ≡ tried_of (verdict t) node
          too_many l = sym (too_many_is t node refl (program_of u) accepted within (omega arith))

          pub found : n ≤ trial_answers → {s : ℕ} → s ≡ word (tried trial_answers (first_at u node) (stmt_at u node)) → tells s n ≡ tried_of (verdict t) node
          found l es = ap₂ tells es ep ∙ sym (gathered-is t node refl (program_of u) accepted within (omega arith))
