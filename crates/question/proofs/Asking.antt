-- One law for each return of `ask`.
use mathlib.Core.Path.{◌≡◌, refl, sym, ap, ◌∙◌}
use mathlib.Core.Bool.{Bool, true, false, cond}
use mathlib.Core.List.{List}
use Prim.Native.Nat.{ℕ, ◌<◌, ◌≤◌}
use lib.Dec.{ltb}
use borrow.Author.Tests.{lt-ltb, le-ltb}
use Rattle.esterel.specs.Refusal.{yields, rejects}
use Rattle.esterel.specs.Statement.{size}
use Rattle.esterel.specs.Table.{passed}
use Rattle.esterel.specs.Checks.{verdict}
use Rattle.table.specs.Program.{program_of}
use Rattle.table.specs.Columns.{stmt_at, first_at}
use Rattle.table.specs.declared.Tree.{Tree}
use Rattle.analysis.specs.Analysis.{checked, Sized, TreeChecked}
use Rattle.analysis.proofs.Analyses.{verdict-refused}
use Rattle.analysis.proofs.Theorems.{checked-room}
use Rattle.question.specs.Question.{Found, max_code, look}
use Rattle.question.specs.Steps.{look_at}
use Rattle.question.specs.Calls.{question_at, told_of, tells, asked_of}
use Rattle.question.specs.declared.Asked.{Asked}
use Rattle.question.proofs.Looks.{limited_in, limited_out}

module _ {t : List ℕ} (node code : ℕ) where
  pub table-refused : {number at : ℕ} → TreeChecked true t (rejects number at) → rejects number at ≡ asked_of (verdict t) node code
  unfolding asked_of
  table-refused o = sym (ap (λ v. asked_of v node code) (sym (checked-room t) ∙ verdict-refused (checked true t) _ _ o.answer))

  module _ {x : Tree} (o : TreeChecked true t (yields x)) where
    sized : Sized true t x.sizes.now
    sized = o.sized x refl

    -- the tree's table is the one that was lent
    same : x.table.now ≡ t
    same = o.same x refl

    by-node : {b : Bool} → ltb node (size (program_of x.table.now)) ≡ b → asked_of (verdict t) node code ≡ cond b (yields (told_of (question_at (program_of x.table.now) node code))) (rejects 21 0)
    unfolding asked_of
    by-node e =
        ap (λ v. asked_of v node code) (sym (checked-room t) ∙ sized.verdict ∙ ap (λ u. passed (program_of u)) (sym same))
        ∙ ap (λ b. cond b (yields (told_of (question_at (program_of x.table.now) node code))) (rejects 21 0)) e

    pub outside : size (program_of x.table.now) ≤ node → rejects 21 0 ≡ asked_of (verdict t) node code
    outside h = sym (by-node (le-ltb node (size (program_of x.table.now)) h))

    module _ (h : node < size (program_of x.table.now)) where
      inside : asked_of (verdict t) node code ≡ yields (told_of (question_at (program_of x.table.now) node code))
      inside = by-node (lt-ltb node (size (program_of x.table.now)) h)

      -- what is found there, with the statement and its first node by the table
      abbrev found : Found
      found = look (first_at x.table.now node) (stmt_at x.table.now node) code

      pub above : max_code < code → tells false 0 ≡ asked_of (verdict t) node code
      above l = sym (inside ∙ ap (λ f. yields (told_of f)) (limited_out code found l))

      pub known : code ≤ max_code → {r : Asked} → r ≡ look_at x.table.now node code → yields r ≡ asked_of (verdict t) node code
      known l e = ap yields e ∙ sym (inside ∙ ap (λ f. yields (told_of f)) (limited_in code found l))
