-- Each return of `narrow`.
use mathlib.Core.Path.{◌≡◌, refl, sym, ap, subst, ◌∙◌}
use mathlib.Core.Bool.{Bool, true, false, cond}
use mathlib.Core.List.{List}
use Prim.Native.Nat.{ℕ, ◌/◌, ◌≤◌}
use native.Mathlib.Omega.{arith}
use borrow.Author.Tests.{leb-true}
use lib.Dec.{leb}
use lib.ListN.{length, take}
use Rattle.std.specs.Prelude.{Ok}
use Rattle.codes.proofs.Bools.{left}
use Rattle.esterel.specs.Limits.{signals}
use Rattle.esterel.specs.Refusal.{yields, rejects}
use Rattle.esterel.specs.Statement.{size}
use Rattle.esterel.specs.Table.{passed, refused}
use Rattle.table.specs.Program.{program_of}
use Rattle.table.specs.declared.Tree.{Tree}
use Rattle.analysis.specs.Passes.{Placed}
use Rattle.analysis.specs.Analysis.{checked, Sized, TreeChecked}
use Rattle.analysis.proofs.Analyses.{verdict-refused, nodes-are}
use Rattle.tied.specs.Ties.{ties_of}
use Rattle.tied.specs.Passes.{TiesRead, tied_by, Known, SetsFilled}
use Rattle.tied.specs.Calls.{room_for, are_ties, check_ties, verdict_for, answer_of, sets_after, Narrowing}
use Rattle.tied.specs.declared.Tie.{Tie}

-- nothing lent has changed
refusing : {t ties sets : List ℕ} {number node : ℕ} → verdict_for t ties sets ≡ refused number node → Narrowing t ties sets sets (rejects number node)
unfolding answer_of sets_after
refusing {t} {ties} {sets} v = record { answer = sym (ap answer_of v); sets_are = sym (ap (λ w. sets_after w ties sets) v) }

module _ (ties sets : List ℕ) {t : List ℕ} {room : Bool} (er : room ≡ room_for (length t / 2) (length sets) (length ties)) where
  pub table-refused : {number node : ℕ} → TreeChecked room t (rejects number node) → Narrowing t ties sets sets (rejects number node)
  table-refused o = refusing (ap (check_ties ties) (ap (λ b. checked b t) (sym er) ∙ verdict-refused (checked room t) _ _ o.answer))

  module _ {x : Tree} (o : TreeChecked room t (yields x)) where
    sized : Sized (room_for (length t / 2) (length sets) (length ties)) t x.sizes.now
    sized = subst (λ b. Sized b t x.sizes.now) er (o.sized x refl)

    -- the tree's table is the one that was lent
    same : x.table.now ≡ t
    same = o.same x refl

    pub placed : Placed x.table.now
    placed = subst Placed (sym same) sized.ready.placed

    pub sets-lent : size (program_of x.table.now) ≤ length sets
    sets-lent = rw same (omega (arith, nodes-are sized.ready, leb-true (length t / 2) (length sets) (left (leb (length t / 2) (length sets)) (leb signals (length ties)) sized.suffices)))

    then-ties : (b : Bool) → are_ties (take signals ties) ≡ b → verdict_for t ties sets ≡ cond b (passed (program_of t)) (refused 19 0)
    then-ties b e = ap (check_ties ties) sized.verdict ∙ ap (λ a. cond a (passed (program_of t)) (refused 19 0)) e

    pub ties-refused : are_ties (take signals ties) ≡ false → Narrowing t ties sets sets (rejects 19 0)
    ties-refused e = refusing (then-ties false e)

    pub narrowed : (read : List Tie) {known : List Tie} {sets' : List ℕ} {n : ℕ} → TiesRead ties read (Ok tt) → n ≡ length t / 2 → Known (tied_by read) x.table.now known → SetsFilled x.table.now known sets sets' → Narrowing t ties sets sets' (yields n)
    unfolding answer_of sets_after
    narrowed read {known} {sets'} e en k f =
        let v = then-ties true e.0 in
        let filled : SetsFilled t known sets sets' = subst (λ u. SetsFilled u known sets sets') same f in
        let own : Known (tied_by read) t known = subst (λ u. Known (tied_by read) u known) same k in
        record {
          answer = ap yields (en ∙ nodes-are sized.ready) ∙ sym (ap answer_of v);
          sets_are = filled.is (ties_of (take signals ties)) (subst (λ c. Known c t known) e.1 own) ∙ sym (ap (λ w. sets_after w ties sets) v);
        }
