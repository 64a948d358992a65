-- What `narrow` answers and leaves in the lent sets (F-8).
use Rattle.std.specs.Prelude.{ℕ, ◌/◌, ◌≡◌, Bool, true, ◌&&◌, cond, List, [], ◌∷◌, leb, length, take}
use Rattle.esterel.specs.Limits.{signals}
use Rattle.esterel.specs.Statement.{size}
use Rattle.esterel.specs.Refusal.{Reply, yields, rejects}
use Rattle.esterel.specs.Table.{Verdict, passed, refused}
use Rattle.table.specs.Columns.{onto}
use Rattle.analysis.specs.Analysis.{checked}
use Rattle.tied.specs.Ties.{ties_of}
use Rattle.tied.specs.Narrowed.{words_of}

-- check 3: a set for each of n nodes, and a byte for each signal
abbrev pub room_for : (n sets ties : ℕ) → Bool
room_for n sets ties = leb n sets && leb signals ties

-- each byte is 0, 1 or 2
abbrev pub are_ties : List ℕ → Bool
are_ties [] = true
are_ties (b ∷ bs) = leb b 2 && are_ties bs

-- check 19, after the others; only a byte for each signal is looked at
abbrev pub check_ties : List ℕ → Verdict → Verdict
check_ties ties (passed p) = cond (are_ties (take signals ties)) (passed p) (refused 19 0)
check_ties ties (refused number node) = refused number node

-- checks 1, 2, 3, 4 to 11, then 19; 11 goes by K, whatever is tied
abbrev pub verdict_for : (t ties sets : List ℕ) → Verdict
verdict_for t ties sets = check_ties ties (checked (room_for (length t / 2) (length sets) (length ties)) t)

-- the number and values of this paper for each case of the answer
unfoldable pub answer_of : Verdict → Reply ℕ
answer_of (passed p) = yields (size p)
answer_of (refused number node) = rejects number node

-- the sets after the call: those of all nodes in postorder and the old entries past them; after a refusal all as they were
unfoldable pub sets_after : Verdict → (ties old : List ℕ) → List ℕ
sets_after (passed p) ties old = onto (words_of (ties_of (take signals ties)) p) old
sets_after (refused number node) ties old = old

-- the contract of `narrow`: the answer, and the whole content of the lent sets
pub record Narrowing (t ties sets sets' : List ℕ) (r : Reply ℕ) : Type 0 where
  pub answer : r ≡ answer_of (verdict_for t ties sets)
  pub sets_are : sets' ≡ sets_after (verdict_for t ties sets) ties sets
