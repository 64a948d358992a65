-- The examples: the walk computes each list, and it is the one that is shown; the recursion computes each greatest number.
use mathlib.Core.Path.{◌≡◌, refl, subst}
use mathlib.Core.Bool.{true}
use mathlib.Core.Option.{some}
use mathlib.Core.List.{List, [], ◌∷◌}
use Prim.Native.Nat.{ℕ}
use Rattle.esterel.specs.Statement.{Stmt}
use Rattle.esterel.specs.Sets.{start_set}
use Rattle.starts.specs.declared.Weight.TheVariants.{Answers, Entries}
use Rattle.starts.specs.Ticks.{IsShown}
use Rattle.starts.specs.Entries.{Greatest, IsLongest}
use Rattle.starts.specs.Summary.{up_to, weights, most_entries}
use Rattle.starts.specs.Walk.{cost, walk, goal, any_code, answers_of}
use Rattle.starts.specs.Examples.{w1, w2, w6, w8, tests, shorter, early, beside, either, Examples, FirstTicks}
use Rattle.starts.proofs.Cost.{below-low}
use Rattle.starts.proofs.Theorems.{highest, bounded, walks_right}
use Rattle.starts.proofs.Entries.{composed}

-- with the bound that the statement has
walked-is : (p : Stmt) (k : ℕ) (u : List ℕ) → start_set p k ≡ true → answers_of (walk Answers (highest p) p (goal k)) ≡ u → IsShown 0 p k u
walked-is p k u e z = subst (IsShown 0 p k) z ((walks_right (highest p) p (bounded p) k e).shown 0)

pub examples : Examples
unfolding cost
examples =
    record {
      w2-shown = walked-is w2 0 [] refl refl;
      w6-shown = walked-is w6 0 (1 ∷ []) refl refl;
      w8-shown = walked-is w8 0 (0 ∷ 1 ∷ []) refl refl;
      tests-shown = walked-is tests 1 (0 ∷ 0 ∷ []) refl refl;
      shorter-shown = walked-is shorter 0 (1 ∷ []) refl refl;
      w8-least = refl;
      w8-none = refl;
    }

-- the codes, composed
most-is : (p : Stmt) (n : ℕ) → up_to (weights Entries) (most_entries p) (highest p) ≡ some n → Greatest p n
most-is p n e = (composed.all (highest p) p (below-low (highest p) p (bounded p)) n).1 e

longest-is : (p : Stmt) (n : ℕ) (u : List ℕ) → up_to (weights Entries) (most_entries p) (highest p) ≡ some n → answers_of (walk Entries (highest p) p any_code) ≡ u → IsLongest p n u
longest-is p n u e z = subst (IsLongest p n) z (composed.found (highest p) p (bounded p) n (most-is p n e))

pub first_ticks : FirstTicks
unfolding cost
first_ticks =
    record {
      w1-most = most-is w1 3 refl;
      early-most = most-is early 5 refl;
      early-longest = longest-is early 5 (1 ∷ []) refl refl;
      beside-most = most-is beside 10 refl;
      beside-longest = longest-is beside 10 (1 ∷ 1 ∷ []) refl refl;
      either-most = most-is either 5 refl;
      either-longest = longest-is either 5 (0 ∷ 0 ∷ []) refl refl;
      pauses = refl;
      ends = refl;
    }
