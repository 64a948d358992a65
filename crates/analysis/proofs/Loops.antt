-- Check 11 over the nodes: the search for the lowest loop.
use mathlib.Core.Path.{◌≡◌, sym, ap, ◌∙◌}
use mathlib.Core.Bool.{Bool, true, false}
use mathlib.Core.Option.{some}
use mathlib.Core.List.{◌∷◌}
use Prim.Native.Nat.{ℕ, suc, ◌+◌, ◌≤◌, ◌<◌}
use native.Mathlib.Numerals.{add-one}
use native.Mathlib.Omega.{arith}
use lib.ListN.{length, drop, drop_of_length-le}
use lib.Seq.{drop-cons}
use Rattle.esterel.specs.Refusal.{yields, rejects}
use Rattle.esterel.specs.Codes.{empty}
use Rattle.esterel.specs.Statement.{Stmt, size}
use Rattle.esterel.specs.Sets.{places_of, outside, place_at}
use Rattle.esterel.specs.Checks.{first_node, ends_at_once}
use Rattle.esterel.proofs.Accepted.{length-places}
use Rattle.table.specs.Check.{refuse_found}
use Rattle.analysis.specs.Passes.{loops_check}

-- none found before node i
pub record Searched (p : Stmt) (i : ℕ) : Type 0 where
  pub bound : i ≤ size p
  pub same : first_node ends_at_once (places_of p) 0 ≡ first_node ends_at_once (drop i (places_of p)) i

module _ {p : Stmt} {i : ℕ} (o : Searched p i) where
  next_place : i < size p → drop i (places_of p) ≡ place_at p i ∷ drop (suc i) (places_of p)
  next_place h = drop-cons (places_of p) i outside (omega (arith, length-places p 1 0 empty))

  pub search_on : i < size p → (b : Bool) → b ≡ ends_at_once (place_at p i) → b ≡ false → Searched p (i + 1)
  search_on h b e z =
      record {
        bound = omega arith;
        same = o.same ∙ ap (λ l. first_node ends_at_once l i) (next_place h) ∙ rw (← e, z, add-one i);
      }

  pub search_found : i < size p → (b : Bool) → b ≡ ends_at_once (place_at p i) → b ≡ true → rejects 11 i ≡ loops_check p
  unfolding loops_check
  search_found h b e z =
      let found : first_node ends_at_once (places_of p) 0 ≡ some i = o.same ∙ ap (λ l. first_node ends_at_once l i) (next_place h) ∙ rw (← e, z) in
      sym (ap (λ x. refuse_found 11 x (yields tt)) found)

  pub search_ended : size p ≤ i → yields tt ≡ loops_check p
  unfolding loops_check
  search_ended h =
      let short : length (places_of p) ≤ i = omega (arith, length-places p 1 0 empty) in
      sym (ap (λ x. refuse_found 11 x (yields tt)) (o.same ∙ ap (λ l. first_node ends_at_once l i) (drop_of_length-le (places_of p) short)))
