-- The step of the walk over the contexts, from a node to the node before it: what each arm of the match gives.
use mathlib.Core.Path.{◌≡◌, ap, ◌∙◌}
use mathlib.Core.Logic.{◌⊎◌, ⊎_elim}
use mathlib.Core.List.{List}
use Prim.Native.Nat.{ℕ, ◌+◌}
use native.Mathlib.Omega.{arith}
use lib.ListN.{set}
use Rattle.codes.specs.Codes.{bit}
use Rattle.table.specs.Kinds.{arity_of, is_trap}
use Rattle.table.specs.declared.Kind.{Kind}
use Rattle.table.specs.declared.Kind.TheVariants.{Signal, Suspend}
use Rattle.table.proofs.Stacks.{moves-past, moves-into, moves-second}
use Rattle.analysis.specs.Steps.{first_of, last_of}
use Rattle.analysis.specs.Contexts.{TopOf, OnlyOf, SecondOf, Descended}
use Rattle.analysis.specs.declared.Surroundings.{Surroundings}

-- a signal and a suspend hand the context on
pub handed-on : {k : Kind} → (k ≡ Signal) ⊎ (k ≡ Suspend) → (P t ends : ℕ) → P ≡ last_of k P t ends
handed-on h P t ends = ⊎_elim (λ e. rw e) (λ e. rw e) h

module _ {k : Kind} {n r : Surroundings} {K ends : ℕ} {xs ys : List ℕ} where
  pub past-leaf : arity_of k ≡ 0 → TopOf xs ys n.waiting r → Descended k n K ends xs ys xs ys r
  past-leaf e o = record { context = moves-past e o.context; traps = moves-past e o.traps; waits = omega (arith, o.waits, e) }

  pub into-only : arity_of k ≡ 1 → {P t : ℕ} → P ≡ last_of k n.context n.traps ends → t ≡ n.traps + bit (is_trap k) → OnlyOf n P t r → Descended k n K ends xs ys xs ys r
  into-only e e_p et o = record { context = moves-into e (o.context ∙ e_p); traps = moves-into e (o.traps ∙ et); waits = omega (arith, o.waits, e) }

  pub into-second : arity_of k ≡ 2 → bit (is_trap k) ≡ 0 → {x y : ℕ} {xs' ys' : List ℕ} → x ≡ first_of k n.context n.traps K → y ≡ last_of k n.context n.traps ends → SecondOf n x y xs ys xs' ys' r
      → Descended k n K ends xs ys xs' ys' r
  into-second e z ex ey o =
      let same : n.traps ≡ n.traps + bit (is_trap k) = omega (arith, z) in
      record {
        context = moves-second e (o.context ∙ ey) (o.pending_is ∙ ap (set xs n.waiting) ex);
        traps = moves-second e (o.traps ∙ same) (o.counts_are ∙ ap (set ys n.waiting) same);
        waits = omega (arith, o.waits, e);
      }
