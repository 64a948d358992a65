-- The small functions' answers, by what is known at each return.
use mathlib.Core.Path.{◌≡◌}
use mathlib.Core.Bool.{true}
use mathlib.Core.List.{List}
use Prim.Native.Nat.{ℕ, ◌-◌}
use borrow.Author.Tests.{eq-eqb, ne_eqb}
use lib.Seq.{sets}
use Rattle.esterel.specs.Instant.{zeros}
use Rattle.table.specs.Kinds.{is_trap}
use Rattle.table.specs.declared.Kind.{Kind}
use Rattle.instant.specs.Steps.{one_more, catch_ran, Left}
use Rattle.instant.specs.declared.Reaction.{Reaction}

-- a trap is left, which catches or does not
module _ {k : Kind} {inner : Reaction} {first node : ℕ} {held : List ℕ} where
  module _ (tr : is_trap k ≡ true) {held' : List ℕ} {r : Reaction} (e : r ≡ one_more (catch_ran inner)) where
    pub trap-catches : inner.code ≡ 2 → held' ≡ sets held first (zeros (node - first)) → Left k inner first node held held' r
    trap-catches two h = record { answer = rw tr e; state = rw (tr, eq-eqb inner.code 2 two) h }

    pub trap-passes : (inner.code ≡ 2 → ⊥) → held' ≡ held → Left k inner first node held held' r
    trap-passes n h = record { answer = rw tr e; state = rw (tr, ne_eqb inner.code 2 n) h }
