-- The survey's step from a node to the node before it: what each arm of the match gives.
use mathlib.Core.Path.{◌≡◌, refl, ap, ◌∙◌}
use mathlib.Core.Logic.{◌⊎◌, inl, inr, ⊎_elim}
use mathlib.Core.List.{List, [], ◌∷◌}
use Prim.Native.Nat.{ℕ, ◌+◌}
use native.Mathlib.Omega.{arith}
use lib.ListN.{set}
use types.Run.{OneOf, miss}
use denote.Enum.Declared.{tag_of}
use Rattle.esterel.specs.Codes.{bit}
use Rattle.table.specs.Kinds.{arity_of, is_trap, is_loop}
use Rattle.table.specs.Check.{TopOf, OnlyOf, SecondOf, Descended}
use Rattle.table.specs.declared.Kind.{Kind}
use Rattle.table.specs.declared.Kind.TheVariants.{Nothing, Pause, Emit, Exit, Signal, Present, Suspend, Loop, Sequence, Parallel, Trap, Unknown}
use Rattle.table.specs.declared.Nesting.{Nesting}
use Rattle.table.specs.contracts.Kind.{the_type}
use Rattle.table.proofs.Stacks.{moves-past, moves-into, moves-second}

-- the kinds of an arm, by their tags: with no child, with one child that neither catches nor repeats, with two
pub record Plain (k : Kind) (children : ℕ) : Type 0 where
  pub taken : arity_of k ≡ children
  pub catches : bit (is_trap k) ≡ 0
  pub repeats : bit (is_loop k) ≡ 0

abbrev leaf_tags : List ℕ
leaf_tags = 0 ∷ 1 ∷ 2 ∷ 3 ∷ 11 ∷ []

pub leaves : (k : Kind) → OneOf leaf_tags (tag_of the_type k) → Plain k 0
leaves Nothing h = record { taken = refl; catches = refl; repeats = refl }
leaves Pause h = record { taken = refl; catches = refl; repeats = refl }
leaves Emit h = record { taken = refl; catches = refl; repeats = refl }
leaves Exit h = record { taken = refl; catches = refl; repeats = refl }
leaves Signal h = absurd (miss leaf_tags 4 tt h)
leaves Present h = absurd (miss leaf_tags 5 tt h)
leaves Suspend h = absurd (miss leaf_tags 6 tt h)
leaves Loop h = absurd (miss leaf_tags 7 tt h)
leaves Sequence h = absurd (miss leaf_tags 8 tt h)
leaves Parallel h = absurd (miss leaf_tags 9 tt h)
leaves Trap h = absurd (miss leaf_tags 10 tt h)
leaves Unknown h = record { taken = refl; catches = refl; repeats = refl }

abbrev one_tags : List ℕ
one_tags = 4 ∷ 6 ∷ []

pub signal-or-suspend : (k : Kind) → OneOf one_tags (tag_of the_type k) → (k ≡ Signal) ⊎ (k ≡ Suspend)
signal-or-suspend Nothing h = absurd (miss one_tags 0 tt h)
signal-or-suspend Pause h = absurd (miss one_tags 1 tt h)
signal-or-suspend Emit h = absurd (miss one_tags 2 tt h)
signal-or-suspend Exit h = absurd (miss one_tags 3 tt h)
signal-or-suspend Signal h = inl refl
signal-or-suspend Present h = absurd (miss one_tags 5 tt h)
signal-or-suspend Suspend h = inr refl
signal-or-suspend Loop h = absurd (miss one_tags 7 tt h)
signal-or-suspend Sequence h = absurd (miss one_tags 8 tt h)
signal-or-suspend Parallel h = absurd (miss one_tags 9 tt h)
signal-or-suspend Trap h = absurd (miss one_tags 10 tt h)
signal-or-suspend Unknown h = absurd (miss one_tags 11 tt h)

pub ones : (k : Kind) → OneOf one_tags (tag_of the_type k) → Plain k 1
ones k h = ⊎_elim (λ e. rw e record { taken = refl; catches = refl; repeats = refl }) (λ e. rw e record { taken = refl; catches = refl; repeats = refl }) (signal-or-suspend k h)

abbrev two_tags : List ℕ
two_tags = 5 ∷ 8 ∷ 9 ∷ []

pub twos : (k : Kind) → OneOf two_tags (tag_of the_type k) → Plain k 2
twos Nothing h = absurd (miss two_tags 0 tt h)
twos Pause h = absurd (miss two_tags 1 tt h)
twos Emit h = absurd (miss two_tags 2 tt h)
twos Exit h = absurd (miss two_tags 3 tt h)
twos Signal h = absurd (miss two_tags 4 tt h)
twos Present h = record { taken = refl; catches = refl; repeats = refl }
twos Suspend h = absurd (miss two_tags 6 tt h)
twos Loop h = absurd (miss two_tags 7 tt h)
twos Sequence h = record { taken = refl; catches = refl; repeats = refl }
twos Parallel h = record { taken = refl; catches = refl; repeats = refl }
twos Trap h = absurd (miss two_tags 10 tt h)
twos Unknown h = absurd (miss two_tags 11 tt h)

module _ {k : Kind} {n r : Nesting} {xs ys zs : List ℕ} where
  pub past-leaf : Plain k 0 → TopOf xs ys zs n.waiting r → Descended k n xs ys zs xs ys zs r
  past-leaf e o =
      record {
        depth = moves-past e.taken o.depth;
        traps = moves-past e.taken o.traps;
        loops = moves-past e.taken o.loops;
        waits = omega (arith, o.waits, e.taken);
      }

  pub into-only : arity_of k ≡ 1 → {t l : ℕ} → t ≡ n.traps + bit (is_trap k) → l ≡ n.loops + bit (is_loop k) → OnlyOf n t l r → Descended k n xs ys zs xs ys zs r
  into-only e et el o =
      record {
        depth = moves-into e o.depth;
        traps = moves-into e (o.traps ∙ et);
        loops = moves-into e (o.loops ∙ el);
        waits = omega (arith, o.waits, e);
      }

  pub into-second : {xs' ys' zs' : List ℕ} → Plain k 2 → SecondOf n xs ys zs xs' ys' zs' r → Descended k n xs ys zs xs' ys' zs' r
  into-second e o =
      let traps : n.traps ≡ n.traps + bit (is_trap k) = omega (arith, e.catches) in
      let loops : n.loops ≡ n.loops + bit (is_loop k) = omega (arith, e.repeats) in
      record {
        depth = moves-second e.taken o.depth o.depths_are;
        traps = moves-second e.taken (o.traps ∙ traps) (o.traps_are ∙ ap (set ys n.waiting) traps);
        loops = moves-second e.taken (o.loops ∙ loops) (o.loops_are ∙ ap (set zs n.waiting) loops);
        waits = omega (arith, o.waits, e.taken);
      }
