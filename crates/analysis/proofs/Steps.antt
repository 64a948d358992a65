-- One node's word from its children's: what the code's branches give, and that it is the word of the node's set.
use mathlib.Core.Path.{◌≡◌, refl, sym, ap, ap₂, ◌∙◌}
use mathlib.Core.Bool.{Bool, true, false, cond}
use Prim.Native.Nat.{ℕ, zero, suc}
use Rattle.codes.specs.Words.{◌∋◌, singleton_of, union_of, without_ended_of, meets_of}
use Rattle.table.specs.declared.Kind.{Kind}
use Rattle.analysis.specs.Steps.{sequence_of, under_first_of, under_second_of}

sequence-by : (x y : ℕ) (h : Bool) → h ≡ (x ∋ 0) → cond h (union_of (without_ended_of x) y) (without_ended_of x) ≡ sequence_of x y
unfolding sequence_of
sequence-by x y h e = rw e

pub sequence-ends : (x y s u : ℕ) (h : Bool) → s ≡ without_ended_of x → h ≡ (x ∋ 0) → h ≡ true → u ≡ union_of s y → u ≡ sequence_of x y
sequence-ends x y s u h es eh t eu = eu ∙ ap (λ z. union_of z y) es ∙ ap (λ b. cond b (union_of (without_ended_of x) y) (without_ended_of x)) (sym t) ∙ sequence-by x y h eh

pub sequence-stays : (x y s : ℕ) (h : Bool) → s ≡ without_ended_of x → h ≡ (x ∋ 0) → h ≡ false → s ≡ sequence_of x y
sequence-stays x y s h es eh t = es ∙ ap (λ b. cond b (union_of (without_ended_of x) y) (without_ended_of x)) (sym t) ∙ sequence-by x y h eh

-- what an arm of a match gives, for the kind that is matched
pub by_kind : (f : Kind → ℕ) {r : ℕ} {k l : Kind} → k ≡ l → r ≡ f l → r ≡ f k
by_kind f e z = z ∙ ap f (sym e)

first_by : (P K : ℕ) (h : Bool) → h ≡ meets_of K P → cond h (union_of (without_ended_of P) (singleton_of 0)) (without_ended_of P) ≡ under_first_of P K
unfolding under_first_of
first_by P K h e = rw e

pub first-meets : (P K s z u : ℕ) (h : Bool) → s ≡ without_ended_of P → h ≡ meets_of K P → h ≡ true → z ≡ singleton_of 0 → u ≡ union_of s z → u ≡ under_first_of P K
first-meets P K s z u h es eh t ez eu =
    eu ∙ ap₂ union_of es ez ∙ ap (λ b. cond b (union_of (without_ended_of P) (singleton_of 0)) (without_ended_of P)) (sym t) ∙ first_by P K h eh

pub first_misses : (P K s : ℕ) (h : Bool) → s ≡ without_ended_of P → h ≡ meets_of K P → h ≡ false → s ≡ under_first_of P K
first_misses P K s h es eh t = es ∙ ap (λ b. cond b (union_of (without_ended_of P) (singleton_of 0)) (without_ended_of P)) (sym t) ∙ first_by P K h eh

pub second-stays : (P e : ℕ) → (e ≡ 0 → ⊥) → P ≡ under_second_of P e
second-stays P zero h = absurd (h refl)
second-stays P (suc e) h = refl
