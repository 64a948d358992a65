-- The one induction over statements: a relation that the operations of two algebras keep holds between their summaries.
use Prim.Native.Nat.{ℕ, zero, suc, ◌+◌}
use mathlib.Core.Bool.{Bool, true, false}
use lib.Dec.{eqb}
use Rattle.esterel.specs.Statement.{nothing, pause, emit, exit, signal, suspend, loop, trap, present, sequence, parallel, Stmt, leaf, one, two}
use Rattle.starts.specs.Summary.{Algebra, given, up_to, without_ended, followed, larger, caught, branched, summary}

pub record Keeps {ℓ κ ρ} {X : Type ℓ} {Y : Type κ} (a : Algebra X) (b : Algebra Y) (R : X → Y → Type ρ) : Type (ℓ ⊔ κ ⊔ ρ) where
  pub none : R a.none b.none
  pub entry : R a.entry b.entry
  pub absent : R a.absent b.absent
  pub present : R a.present b.present
  pub choice : (x x' : X) (y y' : Y) → R x y → R x' y' → R (a.choice x x') (b.choice y y')
  pub both : (x x' : X) (y y' : Y) → R x y → R x' y' → R (a.both x x') (b.both y y')

module _ {ℓ κ ρ} {X : Type ℓ} {Y : Type κ} (a : Algebra X) (b : Algebra Y) (R : X → Y → Type ρ) (w : Keeps a b R) where
  abbrev pub Codewise : (ℕ → X) → (ℕ → Y) → Type ρ
  Codewise f g = (k : ℕ) → R (f k) (g k)

  given-keeps : (t : Bool) (x : X) (y : Y) → R x y → R (given a t x) (given b t y)
  given-keeps true x y o = o
  given-keeps false x y o = w.none

  up_to-keeps : (f : ℕ → X) (g : ℕ → Y) → Codewise f g → Codewise (up_to a f) (up_to b g)
  up_to-keeps f g o zero = o zero
  up_to-keeps f g o (suc k) = w.choice _ _ _ _ (o (suc k)) (up_to-keeps f g o k)

  without-keeps : (f : ℕ → X) (g : ℕ → Y) → Codewise f g → Codewise (without_ended a f) (without_ended b g)
  without-keeps f g o zero = w.none
  without-keeps f g o (suc k) = o (suc k)

  followed-keeps : (f f' : ℕ → X) (g g' : ℕ → Y) → Codewise f g → Codewise f' g' → Codewise (followed a f f') (followed b g g')
  followed-keeps f f' g g' o d zero = w.both _ _ _ _ (o 0) (d 0)
  followed-keeps f f' g g' o d (suc k) = w.choice _ _ _ _ (o (suc k)) (w.both _ _ _ _ (o 0) (d (suc k)))

  larger-keeps : (f f' : ℕ → X) (g g' : ℕ → Y) → Codewise f g → Codewise f' g' → Codewise (larger a f f') (larger b g g')
  larger-keeps f f' g g' o d k =
      w.choice _ _ _ _ (w.both _ _ _ _ (o k) (up_to-keeps f' g' d k)) (w.both _ _ _ _ (up_to-keeps f g o k) (d k))

  caught-keeps : (f : ℕ → X) (g : ℕ → Y) → Codewise f g → Codewise (caught a f) (caught b g)
  caught-keeps f g o zero = w.choice _ _ _ _ (o 0) (o 2)
  caught-keeps f g o (suc zero) = o 1
  caught-keeps f g o (suc (suc k)) = o (suc (suc (suc k)))

  entered-keeps : (f : ℕ → X) (g : ℕ → Y) → Codewise f g → (k : ℕ) → R (a.both a.entry (f k)) (b.both b.entry (g k))
  entered-keeps f g o k = w.both _ _ _ _ w.entry (o k)

  branched-keeps : (f f' : ℕ → X) (g g' : ℕ → Y) → Codewise f g → Codewise f' g' → Codewise (branched a f f') (branched b g g')
  branched-keeps f f' g g' o d k = w.choice _ _ _ _ (w.both _ _ _ _ w.present (o k)) (w.both _ _ _ _ w.absent (d k))

  pub related : (p : Stmt) → Codewise (summary a p) (summary b p)
  related (leaf nothing) k = given-keeps (eqb 0 k) _ _ w.entry
  related (leaf pause) k = given-keeps (eqb 1 k) _ _ w.entry
  related (leaf (exit level)) k = given-keeps (eqb (2 + level) k) _ _ w.entry
  related (leaf (emit s)) k = given-keeps (eqb 0 k) _ _ w.entry
  related (two sequence p q) k = entered-keeps _ _ (followed-keeps _ _ _ _ (related p) (related q)) k
  related (two (present s) p q) k = entered-keeps _ _ (branched-keeps _ _ _ _ (related p) (related q)) k
  related (one trap p) k = entered-keeps _ _ (caught-keeps _ _ (related p)) k
  related (two parallel p q) k = entered-keeps _ _ (larger-keeps _ _ _ _ (related p) (related q)) k
  related (one loop p) k = entered-keeps _ _ (without-keeps _ _ (related p)) k
  related (one (signal s) p) k = entered-keeps _ _ (related p) k
  related (one (suspend s) p) k = entered-keeps _ _ (related p) k
