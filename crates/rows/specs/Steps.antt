-- The row of a node with children from theirs, code by code. `f` is what is said of the only child or of the first of two, `g` of the
-- second; x and y are the preferred of both up to the code.
use Rattle.std.specs.Prelude.{ℕ, ◌+◌, List, []}
use Rattle.std.proofs.Math.Option.{Option, none, some}
use Rattle.table.specs.declared.Kind.{Kind}
use Rattle.table.specs.declared.Kind.TheVariants.{Nothing, Pause, Emit, Exit, Signal, Present, Suspend, Loop, Sequence, Parallel, Trap, Unknown}
use Rattle.starts.specs.declared.Weight.{Weight}
use Rattle.starts.specs.Summary.{up_to, tested, without_ended, followed, caught, together, weigh, weights}
use Rattle.rows.specs.Rows.{value_of, values_of, Gets, Holds}

-- one part of a parallel gives the code, and the other a code up to it
abbrev pub beside_at : Weight → (a b x y : Option ℕ) → Option ℕ
beside_at w a b x y = (weights w).choice (together ◌+◌ a y) (together ◌+◌ x b)

-- without the node's own entry; of no leaf this is asked
abbrev pub inner_at : Weight → Kind → (f g : ℕ → Option ℕ) (x y : Option ℕ) → ℕ → Option ℕ
inner_at w Nothing f g x y k = none
inner_at w Pause f g x y k = none
inner_at w Emit f g x y k = none
inner_at w Exit f g x y k = none
inner_at w Signal f g x y k = f k
inner_at w Present f g x y k = tested (weights w) (f k) (g k)
inner_at w Suspend f g x y k = f k
inner_at w Loop f g x y k = without_ended (weights w) f k
inner_at w Sequence f g x y k = followed (weights w) f g k
inner_at w Parallel f g x y k = beside_at w (f k) (g k) x y
inner_at w Trap f g x y k = caught (weights w) f k
inner_at w Unknown f g x y k = none

-- r is the number for code k, without the node's own entry, of a node whose children have the rows a and b, with the numbers x and y up to
-- the code
pub record IsInner (w : Weight) (kind : Kind) (a b : List ℕ) (x y k r : ℕ) : Type 0 where
  pub gets : Gets (inner_at w kind (values_of a) (values_of b) (value_of x) (value_of y) k) r

abbrev pub row_of : Weight → Kind → (f g : ℕ → Option ℕ) → ℕ → Option ℕ
row_of w kind f g k = together ◌+◌ (some (weigh w [] 1)) (inner_at w kind f g (up_to (weights w) f k) (up_to (weights w) g k) k)

-- the row r of a node whose children have the rows a and b
pub record IsRow (w : Weight) (kind : Kind) (a b r : List ℕ) : Type 0 where
  pub is : Holds (row_of w kind (values_of a) (values_of b)) r
