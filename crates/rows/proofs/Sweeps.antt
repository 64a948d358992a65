-- The loops over the codes.
use mathlib.Core.Path.{◌≡◌, refl, ap, ap₂, ◌∙◌}
use mathlib.Core.Bool.{true, false}
use mathlib.Core.Option.{Option, none, some}
use mathlib.Core.List.{List, []}
use Prim.Native.Nat.{ℕ, zero, suc, ◌+◌, ◌-◌, ◌≤◌, ◌<◌}
use native.Mathlib.Numerals.{add-one}
use native.Mathlib.Decide.{dec_lt}
use native.Mathlib.Omega.{arith}
use lib.ListN.{length, get_or, set, length-set}
use lib.Seq.{get_or-set_same, get_or-set_other}
use Rattle.table.specs.Kinds.{is_parallel}
use Rattle.table.specs.declared.Kind.{Kind}
use Rattle.table.specs.declared.Kind.TheVariants.{Nothing, Pause, Emit, Exit, Signal, Present, Suspend, Loop, Sequence, Parallel, Trap, Unknown}
use Rattle.starts.specs.declared.Weight.{Weight}
use Rattle.starts.specs.Summary.{up_to, either, together, prefer, weigh, weights}
use Rattle.rows.specs.Rows.{value_of, values_of, max_number, Picks, Joins, LowRow, Found}
use Rattle.rows.specs.Steps.{beside_at, inner_at, IsInner, row_of}

pub either-none : (pick : ℕ → ℕ → ℕ) (x : Option ℕ) → either pick x none ≡ x
either-none pick none = refl
either-none pick (some x) = refl

module _ (w : Weight) where
  -- the preferred below code k
  abbrev pub below : (ℕ → Option ℕ) → ℕ → Option ℕ
  below f zero = none
  below f (suc k) = (weights w).choice (f k) (below f k)

  pub below-up_to : (f : ℕ → Option ℕ) (k : ℕ) → below f (suc k) ≡ up_to (weights w) f k
  below-up_to f zero = either-none (prefer w) (f 0)
  below-up_to f (suc k) = ap ((weights w).choice (f (suc k))) (below-up_to f k)

-- a list that is filled from the front: each place j below k has v j
module _ (P : ℕ → ℕ → Type 0) where
  pub set_next : (of : List ℕ) (k r : ℕ) → k < length of → ((j : ℕ) → j < k → P j (get_or of j 0)) → P k r → (j : ℕ) → j < suc k → P j (get_or (set of k r) j 0)
  set_next of k r lt done here j h = go (dec_lt j k)
    where
      go : Dec (j < k) → P j (get_or (set of k r) j 0)
      go (yes n) = rw (get_or-set_other of k j r 0 (λ e. omega arith)) (done j n)
      go (no n) =
          let z : j ≡ k = omega arith in
          let g = get_or-set_same of k r 0 lt in
          rw (z, g) here

-- ---- row_of

-- x and y are the preferred below code k on each side of a parallel
pub record Ups (w : Weight) (kind : Kind) (a b : List ℕ) (x y k : ℕ) : Type 0 where
  pub left : is_parallel kind ≡ true → value_of x ≡ below w (values_of a) k
  pub right : is_parallel kind ≡ true → value_of y ≡ below w (values_of b) k
  pub small-left : x ≤ max_number
  pub small-right : y ≤ max_number

pub no_ups : {w : Weight} {kind : Kind} {a b : List ℕ} {x y k : ℕ} → is_parallel kind ≡ false → Ups w kind a b x y k → Ups w kind a b x y (suc k)
no_ups z o = record { left = λ e. cc; right = λ e. cc; small-left = o.small-left; small-right = o.small-right }

pub more_ups : {w : Weight} {kind : Kind} {a b : List ℕ} {x y x' y' k m n : ℕ} → LowRow max_number a → LowRow max_number b → m ≡ get_or a k 0 → n ≡ get_or b k 0 → Picks w m x x' → Picks w n y y' → Ups w kind a b x y k → Ups w kind a b x' y' (suc k)
more_ups {w} {k = k} la lb d e p q o =
    record {
      left = λ t. p.is ∙ ap₂ (weights w).choice (ap value_of d) (o.left t);
      right = λ t. q.is ∙ ap₂ (weights w).choice (ap value_of e) (o.right t);
      small-left = omega (arith, p.low, la.at k, o.small-left);
      small-right = omega (arith, q.low, lb.at k, o.small-right);
    }

pub record Running (w : Weight) (kind : Kind) (a b of : List ℕ) (x y k : ℕ) : Type 0 where
  pub long : length of ≡ 64
  pub ups : Ups w kind a b x y k
  pub done : (j : ℕ) → j < k → value_of (get_or of j 0) ≡ row_of w kind (values_of a) (values_of b) j

-- what is preferred up to the code counts in a parallel alone
at-ups : (w : Weight) (kind : Kind) (f g : ℕ → Option ℕ) (x y x' y' : Option ℕ) (k : ℕ) → (is_parallel kind ≡ true → x ≡ x') → (is_parallel kind ≡ true → y ≡ y') → inner_at w kind f g x y k ≡ inner_at w kind f g x' y' k
at-ups w Nothing f g x y x' y' k p q = refl
at-ups w Pause f g x y x' y' k p q = refl
at-ups w Emit f g x y x' y' k p q = refl
at-ups w Exit f g x y x' y' k p q = refl
at-ups w Signal f g x y x' y' k p q = refl
at-ups w Present f g x y x' y' k p q = refl
at-ups w Suspend f g x y x' y' k p q = refl
at-ups w Loop f g x y x' y' k p q = refl
at-ups w Sequence f g x y x' y' k p q = refl
at-ups w Parallel f g x y x' y' k p q = ap₂ (λ z u. beside_at w (f k) (g k) z u) (p refl) (q refl)
at-ups w Trap f g x y x' y' k p q = refl
at-ups w Unknown f g x y x' y' k p q = refl

pub step : {w : Weight} {kind : Kind} {a b of : List ℕ} {x y k x' y' e v r : ℕ} → Running w kind a b of x y k → k < 64 → Ups w kind a b x' y' (suc k) → e ≡ suc (weigh w [] 1) → IsInner w kind a b x' y' k v → Joins e v r → Running w kind a b (set of k r) x' y' (k + 1)
step {w} {kind} {a} {b} {of} {k = k} {v = v} {r = r} o h u ee g j =
    rw add-one
    record {
      long = length-set of k r ∙ o.long;
      ups = u;
      done = set_next (λ i n. value_of n ≡ row_of w kind (values_of a) (values_of b) i) of k r (omega (arith, o.long)) o.done (j.is ∙ ap₂ (together ◌+◌) (ap value_of ee) inner);
    }
  where
    inner : value_of v ≡ inner_at w kind (values_of a) (values_of b) (up_to (weights w) (values_of a) k) (up_to (weights w) (values_of b) k) k
    inner =
        g.gets.is ∙
        at-ups w kind (values_of a) (values_of b) _ _ _ _ k (λ t. u.left t ∙ below-up_to w (values_of a) k) (λ t. u.right t ∙ below-up_to w (values_of b) k)

-- ---- best_sum

pub record Finding (w : Weight) (a b : List ℕ) (x k : ℕ) : Type 0 where
  pub is : value_of x ≡ below w (λ j. together ◌+◌ (values_of a j) (values_of b j)) k
  pub small : (m n : ℕ) → LowRow m a → LowRow n b → x ≤ m + n - 1

pub finds : {w : Weight} {a b : List ℕ} {x k m n v r : ℕ} → Finding w a b x k → m ≡ get_or a k 0 → n ≡ get_or b k 0 → Joins m n v → Picks w v x r → Finding w a b r (k + 1)
finds {w} {a} {b} {x} {k} o d e i p =
    let j = rw (d, e) at i in
    rw add-one
    record {
      is = p.is ∙ ap₂ (weights w).choice j.is o.is;
      small = λ m n la lb. omega (arith, p.low, o.small m n la lb, j.low, la.at k, lb.at k);
    }

pub found : {w : Weight} {a b : List ℕ} {x k : ℕ} → LowRow max_number a → LowRow max_number b → Finding w a b x k → k ≡ 64 → Found w a b x
found {w} {a} {b} {x} {k} la lb o h =
    let z : k ≡ suc 63 = h in
    record { low = o.small; gets = record { is = o.is ∙ ap (below w (λ j. together ◌+◌ (values_of a j) (values_of b j))) z ∙ below-up_to w (λ j. together ◌+◌ (values_of a j) (values_of b j)) 63; low = omega (arith, o.small max_number max_number la lb) } }
