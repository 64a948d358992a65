-- The loops over what is needed after each code.
use mathlib.Core.Path.{◌≡◌, refl, sym, ap, ap₂, subst, ◌∙◌}
use mathlib.Core.Bool.{Bool, true, false}
use mathlib.Core.Option.{Option, none, some}
use mathlib.Core.List.{List}
use Prim.Native.Nat.{ℕ, zero, suc, ◌+◌, ◌-◌, ◌≤◌, ◌<◌, max}
use native.Mathlib.Numerals.{add-one}
use native.Mathlib.Decide.{dec_lt}
use native.Mathlib.Omega.{arith}
use lib.ListN.{length, get_or, set, length-set}
use lib.Seq.{get_or-set_same, get_or-set_other}
use Rattle.starts.specs.declared.Weight.{Weight}
use Rattle.starts.specs.declared.Weight.TheVariants.{Answers, Entries}
use Rattle.starts.specs.Summary.{up_to, together, prefer, weights}
use Rattle.starts.specs.Walk.{need_first}
use Rattle.starts.proofs.Agree.{up_to_agree}
use Rattle.rows.specs.Rows.{value_of, values_of, Picks, Joins, LowRow, best_sum, Found}
use Rattle.rows.proofs.Sweeps.{below, below-up_to, either-none, set_next}
use Rattle.rows.proofs.Said.{row_low}
use Rattle.walk.specs.Needs.{UpRow, first_need, First}

-- ---- up_to

pub record Rising (w : Weight) (row of : List ℕ) (up k : ℕ) : Type 0 where
  pub long : length of ≡ 64
  pub is : value_of up ≡ below w (values_of row) k
  pub small : (m : ℕ) → LowRow m row → up ≤ m
  pub done : (j : ℕ) → j < k → value_of (get_or of j 0) ≡ up_to (weights w) (values_of row) j
  pub smalls : (m : ℕ) → LowRow m row → (j : ℕ) → j < k → get_or of j 0 ≤ m

pub rises : {w : Weight} {row of : List ℕ} {up k r : ℕ} → Rising w row of up k → k < 64 → Picks w (get_or row k 0) up r → Rising w row (set of k r) r (k + 1)
rises {w} {row} {of} {up} {k} {r} o h p =
    rw add-one
    record {
      long = length-set of k r ∙ o.long;
      is = here;
      small = less;
      done = set_next (λ i v. value_of v ≡ up_to (weights w) (values_of row) i) of k r (omega (arith, o.long)) o.done (here ∙ below-up_to w (values_of row) k);
      smalls = λ m l. set_next (λ i v. v ≤ m) of k r (omega (arith, o.long)) (o.smalls m l) (less m l);
    }
  where
    here : value_of r ≡ below w (values_of row) (suc k)
    here = p.is ∙ ap ((weights w).choice (values_of row k)) o.is

    less : (m : ℕ) → LowRow m row → r ≤ m
    less m l = omega (arith, p.low, l.at k, o.small m l)

-- ---- need_sequence

pub sequence-first : {w : Weight} {row need : List ℕ} {x : ℕ} → length need ≡ 64 → Found w row need x → First w true row need (set need 0 x)
sequence-first {w} {row} {need} {x} e f =
    record {
      holds = record { long = length-set need 0 x ∙ e; at = at };
      low = λ m n l k. row_low (suc (m + n)) (length-set need 0 x ∙ e) (small m n l k);
    }
  where
    first : get_or (set need 0 x) 0 0 ≡ x
    first = get_or-set_same need 0 x 0 (omega arith)

    later : (j : ℕ) → get_or (set need 0 x) (suc j) 0 ≡ get_or need (suc j) 0
    later j = get_or-set_other need 0 (suc j) x 0 (λ z. omega arith)

    at : (j : ℕ) → j < 64 → value_of (get_or (set need 0 x) j 0) ≡ need_first (best_sum w row need) (values_of need) j
    at zero h = ap value_of first ∙ f.gets.is
    at (suc j) h = ap value_of (later j)

    small : (m n : ℕ) → LowRow (suc m) row → LowRow (suc n) need → (j : ℕ) → j < 64 → get_or (set need 0 x) j 0 ≤ suc (m + n)
    small m n l k zero h = omega (arith, first, f.low (suc m) (suc n) l k)
    small m n l k (suc j) h = omega (arith, later j, k.at (suc j))

-- ---- need_parallel

-- the algebra of the preferred
pick-swap : (w : Weight) (x y z : ℕ) → prefer w (prefer w x y) z ≡ prefer w y (prefer w x z)
pick-swap Answers x y z = omega arith
pick-swap Entries x y z = omega arith

pick-both : (w : Weight) (x y : ℕ) → prefer w x y ≡ prefer w y x
pick-both Answers x y = omega arith
pick-both Entries x y = omega arith

pick-add : (w : Weight) (x y z : ℕ) → prefer w (x + z) (y + z) ≡ prefer w x y + z
pick-add Answers x y z = omega arith
pick-add Entries x y z = omega arith

module _ (w : Weight) where
  choice-swap : (x y z : Option ℕ) → (weights w).choice ((weights w).choice x y) z ≡ (weights w).choice y ((weights w).choice x z)
  choice-swap none none z = refl
  choice-swap none (some y) z = refl
  choice-swap (some x) none none = refl
  choice-swap (some x) none (some z) = refl
  choice-swap (some x) (some y) none = ap some (pick-both w x y)
  choice-swap (some x) (some y) (some z) = ap some (pick-swap w x y z)

  choice-sum : (x y z : Option ℕ) → (weights w).choice (together ◌+◌ x z) (together ◌+◌ y z) ≡ together ◌+◌ ((weights w).choice x y) z
  choice-sum none none z = refl
  choice-sum none (some y) none = refl
  choice-sum none (some y) (some z) = refl
  choice-sum (some x) none none = refl
  choice-sum (some x) none (some z) = refl
  choice-sum (some x) (some y) none = refl
  choice-sum (some x) (some y) (some z) = ap some (pick-add w x y z)

  -- the preferred of d codes from i on
  abbrev pub from : (ℕ → Option ℕ) → ℕ → ℕ → Option ℕ
  from f i zero = none
  from f i (suc d) = (weights w).choice (f i) (from f (suc i) d)

  -- up to i, and the d codes after it
  up_from : (f : ℕ → Option ℕ) (d i : ℕ) → up_to (weights w) f (i + d) ≡ (weights w).choice (up_to (weights w) f i) (from f (suc i) d)
  up_from f zero i =
      let z : i + 0 ≡ i = omega arith in
      ap (up_to (weights w) f) z ∙ sym (either-none (prefer w) (up_to (weights w) f i))
  up_from f (suc d) i =
      let z : i + suc d ≡ suc i + d = omega arith in
      ap (up_to (weights w) f) z ∙ up_from f d (suc i) ∙ choice-swap (f (suc i)) (up_to (weights w) f i) (from f (suc (suc i)) d)

  from_agree : (f g : ℕ → Option ℕ) (d i : ℕ) → ((j : ℕ) → i ≤ j → f j ≡ g j) → from f i d ≡ from g i d
  from_agree f g zero i e = refl
  from_agree f g (suc d) i e = ap₂ (weights w).choice (e i (omega arith)) (from_agree f g d (suc i) (λ j h. e j (omega arith)))

  up-sum : (f : ℕ → Option ℕ) (y : Option ℕ) (i : ℕ) → up_to (weights w) (λ j. together ◌+◌ (f j) y) i ≡ together ◌+◌ (up_to (weights w) f i) y
  up-sum f y zero = refl
  up-sum f y (suc i) = ap ((weights w).choice (together ◌+◌ (f (suc i)) y)) (up-sum f y i) ∙ choice-sum (f (suc i)) (up_to (weights w) f i) y

module _ (w : Weight) (row need : List ℕ) where
  abbrev sums : ℕ → Option ℕ
  sums j = together ◌+◌ (values_of row j) (values_of need j)

  abbrev beside : ℕ → ℕ → Option ℕ
  beside i j = together ◌+◌ (values_of row j) (values_of need (max i j))

  -- what is needed after the left's code i
  parallel-is : (i d : ℕ) → i + d ≡ 63 → (weights w).choice (together ◌+◌ (up_to (weights w) (values_of row) i) (values_of need i)) (from w sums (suc i) d) ≡ first_need w false row need i
  parallel-is i d e =
      ap₂ (weights w).choice
      (sym (up_to_agree (weights w) (beside i) (λ j. together ◌+◌ (values_of row j) (values_of need i)) i (λ j h. ap (λ x. together ◌+◌ (values_of row j) (values_of need x)) (omega arith)) ∙ up-sum w (values_of row) (values_of need i) i))
      (from_agree w sums (beside i) d (suc i) (λ j h. ap (λ x. together ◌+◌ (values_of row j) (values_of need x)) (omega arith))) ∙
      sym (up_from w (beside i) d i) ∙ ap (up_to (weights w) (beside i)) e

pub record Sinking (w : Weight) (row need of : List ℕ) (above i : ℕ) : Type 0 where
  pub long : length of ≡ 64
  pub is : value_of above ≡ from w (sums w row need) i (64 - i)
  pub small : (m n : ℕ) → LowRow (suc m) row → LowRow (suc n) need → above ≤ suc (m + n)
  pub done : (j : ℕ) → i ≤ j → j < 64 → value_of (get_or of j 0) ≡ first_need w false row need j
  pub smalls : (m n : ℕ) → LowRow (suc m) row → LowRow (suc n) need → (j : ℕ) → i ≤ j → j < 64 → get_or of j 0 ≤ suc (m + n)

-- a list that is filled from the back
set_before : (P : ℕ → ℕ → Type 0) (of : List ℕ) (i r : ℕ) → i < length of → ((j : ℕ) → suc i ≤ j → j < 64 → P j (get_or of j 0)) → P i r → (j : ℕ) → i ≤ j → j < 64 → P j (get_or (set of i r) j 0)
set_before P of i r lt done here j h l = go (dec_lt i j)
  where
    go : Dec (i < j) → P j (get_or (set of i r) j 0)
    go (yes n) = rw (get_or-set_other of i j r 0 (λ e. omega arith)) (done j n l)
    go (no n) =
        let z : j ≡ i = omega arith in
        let g = get_or-set_same of i r 0 lt in
        rw (z, g) here

pub sinks : {w : Weight} {row need of ups : List ℕ} {above i j v a r x : ℕ} → UpRow w row ups → Sinking w row need of above i → i ≡ suc j → i ≤ 64 → Joins (get_or ups j 0) (get_or need j 0) v → Picks w v above r → Joins (get_or row j 0) (get_or need j 0) a → Picks w a above x → Sinking w row need (set of j r) x j
sinks {w} {row} {need} {of} {ups} {above} {i} {j} {v} {a} {r} {x} u o e lt jv pr jw px =
    record {
      long = length-set of j r ∙ o.long;
      is = px.is ∙ ap₂ (weights w).choice jw.is above-is ∙ ap (from w (sums w row need) j) (sym count);
      small = λ m n l k. omega (arith, px.low, jw.low, l.at j, k.at j, o.small m n l k);
      done = set_before (λ i v. value_of v ≡ first_need w false row need i) of j r (omega (arith, o.long)) (λ l h. o.done l (omega arith)) here;
      smalls = λ m n l k.
          set_before (λ i v. v ≤ suc (m + n)) of j r (omega (arith, o.long)) (λ l' h. o.smalls m n l k l' (omega arith))
          (omega (arith, pr.low, jv.low, (u.low (suc m) l).at j, k.at j, o.small m n l k));
    }
  where
    count : 64 - j ≡ suc (64 - i)
    count = omega arith

    above-is : value_of above ≡ from w (sums w row need) (suc j) (64 - i)
    above-is = o.is ∙ ap (λ y. from w (sums w row need) y (64 - i)) e

    here : value_of r ≡ first_need w false row need j
    here =
        pr.is ∙
        ap₂ (weights w).choice (jv.is ∙ ap (λ y. together ◌+◌ y (values_of need j)) (u.holds.at j (omega arith))) above-is ∙
        parallel-is w row need j (64 - i) (omega arith)

pub sunk : {w : Weight} {row need of : List ℕ} {above i : ℕ} → Sinking w row need of above i → i ≤ 0 → First w false row need of
sunk o h =
    record {
      holds = record { long = o.long; at = λ j l. o.done j (omega arith) l };
      low = λ m n l k. row_low (suc (m + n)) o.long (λ j i. o.smalls m n l k j (omega arith) i);
    }

-- ---- need_first

pub first_of : {w : Weight} {b c : Bool} {row need r : List ℕ} → b ≡ c → First w c row need r → First w b row need r
first_of {w = w} {row = row} {need = need} {r = r} e o = subst (λ x. First w x row need r) (sym e) o
