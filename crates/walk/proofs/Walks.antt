-- The walk at a node: what each call of `walk_at` requires, and what each of its returns gives.
use mathlib.Core.Path.{◌≡◌, refl, sym, ap, ap₂, subst, ◌∙◌}
use mathlib.Core.Bool.{Bool, true, false, cond, ◌&&◌}
use mathlib.Core.List.{List, [], ◌++◌}
use Prim.Native.Nat.{ℕ, zero, suc, ◌+◌, ◌-◌, ◌*◌, ◌≤◌, ◌<◌, max}
use native.Mathlib.Numerals.{add-one}
use native.Mathlib.Omega.{arith}
use borrow.Author.Tests.{ne_eqb}
use lib.Dec.{eqb}
use lib.ListN.{length, get_or, set, length-set, length-append}
use lib.Seq.{sets, length-sets}
use Rattle.esterel.specs.Limits.{max_nodes}
use Rattle.esterel.specs.Codes.{catch_code}
use Rattle.esterel.specs.Statement.{Leaf, nothing, pause, emit, exit, Unary, signal, suspend, loop, trap, Binary, present, sequence, parallel, Stmt, leaf, one, two, kind, field, size}
use Rattle.table.specs.Kinds.{kind_of, arity_of, leaf_of, leaf_code, is_trap, is_loop, is_sequence, is_present}
use Rattle.table.specs.declared.Kind.{Kind}
use Rattle.starts.specs.declared.Weight.{Weight}
use Rattle.starts.specs.Summary.{without_ended, weights, best}
use Rattle.starts.specs.Ticks.{presents}
use Rattle.starts.specs.Walk.{Need, best_total, cost, no_worse, need_first, walked, answers_of, code_of, answer, recode, and_walk, beside_walk, walk, Below}
use Rattle.starts.specs.Walk.{Walked as WalkedTo}
use Rattle.starts.proofs.Agree.{Agree, walk_agree, walk-low}
use Rattle.starts.proofs.Short.{walk-short}
use Rattle.starts.proofs.Theorems.{codes-below}
use Rattle.rows.specs.Rows.{value_of, values_of, max_number, best_sum, LowRow}
use Rattle.rows.specs.Filled.{numbers_at}
use Rattle.table.specs.Program.{program_of}
use Rattle.table.specs.Columns.{stmt_at}
use Rattle.table.proofs.Buffers.{sets-append}
use Rattle.table.proofs.Bytes.{leaf-is, field_byte}
use Rattle.table.proofs.TreeViews.{kind-is, leaf_of_lem, one_of, two_of_lem}
use Rattle.table.proofs.Trees.{few}
use Rattle.table.proofs.Views.{Over, Both}
use Rattle.rows.proofs.Said.{readable, row_low, said-is, said-low, said-few}
use Rattle.walk.specs.declared.Walked.{Walked}
use Rattle.walk.specs.declared.Ground.{Ground}
use Rattle.walk.specs.Needs.{under_at, goes_absent, Under, first_need, First}
use Rattle.walk.specs.Walks.{Leaves, Walking, Walks}

-- a walk that is known otherwise
module _ {weight : Weight} {p : Stmt} {need answers answers' : List ℕ} {at : ℕ} {r : Walked} where
  walks_as : (w : WalkedTo) → walk weight 63 p (values_of need) ≡ w → r.code ≡ code_of w → r.at ≡ at + length (answers_of w) → answers' ≡ sets answers at (answers_of w) → Walks weight p need answers answers' at r
  walks_as w e c a s =
      record { code = c ∙ ap code_of (sym e); after = a ∙ ap (λ x. at + length (answers_of x)) (sym e); written = s ∙ ap (λ x. sets answers at (answers_of x)) (sym e) }

at-stmt : {weight : Weight} {p q : Stmt} {need answers answers' : List ℕ} {at : ℕ} {r : Walked} → p ≡ q → Walks weight q need answers answers' at r → Walks weight p need answers answers' at r
at-stmt {weight = weight} {need = need} {answers = answers} {answers' = answers'} {at = at} {r = r} e o = subst (λ x. Walks weight x need answers answers' at r) (sym e) o

-- ---- what is needed beneath, by the definitions

module _ (weight : Weight) (need : List ℕ) where
  under-max : (code j : ℕ) {k : ℕ} → max code j ≡ k → value_of (get_or need (max code j) 0) ≡ values_of need k
  under-max code j e = ap (values_of need) e

  abbrev inner_need : Unary → Need → Need
  inner_need (signal s) f = f
  inner_need (suspend s) f = f
  inner_need loop f = without_ended (weights weight) f
  inner_need trap f = λ k. f (catch_code k)

  under_one : (u : Unary) (p : Stmt) (j : ℕ) → value_of (under_at (kind_of (kind (one u p))) 0 need j) ≡ inner_need u (values_of need) j
  unfolding kind_of
  under_one (signal s) p j = under-max 0 j (omega arith)
  under_one (suspend s) p j = under-max 0 j (omega arith)
  under_one loop p zero = refl
  under_one loop p (suc j) = rw (ne_eqb (suc j) 0 (λ z. omega arith)) (under-max 0 (suc j) (omega arith))
  under_one trap p j = refl

  under-two : (b : Binary) (p q : Stmt) (code j : ℕ) → value_of (under_at (kind_of (kind (two b p q))) code need j) ≡ values_of need (max code j)
  unfolding kind_of
  under-two (present s) p q code j = refl
  under-two sequence p q code j = refl
  under-two parallel p q code j = refl

under_low : (k : Kind) (code : ℕ) (need : List ℕ) (m : ℕ) → LowRow m need → (j : ℕ) → under_at k code need j ≤ m
under_low k code need m l j = go (is_trap k) (is_loop k && eqb j 0)
  where
    go : (a b : Bool) → cond a (get_or need (catch_code j) 0) (cond b 0 (get_or need (max code j) 0)) ≤ m
    go true b = l.at (catch_code j)
    go false true = omega arith
    go false false = l.at (max code j)

-- what the second of two and what follows it need, from its row
cost-is : (weight : Weight) (row need : List ℕ) (q : Stmt) → values_of row ≡ best weight q → best_sum weight row need ≡ cost weight 63 q (values_of need)
unfolding cost
cost-is weight row need q e = ap (λ f. best_total weight 63 f (values_of need)) e

beside-is : (weight : Weight) (row need : List ℕ) (q : Stmt) → values_of row ≡ best weight q → (i : ℕ) → first_need weight false row need i ≡ cost weight 63 q (λ j. values_of need (max i j))
unfolding cost
beside-is weight row need q e i = ap (λ f. best_total weight 63 f (λ k. values_of need (max i k))) e

sequence-is : (weight : Weight) (row need : List ℕ) (q : Stmt) → values_of row ≡ best weight q → (i : ℕ) → first_need weight true row need i ≡ need_first (cost weight 63 q (values_of need)) (values_of need) i
sequence-is weight row need q e zero = cost-is weight row need q e
sequence-is weight row need q e (suc i) = refl

presents-two : (b : Binary) (p q : Stmt) → is_present (kind_of (kind (two b p q))) ≡ false → presents (two b p q) ≡ presents p + presents q
unfolding kind_of
presents-two (present s) p q e = let z : ◌≡◌ {A = ℕ} 0 1 = cc in absurd (omega arith)
presents-two sequence p q e = refl
presents-two parallel p q e = refl

presents-test : (b : Binary) (p q : Stmt) → is_present (kind_of (kind (two b p q))) ≡ true → presents (two b p q) ≡ suc (presents p + presents q)
unfolding kind_of
presents-test (present s) p q e = refl
presents-test sequence p q e = let z : ◌≡◌ {A = ℕ} 0 1 = cc in absurd (omega arith)
presents-test parallel p q e = let z : ◌≡◌ {A = ℕ} 0 1 = cc in absurd (omega arith)

pub inside : {g : Ground} {need answers : List ℕ} {i at : ℕ} → Walking g need answers i at → i < size (program_of g.tree.table.now)
inside o = omega (arith, o.within, o.known)

-- the node that a walk is at, as the code has read it
pub record Here (g : Ground) (need answers : List ℕ) (i at : ℕ) (k : Kind) (n : ℕ) : Type 0 where
  pub walking : Walking g need answers i at
  pub read : k ≡ kind_of (get_or g.tree.table.now (2 * i) 0)
  pub counted : n ≡ arity_of k

-- it has two children; s is the size of the second
pub record Two (g : Ground) (need answers : List ℕ) (i at : ℕ) (k : Kind) (n s : ℕ) : Type 0 where
  pub here : Here g need answers i at k n
  pub some : n ≡ 0 → ⊥
  pub more : n ≡ 1 → ⊥
  pub second : s ≡ size (stmt_at g.tree.table.now (i - 1))

module _ {g : Ground} {need answers : List ℕ} {i at : ℕ} {k : Kind} {n : ℕ} (here : Here g need answers i at k n) where
  abbrev o : Walking g need answers i at
  o = here.walking

  kind-at : {w : Stmt} → stmt_at g.tree.table.now i ≡ w → k ≡ kind_of (kind w)
  kind-at e = sym (kind-is (readable o.well_formed) (inside o) here.read here.counted e)

  below_at : {w : Stmt} → stmt_at g.tree.table.now i ≡ w → Below 63 w
  below_at e = subst (Below 63) e (codes-below o.well_formed i)

  few-at : {w : Stmt} → stmt_at g.tree.table.now i ≡ w → o.most + size w ≤ max_nodes
  few-at e = subst (λ w. o.most + size w ≤ max_nodes) e o.few

  room_at : {w : Stmt} → stmt_at g.tree.table.now i ≡ w → at + presents w ≤ length answers
  room_at e = subst (λ w. at + presents w ≤ length answers) e o.room

  pub need_low : LowRow max_number need
  need_low = record { at = λ j. omega (arith, o.low.at j, o.few) }

  -- a call at a child
  child_call : {need' answers' : List ℕ} {j at' : ℕ} {p : Stmt} → stmt_at g.tree.table.now j ≡ p → j < i → (m : ℕ) → LowRow (suc m) need' → m + size p ≤ max_nodes → at' + presents p ≤ length answers' → Walking g need' answers' j at'
  child_call {answers' = answers'} {at' = at'} e lt m l f r =
      record {
        well_formed = o.well_formed;
        top = o.top;
        within = omega (arith, o.within);
        known = o.known;
        filled = o.filled;
        most = m;
        low = l;
        few = subst (λ w. m + size w ≤ max_nodes) (sym e) f;
        room = subst (λ w. at' + presents w ≤ length answers') (sym e) r;
      }

  -- ---- no child
  leaf-code : (l : Leaf) (f : Need) → leaf_code l ≡ code_of (walk g.weight 63 (leaf l) f)
  leaf-code nothing f = refl
  leaf-code pause f = refl
  leaf-code (emit s) f = refl
  leaf-code (exit level) f = refl

  leaf-none : (l : Leaf) (f : Need) → answers_of (walk g.weight 63 (leaf l) f) ≡ []
  leaf-none nothing f = refl
  leaf-none pause f = refl
  leaf-none (emit s) f = refl
  leaf-none (exit level) f = refl

  pub leaf-returns : {f c : ℕ} {r : Walked} → n ≡ 0 → f ≡ get_or g.tree.table.now (2 * i + 1) 0 → c ≡ leaf_code (leaf_of k f) → r.code ≡ c → r.at ≡ at → Walks g.weight (stmt_at g.tree.table.now i) need answers answers at r
  leaf-returns z ef ec er ea =
      let (l, e) = leaf_of_lem (readable o.well_formed) (inside o) here.read here.counted z in
      let none = leaf-none l (values_of need) in
      at-stmt e
      (walks_as (walk g.weight 63 (leaf l) (values_of need)) refl
      (er ∙ ec ∙ ap leaf_code (ap₂ leaf_of (kind-at e) (ef ∙ field_byte g.tree.table.now (readable o.well_formed) i (inside o) ∙ ap field e) ∙ leaf-is l) ∙ leaf-code l (values_of need))
      (let y : at ≡ at + 0 = omega arith in ea ∙ y ∙ ap (λ x. at + length x) (sym none))
      (ap (λ x. sets answers at x) (sym none)))

  -- ---- one child
  before-one : {u : Unary} {p : Stmt} → Over g.tree.table.now i (size (stmt_at g.tree.table.now (i - 1))) u p → i - 1 < i
  before-one v = omega (arith, v.ends, v.some)

  module _ (z : n ≡ 1) {under : List ℕ} (d : Under k 0 need under) where
    pub one_call : Walking g under answers (i - 1) at
    one_call =
        let (u, p, v) = one_of (readable o.well_formed) (inside o) here.read here.counted z in
        child_call v.child (before-one v) o.most
        (row_low (suc o.most) d.long (λ j l. subst (λ x. x ≤ suc o.most) (sym (d.at j l)) (under_low k 0 need (suc o.most) o.low j)))
        (omega (arith, few-at v.is)) (room_at v.is)

    agrees_one : (u : Unary) (p : Stmt) → stmt_at g.tree.table.now i ≡ one u p → Agree 63 (values_of under) (inner_need g.weight need u (values_of need))
    agrees_one u p e j h = ap value_of (d.at j (omega arith) ∙ ap (λ x. under_at x 0 need j) (kind-at e)) ∙ under_one g.weight need u p j

    module _ {answers' : List ℕ} {inner : Walked} (w : Walks g.weight (stmt_at g.tree.table.now (i - 1)) under answers answers' at inner) where
      -- the walk of the child, with what is needed after it
      inner-is : (u : Unary) (p : Stmt) → Over g.tree.table.now i (size (stmt_at g.tree.table.now (i - 1))) u p → Walks g.weight p under answers answers' at inner × (walk g.weight 63 p (values_of under) ≡ walk g.weight 63 p (inner_need g.weight need u (values_of need)))
      inner-is u p v = (at-stmt (sym v.child) w, walk_agree g.weight 63 p (below_at v.is).1 (values_of under) (inner_need g.weight need u (values_of need)) (agrees_one u p v.is))

      pub one-returns : {r : Walked} → Leaves k inner r → Walks g.weight (stmt_at g.tree.table.now i) need answers answers' at r
      unfolding kind_of
      one-returns {r} l =
          let (u, p, v) = one_of (readable o.well_formed) (inside o) here.read here.counted z in
          let (w', same) = inner-is u p v in
          go u p v w' same (l.code ∙ ap (λ c. cond (is_trap c) (catch_code inner.code) inner.code) (kind-at v.is))
        where
          go : (u : Unary) (p : Stmt) → Over g.tree.table.now i (size (stmt_at g.tree.table.now (i - 1))) u p → Walks g.weight p under answers answers' at inner → walk g.weight 63 p (values_of under) ≡ walk g.weight 63 p (inner_need g.weight need u (values_of need)) → r.code ≡ cond (is_trap (kind_of (kind (one u p)))) (catch_code inner.code) inner.code → Walks g.weight (stmt_at g.tree.table.now i) need answers answers' at r
          go (signal s) p v w' same e = at-stmt v.is (walks_as (walk g.weight 63 p (values_of under)) (sym same) (e ∙ w'.code) (l.at ∙ w'.after) w'.written)
          go (suspend s) p v w' same e = at-stmt v.is (walks_as (walk g.weight 63 p (values_of under)) (sym same) (e ∙ w'.code) (l.at ∙ w'.after) w'.written)
          go loop p v w' same e = at-stmt v.is (walks_as (walk g.weight 63 p (values_of under)) (sym same) (e ∙ w'.code) (l.at ∙ w'.after) w'.written)
          go trap p v w' same e =
              at-stmt v.is
              (walks_as (recode catch_code (walk g.weight 63 p (values_of under))) (ap (recode catch_code) (sym same))
              (e ∙ ap catch_code w'.code) (l.at ∙ w'.after) w'.written)

-- ---- two children; s is the size of the second
module _ {g : Ground} {need answers : List ℕ} {i at : ℕ} {k : Kind} {n s : ℕ} (both : Two g need answers i at k n s) where
  children : (b : Binary) × (p q : Stmt) × Both g.tree.table.now i s b p q
  children = two_of_lem (readable both.here.walking.well_formed) (inside both.here.walking) both.here.read both.here.counted both.second both.some both.more

  pub last-room : i - 1 < length g.rows.now
  last-room = omega (arith, inside both.here.walking, few g.tree.tree, both.here.walking.filled.room)

  pub first-room : i - 1 - s < length g.rows.now
  first-room = omega (arith, inside both.here.walking, few g.tree.tree, both.here.walking.filled.room)

  module _ {b : Binary} {p q : Stmt} (v : Both g.tree.table.now i s b p q) where
    before_last : i - 1 < i
    before_last = omega (arith, v.ends, v.some_right)

    before-first : i - 1 - s < i
    before-first = omega (arith, v.ends, v.some_right)

  pub last-low : LowRow max_number (numbers_at g.rows.now (i - 1))
  last-low = let (b, p, q, v) = children in said-low both.here.walking.well_formed both.here.walking.filled (i - 1) (omega (arith, before_last v, both.here.walking.within)) (omega (arith, (inside both.here.walking)))

  pub first-low : LowRow max_number (numbers_at g.rows.now (i - 1 - s))
  first-low = let (b, p, q, v) = children in said-low both.here.walking.well_formed both.here.walking.filled (i - 1 - s) (omega (arith, before-first v, both.here.walking.within)) (omega (arith, (inside both.here.walking)))

  last-is : (b : Binary) (p q : Stmt) → Both g.tree.table.now i s b p q → values_of (numbers_at g.rows.now (i - 1)) ≡ best g.weight q
  last-is b p q v = said-is both.here.walking.well_formed both.here.walking.filled (i - 1) (omega (arith, before_last v, both.here.walking.within)) v.right

  first-is : (b : Binary) (p q : Stmt) → Both g.tree.table.now i s b p q → values_of (numbers_at g.rows.now (i - 1 - s)) ≡ best g.weight p
  first-is b p q v = said-is both.here.walking.well_formed both.here.walking.filled (i - 1 - s) (omega (arith, before-first v, both.here.walking.within)) v.left

  present-is : (b : Binary) (p q : Stmt) → Both g.tree.table.now i s b p q → {x : Bool} → is_present k ≡ x → is_present (kind_of (kind (two b p q))) ≡ x
  present-is b p q v f = sym (ap is_present (kind-at both.here v.is)) ∙ f

  -- ---- a test
  module _ (f : is_present k ≡ true) where
    pub answer-room : at < length answers
    answer-room = let (b, p, q, v) = children in omega (arith, room_at both.here v.is, presents-test b p q (present-is b p q v f))

    pub last_call : (a : ℕ) → Walking g need (set answers at a) (i - 1) (at + 1)
    last_call a =
        let (b, p, q, v) = children in
        child_call both.here v.right (before_last v) both.here.walking.most both.here.walking.low
        (omega (arith, few-at both.here v.is))
        (omega (arith, room_at both.here v.is, presents-test b p q (present-is b p q v f), length-set answers at a))

    pub first_call : (a : ℕ) → Walking g need (set answers at a) (i - 1 - s) (at + 1)
    first_call a =
        let (b, p, q, v) = children in
        child_call both.here v.left (before-first v) both.here.walking.most both.here.walking.low
        (omega (arith, few-at both.here v.is))
        (omega (arith, room_at both.here v.is, presents-test b p q (present-is b p q v f), length-set answers at a))

    -- the answer a, then the walk of the branch x
    answered : {answers' : List ℕ} {r : Walked} (p x : Stmt) (a : ℕ) → walk g.weight 63 p (values_of need) ≡ answer a (walk g.weight 63 x (values_of need)) → Walks g.weight x need (set answers at a) answers' (at + 1) r → Walks g.weight p need answers answers' at r
    answered p x a e w =
        let u = answers_of (walk g.weight 63 x (values_of need)) in
        walks_as (answer a (walk g.weight 63 x (values_of need))) e w.code
        (let c : at + 1 + length u ≡ at + suc (length u) = omega arith in w.after ∙ c)
        (w.written ∙ ap (λ j. sets (set answers at a) j u) (add-one at))

    module _ {ab : Bool} (absent : ab ≡ goes_absent g.weight (numbers_at g.rows.now (i - 1 - s)) (numbers_at g.rows.now (i - 1)) need) where
      chosen : (b : Binary) (p q : Stmt) → Both g.tree.table.now i s b p q → {x : Bool} → ab ≡ x → no_worse g.weight (cost g.weight 63 q (values_of need)) (cost g.weight 63 p (values_of need)) ≡ x
      chosen b p q v e =
          sym (absent ∙ ap₂ (no_worse g.weight) (cost-is g.weight (numbers_at g.rows.now (i - 1)) need q (last-is b p q v)) (cost-is g.weight (numbers_at g.rows.now (i - 1 - s)) need p (first-is b p q v))) ∙ e

      -- what the walk of the test is
      told : (s' : ℕ) (p q : Stmt) → Both g.tree.table.now i s (present s') p q → {x : Bool} → ab ≡ x → walk g.weight 63 (two (present s') p q) (values_of need) ≡ cond x (answer 0 (walk g.weight 63 q (values_of need))) (answer 1 (walk g.weight 63 p (values_of need)))
      told s' p q v e = ap (λ c. cond c (answer 0 (walk g.weight 63 q (values_of need))) (answer 1 (walk g.weight 63 p (values_of need)))) (chosen (present s') p q v e)

      -- absent and the else branch, or present and the then branch
      pub test-returns : {answers' : List ℕ} {r : Walked} {j v : ℕ} (x : Bool) → ab ≡ x → j ≡ cond x (i - 1) (i - 1 - s) → v ≡ cond x 0 1 → Walks g.weight (stmt_at g.tree.table.now j) need (set answers at v) answers' (at + 1) r → Walks g.weight (stmt_at g.tree.table.now i) need answers answers' at r
      unfolding kind_of
      test-returns {answers'} {r} x e ej ev w' =
          let w = rw (ej, ev) at w' in
          let (b, p, q, v) = children in go b p q v (present-is b p q v f) w
        where
          taken : (s' : ℕ) (p q : Stmt) → Both g.tree.table.now i s (present s') p q → (c : Bool) → ab ≡ c → Walks g.weight (stmt_at g.tree.table.now (cond c (i - 1) (i - 1 - s))) need (set answers at (cond c 0 1)) answers' (at + 1) r → Walks g.weight (two (present s') p q) need answers answers' at r
          taken s' p q v true e w = answered (two (present s') p q) q 0 (told s' p q v e) (at-stmt (sym v.right) w)
          taken s' p q v false e w = answered (two (present s') p q) p 1 (told s' p q v e) (at-stmt (sym v.left) w)

          go : (b : Binary) (p q : Stmt) → Both g.tree.table.now i s b p q → is_present (kind_of (kind (two b p q))) ≡ true → Walks g.weight (stmt_at g.tree.table.now (cond x (i - 1) (i - 1 - s))) need (set answers at (cond x 0 1)) answers' (at + 1) r → Walks g.weight (stmt_at g.tree.table.now i) need answers answers' at r
          go (present s') p q v y w = at-stmt v.is (taken s' p q v x e w)
          go sequence p q v y w = let c : ◌≡◌ {A = ℕ} 0 1 = cc in absurd (omega arith)
          go parallel p q v y w = let c : ◌≡◌ {A = ℕ} 0 1 = cc in absurd (omega arith)

  -- ---- a sequence or a parallel
  module _ (f : is_present k ≡ false) {or : Bool} (eo : or ≡ is_sequence k) {before : List ℕ} (d : First g.weight or (numbers_at g.rows.now (i - 1)) need before) where
    pub left_call : Walking g before answers (i - 1 - s) at
    left_call =
        let (b, p, q, v) = children in
        let row-few : LowRow (suc (size q)) (numbers_at g.rows.now (i - 1)) = subst (λ w. LowRow (suc (size w)) (numbers_at g.rows.now (i - 1))) v.right (said-few both.here.walking.well_formed both.here.walking.filled (i - 1) (omega (arith, before_last v, both.here.walking.within))) in
        child_call both.here v.left (before-first v) (size q + both.here.walking.most)
        (d.low (size q) both.here.walking.most row-few both.here.walking.low)
        (omega (arith, few-at both.here v.is))
        (omega (arith, room_at both.here v.is, presents-two b p q (present-is b p q v f)))

    -- what the left needs, by the definitions
    abbrev left_need : Binary → Stmt → Need
    left_need (present s') q = values_of need
    left_need sequence q = need_first (cost g.weight 63 q (values_of need)) (values_of need)
    left_need parallel q = λ j. cost g.weight 63 q (λ l. values_of need (max j l))

    agrees_left : (b : Binary) (p q : Stmt) → Both g.tree.table.now i s b p q → Agree 63 (values_of before) (left_need b q)
    unfolding kind_of
    agrees_left b p q v j h = d.holds.at j (omega arith) ∙ go b v (sym (eo ∙ ap is_sequence (kind-at both.here v.is))) (present-is b p q v f)
      where
        go : (b : Binary) → Both g.tree.table.now i s b p q → is_sequence (kind_of (kind (two b p q))) ≡ or → is_present (kind_of (kind (two b p q))) ≡ false → first_need g.weight or (numbers_at g.rows.now (i - 1)) need j ≡ left_need b q j
        go (present s') v' e x = let c : ◌≡◌ {A = ℕ} 0 1 = cc in absurd (omega arith)
        go sequence v' e x = ap (λ c. first_need g.weight c (numbers_at g.rows.now (i - 1)) need j) (sym e) ∙ sequence-is g.weight (numbers_at g.rows.now (i - 1)) need q (last-is sequence p q v') j
        go parallel v' e x = ap (λ c. first_need g.weight c (numbers_at g.rows.now (i - 1)) need j) (sym e) ∙ beside-is g.weight (numbers_at g.rows.now (i - 1)) need q (last-is parallel p q v') j

    module _ {mid : List ℕ} {left : Walked} (w : Walks g.weight (stmt_at g.tree.table.now (i - 1 - s)) before answers mid at left) where
      left_walks : (b : Binary) (p q : Stmt) → Both g.tree.table.now i s b p q → Walks g.weight p before answers mid at left
      left_walks b p q v = at-stmt (sym v.left) w

      left-same : (b : Binary) (p q : Stmt) → Both g.tree.table.now i s b p q → walk g.weight 63 p (values_of before) ≡ walk g.weight 63 p (left_need b q)
      left-same b p q v = walk_agree g.weight 63 p (below_at both.here v.is).1 (values_of before) (left_need b q) (agrees_left b p q v)

      pub left-low : left.code < 64
      left-low =
          let (b, p, q, v) = children in
          omega (arith, (left_walks b p q v).code, walk-low g.weight 63 p (below_at both.here v.is).1 (values_of before))

      and_left : (x y : WalkedTo) (c : ℕ) → c ≡ code_of x → (c ≡ 0 → ⊥) → and_walk x y ≡ x
      and_left (walked u zero) y c e h = absurd (h e)
      and_left (walked u (suc l)) y c e h = refl

      and_both : (x y : WalkedTo) → code_of x ≡ 0 → and_walk x y ≡ walked (answers_of x ++ answers_of y) (code_of y)
      and_both (walked u zero) y e = refl
      and_both (walked u (suc l)) y e = absurd (omega arith)

      beside-both : (x : WalkedTo) (f : ℕ → WalkedTo) (c : ℕ) → c ≡ code_of x → beside_walk x f ≡ walked (answers_of x ++ answers_of (f c)) (max c (code_of (f c)))
      beside-both (walked u l) f c e = rw e

      pub left-returns : or ≡ true → (left.code ≡ 0 → ⊥) → Walks g.weight (stmt_at g.tree.table.now i) need answers mid at left
      unfolding kind_of
      left-returns x h = let (b, p, q, v) = children in go b p q v (sym (eo ∙ ap is_sequence (kind-at both.here v.is)) ∙ x)
        where
          go : (b : Binary) (p q : Stmt) → Both g.tree.table.now i s b p q → is_sequence (kind_of (kind (two b p q))) ≡ true → Walks g.weight (stmt_at g.tree.table.now i) need answers mid at left
          go (present s') p q v e = let c : ◌≡◌ {A = ℕ} 0 1 = cc in absurd (omega arith)
          go parallel p q v e = let c : ◌≡◌ {A = ℕ} 0 1 = cc in absurd (omega arith)
          go sequence p q v e =
              let l = left_walks sequence p q v in
              at-stmt v.is
              (walks_as (walk g.weight 63 p (values_of before))
              (ap (λ c. and_walk c (walk g.weight 63 q (values_of need))) (sym (left-same sequence p q v)) ∙ and_left (walk g.weight 63 p (values_of before)) (walk g.weight 63 q (values_of need)) left.code l.code h)
              l.code l.after l.written)

      module _ {under : List ℕ} (e : Under k left.code need under) where
        pub right_call : Walking g under mid (i - 1) left.at
        right_call =
            let (b, p, q, v) = children in
            let l = left_walks b p q v in
            let same : length mid ≡ length answers = ap length l.written ∙ length-sets answers at (answers_of (walk g.weight 63 p (values_of before))) in
            child_call both.here v.right (before_last v) both.here.walking.most
            (row_low (suc both.here.walking.most) e.long (λ j h. subst (λ x. x ≤ suc both.here.walking.most) (sym (e.at j h)) (under_low k left.code need (suc both.here.walking.most) both.here.walking.low j)))
            (omega (arith, few-at both.here v.is))
            (omega (arith, room_at both.here v.is, presents-two b p q (present-is b p q v f), l.after, walk-short g.weight 63 p (values_of before), same))

        right-same : (b : Binary) (p q : Stmt) → Both g.tree.table.now i s b p q → walk g.weight 63 q (values_of under) ≡ walk g.weight 63 q (λ j. values_of need (max left.code j))
        right-same b p q v =
            walk_agree g.weight 63 q (below_at both.here v.is).2 (values_of under) (λ j. values_of need (max left.code j))
            (λ j h. ap value_of (e.at j (omega arith) ∙ ap (λ x. under_at x left.code need j) (kind-at both.here v.is)) ∙ under-two g.weight need b p q left.code j)

        module _ {answers' : List ℕ} {right r : Walked} {c : ℕ} (w' : Walks g.weight (stmt_at g.tree.table.now (i - 1)) under mid answers' left.at right) (ec : c ≡ max left.code right.code) (er : r.code ≡ c) (ea : r.at ≡ right.at) where
          -- both walks, where the code is the larger
          joined : (b : Binary) (p q : Stmt) → Both g.tree.table.now i s b p q → walk g.weight 63 (two b p q) (values_of need) ≡ walked (answers_of (walk g.weight 63 p (values_of before)) ++ answers_of (walk g.weight 63 q (values_of under))) (max left.code (code_of (walk g.weight 63 q (values_of under)))) → Walks g.weight (stmt_at g.tree.table.now i) need answers answers' at r
          joined b p q v is =
              let l = left_walks b p q v in
              let m : Walks g.weight q under mid answers' left.at right = at-stmt (sym v.right) w' in
              let x = answers_of (walk g.weight 63 p (values_of before)) in
              let y' = answers_of (walk g.weight 63 q (values_of under)) in
              let len = length-append x y' in
              at-stmt v.is
              (walks_as (walked (x ++ y') (max left.code (code_of (walk g.weight 63 q (values_of under))))) is
              (er ∙ ec ∙ ap (max left.code) m.code)
              (omega (arith, ea, m.after, l.after, len))
              (m.written ∙ ap₂ (λ a' j. sets a' j y') l.written l.after ∙ sym (sets-append answers at x y')))

          pub both-returns : (or ≡ true → left.code ≡ 0) → Walks g.weight (stmt_at g.tree.table.now i) need answers answers' at r
          unfolding kind_of
          both-returns h = let (b, p, q, v) = children in go b p q v (sym (eo ∙ ap is_sequence (kind-at both.here v.is))) (present-is b p q v f)
            where
              go : (b : Binary) (p q : Stmt) → Both g.tree.table.now i s b p q → is_sequence (kind_of (kind (two b p q))) ≡ or → is_present (kind_of (kind (two b p q))) ≡ false → Walks g.weight (stmt_at g.tree.table.now i) need answers answers' at r
              go (present s') p q v e' x = let c' : ◌≡◌ {A = ℕ} 0 1 = cc in absurd (omega arith)
              go sequence p q v e' x =
                  let zero-code : left.code ≡ 0 = h (sym e') in
                  let l = left_walks sequence p q v in
                  let same : walk g.weight 63 q (values_of need) ≡ walk g.weight 63 q (values_of under) = walk_agree g.weight 63 q (below_at both.here v.is).2 (values_of need) (λ j. values_of need (max left.code j)) (λ j h'. ap (values_of need) (omega arith)) ∙ sym (right-same sequence p q v) in
                  let code : code_of (walk g.weight 63 q (values_of under)) ≡ max left.code (code_of (walk g.weight 63 q (values_of under))) = omega arith in
                  joined sequence p q v
                  (ap₂ and_walk (sym (left-same sequence p q v)) same ∙
                  and_both (walk g.weight 63 p (values_of before)) (walk g.weight 63 q (values_of under)) (sym l.code ∙ zero-code) ∙
                  ap (walked (answers_of (walk g.weight 63 p (values_of before)) ++ answers_of (walk g.weight 63 q (values_of under)))) code)
              go parallel p q v e' x =
                  let l = left_walks parallel p q v in
                  joined parallel p q v
                  (ap (λ x'. beside_walk x' (λ j. walk g.weight 63 q (λ m. values_of need (max j m)))) (sym (left-same parallel p q v)) ∙
                  beside-both (walk g.weight 63 p (values_of before)) (λ j. walk g.weight 63 q (λ m. values_of need (max j m))) left.code l.code ∙
                  ap (λ x'. walked (answers_of (walk g.weight 63 p (values_of before)) ++ answers_of x') (max left.code (code_of x'))) (sym (right-same parallel p q v)))
