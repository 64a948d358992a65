-- F-10: the greatest number of entries and the answers that reach it.
use mathlib.Core.Path.{◌≡◌, refl, sym, ap, ◌∙◌, subst}
use mathlib.Core.Logic.{◌⊎◌, inl, inr}
use mathlib.Core.Bool.{Bool, true, false}
use mathlib.Core.Option.{Option, none, some}
use mathlib.Core.List.{List, []}
use Prim.Native.Nat.{ℕ, ◌+◌, ◌≤◌}
use native.Mathlib.Omega.{arith}
use lib.Dec.{eqb}
use lib.ListN.{length, length-replicate}
use Rattle.esterel.specs.Statement.{nothing, pause, emit, exit, signal, suspend, loop, trap, present, sequence, parallel, Stmt, leaf, one, two, size}
use Rattle.esterel.specs.Checks.{planned}
use Rattle.esterel.specs.Instant.{Result, closed, starved, stuck, zeros, start}
use Rattle.esterel.specs.Theorems.{Accepted, Closes}
use Rattle.esterel.proofs.Theorems.{demand3}
use Rattle.starts.specs.declared.Weight.TheVariants.{Entries}
use Rattle.starts.specs.Ticks.{Sooner, Bits, presents}
use Rattle.starts.specs.Entries.{Makes, Greatest, IsLongest}
use Rattle.starts.specs.Summary.{Starts, starts, given, Both, Gives, Ran, up_to, together, weights, most_entries}
use Rattle.starts.specs.Walk.{cost, walk, answers_of, code_of, any_code, Low, Below}
use Rattle.starts.specs.Theorems.{FirstTick}
use Rattle.starts.specs.Computing.{GreatestOf, Composed}
use Rattle.starts.proofs.Exact.{weighs}
use Rattle.starts.proofs.Triples.{ran, gives, taken, few-answers, exact, there, reached}
use Rattle.starts.proofs.Order.{sooner_once}
use Rattle.starts.proofs.Bind.{Best, Costs, Walks, number_of}
use Rattle.starts.proofs.Cost.{below-low, low-cost}
use Rattle.starts.proofs.Walk.{walks}
use Rattle.starts.proofs.Agree.{up_to_agree}
use Rattle.starts.proofs.Theorems.{highest, bounded}

-- ---- what a start makes is what the recursion gives

made : (p : Stmt) (answers rest : List ℕ) (n : ℕ) → Makes p answers rest n → (k : ℕ) × (used : List ℕ) × Gives p k used n
made p answers rest n (k, t, h, e, l) =
    let (used, z, b, x) = taken p 0 answers k t h rest e in
    (k, used, subst (Gives p k used) l x)

makes : (p : Stmt) (k : ℕ) (u : List ℕ) (n : ℕ) → Gives p k u n → Makes p u [] n
makes p k u n x = let (t, h, e, l) = ran p 0 k u n x in (k, t, h, e, l)

-- ---- the greatest number, where each code will do

best-greatest : (p : Stmt) (n : ℕ) → Best Entries (Gives p) any_code n → Greatest p n
best-greatest p n b =
    record {
      reached =
          let none_left : b.left ≡ 0 = nothing_left b.needs in
          let z : b.many ≡ n = omega (arith, b.total) in
          (b.used, [], subst (Makes p b.used []) z (makes p b.code b.used b.many b.is));
      exceeded = λ answers rest m o.
          let (k, used, x) = made p answers rest m o in
          omega (arith, b.best k used m 0 x refl);
    }
  where
    nothing_left : {r : ℕ} → some 0 ≡ some r → r ≡ 0
    nothing_left e = cc

greatest-best : (p : Stmt) (n : ℕ) → Greatest p n → Best Entries (Gives p) any_code n
greatest-best p n g =
    let (answers, rest, o) = g.reached in
    let (k, used, x) = made p answers rest n o in
    record {
      code = k;
      used = used;
      many = n;
      left = 0;
      is = x;
      needs = refl;
      total = omega arith;
      best = λ j v m r s e.
          let none_left : r ≡ 0 = cc in
          let z = g.exceeded v [] m (makes p j v m s) in
          omega arith;
    }

unique : (p : Stmt) (m n : ℕ) → Greatest p m → Greatest p n → m ≡ n
unique p m n g h =
    let (u, r, o) = g.reached in
    let (v, s, d) = h.reached in
    let a = h.exceeded u r m o in
    let b = g.exceeded v s n d in
    omega arith

-- ---- the codes, composed

plus_none : (x : Option ℕ) → together ◌+◌ x (some 0) ≡ x
plus_none none = refl
plus_none (some x) = ap some (omega arith)

pub any-cost : (B : ℕ) (p : Stmt) → cost Entries B p any_code ≡ up_to (weights Entries) (most_entries p) B
unfolding cost
any-cost B p = up_to_agree (weights Entries) (λ k. together ◌+◌ (most_entries p k) (some 0)) (most_entries p) B (λ k h. plus_none (most_entries p k))

same_some : {m n : ℕ} → some m ≡ some n → m ≡ n
same_some e = cc

module _ (B : ℕ) (p : Stmt) (low : Low B p) where
  costs : Costs Entries (Gives p) any_code (up_to (weights Entries) (most_entries p) B)
  costs = subst (Costs Entries (Gives p) any_code) (any-cost B p) (low-cost Entries B p low any_code)

  composes : (n : ℕ) → Greatest p n → up_to (weights Entries) (most_entries p) B ≡ some n
  composes n g =
      let b = greatest-best p n g in
      let m = number_of Entries (Gives p) any_code (up_to (weights Entries) (most_entries p) B) costs b.code b.used b.many b.left b.is b.needs in
      m.is ∙ ap some (unique p m.number n (best-greatest p m.number m.costs) g)

  composed_greatest : (n : ℕ) → up_to (weights Entries) (most_entries p) B ≡ some n → Greatest p n
  composed_greatest n e = go (up_to (weights Entries) (most_entries p) B) e costs
    where
      go : (x : Option ℕ) → x ≡ some n → Costs Entries (Gives p) any_code x → Greatest p n
      go none z c = let y : ◌≡◌ {A = ℕ} 0 1 = cc in absurd (omega arith)
      go (some m) z c = let y : m ≡ n = cc in subst (Greatest p) y (best-greatest p m c)

-- one code
module _ (p : Stmt) (k : ℕ) where
  each_to : (n : ℕ) → GreatestOf p k n → most_entries p k ≡ some n
  each_to n g =
      let (answers, o) = g.reached in
      let x = gives p 0 k answers n o in
      let (m, e) = there (weighs Entries) (Gives p k) (most_entries p k) answers n x (exact (weighs Entries) p k) in
      let r = reached (weighs Entries) (most_entries p k) m e (exact (weighs Entries) p k) in
      let above = r.first answers n x in
      let below = g.exceeded r.used r.many (ran p 0 k r.used r.many r.is) in
      let same : m ≡ n = omega (arith, r.weight) in
      e ∙ ap some same

  each_from : (n : ℕ) → most_entries p k ≡ some n → GreatestOf p k n
  each_from n e =
      let r = reached (weighs Entries) (most_entries p k) n e (exact (weighs Entries) p k) in
      record {
        reached = (r.used, subst (Ran (start 0 p) k r.used) r.weight (ran p 0 k r.used r.many r.is));
        exceeded = λ answers m o. r.first answers m (gives p 0 k answers m o);
      }

-- ---- the answers that are handed out

module _ (B : ℕ) (p : Stmt) (below : Below B p) (n : ℕ) (g : Greatest p n) where
  walked_to : Walks Entries (Gives p) any_code n (answers_of (walk Entries B p any_code)) (code_of (walk Entries B p any_code))
  walked_to = walks Entries B p below any_code n (greatest-best p n g)

  found : IsLongest p n (answers_of (walk Entries B p any_code))
  found = go (answers_of (walk Entries B p any_code)) (code_of (walk Entries B p any_code)) walked_to
    where
      go : (u : List ℕ) (i : ℕ) → Walks Entries (Gives p) any_code n u i → IsLongest p n u
      go u i x =
          let none_left : x.left ≡ 0 = sym (same_some x.needs) in
          let z : x.many ≡ n = omega (arith, x.total) in
          record {
            makes = subst (Makes p u []) z (makes p i u x.many x.is);
            first = λ other (k, t, h, e, l). side (x.first k other n 0 (gives p 0 k other n (t, h, e, l)) refl (omega arith));
          }
        where
          side : {v : List ℕ} {j : ℕ} → ((v ≡ u) × (j ≡ i)) ⊎ Sooner u v → (u ≡ v) ⊎ Sooner u v
          side (inl (a, b)) = inl (sym a)
          side (inr q) = inr q

pub composed : Composed
composed =
    record {
      each = λ p k n. (each_to p k n, each_from p k n);
      all = λ B p low n. (composes B p low n, composed_greatest B p low n);
      found = found;
    }

-- ---- the theorems

only_one : (u v : List ℕ) → (u ≡ v) ⊎ Sooner u v → (v ≡ u) ⊎ Sooner v u → u ≡ v
only_one u v (inl e) d = e
only_one u v (inr q) (inl f) = sym f
only_one u v (inr q) (inr r) = absurd (sooner_once u v q r)

one-longest : (p : Stmt) (n : ℕ) (u v : List ℕ) → IsLongest p n u → IsLongest p n v → u ≡ v
one-longest p n u v o d = only_one u v (o.first v d.makes) (d.first u o.makes)

bits : (p : Stmt) (n : ℕ) (answers : List ℕ) → Greatest p n → IsLongest p n answers → Bits answers
bits p n answers g o =
    subst Bits (one-longest p n (answers_of (walk Entries (highest p) p any_code)) answers (found (highest p) p (bounded p) n g) o) (walked_to (highest p) p (bounded p) n g).bits

short : (p : Stmt) (n : ℕ) (answers : List ℕ) → IsLongest p n answers → length answers ≤ presents p
short p n answers o = let (k, t, h, e, l) = o.makes in few-answers p k answers n (gives p 0 k answers n (t, h, e, l))

at_most : (p : Stmt) (n : ℕ) → Greatest p n → n ≤ size p
at_most p n g =
    let (answers, rest, (k, t, h, e, l)) = g.reached in
    omega (arith, demand3.start_entries p answers k t h rest e)

-- the statement's own entry
entered-some : (A : Starts) (u : List ℕ) (n : ℕ) → Both starts.entry A u n → 1 ≤ n
entered-some A u n b = omega (arith, b.entries, b.first.1)

gives-some : (p : Stmt) (k : ℕ) (u : List ℕ) (n : ℕ) → Gives p k u n → 1 ≤ n
gives-some (leaf l) k u n x = go l x
  where
    own : (t : Bool) → given starts t starts.entry u n → 1 ≤ n
    own true (e, z) = omega arith
    own false y = absurd y

    go : (l : _) → Gives (leaf l) k u n → 1 ≤ n
    go nothing y = own (eqb 0 k) y
    go pause y = own (eqb 1 k) y
    go (emit s) y = own (eqb 0 k) y
    go (exit level) y = own (eqb (2 + level) k) y
gives-some (one (signal s) p) k u n x = entered-some _ u n x
gives-some (one (suspend s) p) k u n x = entered-some _ u n x
gives-some (one loop p) k u n x = entered-some _ u n x
gives-some (one trap p) k u n x = entered-some _ u n x
gives-some (two (present s) p q) k u n x = entered-some _ u n x
gives-some (two sequence p q) k u n x = entered-some _ u n x
gives-some (two parallel p q) k u n x = entered-some _ u n x

at_least : (p : Stmt) (n : ℕ) → Greatest p n → 1 ≤ n
at_least p n g =
    let (answers, rest, o) = g.reached in
    let (k, used, x) = made p answers rest n o in
    gives-some p k used n x

-- with enough answers an accepted program closes
closes : (p : Stmt) → Accepted p → (answers rest : List ℕ) × (n : ℕ) × Makes p answers rest n
closes p a = go (start 0 p (zeros (planned p))) refl (demand3.starts p a (zeros (planned p)))
  where
    go : (x : Result) → start 0 p (zeros (planned p)) ≡ x → Closes p (zeros (planned p)) x → (answers rest : List ℕ) × (n : ℕ) × Makes p answers rest n
    go (closed k t h r) e c = (zeros (planned p), r, length t, (k, t, h, e, refl))
    go starved e c = let z = length-replicate {A = ℕ} (planned p) 0 in absurd (omega arith)
    go stuck e c = absurd c

exists : (p : Stmt) → Accepted p → (n : ℕ) × Greatest p n
exists p a =
    let (answers, rest, n, o) = closes p a in
    let (k, used, x) = made p answers rest n o in
    let B = highest p in
    let m = number_of Entries (Gives p) any_code (up_to (weights Entries) (most_entries p) B) (costs B p (below-low B p (bounded p))) k used n 0 x refl in
    (m.number, best-greatest p m.number m.costs)

pub first_tick : FirstTick
first_tick =
    record {
      exists = exists;
      unique = unique;
      some = at_least;
      nodes = at_most;
      longest = λ p n g. (answers_of (walk Entries (highest p) p any_code), found (highest p) p (bounded p) n g);
      one_longest = one-longest;
      bits = bits;
      short = short;
    }
