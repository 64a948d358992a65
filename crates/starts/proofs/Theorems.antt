-- The theorems of specs/Theorems.antt.
use mathlib.Core.Path.{◌≡◌, refl, sym, subst}
use mathlib.Core.Bool.{Bool, true, false, cond}
use mathlib.Core.Logic.{◌⊎◌, inl, inr}
use mathlib.Core.Option.{none, some}
use mathlib.Core.List.{List, []}
use Prim.Native.Nat.{ℕ, suc, ◌+◌, ◌-◌, ◌*◌, ◌≤◌, ◌<◌, max}
use native.Mathlib.Decide.{dec_lt}
use native.Mathlib.Omega.{arith}
use lib.Dec.{eqb}
use lib.ListN.{length}
use Rattle.codes.proofs.Members.{only_in, only_out, only-most, given-most, without-ended-most, union-most, larger-most, caught-most}
use Rattle.esterel.specs.Statement.{nothing, pause, emit, exit, Unary, signal, suspend, loop, trap, Binary, present, sequence, parallel, Stmt, leaf, one, two, size, nodes}
use Rattle.esterel.specs.Codes.{only, without_ended, given}
use Rattle.esterel.specs.Sets.{start_set, places_of}
use Rattle.esterel.specs.Checks.{too_many_traps, uncaught}
use Rattle.esterel.specs.Outcome.{statement_at}
use Rattle.esterel.specs.Theorems.{WellFormed}
use Rattle.esterel.proofs.Accepted.{first_passes}
use Rattle.esterel.proofs.Caught.{codes-few}
use Rattle.esterel.proofs.Low.{start-pause}
use Rattle.esterel.proofs.Refusals.{refusals}
use Rattle.esterel.proofs.Subtrees.{only_child_lem, two-children}
use Rattle.esterel.proofs.Theorems.{exactness, loop_check, demand3}
use Rattle.starts.specs.Ticks.{Leads, Sooner, Before, Bits, IsShown, presents}
use Rattle.starts.specs.declared.Weight.{Weight}
use Rattle.starts.specs.declared.Weight.TheVariants.{Answers, Entries}
use Rattle.starts.specs.Summary.{Gives, best, least_answers, most_entries}
use Rattle.starts.specs.Walk.{goal, answers_of, code_of, walk, Low, Below}
use Rattle.starts.specs.Theorems.{TakesFew, OneShown, Faults}
use Rattle.starts.specs.Computing.{Triples, WalkShows, WalksRight}
use Rattle.starts.proofs.Exact.{weighs}
use Rattle.starts.proofs.Triples.{ran, gives, taken, starved-few, few-answers, in_gives, exact, reached, there}
use Rattle.starts.proofs.Order.{before-once}
use Rattle.starts.proofs.Bind.{Best, Walks}
use Rattle.starts.proofs.Cost.{below-low}
use Rattle.starts.proofs.Walk.{walks}

pub triples : Triples
triples p first k u n = (ran p first k u n, gives p first k u n)

-- ---- a list that leads to a code is one that the recursion gives

leads-gives : (p : Stmt) (first k : ℕ) (u : List ℕ) → Leads first p k u → (n : ℕ) × Gives p k u n
leads-gives p first k u (t, h, e) = (length t, gives p first k u (length t) (t, h, e, refl))

gives-leads : (p : Stmt) (first k : ℕ) (u : List ℕ) (n : ℕ) → Gives p k u n → Leads first p k u
gives-leads p first k u n x = let (t, h, e, l) = ran p first k u n x in (t, h, e)

short : (p : Stmt) (first k : ℕ) (u : List ℕ) → Leads first p k u → length u ≤ presents p
short p first k u o = let (n, x) = leads-gives p first k u o in few-answers p k u n x

pub few-tests : (p : Stmt) → 2 * presents p < size p
few-tests (leaf l) = omega arith
few-tests (one u p) = omega (arith, few-tests p)
few-tests (two (present s) p q) = omega (arith, few-tests p, few-tests q)
few-tests (two sequence p q) = omega (arith, few-tests p, few-tests q)
few-tests (two parallel p q) = omega (arith, few-tests p, few-tests q)

-- the least number of answers is one of some start
pub few-least : (p : Stmt) (k n : ℕ) → least_answers p k ≡ some n → n ≤ presents p
few-least p k n e =
    let o = reached (weighs Answers) (least_answers p k) n e (exact (weighs Answers) p k) in
    omega (arith, o.weight, few-answers p k o.used o.many o.is)

-- no statement is entered twice at a start
few-entries : (p : Stmt) (k : ℕ) (u : List ℕ) (n : ℕ) → Gives p k u n → n ≤ size p
few-entries p k u n x =
    let (t, h, e, l) = ran p 0 k u n x in
    omega (arith, demand3.start_entries p u k t h [] e)

-- nor is what is preferred more than the nodes
pub few-best : (w : Weight) (p : Stmt) (k n : ℕ) → best w p k ≡ some n → n ≤ size p
few-best Answers p k n e = omega (arith, few-least p k n e, few-tests p)
few-best Entries p k n e =
    let o = reached (weighs Entries) (most_entries p k) n e (exact (weighs Entries) p k) in
    omega (arith, o.weight, few-entries p k o.used o.many o.is)

pub takes_few : TakesFew
takes_few =
    record {
      taken = λ p first ans k t h r e.
          let (used, z, b, x) = taken p first ans k t h r e in
          (used, z, b, gives-leads p first k used (length t) x);
      starves = starved-few;
      tests = few-tests;
    }

-- ---- the walk

goal-own : (k : ℕ) → goal k k ≡ some 0
goal-own k = rw (only_in k)

goal-other : (k j r : ℕ) → goal k j ≡ some r → (k ≡ j) × (r ≡ 0)
goal-other k j r e = go (eqb k j) refl e
  where
    go : (t : Bool) → eqb k j ≡ t → cond t (some 0) none ≡ some r → (k ≡ j) × (r ≡ 0)
    go true f g = (only_out k j f, cc)
    go false f g = let z : ◌≡◌ {A = ℕ} 0 1 = cc in absurd (omega arith)

module _ (B : ℕ) (p : Stmt) (b : Below B p) (k : ℕ) (e : start_set p k ≡ true) where
  -- the least number of answers, with nothing needed after code k
  found : (m : ℕ) × Best Answers (Gives p) (goal k) m
  found =
      let (u, n, x) = in_gives p k e in
      let (m, z) = there (weighs Answers) (Gives p k) (least_answers p k) u n x (exact (weighs Answers) p k) in
      let o = reached (weighs Answers) (least_answers p k) m z (exact (weighs Answers) p k) in (
        m,
        record {
          code = k;
          used = o.used;
          many = o.many;
          left = 0;
          is = o.is;
          needs = goal-own k;
          total = omega (arith, o.weight);
          best = λ j v n r s f.
              let (same, zero_left) = goal-other k j r f in
              omega (arith, o.first v n (subst (λ i. Gives p i v n) (sym same) s));
        },
      )

  -- a list that the walk takes comes before every other
  firsts : (u : List ℕ) (i m : ℕ) → Best Answers (Gives p) (goal k) m → Walks Answers (Gives p) (goal k) m u i → (v : List ℕ) (n : ℕ) → Gives p k v n → (u ≡ v) ⊎ Before u v
  firsts u i m l x v n y = go (dec_lt (length u) (length v))
    where
      left : x.left ≡ 0
      left = (goal-other k i x.left x.needs).1

      more : m ≤ length v + 0
      more = l.best k v n 0 y (goal-own k)

      at_one : length u ≡ length v → ((v ≡ u) × (k ≡ i)) ⊎ Sooner u v → (u ≡ v) ⊎ Before u v
      at_one z (inl (a, b)) = inl (sym a)
      at_one z (inr q) = inr (inr (z, q))

      go : Dec (length u < length v) → (u ≡ v) ⊎ Before u v
      go (yes h) = inr (inl h)
      go (no h) = at_one (omega (arith, x.total, left, more)) (x.first k v n 0 y (goal-own k) (omega (arith, x.total, left, more)))

  shows : (u : List ℕ) (i m : ℕ) → Best Answers (Gives p) (goal k) m → Walks Answers (Gives p) (goal k) m u i → (first : ℕ) → IsShown first p k u
  shows u i m c x first =
      let same = (goal-other k i x.left x.needs).0 in
      record {
        leads = gives-leads p first k u x.many (subst (λ j. Gives p j u x.many) (sym same) x.is);
        first = λ v o. let (n, y) = leads-gives p first k v o in firsts u i m c x v n y;
      }

  walking : WalkShows B p k
  walking =
      let (m, c) = found in
      let x = walks Answers B p b (goal k) m c in
      record {
        code = sym (goal-other k (code_of (walk Answers B p (goal k))) x.left x.needs).0;
        shown = shows (answers_of (walk Answers B p (goal k))) (code_of (walk Answers B p (goal k))) m c x;
      }

  walk-bits : Bits (answers_of (walk Answers B p (goal k)))
  walk-bits = let (m, c) = found in (walks Answers B p b (goal k) m c).bits

pub walks_right : WalksRight
walks_right B p b k e = walking B p b k e

-- ---- some bound is above all codes of a statement and of those in it

below_more : (p : Stmt) (B C : ℕ) → B ≤ C → Below B p → Below C p
below_more (leaf l) B C h b = λ k e. omega (arith, b k e)
below_more (one u p) B C h b = (λ k e. omega (arith, b.0 k e), below_more p B C h b.1)
below_more (two c p q) B C h b = (λ k e. omega (arith, b.0 k e), below_more p B C h b.1, below_more q B C h b.2)

-- what is above those of the children is above those of the statement
one-low : (u : Unary) (p : Stmt) (B : ℕ) → Low B p → Low (suc B) (one u p)
one-low (signal s) p B l = λ k e. omega (arith, l k e)
one-low (suspend s) p B l = λ k e. omega (arith, l k e)
one-low loop p B l = λ k e. omega (arith, without-ended-most B (start_set p) l k e)
one-low trap p B l = caught-most B (start_set p) (λ k e. omega (arith, l k e))

two-low : (c : Binary) (p q : Stmt) (B : ℕ) → Low B p → Low B q → Low B (two c p q)
two-low sequence p q B l m =
    union-most B (without_ended (start_set p)) (given (start_set p 0) (start_set q)) (without-ended-most B (start_set p) l) (given-most B (start_set p 0) (start_set q) m)
two-low (present s) p q B l m = union-most B (start_set p) (start_set q) l m
two-low parallel p q B l m = larger-most B (start_set p) (start_set q) l m

-- a bound that computes
abbrev pub highest : Stmt → ℕ
highest (leaf nothing) = 0
highest (leaf pause) = 1
highest (leaf (exit level)) = 2 + level
highest (leaf (emit s)) = 0
highest (one u p) = suc (highest p)
highest (two c p q) = max (highest p) (highest q)

pub bounded : (p : Stmt) → Below (highest p) p
bounded (leaf nothing) = only-most 0 0 (omega arith)
bounded (leaf pause) = only-most 1 1 (omega arith)
bounded (leaf (exit level)) = only-most (2 + level) (2 + level) (omega arith)
bounded (leaf (emit s)) = only-most 0 0 (omega arith)
bounded (one u p) = (one-low u p (highest p) (below-low (highest p) p (bounded p)), below_more p (highest p) (suc (highest p)) (omega arith) (bounded p))
bounded (two c p q) =
    let m = max (highest p) (highest q) in
    let x : Below m p = below_more p (highest p) m (omega arith) (bounded p) in
    let y : Below m q = below_more q (highest q) m (omega arith) (bounded q) in
    (two-low c p q m (below-low m p x) (below-low m q y), x, y)

-- ---- the list that is shown

exists : (p : Stmt) (first k : ℕ) → start_set p k ≡ true → (answers : List ℕ) × IsShown first p k answers
exists p first k e = (answers_of (walk Answers (highest p) p (goal k)), (walks_right (highest p) p (bounded p) k e).shown first)

only_one : (u v : List ℕ) → (u ≡ v) ⊎ Before u v → (v ≡ u) ⊎ Before v u → u ≡ v
only_one u v (inl e) d = e
only_one u v (inr q) (inl f) = sym f
only_one u v (inr q) (inr r) = absurd (before-once u v q r)

unique : (p : Stmt) (first k : ℕ) (u v : List ℕ) → IsShown first p k u → IsShown first p k v → u ≡ v
unique p first k u v o d = only_one u v (o.first v d.leads) (d.first u o.leads)

bits : (p : Stmt) (first k : ℕ) (u : List ℕ) → IsShown first p k u → Bits u
bits p first k u o =
    let (t, h, e) = o.leads in
    let in_k = (exactness p first k).1 (u, t, h, [], e) in
    let same = unique p first k (answers_of (walk Answers (highest p) p (goal k))) u ((walks_right (highest p) p (bounded p) k in_k).shown first) o in
    subst Bits same (walk-bits (highest p) p (bounded p) k in_k)

pub one_shown : OneShown
one_shown =
    record {
      exists = λ p first k. (exists p first k, λ (u, o). let (t, h, e) = o.leads in (exactness p first k).1 (u, t, h, [], e));
      unique = unique;
      bits = bits;
      short = short;
    }

-- ---- check 11

-- where every node's codes are low, so are those of the statements at and in a node
below_at : (p : Stmt) (B : ℕ) → ((i : ℕ) → Low B (statement_at (nodes p) i)) → (q : Stmt) (i : ℕ) → statement_at (nodes p) i ≡ q → Below B q
below_at p B low (leaf l) i e = λ k f. low i k (rw e f)
below_at p B low (one u q) i e = (λ k f. low i k (rw e f), below_at p B low q (i - 1) (only_child_lem p i u q e).1)
below_at p B low (two b q r) i e =
    let c = two-children p i b q r e in
    (λ k f. low i k (rw e f), below_at p B low q (i - 1 - size r) c.2, below_at p B low r (i - 1) c.1)

-- no code of a program that passes checks 1 to 10 is above 63
pub codes-below : {bytes : List ℕ} {p : Stmt} → WellFormed bytes p → (i : ℕ) → Below 63 (statement_at (nodes p) i)
codes-below {p = p} w i = below_at p 63 low (statement_at (nodes p) i) i refl
  where
    low : (i : ℕ) → Low 63 (statement_at (nodes p) i)
    low i k e =
        let h = codes-few p (first_passes too_many_traps (places_of p) 0 w.traps) (first_passes uncaught (places_of p) 0 w.exits) (only 1) start-pause i k e in
        omega arith

pub faults : Faults
faults bytes node e =
    let (p, w) = loop_check.well_formed bytes node e in
    let l = (loop_check.refuses bytes p w node).0 e in
    let (answers, o) = exists l.body (node - size l.body) 0 l.such in
    record {
      answers = answers;
      at = record { program = p; reads = w.reads; body = l.body; is_loop = l.is_loop; shown = o };
      short = λ other d. omega (arith, short l.body (node - size l.body) 0 other d, few-tests l.body, (only_child_lem p node loop l.body l.is_loop).0, (refusals bytes 11 node e).2);
    }
