-- Where each exit that leaves a statement goes one level further out, its start set has a code put in that the statement does not give.
use mathlib.Core.Path.{◌≡◌, refl, sym, ap₂, ◌∙◌}
use mathlib.Core.Bool.{Bool, true, false, ◌&&◌, ◌||◌, cond, and-false, or-false}
use Prim.Native.Nat.{ℕ, zero, suc, ◌+◌, ◌≤◌, ◌<◌}
use native.Mathlib.Decide.{dec_le}
use native.Mathlib.Omega.{arith}
use lib.Dec.{ltb, eqb-suc-suc}
use borrow.Author.Tests.{ltb-true, ltb-false, ne_eqb}
use Rattle.codes.proofs.Ends.{up_to-same}
use Rattle.esterel.specs.Codes.{Codes, only, union, given, without_ended, up_to, larger, caught}
use Rattle.esterel.specs.Statement.{Stmt, leaf, one, two, nothing, pause, emit, exit, signal, suspend, loop, trap, present, sequence, parallel}
use Rattle.esterel.specs.Sets.{start_set}
use Rattle.forms.specs.Forms.{lift}

-- b is the set a with a code m put in that is not a member: each code of a from m on is one more
pub record Inserted (m : ℕ) (a b : Codes) : Type 0 where
  pub below : (k : ℕ) → k < m → b k ≡ a k
  pub new : b m ≡ false
  pub above : (k : ℕ) → m ≤ k → b (suc k) ≡ a k

-- ---- so are the sets that the rules make of such

low : (m c : ℕ) → c < m → Inserted m (only c) (only c)
low m c h = record {
  below = λ k l. refl;
  new = ne_eqb c m (λ e. omega arith);
  above = λ k l. ne_eqb c (suc k) (λ e. omega arith) ∙ sym (ne_eqb c k (λ e. omega arith));
}

high : (m c : ℕ) → m ≤ c → Inserted m (only c) (only (suc c))
high m c h = record {
  below = λ k l. ne_eqb (suc c) k (λ e. omega arith) ∙ sym (ne_eqb c k (λ e. omega arith));
  new = ne_eqb (suc c) m (λ e. omega arith);
  above = λ k l. eqb-suc-suc c k;
}

in_given : {m : ℕ} {test test' : Bool} {a b : Codes} → test' ≡ test → Inserted m a b → Inserted m (given test a) (given test' b)
in_given {test' = test'} e r = record {
  below = λ k h. ap₂ ◌&&◌ e (r.below k h);
  new = rw r.new (and-false test');
  above = λ k h. ap₂ ◌&&◌ e (r.above k h);
}

without-ended : {m : ℕ} {a b : Codes} → Inserted (suc m) a b → Inserted (suc m) (without_ended a) (without_ended b)
without-ended {m} {a} {b} r = record { below = below; new = r.new; above = above }
  where
    below : (k : ℕ) → k < suc m → without_ended b k ≡ without_ended a k
    below zero h = refl
    below (suc k) h = r.below (suc k) h

    above : (k : ℕ) → suc m ≤ k → without_ended b (suc k) ≡ without_ended a k
    above zero h = absurd (omega arith)
    above (suc k) h = r.above (suc k) h

-- a trap brings the codes above the caught one down by one, and so the code put in
in_trap : {m : ℕ} {a b : Codes} → Inserted (suc (suc (suc m))) a b → Inserted (suc (suc m)) (caught a) (caught b)
in_trap {m} {a} {b} r = record { below = below; new = r.new; above = above }
  where
    below : (k : ℕ) → k < suc (suc m) → caught b k ≡ caught a k
    below zero h = ap₂ ◌||◌ (r.below 0 (omega arith)) (r.below 2 (omega arith))
    below (suc zero) h = r.below 1 (omega arith)
    below (suc (suc k)) h = r.below (suc (suc (suc k))) (omega arith)

    above : (k : ℕ) → suc (suc m) ≤ k → caught b (suc k) ≡ caught a k
    above zero h = absurd (omega arith)
    above (suc zero) h = absurd (omega arith)
    above (suc (suc k)) h = r.above (suc (suc (suc k))) (omega arith)

up-below : {m : ℕ} {a b : Codes} → Inserted m a b → (k : ℕ) → k < m → up_to b k ≡ up_to a k
up-below {a = a} {b = b} r k h = up_to-same b a k (λ j l. r.below j (omega arith))

up_above : {m : ℕ} {a b : Codes} → Inserted m a b → (k : ℕ) → m ≤ k → up_to b (suc k) ≡ up_to a k
up_above {m} {a} {b} r zero h = let z : m ≡ 0 = omega arith in ap₂ ◌||◌ (r.above 0 h) (rw z at r.new) ∙ or-false (a 0)
up_above {m} {a} {b} r (suc k) h = ap₂ ◌||◌ (r.above (suc k) h) (go (dec_le m k) (up_above r k))
  where
    go : Dec (m ≤ k) → (m ≤ k → up_to b (suc k) ≡ up_to a k) → up_to b (suc k) ≡ up_to a k
    go (yes l) ih = ih l
    go (no l) ih = let z : m ≡ suc k = omega arith in ap₂ ◌||◌ (rw z at r.new) (up-below r k (omega arith))

module _ {m : ℕ} {a b c d : Codes} (r : Inserted m a b) (s : Inserted m c d) where
  in_union : Inserted m (union a c) (union b d)
  in_union = record {
    below = λ k h. ap₂ ◌||◌ (r.below k h) (s.below k h);
    new = ap₂ ◌||◌ r.new s.new;
    above = λ k h. ap₂ ◌||◌ (r.above k h) (s.above k h);
  }

  in_parallel : Inserted m (larger a c) (larger b d)
  in_parallel = record {
    below = λ k h. ap₂ ◌||◌ (ap₂ ◌&&◌ (r.below k h) (up-below s k h)) (ap₂ ◌&&◌ (up-below r k h) (s.below k h));
    new = rw (r.new, s.new) (and-false (up_to b m));
    above = λ k h. ap₂ ◌||◌ (ap₂ ◌&&◌ (r.above k h) (up_above s k h)) (ap₂ ◌&&◌ (up_above r k h) (s.above k h));
  }

-- ---- of a statement

of_exit : (d level : ℕ) (c : Bool) → ltb level d ≡ c → Inserted (suc (suc d)) (only (2 + level)) (only (2 + cond c level (suc level)))
of_exit d level true e = low (suc (suc d)) (2 + level) (omega (arith, ltb-true level d e))
of_exit d level false e =
    let z : 2 + suc level ≡ suc (2 + level) = omega arith in
    rw z (high (suc (suc d)) (2 + level) (omega (arith, ltb-false level d e)))

pub of_lift : (d : ℕ) (p : Stmt) → Inserted (suc (suc d)) (start_set p) (start_set (lift d p))
of_lift d (leaf nothing) = low (suc (suc d)) 0 (omega arith)
of_lift d (leaf pause) = low (suc (suc d)) 1 (omega arith)
of_lift d (leaf (emit s)) = low (suc (suc d)) 0 (omega arith)
of_lift d (leaf (exit level)) = of_exit d level (ltb level d) refl
of_lift d (one (signal s) p) = of_lift d p
of_lift d (one (suspend s) p) = of_lift d p
of_lift d (one loop p) = without-ended (of_lift d p)
of_lift d (one trap p) = in_trap (of_lift (suc d) p)
of_lift d (two (present s) p q) = in_union (of_lift d p) (of_lift d q)
of_lift d (two sequence p q) = in_union (without-ended (of_lift d p)) (in_given ((of_lift d p).below 0 (omega arith)) (of_lift d q))
of_lift d (two parallel p q) = in_parallel (of_lift d p) (of_lift d q)
