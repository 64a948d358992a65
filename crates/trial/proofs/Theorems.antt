-- The theorem `Trials` of specs/Theorems.antt.
use mathlib.Core.Path.{◌≡◌, refl, ap, ◌∙◌}
use mathlib.Core.Bool.{true, false}
use mathlib.Core.Logic.{◌⊎◌, inl, inr}
use mathlib.Core.List.{List, [], ◌∷◌, ◌++◌, append-nil}
use Prim.Native.Nat.{ℕ, zero, suc, ◌+◌, ◌-◌, ◌^◌, ◌≤◌, ◌<◌}
use native.Mathlib.Omega.{arith}
use lib.ListN.{length, get_or, length-append, length-replicate}
use Rattle.codes.proofs.Bools.{either, inl_true, inr_true, cannot_pass, same_test}
use Rattle.codes.proofs.Members.{only_in, only_out}
use Rattle.esterel.specs.Statement.{Stmt, size}
use Rattle.esterel.specs.Sets.{start_set}
use Rattle.esterel.specs.Instant.{started, Entry, Result, closed, starved, stuck, zeros, enter, then_zeros, start}
use Rattle.esterel.proofs.Theorems.{exactness, left_over}
use Rattle.starts.specs.Ticks.{Bits, presents}
use Rattle.starts.proofs.Exact.{bits-append}
use Rattle.starts.proofs.Theorems.{takes_few, one_shown}
use Rattle.trial.specs.Lists.{lists, list_at}
use Rattle.trial.specs.Trials.{completion, gathered, tried}
use Rattle.trial.specs.Examples.{nested}
use Rattle.trial.specs.Theorems.{GivenBy, Trials}
use Rattle.trial.proofs.Lists.{length-lists, list-long, list-bits, place_of}

-- ---- what is gathered is of one of the lists

gathered_in : (run : List ℕ → Result) (ls : List (List ℕ)) (i k : ℕ) → i < length ls → completion (run (get_or ls i [])) k ≡ true → gathered run ls k ≡ true
unfolding gathered
gathered_in run [] i k h e = absurd (omega arith)
gathered_in run (l ∷ ls) zero k h e = inl_true (completion (run l) k) (gathered run ls k) e
gathered_in run (l ∷ ls) (suc i) k h e = inr_true (completion (run l) k) (gathered run ls k) (gathered_in run ls i k (omega arith) e)

gathered_out : (run : List ℕ → Result) (ls : List (List ℕ)) (k : ℕ) → gathered run ls k ≡ true → (i : ℕ) × (i < length ls) × (completion (run (get_or ls i [])) k ≡ true)
unfolding gathered
gathered_out run [] k e = let z : ◌≡◌ {A = ℕ} 0 1 = cc in absurd (omega arith)
gathered_out run (l ∷ ls) k e = go (either (completion (run l) k) (gathered run ls k) e) (gathered_out run ls k)
  where
    Further : Type 0
    Further = gathered run ls k ≡ true → (i : ℕ) × (i < length ls) × (completion (run (get_or ls i [])) k ≡ true)

    go : (completion (run l) k ≡ true) ⊎ (gathered run ls k ≡ true) → Further → (i : ℕ) × (i < length (l ∷ ls)) × (completion (run (get_or (l ∷ ls) i [])) k ≡ true)
    go (inl f) further = (0, omega arith, f)
    go (inr f) further = let (i, h, g) = further f in (suc i, omega arith, g)

-- a run has a code only if it closes
code-closed : (x : Result) (k : ℕ) → completion x k ≡ true → (trail : List Entry) × (held rest : List ℕ) × (x ≡ closed k trail held rest)
code-closed (closed c t h r) k e = (t, h, r, ap (λ j. closed j t h r) (only_out c k e))
code-closed starved k e = let z : ◌≡◌ {A = ℕ} 0 1 = cc in absurd (omega arith)
code-closed stuck k e = let z : ◌≡◌ {A = ℕ} 0 1 = cc in absurd (omega arith)

module _ (m n : ℕ) (p : Stmt) (k : ℕ) where
  gives : tried m n p k ≡ true → GivenBy m n p k
  unfolding tried
  gives e =
      let (i, h, f) = gathered_out (start n p) (lists m) k e in
      let (t, held, r, g) = code-closed (start n p (list_at m i)) k f in
      let low : i < 2 ^ m = omega (arith, length-lists m) in
      record { answers = list_at m i; many = list-long m i low; bits = list-bits m i low; trail = t; held = held; rest = r; finishes = g }

  given : GivenBy m n p k → tried m n p k ≡ true
  unfolding tried
  given o =
      let x = place_of m o.answers o.many o.bits in
      gathered_in (start n p) (lists m) x.number k (omega (arith, length-lists m, x.below)) (ap (λ l. completion (start n p l) k) x.is ∙ ap (λ r. completion r k) o.finishes ∙ only_in k)

-- ---- exactly K

zeros-bits : (n : ℕ) → Bits (zeros n)
zeros-bits zero = tt
zeros-bits (suc n) = (omega arith, zeros-bits n)

sound : (m n : ℕ) (p : Stmt) (k : ℕ) → tried m n p k ≡ true → start_set p k ≡ true
sound m n p k e = let o = gives m n p k e in (exactness p n k).1 (o.answers, o.trail, o.held, o.rest, o.finishes)

-- the list that is shown for the code is short enough, and answers left over make no difference
complete : (m n : ℕ) (p : Stmt) → presents p ≤ m → (k : ℕ) → start_set p k ≡ true → GivenBy m n p k
complete m n p few k e =
    let (u, o) = (one_shown.exists p n k).0 e in
    let (t, h, is) = o.leads in
    let (used, same, further) = left_over.starts p n u k t h [] is in
    let (taken, all, short, leads) = takes_few.taken p n u k t h [] is in
    let fits : length u ≤ m = omega (arith, ap length (all ∙ append-nil taken)) in
    let others = zeros (m - length u) in
    let long : length (u ++ others) ≡ m = rw (length-append, length-replicate) (omega arith) in
    let whole : u ++ others ≡ used ++ others = ap (λ l. l ++ others) (same ∙ append-nil used) in
    record {
      answers = u ++ others;
      many = long;
      bits = bits-append u others (one_shown.bits p n k u o) (zeros-bits (m - length u));
      trail = t;
      held = h;
      rest = others;
      finishes = ap (start n p) whole ∙ further others;
    }

exact : (m n : ℕ) (p : Stmt) → presents p ≤ m → (k : ℕ) → tried m n p k ≡ start_set p k
exact m n p few k = same_test (tried m n p k) (start_set p k) (sound m n p k) (λ e. given m n p k (complete m n p few k e))

-- ---- with an answer less than there are presents

nested-presents : (m : ℕ) → presents (nested m) ≡ m
nested-presents zero = refl
nested-presents (suc m) = omega (arith, nested-presents m)

nested-pauses : (m : ℕ) → start_set (nested m) 1 ≡ true
nested-pauses zero = refl
nested-pauses (suc m) = inl_true (start_set (nested m) 1) false (nested-pauses m)

-- the then branch alone is entered, and its code handed on
then-code : (x : Result) (node n k : ℕ) → completion (enter node started (then_zeros x n)) k ≡ completion x k
then-code (closed c t h r) node n k = refl
then-code starved node n k = refl
then-code stuck node n k = refl

nested-stays : (m n : ℕ) (answers : List ℕ) → length answers ≤ m → completion (start n (nested (suc m)) answers) 1 ≡ false
nested-stays m n [] h = refl
nested-stays m n (zero ∷ answers) h = refl
nested-stays zero n (suc a ∷ answers) h = absurd (omega arith)
nested-stays (suc m) n (suc a ∷ answers) h =
    then-code (start n (nested (suc m)) answers) (n + (size (nested (suc m)) + 1)) 1 1 ∙ nested-stays m n answers (omega arith)

too_few_lem : (m n : ℕ) → tried m n (nested (suc m)) 1 ≡ false
too_few_lem m n = cannot_pass (tried m n (nested (suc m)) 1) missing
  where
    missing : tried m n (nested (suc m)) 1 ≡ true → ⊥
    missing e =
        let o = gives m n (nested (suc m)) 1 e in
        let never = nested-stays m n o.answers (omega (arith, o.many)) in
        let pauses = ap (λ x. completion x 1) o.finishes in
        let z : ◌≡◌ {A = ℕ} 0 1 = cc in
        omega arith

pub trials : Trials
trials =
    record {
      gathers = λ m n p k. (gives m n p k, given m n p k);
      exact = exact;
      sound = sound;
      too_few = λ m n. (nested (suc m), 1, nested-presents (suc m), nested-pauses (suc m), too_few_lem m n);
    }
