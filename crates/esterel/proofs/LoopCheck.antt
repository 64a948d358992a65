-- Check 11 by the loops of a program: the lowest node that a test finds, and what the test says of a loop's body.
use mathlib.Core.Path.{◌≡◌, refl, sym, ap, ◌∙◌}
use mathlib.Core.Logic.{◌↔◌}
use mathlib.Core.Bool.{Bool, true, false, cond}
use mathlib.Core.Option.{Option, none, some}
use mathlib.Core.List.{List, [], ◌∷◌}
use Prim.Native.Nat.{ℕ, zero, suc, ◌+◌, ◌<◌}
use native.Mathlib.Decide.{dec_lt}
use native.Mathlib.Omega.{arith}
use lib.ListN.{length, get_or, get_or-eq_default}
use Rattle.codes.proofs.Bools.{cannot_pass, false-not-true}
use Rattle.esterel.specs.Statement.{nothing, signal, suspend, loop, trap, Stmt, leaf, one, two, nodes}
use Rattle.esterel.specs.Codes.{empty}
use Rattle.esterel.specs.Sets.{start_set, Place, at, stmt_of, places_of, outside, place_at}
use Rattle.esterel.specs.Table.{Verdict, passed, refused, read}
use Rattle.esterel.specs.Checks.{too_deep, too_many_traps, uncaught, ends_at_once, first_node, refuse_at, check_program, verdict}
use Rattle.esterel.specs.Outcome.{statement_at}
use Rattle.esterel.specs.Theorems.{WellFormed, EndedInK, LowestLoop, NoLoop}
use Rattle.esterel.proofs.Accepted.{place-statement}
use Rattle.esterel.proofs.Refusals.{Told, told-numbered, read_told, other-number}

-- ---- the lowest node for which a test holds, of the places from n on

module _ (test : Place → Bool) where
  -- it stands k places behind the first, and the test holds of none before it
  pub record Lowest (xs : List Place) (k : ℕ) : Type 0 where
    pub within : k < length xs
    pub holds : test (get_or xs k outside) ≡ true
    pub before : (j : ℕ) → j < k → test (get_or xs j outside) ≡ false

  pub found-lowest : (xs : List Place) (n i : ℕ) → first_node test xs n ≡ some i → (k : ℕ) × (i ≡ n + k) × Lowest xs k
  found-lowest [] n i e = let y : ◌≡◌ {A = ℕ} 0 1 = cc in absurd (omega arith)
  found-lowest (x ∷ xs) n i e = go (test x) refl e (found-lowest xs (suc n) i)
    where
      go : (b : Bool) → test x ≡ b → cond b (some n) (first_node test xs (suc n)) ≡ some i → (first_node test xs (suc n) ≡ some i → (k : ℕ) × (i ≡ suc n + k) × Lowest xs k) → (k : ℕ) × (i ≡ n + k) × Lowest (x ∷ xs) k
      go true z f ih = (0, (let y : n ≡ i = cc in omega arith), record { within = omega arith; holds = z; before = λ j h. absurd (omega arith) })
      go false z f ih =
          let (k, is, l) = ih f in
          (suc k, omega arith, record { within = omega (arith, l.within); holds = l.holds; before = earlier l })
        where
          earlier : {k : ℕ} → Lowest xs k → (j : ℕ) → j < suc k → test (get_or (x ∷ xs) j outside) ≡ false
          earlier l zero h = z
          earlier l (suc j) h = l.before j (omega arith)

  pub lowest-found : (xs : List Place) (n k : ℕ) → Lowest xs k → first_node test xs n ≡ some (n + k)
  lowest-found [] n k l = absurd (omega (arith, l.within))
  lowest-found (x ∷ xs) n zero l = rw l.holds (ap some (omega arith))
  lowest-found (x ∷ xs) n (suc k) l =
      rw (l.before zero (omega arith))
      (lowest-found xs (suc n) k record { within = omega (arith, l.within); holds = l.holds; before = λ j h. l.before (suc j) (omega arith) } ∙ ap some (omega arith))

  pub none_found : (xs : List Place) (n : ℕ) → ((j : ℕ) → j < length xs → test (get_or xs j outside) ≡ false) → first_node test xs n ≡ none
  none_found [] n h = refl
  none_found (x ∷ xs) n h = rw (h zero (omega arith)) (none_found xs (suc n) (λ j l. h (suc j) (omega arith)))

  pub found_none : (xs : List Place) (n : ℕ) → first_node test xs n ≡ none → (j : ℕ) → j < length xs → test (get_or xs j outside) ≡ false
  found_none [] n e j h = absurd (omega arith)
  found_none (x ∷ xs) n e j h = go (test x) refl e (found_none xs (suc n)) j h
    where
      go : (b : Bool) → test x ≡ b → cond b (some n) (first_node test xs (suc n)) ≡ none → (first_node test xs (suc n) ≡ none → (j : ℕ) → j < length xs → test (get_or xs j outside) ≡ false) → (j : ℕ) → j < suc (length xs) → test (get_or (x ∷ xs) j outside) ≡ false
      go true z f ih j h = cc
      go false z f ih zero h = z
      go false z f ih (suc j) h = ih f j (omega arith)

-- ---- check 11 at a node goes by its statement

abbrev pub loop_ends : Stmt → Bool
loop_ends w = ends_at_once (at 0 0 empty w)

ends_by : (x : Place) → ends_at_once x ≡ loop_ends (stmt_of x)
ends_by (at d t S (leaf l)) = refl
ends_by (at d t S (one (signal s) p)) = refl
ends_by (at d t S (one (suspend s) p)) = refl
ends_by (at d t S (one loop p)) = refl
ends_by (at d t S (one trap p)) = refl
ends_by (at d t S (two b p q)) = refl

pub ends_at : (p : Stmt) (i : ℕ) → ends_at_once (place_at p i) ≡ loop_ends (statement_at (nodes p) i)
ends_at p i = ends_by (place_at p i) ∙ ap loop_ends (place-statement p i)

-- it fails there exactly if the statement is a loop whose body has 0 in K
loop_of : (w : Stmt) → loop_ends w ≡ true → (q : Stmt) × (w ≡ one loop q) × (start_set q 0 ≡ true)
loop_of (leaf l) e = (leaf nothing, cc, cc)
loop_of (one (signal s) p) e = (leaf nothing, cc, cc)
loop_of (one (suspend s) p) e = (leaf nothing, cc, cc)
loop_of (one loop p) e = (p, refl, e)
loop_of (one trap p) e = (leaf nothing, cc, cc)
loop_of (two b p q) e = (leaf nothing, cc, cc)

-- a loop is one of the nodes
pub loop-within : (p : Stmt) (i : ℕ) (q : Stmt) → statement_at (nodes p) i ≡ one loop q → i < length (places_of p)
loop-within p i q is = go (dec_lt i (length (places_of p)))
  where
    go : Dec (i < length (places_of p)) → i < length (places_of p)
    go (yes h) = h
    go (no h) =
        let past : place_at p i ≡ outside = get_or-eq_default (places_of p) outside (omega arith) in
        let z : leaf nothing ≡ one loop q = sym (ap stmt_of past) ∙ place-statement p i ∙ is in
        let y : ◌≡◌ {A = ℕ} 0 1 = cc in
        absurd (omega arith)

module _ (p : Stmt) where
  -- such a loop is the lowest that the test finds
  pub lowest-loop : (i : ℕ) → Lowest ends_at_once (places_of p) i → LowestLoop p EndedInK i
  lowest-loop i l =
      let (q, is, ends) = loop_of (statement_at (nodes p) i) (sym (ends_at p i) ∙ l.holds) in
      record {
        body = q;
        is_loop = is;
        such = ends;
        lowest = λ j r h e z. false-not-true (l.before j h) (ends_at p j ∙ ap loop_ends e ∙ z);
      }

  pub loop-lowest : (i : ℕ) → LowestLoop p EndedInK i → Lowest ends_at_once (places_of p) i
  loop-lowest i l =
      record {
        within = loop-within p i l.body l.is_loop;
        holds = ends_at p i ∙ ap loop_ends l.is_loop ∙ l.such;
        before = λ j h. cannot_pass _ (λ z. let (q, is, ends) = loop_of (statement_at (nodes p) j) (sym (ends_at p j) ∙ z) in l.lowest j q h is ends);
      }

  pub no_loop : first_node ends_at_once (places_of p) 0 ≡ none → NoLoop p EndedInK
  no_loop e j q is z =
      false-not-true (found_none ends_at_once (places_of p) 0 e j (loop-within p j q is)) (ends_at p j ∙ ap loop_ends is ∙ z)

  pub loop-none : NoLoop p EndedInK → first_node ends_at_once (places_of p) 0 ≡ none
  loop-none f =
      none_found ends_at_once (places_of p) 0
      (λ j h. cannot_pass _ (λ z. let (q, is, ends) = loop_of (statement_at (nodes p) j) (sym (ends_at p j) ∙ z) in f j q is ends))

-- ---- the verdict

-- after the checks before it, check 11 decides
module _ {bytes : List ℕ} {p : Stmt} (w : WellFormed bytes p) where
  pub decides : verdict bytes ≡ refuse_at 11 (first_node ends_at_once (places_of p) 0) (passed p)
  decides = ap check_program w.reads ∙ rw (w.depths, w.traps, w.exits)

  refused-found : (i : ℕ) (o : Option ℕ) → refuse_at 11 o (passed p) ≡ refused 11 i → o ≡ some i
  refused-found i none e = cc
  refused-found i (some k) e = let z : k ≡ i = cc in ap some z

  passed_none : (o : Option ℕ) → refuse_at 11 o (passed p) ≡ passed p → o ≡ none
  passed_none none e = refl
  passed_none (some k) e = cc

  pub refuses-lowest : (i : ℕ) → (verdict bytes ≡ refused 11 i) ↔ LowestLoop p EndedInK i
  refuses-lowest i = (there, λ l. decides ∙ ap (λ o. refuse_at 11 o (passed p)) (lowest-found ends_at_once (places_of p) 0 i (loop-lowest p i l) ∙ ap some (omega arith)))
    where
      there : verdict bytes ≡ refused 11 i → LowestLoop p EndedInK i
      there e =
          let (k, is, l) = found-lowest ends_at_once (places_of p) 0 i (refused-found i _ (sym decides ∙ e)) in
          let same : k ≡ i = omega arith in
          lowest-loop p i (rw same at l)

  pub accepts-none : (verdict bytes ≡ passed p) ↔ NoLoop p EndedInK
  accepts-none = (
    λ e. no_loop p (passed_none _ (sym decides ∙ e)),
    λ f. decides ∙ ap (λ o. refuse_at 11 o (passed p)) (loop-none p f),
  )

-- ---- the checks before it: reading refuses by numbers up to 7, and 8 to 10 by theirs

passed-by : (number n : ℕ) (o : Option ℕ) (next : Verdict) (node : ℕ) → (number ≡ n → ⊥) → refuse_at number o next ≡ refused n node → (o ≡ none) × (next ≡ refused n node)
passed-by number n none next node d e = (refl, e)
passed-by number n (some m) next node d e = absurd (other-number d e)

pub well_formed_lem : (bytes : List ℕ) (i : ℕ) → verdict bytes ≡ refused 11 i → (p : Stmt) × WellFormed bytes p
well_formed_lem bytes i e = go (read bytes) refl (read_told bytes) e
  where
    go : (v : Verdict) → read bytes ≡ v → Told 7 v → check_program v ≡ refused 11 i → (p : Stmt) × WellFormed bytes p
    go (refused number node) r told z = absurd (other-number (λ y. omega (arith, (told-numbered told).known)) z)
    go (passed p) r told z =
        let (depths, z) = passed-by 8 11 (first_node too_deep (places_of p) 0) _ i (λ y. omega arith) z in
        let (traps, z) = passed-by 9 11 (first_node too_many_traps (places_of p) 0) _ i (λ y. omega arith) z in
        let (exits, z) = passed-by 10 11 (first_node uncaught (places_of p) 0) _ i (λ y. omega arith) z in
        (p, record { reads = r; depths = depths; traps = traps; exits = exits })

-- ---- another way to say what is asked of the bodies

module _ {Such Such' : ℕ → Stmt → Type 0} (there : (first : ℕ) (q : Stmt) → Such first q → Such' first q) (back : (first : ℕ) (q : Stmt) → Such' first q → Such first q) where
  pub lowest_as : {p : Stmt} {i : ℕ} → LowestLoop p Such i → LowestLoop p Such' i
  lowest_as l =
      record {
        body = l.body;
        is_loop = l.is_loop;
        such = there _ l.body l.such;
        lowest = λ j q h e z. l.lowest j q h e (back _ q z);
      }

  pub none_as : (p : Stmt) → NoLoop p Such → NoLoop p Such'
  none_as p f j q e z = f j q e (back _ q z)
