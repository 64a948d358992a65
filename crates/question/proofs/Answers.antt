-- The answer is that of the start set, where no code is above 63.
use mathlib.Core.Path.{◌≡◌, refl, sym, ap, ap₂, ◌∙◌}
use mathlib.Core.Bool.{Bool, true, false, not, ◌&&◌, ◌||◌, cond}
use mathlib.Core.List.{[]}
use Prim.Native.Nat.{ℕ, zero, suc, ◌+◌, ◌-◌, ◌≤◌}
use native.Mathlib.Decide.{dec_le}
use native.Mathlib.Omega.{arith}
use Rattle.codes.proofs.Bools.{cannot_pass}
use Rattle.esterel.specs.Codes.{Codes, without_ended}
use Rattle.esterel.specs.Statement.{signal, suspend, loop, trap, present, sequence, parallel, Stmt, leaf, one, two, size, nodes}
use Rattle.esterel.specs.Sets.{start_set}
use Rattle.esterel.specs.Outcome.{statement_at}
use Rattle.esterel.specs.Theorems.{Accepted}
use Rattle.esterel.proofs.Accepted.{passes}
use Rattle.esterel.proofs.Caught.{codes-few}
use Rattle.esterel.proofs.Low.{start-pause}
use Rattle.esterel.proofs.Nodes.{last-node}
use Rattle.esterel.proofs.Subtrees.{only_child_lem, two-children}
use Rattle.question.specs.Question.{Found, found, member_of, asking, after, or_else, and_then, max_code, limited, range, look, question}
use Rattle.question.specs.Theorems.{Answers}
use Rattle.question.proofs.Looks.{limited_in, limited_out}

member-asking : (n : ℕ) (x : Found) → member_of (asking n x) ≡ member_of x
member-asking n (found m ns) = refl

member_else : (x y : Found) → member_of (or_else x y) ≡ (member_of x || member_of y)
member_else (found true ns) y = refl
member_else (found false ns) (found m ms) = refl

-- a sequence: the first's codes above 0, and the second's if the first has 0
member-then : (i n : ℕ) (a : Codes) (k : ℕ) (y : Found) → member_of (after (range i n) (and_then a k y)) ≡ (without_ended a k || (a 0 && member_of y))
member-then i n a zero (found m ms) = go (a 0)
  where
    go : (b : Bool) → member_of (after (range i n) (cond b (found m ms) (found false []))) ≡ (false || (b && m))
    go true = refl
    go false = refl
member-then i n a (suc k) (found m ms) = go (a 0) (a (suc k))
  where
    go : (b c : Bool) → member_of (after (range i n) (cond (b && not c) (found m ms) (found c []))) ≡ (c || (b && m))
    go true true = refl
    go true false = refl
    go false true = refl
    go false false = refl

-- no child's set has code 64: what a trap asked for 63 would ask for
abbrev Low : Stmt → Type 0
Low (leaf l) = Unit {0}
Low (one u p) = (start_set p 64 ≡ false) × Low p
Low (two b p q) = Low p × Low q

-- a trap asked for k + 1, from 2 on, passes k + 2 on
passes_on : (i : ℕ) (p : Stmt) → start_set p 64 ≡ false → (k : ℕ) → suc k ≤ max_code → (suc (suc k) ≤ max_code → member_of (look i p (suc (suc k))) ≡ start_set p (suc (suc k))) → member_of (limited (suc (suc k)) (look i p (suc (suc k)))) ≡ start_set p (suc (suc k))
passes_on i p none k h ih = go (dec_le (suc (suc k)) max_code)
  where
    go : Dec (suc (suc k) ≤ max_code) → member_of (limited (suc (suc k)) (look i p (suc (suc k)))) ≡ start_set p (suc (suc k))
    go (yes j) = ap member_of (limited_in (suc (suc k)) (look i p (suc (suc k))) j) ∙ ih j
    go (no j) =
        let z : suc (suc k) ≡ 64 = omega arith in
        ap member_of (limited_out (suc (suc k)) (look i p (suc (suc k))) (omega arith)) ∙ sym (ap (start_set p) z ∙ none)

look-member : (i : ℕ) (p : Stmt) → Low p → (k : ℕ) → k ≤ max_code → member_of (look i p k) ≡ start_set p k
look-member i (leaf l) w k h = refl
look-member i (one (signal s) p) w k h = member-asking _ (look i p k) ∙ look-member i p w.1 k h
look-member i (one (suspend s) p) w k h = member-asking _ (look i p k) ∙ look-member i p w.1 k h
look-member i (one loop p) w zero h = refl
look-member i (one loop p) w (suc k) h = member-asking _ (look i p (suc k)) ∙ look-member i p w.1 (suc k) h
look-member i (one trap p) w zero h = refl
look-member i (one trap p) w (suc zero) h = member-asking _ (look i p 1) ∙ look-member i p w.1 1 h
look-member i (one trap p) w (suc (suc k)) h = member-asking _ (limited (suc (suc (suc k))) (look i p (suc (suc (suc k))))) ∙ passes_on i p w.0 (suc k) h (look-member i p w.1 (suc (suc (suc k))))
look-member i (two (present s) p q) w k h =
    member-asking _ (or_else (look i p k) (look (i + size p) q k)) ∙ member_else (look i p k) (look (i + size p) q k)
    ∙ ap₂ ◌||◌ (look-member i p w.0 k h) (look-member (i + size p) q w.1 k h)
look-member i (two sequence p q) w k h =
    member-asking _ (after (range i (size p)) (and_then (start_set p) k (look (i + size p) q k))) ∙ member-then i (size p) (start_set p) k (look (i + size p) q k)
    ∙ ap (λ x. without_ended (start_set p) k || (start_set p 0 && x)) (look-member (i + size p) q w.1 k h)
look-member i (two parallel p q) w k h = refl

-- the nodes of a program whose codes are all low
module _ (p : Stmt) (few : (j k : ℕ) → start_set (statement_at (nodes p) j) k ≡ true → k ≤ max_code) where
  low-at : (w : Stmt) (j : ℕ) → statement_at (nodes p) j ≡ w → Low w
  low-at (leaf l) j e = tt
  low-at (one u q) j e =
      let child = (only_child_lem p j u q e).1 in
      (cannot_pass (start_set q 64) (λ x. omega (arith, few (j - 1) 64 (rw child x))), low-at q (j - 1) child)
  low-at (two b q r) j e =
      let (le, right, left) = two-children p j b q r e in
      (low-at q (j - 1 - size r) left, low-at r (j - 1) right)

  question-at : (i j k : ℕ) → member_of (question i (statement_at (nodes p) j) k) ≡ start_set (statement_at (nodes p) j) k
  question-at i j k = go (dec_le k max_code)
    where
      go : Dec (k ≤ max_code) → member_of (question i (statement_at (nodes p) j) k) ≡ start_set (statement_at (nodes p) j) k
      go (yes h) = ap member_of (limited_in k (look i (statement_at (nodes p) j) k) h) ∙ look-member i (statement_at (nodes p) j) (low-at (statement_at (nodes p) j) j refl) k h
      go (no h) = ap member_of (limited_out k (look i (statement_at (nodes p) j) k) (omega arith)) ∙ sym (cannot_pass (start_set (statement_at (nodes p) j) k) (λ x. h (few j k x)))

-- those of an accepted program are: no code is past its outermost trap's
accepted-few : (p : Stmt) → Accepted p → (j k : ℕ) → start_set (statement_at (nodes p) j) k ≡ true → k ≤ max_code
accepted-few p a j k e = omega (arith, codes-few p (passes p a).traps (passes p a).exits _ start-pause j k e)

pub answers : Answers
answers =
    record {
      exact = λ p a node k. question-at p (accepted-few p a) _ node k;
      low = λ i p f k. rw (last-node p) at (question-at p f i (size p - 1) k);
    }
