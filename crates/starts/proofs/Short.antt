-- A walk takes at most as many answers as there are presents.
use mathlib.Core.Bool.{Bool, true, false, cond}
use Prim.Native.Nat.{ℕ, zero, suc, ◌+◌, ◌≤◌, max}
use native.Mathlib.Omega.{arith}
use lib.ListN.{length, length-append}
use Rattle.esterel.specs.Codes.{catch_code}
use Rattle.esterel.specs.Statement.{nothing, pause, emit, exit, signal, suspend, loop, trap, present, sequence, parallel, Stmt, leaf, one, two}
use Rattle.starts.specs.Ticks.{presents}
use Rattle.starts.specs.declared.Weight.{Weight}
use Rattle.starts.specs.Summary.{without_ended, weights}
use Rattle.starts.specs.Walk.{Need, cost, no_worse, need_first, Walked, walked, answers_of, answer, and_walk, beside_walk, walk}

abbrev many : Walked → ℕ
many w = length (answers_of w)

and-short : (w v : Walked) (m n : ℕ) → many w ≤ m → many v ≤ n → many (and_walk w v) ≤ m + n
and-short (walked u zero) v m n h l = omega (arith, length-append u (answers_of v))
and-short (walked u (suc k)) v m n h l = omega arith

beside-short : (w : Walked) (f : ℕ → Walked) (m n : ℕ) → many w ≤ m → ((i : ℕ) → many (f i) ≤ n) → many (beside_walk w f) ≤ m + n
beside-short (walked u i) f m n h l = omega (arith, length-append u (answers_of (f i)), l i)

test_short : (t : Bool) (w v : Walked) (m n : ℕ) → many w ≤ m → many v ≤ n → many (cond t (answer 0 w) (answer 1 v)) ≤ suc (n + m)
test_short true w v m n h l = omega arith
test_short false w v m n h l = omega arith

pub walk-short : (w : Weight) (B : ℕ) (p : Stmt) (need : Need) → length (answers_of (walk w B p need)) ≤ presents p
walk-short w B (leaf nothing) need = omega arith
walk-short w B (leaf pause) need = omega arith
walk-short w B (leaf (exit level)) need = omega arith
walk-short w B (leaf (emit s)) need = omega arith
walk-short w B (two sequence p q) need =
    and-short (walk w B p (need_first (cost w B q need) need)) (walk w B q need) (presents p) (presents q) (walk-short w B p (need_first (cost w B q need) need)) (walk-short w B q need)
walk-short w B (two (present s) p q) need =
    test_short (no_worse w (cost w B q need) (cost w B p need)) (walk w B q need) (walk w B p need) (presents q) (presents p) (walk-short w B q need) (walk-short w B p need)
walk-short w B (one trap p) need = walk-short w B p (λ k. need (catch_code k))
walk-short w B (two parallel p q) need =
    beside-short (walk w B p (λ i. cost w B q (λ j. need (max i j)))) (λ i. walk w B q (λ j. need (max i j))) (presents p) (presents q) (walk-short w B p (λ i. cost w B q (λ j. need (max i j)))) (λ i. walk-short w B q (λ j. need (max i j)))
walk-short w B (one loop p) need = walk-short w B p (without_ended (weights w) need)
walk-short w B (one (signal s) p) need = walk-short w B p need
walk-short w B (one (suspend s) p) need = walk-short w B p need
