-- How a list is computed: a walk down the statement, which finds the lists of Ticks and of Entries (Computing). It knows, for each code, how
-- much is still needed after it, by a weight, or that the code will not do. At a test it takes the branch that is preferred, absent if
-- equal. B is the highest code.
use Rattle.std.specs.Prelude.{ℕ, zero, suc, ◌+◌, max, Bool, true, false, cond, List, [], ◌∷◌, ◌++◌, eqb, leb}
use Rattle.std.proofs.Math.Option.{Option, none, some}
use Rattle.esterel.specs.Codes.{AtMost, catch_code}
use Rattle.esterel.specs.Statement.{nothing, pause, emit, exit, signal, suspend, loop, trap, present, sequence, parallel, Stmt, leaf, one, two}
use Rattle.esterel.specs.Sets.{start_set}
use Rattle.starts.specs.declared.Weight.{Weight}
use Rattle.starts.specs.declared.Weight.TheVariants.{Answers, Entries}
use Rattle.starts.specs.Summary.{up_to, without_ended, together, weights, best}

abbrev pub Need : Type 0
Need = ℕ → Option ℕ

-- the preferred of the sums of two numbers for each code
abbrev pub best_total : Weight → ℕ → (f need : Need) → Option ℕ
best_total w B f need = up_to (weights w) (λ k. together ◌+◌ (f k) (need k)) B

-- what p needs and what is needed after it, in all: the preferred
unfoldable pub cost : Weight → ℕ → Stmt → Need → Option ℕ
cost w B p need = best_total w B (best w p) need

-- x is no worse than y, where `none` is worse than every number
abbrev pub no_worse : Weight → Option ℕ → Option ℕ → Bool
no_worse w none none = true
no_worse w none (some y) = false
no_worse w (some x) none = true
no_worse Answers (some x) (some y) = leb x y
no_worse Entries (some x) (some y) = leb y x

-- what is needed after the first of a sequence, where x is needed by the second and after it
abbrev pub need_first : Option ℕ → Need → Need
need_first x need zero = x
need_first x need (suc k) = need (suc k)

-- where only code k will do
abbrev pub goal : ℕ → Need
goal k j = cond (eqb k j) (some 0) none

-- where each code will do
abbrev pub any_code : Need
any_code j = some 0

-- the answers of a walk, and the code that they lead to
pub data Walked : Type 0 where
  walked : (answers : List ℕ) (code : ℕ) → Walked

abbrev pub answers_of : Walked → List ℕ
answers_of (walked u k) = u

abbrev pub code_of : Walked → ℕ
code_of (walked u k) = k

abbrev pub answer : ℕ → Walked → Walked
answer a w = walked (a ∷ answers_of w) (code_of w)

abbrev pub recode : (ℕ → ℕ) → Walked → Walked
recode f w = walked (answers_of w) (f (code_of w))

-- the first of a sequence, then the second, if the first ends
abbrev pub and_walk : Walked → Walked → Walked
and_walk (walked u zero) w = walked (u ++ answers_of w) (code_of w)
and_walk (walked u (suc k)) w = walked u (suc k)

-- the left of a parallel, then the right, which depends on the left's code
abbrev pub beside_walk : Walked → (ℕ → Walked) → Walked
beside_walk (walked u i) right = walked (u ++ answers_of (right i)) (max i (code_of (right i)))

abbrev pub walk : Weight → ℕ → Stmt → Need → Walked
walk w B (leaf nothing) need = walked [] 0
walk w B (leaf pause) need = walked [] 1
walk w B (leaf (exit level)) need = walked [] (2 + level)
walk w B (leaf (emit s)) need = walked [] 0
walk w B (two sequence p q) need = and_walk (walk w B p (need_first (cost w B q need) need)) (walk w B q need)
walk w B (two (present s) p q) need = cond (no_worse w (cost w B q need) (cost w B p need)) (answer 0 (walk w B q need)) (answer 1 (walk w B p need))
walk w B (one trap p) need = recode catch_code (walk w B p (λ k. need (catch_code k)))
walk w B (two parallel p q) need = beside_walk (walk w B p (λ i. cost w B q (λ j. need (max i j)))) (λ i. walk w B q (λ j. need (max i j)))
walk w B (one loop p) need = walk w B p (without_ended (weights w) need)
walk w B (one (signal s) p) need = walk w B p need
walk w B (one (suspend s) p) need = walk w B p need

-- no code of p is above B
abbrev pub Low : ℕ → Stmt → Type 0
Low B p = AtMost B (start_set p)

-- nor one of a statement in p
abbrev pub Below : ℕ → Stmt → Type 0
Below B (leaf l) = Low B (leaf l)
Below B (one u p) = Low B (one u p) × Below B p
Below B (two b p q) = Low B (two b p q) × Below B p × Below B q
