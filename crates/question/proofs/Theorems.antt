-- The theorem `Looks` of specs/Theorems.antt.
use mathlib.Core.Path.{◌≡◌, ap, subst}
use mathlib.Core.Bool.{true}
use Prim.Native.Nat.{ℕ, suc, ◌+◌, ◌-◌, ◌≤◌, ◌<◌}
use native.Mathlib.Omega.{arith}
use Rattle.esterel.specs.Statement.{Stmt, size, nodes}
use Rattle.esterel.specs.Outcome.{statement_at, member}
use Rattle.esterel.proofs.Subtrees.{subtrees}
use Rattle.question.specs.Question.{nodes_of, max_code, look, question}
use Rattle.question.specs.Calls.{question_at}
use Rattle.question.specs.Theorems.{Looks}
use Rattle.question.proofs.Lists.{member-between, member-some}
use Rattle.question.proofs.Looks.{limited_in, limited_out, question-fits, asked-looked}
use Rattle.question.proofs.Suffice.{question-same}

asked_in : (i : ℕ) (p : Stmt) (k : ℕ) → k ≤ max_code → member (i + size p - 1) (nodes_of (question i p k)) ≡ true
asked_in i p k h = rw (limited_in k (look i p k) h) (asked-looked i p k)

asked-at : (p : Stmt) (node k : ℕ) → node < size p → k ≤ max_code → member node (nodes_of (question_at p node k)) ≡ true
asked-at p node k h l =
    let w = statement_at (nodes p) node in
    let (pre, post, is, len) = subtrees.piece p node h in
    let e : suc node - size w + size w - 1 ≡ node = omega arith in
    subst (λ n. member n (nodes_of (question_at p node k)) ≡ true) e (asked_in (suc node - size w) w k l)

pub looks : Looks
looks =
    record {
      beneath = λ i p k n e. member-between i (i + size p) (nodes_of (question i p k)) (question-fits i p k).between n e;
      once = λ i p k. (question-fits i p k).once;
      at_most = λ i p k. (question-fits i p k).most;
      asked = asked_in;
      asked_at = asked-at;
      at_least = λ i p k h. member-some (i + size p - 1) (nodes_of (question i p k)) (asked_in i p k h);
      above = λ i p k h. ap nodes_of (limited_out k (look i p k) h);
      suffice = λ i p q k a. question-same (λ n. member n (nodes_of (question i p k)) ≡ true) i p q a k (λ n e. e);
    }
