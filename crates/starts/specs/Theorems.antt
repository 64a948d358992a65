-- What is proved of the starts of a statement over all answers: the statements alone. The proofs are in proofs/Theorems.antt.
use Rattle.std.specs.Prelude.{ℕ, ◌-◌, ◌*◌, ◌≤◌, ◌<◌, ◌≡◌, ◌↔◌, true, List, ◌++◌, length}
use Rattle.esterel.specs.Statement.{Stmt, size}
use Rattle.esterel.specs.Sets.{start_set}
use Rattle.esterel.specs.Table.{refused}
use Rattle.esterel.specs.Checks.{verdict}
use Rattle.esterel.specs.Instant.{Entry, closed, starved, start}
use Rattle.esterel.specs.Theorems.{Accepted}
use Rattle.starts.specs.Entries.{Greatest, IsLongest}
use Rattle.starts.specs.Ticks.{Leads, Bits, IsShown, ShownAt, tick_answers, presents}

-- Whatever answers are lent, a start takes at most as many as there are presents in the statement, and leads to its code with these alone;
-- it is starved only with fewer. Less than half of the nodes are presents.
pub record TakesFew : Type 0 where
  pub taken :
      (p : Stmt) (first : ℕ) (answers : List ℕ) (k : ℕ) (trail : List Entry) (held rest : List ℕ) →
      start first p answers ≡ closed k trail held rest →
      (used : List ℕ) × (answers ≡ used ++ rest) × (length used ≤ presents p) × Leads first p k used
  pub starves : (p : Stmt) (first : ℕ) (answers : List ℕ) → start first p answers ≡ starved → length answers < presents p
  pub tests : (p : Stmt) → 2 * presents p < size p

-- F-2. The list that is shown for a code exists exactly if the code is in K, and there is one only. It is of 0 and 1, and neither it nor
-- another that leads to the code has more answers than there are presents.
pub record OneShown : Type 0 where
  pub exists : (p : Stmt) (first k : ℕ) → (start_set p k ≡ true) ↔ ((answers : List ℕ) × IsShown first p k answers)
  pub unique : (p : Stmt) (first k : ℕ) (u v : List ℕ) → IsShown first p k u → IsShown first p k v → u ≡ v
  pub bits : (p : Stmt) (first k : ℕ) (answers : List ℕ) → IsShown first p k answers → Bits answers
  pub short : (p : Stmt) (first k : ℕ) (answers : List ℕ) → Leads first p k answers → length answers ≤ presents p

-- After refusal 11 the list that is shown exists; it has fewer answers than the room that is asked for, and so has any other that leads
-- there.
pub record Fault (bytes : List ℕ) (node : ℕ) : Type 0 where
  pub answers : List ℕ
  pub at : ShownAt bytes node answers
  pub short : (other : List ℕ) → Leads (node - size at.body) at.body 0 other → length other < tick_answers

abbrev pub Faults : Type 0
Faults = (bytes : List ℕ) (node : ℕ) → verdict bytes ≡ refused 11 node → Fault bytes node

-- F-10. An accepted program has a greatest number of entries, and only one. It is at least 1 and at most the number of nodes, since no
-- statement is entered twice at a start. The answers that are handed out for it exist, and there is one such list only; it is of 0 and 1, and
-- has at most as many answers as there are presents.
pub record FirstTick : Type 0 where
  pub exists : (p : Stmt) → Accepted p → (n : ℕ) × Greatest p n
  pub unique : (p : Stmt) (m n : ℕ) → Greatest p m → Greatest p n → m ≡ n
  pub some : (p : Stmt) (n : ℕ) → Greatest p n → 1 ≤ n
  pub nodes : (p : Stmt) (n : ℕ) → Greatest p n → n ≤ size p
  pub longest : (p : Stmt) (n : ℕ) → Greatest p n → (answers : List ℕ) × IsLongest p n answers
  pub one_longest : (p : Stmt) (n : ℕ) (u v : List ℕ) → IsLongest p n u → IsLongest p n v → u ≡ v
  pub bits : (p : Stmt) (n : ℕ) (answers : List ℕ) → Greatest p n → IsLongest p n answers → Bits answers
  pub short : (p : Stmt) (n : ℕ) (answers : List ℕ) → IsLongest p n answers → length answers ≤ presents p
