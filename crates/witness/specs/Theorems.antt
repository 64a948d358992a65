-- What follows from the contract of `find_tick`: the statements alone. The proofs are in proofs/Theorems.antt.
use Rattle.std.specs.Prelude.{ℕ, ◌≤◌, ◌<◌, ◌≡◌, ◌↔◌, List, length}
use Rattle.esterel.specs.Limits.{max_nodes}
use Rattle.esterel.specs.Statement.{Stmt, size, loop_depth}
use Rattle.esterel.specs.Table.{passed, refused}
use Rattle.esterel.specs.Refusal.{Reply, yields, rejects}
use Rattle.esterel.specs.Checks.{verdict}
use Rattle.esterel.specs.Theorems.{WellFormed, EndsAtOnce, LowestLoop}
use Rattle.witness.specs.declared.Tick.{Tick}
use Rattle.witness.specs.declared.Tick.TheVariants.{Ends, Accepted}
use Rattle.starts.specs.Ticks.{tick_answers}
use Rattle.witness.specs.Ticks.{Tells}

-- The contract leaves nothing open: two calls with the same table and bytes answer and write the same.
abbrev pub Determined : Type 0
Determined = (t old new new' : List ℕ) (r r' : Reply Tick) → Tells t old new r → Tells t old new' r' → (r ≡ r') × (new ≡ new')

-- With room for the answers, a tick is told exactly if the table is refused by check 11, and of that node. The table then passes checks 1,
-- 2 and 4 to 10, and the node is the lowest loop whose body can end at once. Any list is shorter than the room.
pub record TicksTold : Type 0 where
  pub tells :
      (t old new : List ℕ) (r : Reply Tick) → tick_answers ≤ length old → Tells t old new r →
      (node : ℕ) → ((n : ℕ) × (r ≡ yields (Ends node n))) ↔ (verdict t ≡ refused 11 node)
  pub lowest :
      (t old new : List ℕ) (node n : ℕ) → Tells t old new (yields (Ends node n)) → (p : Stmt) × WellFormed t p × LowestLoop p EndsAtOnce node
  pub short : (t old new : List ℕ) (node n : ℕ) → Tells t old new (yields (Ends node n)) → n < tick_answers
  pub accepts :
      (t old new : List ℕ) (n d : ℕ) → Tells t old new (yields (Accepted n d)) →
      (p : Stmt) × (verdict t ≡ passed p) × (n ≡ size p) × (d ≡ loop_depth p) × (new ≡ old)
  -- a refusal has a number from 1 to 10 and a node that a table can have, and changes nothing
  pub refuses :
      (t old new : List ℕ) (number node : ℕ) → Tells t old new (rejects number node) →
      (1 ≤ number) × (number ≤ 10) × (node < max_nodes) × (new ≡ old)
  -- with room it is the table's own
  pub refusal : (t old new : List ℕ) (number node : ℕ) → tick_answers ≤ length old → Tells t old new (rejects number node) → verdict t ≡ refused number node
