-- What follows from the contracts of `most_entries` and `find_longest`: the statements alone. The proofs are in proofs/Theorems.antt.
use Rattle.std.specs.Prelude.{ℕ, ◌≤◌, ◌<◌, ◌≡◌, ◌↔◌, List, ◌++◌, length, take, drop}
use Rattle.esterel.specs.Limits.{max_nodes}
use Rattle.esterel.specs.Statement.{Stmt, size}
use Rattle.esterel.specs.Table.{passed, refused}
use Rattle.esterel.specs.Refusal.{Reply, yields, rejects}
use Rattle.esterel.specs.Checks.{verdict}
use Rattle.instant.specs.Calls.{reacts, Starting}
use Rattle.instant.specs.Theorems.{Lent}
use Rattle.instant.specs.declared.Reaction.{Reaction}
use Rattle.starts.specs.Ticks.{tick_answers}
use Rattle.starts.specs.Entries.{Greatest, IsLongest}
use Rattle.planning.specs.declared.Longest.{Longest}
use Rattle.planning.specs.Planning.{Plans, reaches, Hands}

-- The contracts leave nothing open: two calls with the same table and bytes answer and write the same.
pub record Determined : Type 0 where
  pub plans : (t : List ℕ) (r r' : Reply ℕ) → Plans t r → Plans t r' → r ≡ r'
  pub hands : (t old new new' : List ℕ) (r r' : Reply Longest) → Hands t old new r → Hands t old new' r' → (r ≡ r') × (new ≡ new')

pub record OfMostEntries : Type 0 where
  -- a number exactly if the table is accepted, and it is the greatest; a refusal exactly if it is the table's own
  pub planned : (t : List ℕ) (r : Reply ℕ) → Plans t r → (n : ℕ) → (r ≡ yields n) ↔ ((p : Stmt) × (verdict t ≡ passed p) × Greatest p n)
  pub refused : (t : List ℕ) (r : Reply ℕ) → Plans t r → (number node : ℕ) → (r ≡ rejects number node) ↔ (verdict t ≡ refused number node)
  -- from 1 to the number of nodes
  pub bounds : (t : List ℕ) (n : ℕ) → Plans t (yields n) → (p : Stmt) × (verdict t ≡ passed p) × (1 ≤ n) × (n ≤ size p)
  -- a refusal has a number from 1 to 11 and a node that a table can have
  pub refusals : (t : List ℕ) (number node : ℕ) → Plans t (rejects number node) → (1 ≤ number) × (number ≤ 11) × (node < max_nodes)

-- after yields: the program, the answers at the front of the lent ones, and what lies past them
pub record HandedOut (t old new : List ℕ) (n l : ℕ) : Type 0 where
  pub program : Stmt
  pub accepted : verdict t ≡ passed program
  pub room : tick_answers ≤ length old
  pub greatest : Greatest program n
  pub longest : IsLongest program n (take l new)
  pub long : length (take l new) ≡ l
  pub short : l < tick_answers
  pub past : drop l new ≡ drop l old

pub record OfFindLongest : Type 0 where
  pub reached : (t old new : List ℕ) (n l : ℕ) → Hands t old new (reaches n l) → HandedOut t old new n l
  -- with room for the answers, exactly if the table is accepted
  pub accepts :
      (t old new : List ℕ) (r : Reply Longest) → tick_answers ≤ length old → Hands t old new r →
      ((n l : ℕ) × (r ≡ reaches n l)) ↔ ((p : Stmt) × (verdict t ≡ passed p))
  -- with the number that `most_entries` answers
  pub same : (t old new : List ℕ) (m n l : ℕ) → Plans t (yields m) → Hands t old new (reaches n l) → m ≡ n
  -- a refusal has a number from 1 to 11 and a node that a table can have, and changes nothing; with room it is the table's own
  pub refusals :
      (t old new : List ℕ) (number node : ℕ) → Hands t old new (rejects number node) →
      (1 ≤ number) × (number ≤ 11) × (node < max_nodes) × (new ≡ old)
  pub refusal :
      (t old new : List ℕ) (number node : ℕ) → tick_answers ≤ length old → Hands t old new (rejects number node) →
      verdict t ≡ refused number node

-- The same of the call `start`. Whatever answers it is lent, it reports no more entries than were planned; and with the answers that are
-- handed out, whatever follows them, it closes, takes exactly these, and reports just as many.
pub record OfStarts : Type 0 where
  pub exceeded :
      (t answers state emissions state' emissions' : List ℕ) (code k entries n : ℕ) →
      Plans t (yields n) → Starting t answers state emissions state' emissions' (reacts code k entries) → entries ≤ n
  pub replayed :
      (t old new rest state emissions state' emissions' : List ℕ) (n l : ℕ) (p : Stmt) (r : Reply Reaction) →
      Hands t old new (reaches n l) → Lent t p state emissions →
      Starting t (take l new ++ rest) state emissions state' emissions' r → (code : ℕ) × (r ≡ reacts code l n)
