-- What `part` and `fetch` answer, and what `fetch` leaves in the lent table (F-4).
use Rattle.std.specs.Prelude.{Result, ℕ, ◌+◌, ◌*◌, ◌≤◌, ◌≡◌, cond, List, ◌++◌, length, drop, ltb}
use Rattle.std.proofs.Math.Option.{Option, none, some}
use Rattle.std.specs.Borrow.{Bor}
use Rattle.esterel.specs.Limits.{max_nodes}
use Rattle.esterel.specs.Refusal.{Reply, yields, rejects, reply}
use Rattle.esterel.specs.declared.Check.{Check}
use Rattle.esterel.specs.declared.Refusal.{Refusal}
use Rattle.blocks.specs.declared.Span.{Span}
use Rattle.blocks.specs.declared.Fetched.{Fetched}
use Rattle.blocks.specs.Editions.{file_fits, counted, start_of, length_of, content_of, parts_of, newest, table_of}

-- the block whose used content is handed out: none if no block counts for the part, or the file is refused 17
unfoldable pub handed : (file : List ℕ) (program edition part : ℕ) → Option ℕ
handed file p e k = cond (file_fits file) (counted file p e k) none

-- the contract of `locate`: where that content is in the file
pub record Locating (file : List ℕ) (program edition part : ℕ) (r : Span) : Type 0 where
  pub from : r.from ≡ start_of (handed file program edition part)
  pub used : r.length ≡ length_of file (handed file program edition part)
  pub within : r.from + r.length ≤ length file

-- the contract of `part`: the bytes there, where they stand in the lent file, and no copy of them
pub record Handing (file : Bor (List ℕ)) (program edition part : ℕ) (r : Bor (List ℕ)) : Type 0 where
  pub bytes : r.now ≡ content_of file.now (handed file.now program edition part)
  pub lent : r.ref_ptr.0 ≡ file.ref_ptr.0
  pub place : r.ref_ptr.1 ≡ file.ref_ptr.1 + start_of (handed file.now program edition part)

-- the longest table (1), and the shortest buffer that is lent for one (3)
abbrev pub max_table : ℕ
max_table = 2 * max_nodes

-- what a fetch comes to: an edition, its number of parts and its table, or the number of a refusal
pub data Outcome : Type 0 where
  fetched : (edition parts : ℕ) (table : List ℕ) → Outcome
  refused : (number : ℕ) → Outcome

-- check 1 of a table
abbrev pub check_table : (edition parts : ℕ) (table : List ℕ) → Outcome
check_table e m t = cond (ltb max_table (length t)) (refused 1) (fetched e m t)

-- check 18, then 1
abbrev pub check_edition : (file : List ℕ) (program : ℕ) → Option ℕ → Outcome
check_edition file p none = refused 18
check_edition file p (some e) = check_table e (parts_of file p e) (table_of file p e)

-- checks 3, 17, 18 and 1, in this order, with so many bytes lent for the table
unfoldable pub outcome : (room : ℕ) (file : List ℕ) (program : ℕ) → Outcome
outcome room file p =
    cond (ltb room max_table) (refused 3) (cond (file_fits file) (check_edition file p (newest file p)) (refused 17))

-- the lent table afterwards: the table and the old bytes past it; after a refusal all old ones
unfoldable pub content : Outcome → List ℕ → List ℕ
content (fetched e m t) old = t ++ drop (length t) old
content (refused number) old = old

-- the table that was fetched
abbrev pub fetched_as : (long edition parts : ℕ) → Fetched
fetched_as n e m = record { length = n; edition = e; parts = m }

abbrev pub refused_at : Check → (node : ℕ) → Refusal
refused_at check node = record { check = check; node = node }

-- the answer; no refusal names a node
unfoldable pub answer_of : Outcome → Reply Fetched
answer_of (fetched e m t) = yields (fetched_as (length t) e m)
answer_of (refused number) = rejects number 0

-- the contract of `fetch`: the answer, and the whole content of the lent table
pub record Fetching (file : List ℕ) (program : ℕ) (old new : List ℕ) (r : Result Fetched Refusal) : Type 0 where
  pub answer : reply r ≡ answer_of (outcome (length old) file program)
  pub table : new ≡ content (outcome (length old) file program) old
