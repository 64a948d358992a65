-- What `read` answers, and what it leaves in the lent table (F-1, F-9).
use Rattle.std.specs.Prelude.{ℕ, ◌*◌, ◌≤◌, ◌<◌, ◌≡◌, Result, Ok, Err, List, ◌++◌, length, drop}
use Rattle.esterel.specs.Limits.{max_nodes}
use Rattle.esterel.specs.Refusal.{number_of}
use Rattle.esterel.specs.Statement.{size}
use Rattle.esterel.specs.Table.{Verdict, passed, refused, postfix}
use Rattle.grammar.specs.Meaning.{VerdictOf}
use Rattle.text.specs.declared.Reading as R
use Rattle.text.specs.declared.Fault.{Fault}

-- the nodes and signals of a text's program, or a refusal's number, its node and its place
pub data Answer : Type 0 where
  reads : (nodes signals : ℕ) → Answer
  refuses : (number node place : ℕ) → Answer

-- what a call's result says
abbrev pub answer : Result R.Reading Fault → Answer
answer (Ok r) = reads r.nodes r.signals
answer (Err f) = refuses (number_of f.refusal.check) f.refusal.node f.place

-- The answer and the lent table for a verdict, a number of signals and a place: the program's bytes and then the old ones; after a refusal all
-- old ones.
abbrev pub Told : Verdict → (n place : ℕ) → List ℕ → List ℕ → Answer → Type 0
Told (passed p) n place old new r = (r ≡ reads (size p) n) × (new ≡ postfix p ++ drop (length (postfix p)) old)
Told (refused number node) n place old new r = (r ≡ refuses number node place) × (new ≡ old)

-- Check 3 of the lent table, which must have room for any, comes first, then what the text is told.
pub data ReadAs (text old new : List ℕ) (r : Answer) : Type 0 where
  short : length old < 2 * max_nodes → Told (refused 3 0) 0 0 old new r → ReadAs text old new r
  judged : (v : Verdict) (n place : ℕ) → 2 * max_nodes ≤ length old → VerdictOf text v n place → Told v n place old new r → ReadAs text old new r
