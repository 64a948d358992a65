-- Check 12 by the nodes: the prefix counts of held pauses, and what each node asks of a state.
use Rattle.std.specs.Prelude.{ℕ, zero, suc, ◌-◌, ◌≤◌, ◌<◌, ◌≡◌, Bool, true, ◌&&◌, ◌||◌, List, [], ◌∷◌, ◌++◌, eqb, length, get_or, take, drop}
use Rattle.esterel.specs.Limits.{max_nodes}
use Rattle.esterel.specs.Statement.{Stmt, leaf, one, two, kind, size}
use Rattle.esterel.specs.Instant.{holds, apart}
use Rattle.esterel.specs.Outcome.{statement_at}
use Rattle.packing.specs.Packing.{state_bytes, unpack, admits}
use Rattle.table.specs.declared.Kind.{Kind}
use Rattle.table.specs.Kinds.{is_pause, is_sequence, is_present}

-- the number of bytes that are not 0
abbrev pub count_held : List ℕ → ℕ
count_held [] = 0
count_held (zero ∷ h) = count_held h
count_held (suc b ∷ h) = suc (count_held h)

-- entry j is the number of held pauses before node j
pub record Counted (held counts : List ℕ) (n : ℕ) : Type 0 where
  pub entry : (j : ℕ) → j ≤ n → get_or counts j 0 ≡ count_held (take j held)
  pub long : n < length counts

-- what node i asks of its own byte
abbrev pub byte_fits : Stmt → ℕ → Bool
byte_fits w b = eqb b 0 || eqb b 1 && eqb (kind w) 2

-- and of its children's, where its own number is i
abbrev pub children_apart : Stmt → List ℕ → ℕ → Bool
children_apart (leaf l) h i = true
children_apart (one u q) h i = true
children_apart (two b q r) h i = apart b (holds (take (size q) (drop (i - size r - size q) h))) (holds (take (size r) (drop (i - size r) h)))

-- node i: its own byte, and where its children's held pauses are
abbrev pub node_fits : List Stmt → List ℕ → ℕ → Bool
node_fits ps h i = byte_fits (statement_at ps i) (get_or h i 0) && children_apart (statement_at ps i) h i

-- the same by the kind: a pause may hold, and a sequence or present holds pauses in one child at most
abbrev pub byte_fits_kind : Kind → ℕ → Bool
byte_fits_kind k b = eqb b 0 || eqb b 1 && is_pause k

abbrev pub is_exclusive : Kind → Bool
is_exclusive k = is_sequence k || is_present k

-- room for a packed state, for the bytes of p's nodes and for their counts
pub record Suffices (p : Stmt) (state held counts : List ℕ) : Type 0 where
  pub few : size p ≤ max_nodes
  pub room : state_bytes ≤ length state
  pub places : size p ≤ length held
  pub listed : size p < length counts

-- check 12 of a packed state (F-11), whose bits are then the bytes of p's nodes, and counted
pub record Admitting (p : Stmt) (state held held' counts' : List ℕ) (r : Bool) : Type 0 where
  pub answer : r ≡ admits p state
  pub unpacked : held' ≡ unpack (size p) state ++ drop (size p) held
  pub counted : Counted held' counts' (size p)
