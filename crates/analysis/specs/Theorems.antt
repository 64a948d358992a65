-- Demands 1 and 2 of `analyse` itself: what follows from its contract and from the theory. The statements alone; the proofs are in
-- proofs/Theorems.antt.
use Rattle.std.specs.Prelude.{ℕ, suc, ◌-◌, ◌≤◌, ◌<◌, ◌≡◌, ◌↔◌, true, List, map, length, get_or}
use Rattle.codes.specs.Words.{◌∋◌}
use Rattle.esterel.specs.Limits.{max_nodes}
use Rattle.esterel.specs.Statement.{Stmt, size, nodes, loop_depth}
use Rattle.esterel.specs.Codes.{Represents}
use Rattle.esterel.specs.Sets.{start_set, any_instant_set, context_of, place_at, mark}
use Rattle.esterel.specs.Refusal.{Reply, rejects}
use Rattle.esterel.specs.Table.{passed}
use Rattle.esterel.specs.Checks.{verdict}
use Rattle.esterel.specs.Instant.{start}
use Rattle.esterel.specs.Outcome.{statement_at}
use Rattle.esterel.specs.Figure9.{figure_listing}
use Rattle.esterel.specs.Theorems.{Finishes, WellFormed, EndedInK, EndsAtOnce, LowestLoop, NoLoop, NoneLost}
use Rattle.analysis.specs.Passes.{onto}
use Rattle.analysis.specs.Analysis.{done, s_of, mark_of, Analysis}
use Rattle.analysis.specs.declared.Analysed.{Analysed}

-- the table of the program p passes checks 1, 2 and 4 to 10, and the lent buffers suffice
pub record Lent (t : List ℕ) (p : Stmt) (starts anys contexts marks : List ℕ) : Type 0 where
  pub well_formed : WellFormed t p
  pub starts_room : size p ≤ length starts
  pub anys_room : size p ≤ length anys
  pub contexts_room : size p ≤ length contexts
  pub marks_room : size p ≤ length marks

-- the answer is a refusal for a loop exactly if some loop's body has 0 in K, hence exactly if some body, started, ends for some
-- answers, and names the lowest such loop; it is Done exactly if there is none
pub record ByLoops (p : Stmt) (r : Reply Analysed) : Type 0 where
  pub refuses : (i : ℕ) → (r ≡ rejects 11 i) ↔ LowestLoop p EndedInK i
  pub refuses_exactly : (i : ℕ) → (r ≡ rejects 11 i) ↔ LowestLoop p EndsAtOnce i
  pub accepts : (r ≡ done (size p) (loop_depth p)) ↔ NoLoop p EndedInK
  pub accepts_exactly : (r ≡ done (size p) (loop_depth p)) ↔ NoLoop p EndsAtOnce

-- after Done the table is that of an accepted program; bit k of entry i of the start sets is 1 exactly if some answers make the
-- statement at node i, started, finish with code k; the contexts and marks are those of document 004's Figure 9 and its footnote; and entry i
-- of each buffer of sets represents the set of node i, which has no code above 1 + the traps around it, hence none above 63 (F-7); entry i of
-- the marks is the mark of node i
pub record ExactSets (t contexts marks starts' anys' contexts' marks' : List ℕ) (n d : ℕ) : Type 0 where
  pub program : Stmt
  pub accepted : verdict t ≡ passed program
  pub nodes_are : n ≡ size program
  pub loops_are : d ≡ loop_depth program
  pub bits :
      (i k : ℕ) → i < n →
      ((get_or starts' i 0 ∋ k) ≡ true) ↔ Finishes (start (suc i - size (statement_at (nodes program) i)) (statement_at (nodes program) i)) k
  pub contexts_are : contexts' ≡ onto (map s_of (figure_listing program)) contexts
  pub marks_are : marks' ≡ onto (map mark_of (figure_listing program)) marks
  pub start_words : (i : ℕ) → i < n → Represents (get_or starts' i 0) (start_set (statement_at (nodes program) i))
  pub any_words : (i : ℕ) → i < n → Represents (get_or anys' i 0) (any_instant_set (statement_at (nodes program) i))
  pub context_words : (i : ℕ) → i < n → Represents (get_or contexts' i 0) (context_of (place_at program i))
  pub none_lost : (i : ℕ) → i < n → NoneLost (place_at program i)
  pub node_marks : (i : ℕ) → i < n → get_or marks' i 0 ≡ mark (place_at program i)

-- a refusal has a number from 1 to 11 and a node that a table can have, and no lent buffer has changed
pub record Unchanged (number node : ℕ) (starts anys contexts marks starts' anys' contexts' marks' : List ℕ) : Type 0 where
  pub some : 1 ≤ number
  pub known : number ≤ 11
  pub within : node < max_nodes
  pub same_starts : starts' ≡ starts
  pub same_anys : anys' ≡ anys
  pub same_contexts : contexts' ≡ contexts
  pub same_marks : marks' ≡ marks

pub record Demand2OfCall : Type 0 where
  pub loops :
      (t k a s m k' a' s' m' : List ℕ) (p : Stmt) (r : Reply Analysed) →
      Lent t p k a s m → Analysis t k a s m k' a' s' m' r → ByLoops p r
  pub sets : (t k a s m k' a' s' m' : List ℕ) (n d : ℕ) → Analysis t k a s m k' a' s' m' (done n d) → ExactSets t s m k' a' s' m' n d
  pub refusals :
      (t k a s m k' a' s' m' : List ℕ) (number node : ℕ) →
      Analysis t k a s m k' a' s' m' (rejects number node) → Unchanged number node k a s m k' a' s' m'
