-- What the functions beneath `read` answer.
use Rattle.std.specs.Prelude.{ℕ, ◌≤◌, Bool, true, false, List, []}
use Rattle.esterel.specs.Limits.{max_nodes, signals as max_signals}
use Rattle.grammar.specs.Tokens.{tokens}
use Rattle.grammar.specs.Tree.{Tree}
use Rattle.grammar.specs.Kernel.{expand}
use Rattle.grammar.specs.Grammar.{Program}
use Rattle.grammar.specs.Progress.{past, blank}
use Rattle.esterel.specs.declared.Check.{Check}
use Rattle.text.specs.declared.Fault.{Fault}
use Rattle.sheet.specs.declared.Sheet.{Sheet}
use Rattle.sheet.specs.Sheet.{Filled}

-- a refusal that names no node
abbrev pub fault_of : Check → ℕ → Fault
fault_of check place = record { refusal = record { check = check; node = 0 }; place = place }

-- a text whose program was written on a sheet: w became w'
pub record Parsing (x : List ℕ) (w w' : Sheet) : Type 0 where
  pub tree : Tree
  pub derivation : Program tree (tokens x)
  pub wrote : Filled x w [] blank → Filled x w' [] (past [] (expand tree) blank)

-- or one that has no derivation
abbrev pub ParsedAs : List ℕ → Sheet → Sheet → Bool → Type 0
ParsedAs x w w' true = Parsing x w w'
ParsedAs x w w' false = (t : Tree) → Program t (tokens x) → ⊥

-- a sheet with a whole program
pub record Written (w : Sheet) : Type 0 where
  pub text : List ℕ
  pub tree : Tree
  pub filled : Filled text w [] (past [] (expand tree) blank)

-- and one whose table has all of it
pub record Surveyable (w : Sheet) : Type 0 where
  pub sheet : Written w
  pub few : w.nodes ≤ max_nodes
  pub counted : w.signal_count ≤ max_signals
