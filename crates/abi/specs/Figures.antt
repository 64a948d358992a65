-- The three figures that the answer of each call tells.
use Rattle.std.specs.Prelude.{ℕ, Option, Some, None, List, [], ◌∷◌}
use Rattle.esterel.specs.Codes.{bit}
use Rattle.esterel.specs.Refusal.{number_of}
use Rattle.analysis.specs.declared.Analysed.{Analysed}
use Rattle.instant.specs.declared.Reaction.{Reaction}
use Rattle.text.specs.declared.Reading.{Reading}
use Rattle.text.specs.declared.Fault.{Fault}
use Rattle.witness.specs.declared.Tick.{Tick}
use Rattle.witness.specs.declared.Tick.TheVariants.{Ends, Accepted}
use Rattle.blocks.specs.declared.Span.{Span}
use Rattle.blocks.specs.declared.Fetched.{Fetched}
use Rattle.planning.specs.declared.Longest.{Longest}
use Rattle.question.specs.declared.Asked.{Asked}
use Rattle.trial.specs.declared.Tried.{Tried}

-- a length or a number alone
abbrev pub number_figures : ℕ → List ℕ
number_figures n = n ∷ 0 ∷ 0 ∷ []

abbrev pub analysed_figures : Analysed → List ℕ
analysed_figures a = a.nodes ∷ a.loops ∷ 0 ∷ []

abbrev pub reaction_figures : Reaction → List ℕ
reaction_figures r = r.code ∷ r.taken ∷ r.entries ∷ []

abbrev pub reading_figures : Reading → List ℕ
reading_figures r = r.nodes ∷ r.signals ∷ 0 ∷ []

-- the refusal of a text as figures, with its place (F-9)
abbrev pub fault_figures : Option Fault → List ℕ
fault_figures (Some f) = number_of f.refusal.check ∷ f.refusal.node ∷ f.place ∷ []
fault_figures None = 0 ∷ 0 ∷ 0 ∷ []

-- 1 and the tick's node and length, or 0 and an accepted table's nodes and loop depth
abbrev pub tick_figures : Tick → List ℕ
tick_figures (Ends node length) = 1 ∷ node ∷ length ∷ []
tick_figures (Accepted nodes loops) = 0 ∷ nodes ∷ loops ∷ []

abbrev pub fetched_figures : Fetched → List ℕ
fetched_figures f = f.length ∷ f.edition ∷ f.parts ∷ []

-- a part of the file: where it starts, and its length
abbrev pub span_figures : Span → List ℕ
span_figures span = span.from ∷ span.length ∷ 0 ∷ []

-- F-10: the number with its answers' number
abbrev pub longest_figures : Longest → List ℕ
longest_figures l = l.entries ∷ l.length ∷ 0 ∷ []

-- F-12: 1 if the code is in the set, else 0, and the number of nodes looked at
abbrev pub asked_figures : Asked → List ℕ
asked_figures a = bit a.answer ∷ a.count ∷ 0 ∷ []

-- F-13: the set, and the number of presents
abbrev pub tried_figures : Tried → List ℕ
tried_figures t = t.set ∷ t.presents ∷ 0 ∷ []
