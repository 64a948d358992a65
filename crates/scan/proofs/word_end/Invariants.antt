-- The word so far, and the tokens after it.
use Rattle.std.proofs.Common.{◌≡◌, ◌∷◌, ◌-◌, take, drop}
use Rattle.grammar.specs.Tokens.{tokens_after, beginnings_after, word}
use Rattle.scan.specs.Scanning.{rest, starts}
use Rattle.scan.proofs.word_end.Given as goal

abbrev pub invariant-loop-i : goal.invariant-loop-i
invariant-loop-i l = (rest l.text l.at ≡ tokens_after (word (take (l.i - l.at) (drop l.at l.text))) (drop l.i l.text)) × (starts l.text l.at ≡ l.at ∷ beginnings_after l.i (word (take (l.i - l.at) (drop l.at l.text))) (drop l.i l.text))
