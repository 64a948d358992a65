-- What a token weighs: the bytes that it takes at least.
use Prim.Native.Nat.{ℕ, ◌+◌}
use mathlib.Core.List.{List, [], ◌∷◌}
use Rattle.grammar.specs.Tokens.{Token, opening, mark, name, foreign, stray, Opening, Mark, nothing, pause, emit, exit, signal, trap, loop, present, suspend, bracket, halt, sustain, await, abort, weak, semicolon, bars, close, in-mark, then, else, end, when}

abbrev pub opening_weight : Opening → ℕ
opening_weight nothing = 7
opening_weight pause = 5
opening_weight emit = 4
opening_weight exit = 4
opening_weight signal = 6
opening_weight trap = 4
opening_weight loop = 4
opening_weight present = 7
opening_weight suspend = 7
opening_weight bracket = 1
opening_weight halt = 4
opening_weight sustain = 7
opening_weight await = 5
opening_weight abort = 5
opening_weight weak = 4

abbrev pub mark_weight : Mark → ℕ
mark_weight semicolon = 1
mark_weight bars = 2
mark_weight close = 1
mark_weight in-mark = 2
mark_weight then = 4
mark_weight else = 4
mark_weight end = 3
mark_weight when = 4

abbrev pub weight : Token → ℕ
weight (opening o) = opening_weight o
weight (mark m) = mark_weight m
weight (name n) = 1
weight foreign = 0
weight stray = 0

abbrev pub weights : List Token → ℕ
weights [] = 0
weights (t ∷ ts) = weight t + weights ts
