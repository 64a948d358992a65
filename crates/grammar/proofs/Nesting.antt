-- Each level of nesting takes at least 6 bytes.
use mathlib.Core.List.{List}
use Prim.Native.Nat.{◌+◌, ◌*◌, ◌≤◌}
use native.Mathlib.Omega.{arith}
use Rattle.grammar.specs.Tokens.{Token}
use Rattle.grammar.specs.Tree.{Tree, levels}
use Rattle.grammar.specs.Grammar.{Category, Derives, a-nothing, a-pause, an-emit, an-exit, a-signal, a-trap, a-loop, a-suspend, a_then_else, a-then, an_else, a_bracket, a-halt, a-sustain, an-await, an-abort, a_weak_abort, a-single, a-sequence, a_pair, a-branch}
use Rattle.grammar.proofs.Weights.{weights}

pub takes : {w : Category} {p : Tree} {ts r : List Token} → Derives w p ts r → 6 * levels p + 4 + weights r ≤ weights ts
takes a-nothing = omega arith
takes a-pause = omega arith
takes an-emit = omega arith
takes an-exit = omega arith
takes (a-signal d) = omega (arith, takes d)
takes (a-trap d) = omega (arith, takes d)
takes (a-loop d) = omega (arith, takes d)
takes (a-suspend d) = omega (arith, takes d)
takes (a_then_else d e) = omega (arith, takes d, takes e)
takes (a-then d) = omega (arith, takes d)
takes (an_else d) = omega (arith, takes d)
takes (a_bracket d) = omega (arith, takes d)
takes a-halt = omega arith
takes a-sustain = omega arith
takes an-await = omega arith
takes (an-abort d) = omega (arith, takes d)
takes (a_weak_abort d) = omega (arith, takes d)
takes (a-single d) = takes d
takes (a-sequence d e) = omega (arith, takes d, takes e)
takes (a_pair d e) = omega (arith, takes d, takes e)
takes (a-branch d e) = omega (arith, takes d, takes e)
