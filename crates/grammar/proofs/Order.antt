-- Signals appear in a tree as they stand in its tokens.
use mathlib.Core.Path.{◌≡◌, refl, sym, ap, ◌∙◌}
use mathlib.Core.Bool.{false}
use mathlib.Core.List.{List, []}
use lib.ListN.{length}
use borrow.Author.Tests.{lt-ltb}
use Rattle.grammar.specs.Tokens.{Token}
use Rattle.grammar.specs.Tree.{Tree, Name}
use Rattle.grammar.specs.Grammar.{Category, Derives, a-nothing, a-pause, an-emit, an-exit, a-signal, a-trap, a-loop, a-suspend, a_then_else, a-then, an_else, a_bracket, a-halt, a-sustain, an-await, an-abort, a_weak_abort, a-single, a-sequence, a_pair, a-branch}
use Rattle.grammar.specs.Kernel.{expand}
use Rattle.grammar.specs.Names.{place, see}
use Rattle.grammar.specs.Meaning.{signals_from}
use Rattle.grammar.proofs.Writing.{see-has}
use Rattle.grammar.specs.Theorems.{signal_names, see_all, InOrder}

-- a name that is met again is no new one
seen-again : (ns : List Name) (s : Name) → see (see ns s) s ≡ see ns s
seen-again ns s = rw (lt-ltb (place (see ns s) s) (length (see ns s)) (see-has ns s))

-- the names before a statement, then those from it on, are those of the statement, then those after it
in_order : {w : Category} {p : Tree} {ts r : List Token} → Derives w p ts r → (ns : List Name) → see_all ns (signal_names false ts) ≡ see_all (signals_from ns (expand p)) (signal_names false r)
in_order a-nothing ns = refl
in_order a-pause ns = refl
in_order an-emit ns = refl
in_order an-exit ns = refl
in_order (a-signal d) ns = in_order d _
in_order (a-trap d) ns = in_order d ns
in_order (a-loop d) ns = in_order d ns
in_order (a-suspend d) ns = in_order d ns
in_order (a_then_else d e) ns = in_order d _ ∙ in_order e _
in_order (a-then d) ns = in_order d _
in_order (an_else d) ns = in_order d _
in_order (a_bracket d) ns = in_order d ns
in_order a-halt ns = refl
in_order a-sustain ns = refl
in_order an-await ns = refl
in_order (an-abort {s = s} {p = p} {r = r} d) ns = in_order d ns ∙ ap (λ (l : List Name). see_all l (signal_names false r)) (sym (seen-again (signals_from ns (expand p)) s))
in_order (a_weak_abort d) ns = in_order d ns
in_order (a-single d) ns = in_order d ns
in_order (a-sequence d e) ns = in_order d ns ∙ in_order e _
in_order (a_pair d e) ns = in_order d ns ∙ in_order e _
in_order (a-branch d e) ns = in_order d ns ∙ in_order e _

pub signals_in_order : InOrder
unfolding InOrder
signals_in_order ts t d = let e = in_order d [] in cc
