-- The comparison of two kinds that is derived is that of their numbers.
use mathlib.Core.Path.{◌≡◌, sym, ◌∙◌}
use mathlib.Core.Bool.{Bool, true, false, not}
use denote.Enum.Bare.{sameb}
use Rattle.std.proofs.Common.{rules}
use Rattle.std.proofs.lemmas.Bool.{not-true, not-false}
use Rattle.table.specs.Kinds.{is_same}
use Rattle.table.specs.Check.{known_of}
use Rattle.table.specs.declared.Kind.{Kind}
use Rattle.table.specs.declared.Kind.TheVariants.{Unknown}
use Rattle.table.specs.contracts.Kind.{the_type}

pub same-is : (k j : Kind) → sameb the_type k j ≡ is_same k j
same-is k j = search rules

-- the last variant alone is unknown
unknown-is : (k : Kind) → sameb the_type k Unknown ≡ not (known_of k)
unknown-is k = search rules

pub unknown : {r : Bool} (k : Kind) → r ≡ sameb the_type k Unknown → r ≡ true → known_of k ≡ false
unknown k e is = not-true (known_of k) (sym (unknown-is k) ∙ sym e ∙ is)

pub known : {r : Bool} (k : Kind) → r ≡ sameb the_type k Unknown → r ≡ false → known_of k ≡ true
known k e is = not-false (known_of k) (sym (unknown-is k) ∙ sym e ∙ is)
