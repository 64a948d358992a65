-- A check's discriminant in code is its number.
use mathlib.Core.Path.{◌≡◌, refl}
use Prim.Native.Nat.{◌+◌}
use denote.Enum.Declared.{tag_of}
use Rattle.esterel.specs.Refusal.{number_of}
use Rattle.esterel.specs.declared.Check.{Check}
use Rattle.esterel.specs.declared.Check.TheVariants.{TooManyNodes, NotPairs, NoRoom, UnknownKind, FieldNotZero, TooFewStatements, StatementsLeft, TooDeep, TooManyTraps, Uncaught, EndsAtOnce, NotAdmitted, Starved, NotInGrammar, ExitWithoutTrap, TooManySignals, NotBlocks, NoEdition, BadTie, FullLanguage, NoNode, TooManyPresents}
use Rattle.esterel.specs.contracts.Check.{the_type}

pub cast : (c : Check) → tag_of the_type c + 1 ≡ number_of c
cast TooManyNodes = refl
cast NotPairs = refl
cast NoRoom = refl
cast UnknownKind = refl
cast FieldNotZero = refl
cast TooFewStatements = refl
cast StatementsLeft = refl
cast TooDeep = refl
cast TooManyTraps = refl
cast Uncaught = refl
cast EndsAtOnce = refl
cast NotAdmitted = refl
cast Starved = refl
cast NotInGrammar = refl
cast ExitWithoutTrap = refl
cast TooManySignals = refl
cast NotBlocks = refl
cast NoEdition = refl
cast BadTie = refl
cast FullLanguage = refl
cast NoNode = refl
cast TooManyPresents = refl
