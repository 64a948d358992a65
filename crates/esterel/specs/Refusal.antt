-- What a call answers: its value, or the number of the first failed check and a node.
use Rattle.std.specs.Prelude.{ℕ, ◌≡◌, Result, Ok, Err}
use Rattle.esterel.specs.declared.Check.{Check}
use Rattle.esterel.specs.declared.Check.TheVariants.{TooManyNodes, NotPairs, NoRoom, UnknownKind, FieldNotZero, TooFewStatements, StatementsLeft, TooDeep, TooManyTraps, Uncaught, EndsAtOnce, NotAdmitted, Starved, NotInGrammar, ExitWithoutTrap, TooManySignals, NotBlocks, NoEdition, BadTie, FullLanguage, NoNode, TooManyPresents}
use Rattle.esterel.specs.declared.Refusal.{Refusal}

-- the numbers of documents 01 and 02
abbrev pub number_of : Check → ℕ
number_of TooManyNodes = 1  -- more than 1,024 nodes
number_of NotPairs = 2  -- no node, or an odd number of bytes
number_of NoRoom = 3  -- a lent buffer is too short
number_of UnknownKind = 4  -- a kind that is none
number_of FieldNotZero = 5  -- a field that must be 0
number_of TooFewStatements = 6  -- too few statements for a node
number_of StatementsLeft = 7  -- statements left over
number_of TooDeep = 8  -- deeper than 256
number_of TooManyTraps = 9  -- more than 62 traps
number_of Uncaught = 10  -- an exit without its trap
number_of EndsAtOnce = 11  -- a loop whose body may end at once
number_of NotAdmitted = 12  -- a state that is not admitted
number_of Starved = 13  -- an answer is needed and none is left
number_of NotInGrammar = 14  -- a text outside the grammar
number_of ExitWithoutTrap = 15  -- an exit that names no trap around it
number_of TooManySignals = 16  -- more than 256 signals
number_of NotBlocks = 17  -- no whole blocks, or too many
number_of NoEdition = 18  -- no whole edition
number_of BadTie = 19  -- a tie above 2
number_of FullLanguage = 20  -- a text with a word of the full language
number_of NoNode = 21  -- a node outside the table
number_of TooManyPresents = 22  -- too many presents to try

pub data Reply (A : Type 0) : Type 0 where
  yields : (a : A) → Reply A
  rejects : (number node : ℕ) → Reply A

-- what a call's result says
abbrev pub reply : {A : Type 0} → Result A Refusal → Reply A
reply (Ok a) = yields a
reply (Err r) = rejects (number_of r.check) r.node

-- no two results say the same (proofs/Replies)
abbrev pub OneReply : Type 0 → Type 0
OneReply A = (x y : Result A Refusal) → reply x ≡ reply y → x ≡ y
