-- A result is known from what it says: no two checks have one number.
use mathlib.Core.Path.{◌≡◌, refl, sym, ap, subst, ◌∙◌}
use Rattle.std.specs.Result.{IsErrAnd}
use Rattle.std.proofs.lemmas.Result.{err_from_is_err_and}
use Rattle.std.specs.Prelude.{ℕ, List, [], ◌∷◌, get_or, Result, Ok, Err}
use Rattle.esterel.specs.Refusal.{number_of, Reply, yields, rejects, reply, OneReply}
use Rattle.esterel.specs.declared.Check.{Check}
use Rattle.esterel.specs.declared.Check.TheVariants.{TooManyNodes, NotPairs, NoRoom, UnknownKind, FieldNotZero, TooFewStatements, StatementsLeft, TooDeep, TooManyTraps, Uncaught, EndsAtOnce, NotAdmitted, Starved, NotInGrammar, ExitWithoutTrap, TooManySignals, NotBlocks, NoEdition, BadTie, FullLanguage, NoNode, TooManyPresents}
use Rattle.esterel.specs.declared.Refusal.{Refusal}

abbrev checks : List Check
checks = TooManyNodes ∷ TooManyNodes ∷ NotPairs ∷ NoRoom ∷ UnknownKind ∷ FieldNotZero ∷ TooFewStatements ∷ StatementsLeft ∷ TooDeep ∷ TooManyTraps ∷ Uncaught ∷ EndsAtOnce ∷ NotAdmitted ∷ Starved ∷ NotInGrammar ∷ ExitWithoutTrap ∷ TooManySignals ∷ NotBlocks ∷ NoEdition ∷ BadTie ∷ FullLanguage ∷ NoNode ∷ TooManyPresents ∷ []

numbered : (c : Check) → get_or checks (number_of c) TooManyNodes ≡ c
numbered TooManyNodes = refl
numbered NotPairs = refl
numbered NoRoom = refl
numbered UnknownKind = refl
numbered FieldNotZero = refl
numbered TooFewStatements = refl
numbered StatementsLeft = refl
numbered TooDeep = refl
numbered TooManyTraps = refl
numbered Uncaught = refl
numbered EndsAtOnce = refl
numbered NotAdmitted = refl
numbered Starved = refl
numbered NotInGrammar = refl
numbered ExitWithoutTrap = refl
numbered TooManySignals = refl
numbered NotBlocks = refl
numbered NoEdition = refl
numbered BadTie = refl
numbered FullLanguage = refl
numbered NoNode = refl
numbered TooManyPresents = refl

pub number-once : (a b : Check) → number_of a ≡ number_of b → a ≡ b
number-once a b e = sym (numbered a) ∙ ap (λ n. get_or checks n TooManyNodes) e ∙ numbered b

abbrev value : {A : Type 0} → A → Reply A → A
value d (yields a) = a
value d (rejects number node) = d

abbrev number : {A : Type 0} → Reply A → ℕ
number (yields a) = 0
number (rejects n node) = n

abbrev node : {A : Type 0} → Reply A → ℕ
node (yields a) = 0
node (rejects number n) = n

abbrev Gives : {A : Type 0} → Reply A → Type 0
Gives (yields a) = Unit {0}
Gives (rejects number node) = ⊥

same : (r s : Refusal) → r.check ≡ s.check → r.node ≡ s.node → r ≡ s
same r s e f = rw (e, f) refl

pub reply-once : {A : Type 0} → OneReply A
reply-once (Ok a) (Ok b) e = ap Ok (ap (value a) e)
reply-once (Ok a) (Err s) e = absurd (subst Gives e tt)
reply-once (Err r) (Ok b) e = absurd (subst Gives (sym e) tt)
reply-once (Err r) (Err s) e = ap Err (same r s (number-once r.check s.check (ap number e)) (ap node e))

pub rejects≢yields : {A : Type 0} {a : A} {n v : ℕ} → rejects n v ≡ yields a → ⊥
rejects≢yields {A = A} e = subst (Gives {A = A}) (sym e) tt

-- what `?` passes on
pub handed : {A : Type 0} (r : Result A Refusal) (e : Refusal) → IsErrAnd r (λ d. d ≡ e) → reply r ≡ rejects (number_of e.check) e.node
handed r e h = let p = err_from_is_err_and r h in rw (p.1, p.2) refl
