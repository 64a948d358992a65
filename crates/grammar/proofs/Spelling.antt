-- What is printed has the tokens that were meant, and they are a derivation's.
use mathlib.Core.Path.{◌≡◌, refl, ap, ◌∙◌}
use mathlib.Core.Bool.{true}
use mathlib.Core.List.{List, [], ◌∷◌, ◌++◌}
use Prim.Native.Nat.{ℕ, suc, ◌/◌}
use Prim.Native.Char.{code}
use native.Mathlib.Omega.{arith}
use borrow.Author.Tests.{le-leb}
use Rattle.esterel.specs.Statement as S
use Rattle.esterel.specs.Statement.{Stmt}
use Rattle.grammar.specs.Ascii.{ascii}
use Rattle.grammar.specs.Tokens.{Token, opening, mark, name, foreign, stray, Opening, Mark, nothing, pause, emit, exit, signal, trap, loop, present, suspend, bracket, halt, sustain, await, abort, weak, semicolon, bars, close, in-mark, then, else, end, when, tokens, is_in_word, in_word, blank, class_of}
use Rattle.grammar.specs.Tree.{Tree, leaf, one, two}
use Rattle.grammar.specs.Kernel as K
use Rattle.grammar.specs.Kernel.{Kernel, expand}
use Rattle.grammar.specs.Grammar.{Derives, statement, sequence, a-nothing, a-pause, an-emit, an-exit, a-signal, a-trap, a-loop, a-suspend, a_then_else, a_bracket, a-single, a-sequence, a_pair}
use Rattle.grammar.specs.Printing.{letter, name_of, named, print, spell_opening, spell_mark, spell, NoSequence, Flat}

-- the bytes of a name
letter_in_word : (d : ℕ) → is_in_word (letter d) ≡ true
letter_in_word d = rw (le-leb 65 (letter d) (omega arith), le-leb (letter d) 90 (omega arith))

class_letter : (d : ℕ) → class_of (letter d) ≡ in_word
unfolding class_of
class_letter d = rw (letter_in_word d)

class_first : class_of (code "N") ≡ in_word
unfolding class_of
class_first = refl

class_space : class_of (code " ") ≡ blank
unfolding class_of
class_space = refl

name_spelled : (n : ℕ) (rest : List ℕ) → tokens (name_of n ++ (ascii " " ++ rest)) ≡ name (name_of n) ∷ tokens rest
unfolding tokens
name_spelled n rest = rw (class_first, class_letter (n / 26 / 26), class_letter (n / 26), class_letter n, class_space)

opening_spelled : (o : Opening) (rest : List ℕ) → tokens (spell_opening o ++ rest) ≡ opening o ∷ tokens rest
unfolding tokens class_of
opening_spelled nothing rest = refl
opening_spelled pause rest = refl
opening_spelled emit rest = refl
opening_spelled exit rest = refl
opening_spelled signal rest = refl
opening_spelled trap rest = refl
opening_spelled loop rest = refl
opening_spelled present rest = refl
opening_spelled suspend rest = refl
opening_spelled bracket rest = refl
opening_spelled halt rest = refl
opening_spelled sustain rest = refl
opening_spelled await rest = refl
opening_spelled abort rest = refl
opening_spelled weak rest = refl

mark_spelled : (m : Mark) (rest : List ℕ) → tokens (spell_mark m ++ rest) ≡ mark m ∷ tokens rest
unfolding tokens class_of
mark_spelled semicolon rest = refl
mark_spelled bars rest = refl
mark_spelled close rest = refl
mark_spelled in-mark rest = refl
mark_spelled then rest = refl
mark_spelled else rest = refl
mark_spelled end rest = refl
mark_spelled when rest = refl

-- tokens whose names are numbers' names
abbrev pub Spellable : List Token → Type 0
Spellable [] = Unit {0}
Spellable (opening o ∷ ts) = Spellable ts
Spellable (mark m ∷ ts) = Spellable ts
Spellable (name n ∷ ts) = ((k : ℕ) × (n ≡ name_of k)) × Spellable ts
Spellable (foreign ∷ ts) = ⊥
Spellable (stray ∷ ts) = ⊥

none_spelled : tokens [] ≡ []
unfolding tokens
none_spelled = refl

pub spelled : (ts : List Token) → Spellable ts → tokens (spell ts) ≡ ts
spelled [] h = none_spelled
spelled (opening o ∷ ts) h = opening_spelled o (spell ts) ∙ ap (λ (us : List Token). opening o ∷ us) (spelled ts h)
spelled (mark m ∷ ts) h = mark_spelled m (spell ts) ∙ ap (λ (us : List Token). mark m ∷ us) (spelled ts h)
spelled (name n ∷ ts) h =
    let (k, e) = h.0 in
    rw e (name_spelled k (spell ts) ∙ ap (λ (us : List Token). name (name_of k) ∷ us) (spelled ts h.1))
spelled (foreign ∷ ts) h = absurd h
spelled (stray ∷ ts) h = absurd h

pub spellable : (d : ℕ) (p : Stmt) (r : List Token) → Spellable r → Spellable (print (named d p) r)
spellable d (S.leaf S.nothing) r h = h
spellable d (S.leaf S.pause) r h = h
spellable d (S.leaf (S.emit s)) r h = ((_, refl), h)
spellable d (S.leaf (S.exit level)) r h = ((_, refl), h)
spellable d (S.one (S.signal s) p) r h = ((_, refl), spellable d p _ h)
spellable d (S.one (S.suspend s) p) r h = spellable d p _ ((_, refl), h)
spellable d (S.one S.loop p) r h = spellable d p _ h
spellable d (S.one S.trap p) r h = ((_, refl), spellable (suc d) p _ h)
spellable d (S.two (S.present s) p q) r h = ((_, refl), spellable d p _ (spellable d q _ h))
spellable d (S.two S.sequence p q) r h = spellable d p _ (spellable d q _ h)
spellable d (S.two S.parallel p q) r h = spellable d p _ (spellable d q _ h)

-- what is printed as a tree of the grammar, which has nothing to expand
abbrev pub plain : Kernel → Tree
plain (K.leaf l) = leaf l
plain (K.one u p) = one u (plain p)
plain (K.two b p q) = two b (plain p) (plain q)

pub expanded : (t : Kernel) → expand (plain t) ≡ t
expanded (K.leaf l) = refl
expanded (K.one u p) = ap (λ (z : Kernel). K.one u z) (expanded p)
expanded (K.two b p q) = let e = expanded p in let f = expanded q in cc

-- the derivation of what is printed: as a sequence, and as a statement where it is no sequence
pub record Printed (d : ℕ) (p : Stmt) (r : List Token) : Type 0 where
  pub whole : Derives sequence (plain (named d p)) (print (named d p) r) r
  pub single : NoSequence p → Derives statement (plain (named d p)) (print (named d p) r) r

as_single : {d : ℕ} {p : Stmt} {r : List Token} → Derives statement (plain (named d p)) (print (named d p) r) r → Printed d p r
as_single s = record { whole = a-single s; single = λ h. s }

pub derivation : (d : ℕ) (p : Stmt) → Flat p → (r : List Token) → Printed d p r
derivation d (S.leaf S.nothing) f r = record { whole = a-single a-nothing; single = λ h. a-nothing }
derivation d (S.leaf S.pause) f r = record { whole = a-single a-pause; single = λ h. a-pause }
derivation d (S.leaf (S.emit s)) f r = record { whole = a-single an-emit; single = λ h. an-emit }
derivation d (S.leaf (S.exit level)) f r = record { whole = a-single an-exit; single = λ h. an-exit }
derivation d (S.one (S.signal s) p) f r = let a = a-signal (derivation d p f _).whole in record { whole = a-single a; single = λ h. a }
derivation d (S.one (S.suspend s) p) f r = let a = a-suspend (derivation d p f _).whole in record { whole = a-single a; single = λ h. a }
derivation d (S.one S.loop p) f r = let a = a-loop (derivation d p f _).whole in record { whole = a-single a; single = λ h. a }
derivation d (S.one S.trap p) f r = let a = a-trap (derivation (suc d) p f _).whole in record { whole = a-single a; single = λ h. a }
derivation d (S.two (S.present s) p q) f r =
    let a = a_then_else (derivation d p f.0 _).whole (derivation d q f.1 _).whole in record { whole = a-single a; single = λ h. a }
derivation d (S.two S.sequence p q) f r = record { whole = a-sequence (derivation d p f.0 _).whole ((derivation d q f.1 r).single f.2); single = λ h. absurd h }
derivation d (S.two S.parallel p q) f r =
    let a = a_bracket (a_pair (derivation d p f.0 _).whole (derivation d q f.1 _).whole) in record { whole = a-single a; single = λ h. a }
