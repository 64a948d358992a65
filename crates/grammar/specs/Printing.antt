-- A printer of programs as text, with names by number, and which programs a text can express.
use Rattle.std.specs.Prelude.{ℕ, suc, ◌+◌, ◌-◌, ◌/◌, ◌%◌, ◌≤◌, ◌<◌, cond, List, [], ◌∷◌, ◌++◌, ltb}
use Prim.Native.Char.{code}
use Rattle.esterel.specs.Statement as S
use Rattle.esterel.specs.Statement.{Stmt}
use Rattle.grammar.specs.Ascii.{ascii}
use Rattle.grammar.specs.Tokens.{Token, opening, mark, name, foreign, stray, Opening, Mark, nothing, pause, emit, exit, signal, trap, loop, present, suspend, bracket, halt, sustain, await, abort, weak, semicolon, bars, close, in-mark, then, else, end, when}
use Rattle.grammar.specs.Tree as T
use Rattle.grammar.specs.Tree.{Name}
use Rattle.grammar.specs.Kernel.{Kernel, leaf, one, two}

-- a letter for the last digit of a number to the base 26
abbrev pub letter : ℕ → ℕ
letter d = code "A" + d % 26

-- the name of a number, another one for each below 17,576: N and three letters
abbrev pub name_of : ℕ → Name
name_of n = code "N" ∷ letter (n / 26 / 26) ∷ letter (n / 26) ∷ letter n ∷ []

-- the tree of a statement under so many traps: a signal is named by its number, a trap by the number of traps around it
abbrev pub named : ℕ → Stmt → Kernel
named d (S.leaf S.nothing) = leaf T.nothing
named d (S.leaf S.pause) = leaf T.pause
named d (S.leaf (S.emit s)) = leaf (T.emit (name_of s))
named d (S.leaf (S.exit level)) = leaf (T.exit (name_of (d - 1 - level)))
named d (S.one (S.signal s) p) = one (T.signal (name_of s)) (named d p)
named d (S.one (S.suspend s) p) = one (T.suspend (name_of s)) (named d p)
named d (S.one S.loop p) = one T.loop (named d p)
named d (S.one S.trap p) = one (T.trap (name_of d)) (named (suc d) p)
named d (S.two (S.present s) p q) = two (T.present (name_of s)) (named d p) (named d q)
named d (S.two S.sequence p q) = two T.sequence (named d p) (named d q)
named d (S.two S.parallel p q) = two T.parallel (named d p) (named d q)

-- the tokens of a tree, before those of what follows
abbrev pub print : Kernel → List Token → List Token
print (leaf T.nothing) r = opening nothing ∷ r
print (leaf T.pause) r = opening pause ∷ r
print (leaf (T.emit s)) r = opening emit ∷ name s ∷ r
print (leaf (T.exit t)) r = opening exit ∷ name t ∷ r
print (one (T.signal s) p) r = opening signal ∷ name s ∷ mark in-mark ∷ print p (mark end ∷ r)
print (one (T.suspend s) p) r = opening suspend ∷ print p (mark when ∷ name s ∷ r)
print (one T.loop p) r = opening loop ∷ print p (mark end ∷ r)
print (one (T.trap t) p) r = opening trap ∷ name t ∷ mark in-mark ∷ print p (mark end ∷ r)
print (two (T.present s) p q) r = opening present ∷ name s ∷ mark then ∷ print p (mark else ∷ print q (mark end ∷ r))
print (two T.sequence p q) r = print p (mark semicolon ∷ print q r)
print (two T.parallel p q) r = opening bracket ∷ print p (mark bars ∷ print q (mark close ∷ r))

-- the bytes of a token, with a blank after it
abbrev pub spell_opening : Opening → List ℕ
spell_opening nothing = ascii "nothing "
spell_opening pause = ascii "pause "
spell_opening emit = ascii "emit "
spell_opening exit = ascii "exit "
spell_opening signal = ascii "signal "
spell_opening trap = ascii "trap "
spell_opening loop = ascii "loop "
spell_opening present = ascii "present "
spell_opening suspend = ascii "suspend "
spell_opening bracket = ascii "[ "
spell_opening halt = ascii "halt "
spell_opening sustain = ascii "sustain "
spell_opening await = ascii "await "
spell_opening abort = ascii "abort "
spell_opening weak = ascii "weak "

abbrev pub spell_mark : Mark → List ℕ
spell_mark semicolon = ascii "; "
spell_mark bars = ascii "|| "
spell_mark close = ascii "] "
spell_mark in-mark = ascii "in "
spell_mark then = ascii "then "
spell_mark else = ascii "else "
spell_mark end = ascii "end "
spell_mark when = ascii "when "

abbrev pub spell : List Token → List ℕ
spell [] = []
spell (opening o ∷ ts) = spell_opening o ++ spell ts
spell (mark m ∷ ts) = spell_mark m ++ spell ts
spell (name n ∷ ts) = n ++ (ascii " " ++ spell ts)
spell (foreign ∷ ts) = ascii "0 " ++ spell ts
spell (stray ∷ ts) = ascii "? " ++ spell ts

unfoldable pub printed : Stmt → List ℕ
printed p = spell (print (named 0 p) [])

-- The second of a sequence is no sequence: a text has no brackets that would group to the right.
abbrev pub NoSequence : Stmt → Type 0
NoSequence (S.leaf l) = Unit {0}
NoSequence (S.one u p) = Unit {0}
NoSequence (S.two (S.present s) p q) = Unit {0}
NoSequence (S.two S.sequence p q) = ⊥
NoSequence (S.two S.parallel p q) = Unit {0}

abbrev pub Flat : Stmt → Type 0
Flat (S.leaf l) = Unit {0}
Flat (S.one u p) = Flat p
Flat (S.two (S.present s) p q) = Flat p × Flat q
Flat (S.two S.sequence p q) = Flat p × Flat q × NoSequence q
Flat (S.two S.parallel p q) = Flat p × Flat q

-- Signals are numbered in order of first appearance: where m have been met, the next is one of them or m.
abbrev pub met : ℕ → ℕ → ℕ
met m s = cond (ltb s m) m (suc m)

abbrev pub met_in : ℕ → Stmt → ℕ
met_in m (S.leaf S.nothing) = m
met_in m (S.leaf S.pause) = m
met_in m (S.leaf (S.emit s)) = met m s
met_in m (S.leaf (S.exit level)) = m
met_in m (S.one (S.signal s) p) = met_in (met m s) p
met_in m (S.one (S.suspend s) p) = met (met_in m p) s
met_in m (S.one S.loop p) = met_in m p
met_in m (S.one S.trap p) = met_in m p
met_in m (S.two (S.present s) p q) = met_in (met_in (met m s) p) q
met_in m (S.two S.sequence p q) = met_in (met_in m p) q
met_in m (S.two S.parallel p q) = met_in (met_in m p) q

abbrev pub Ordered : ℕ → Stmt → Type 0
Ordered m (S.leaf S.nothing) = Unit {0}
Ordered m (S.leaf S.pause) = Unit {0}
Ordered m (S.leaf (S.emit s)) = s ≤ m
Ordered m (S.leaf (S.exit level)) = Unit {0}
Ordered m (S.one (S.signal s) p) = (s ≤ m) × Ordered (met m s) p
Ordered m (S.one (S.suspend s) p) = Ordered m p × (s ≤ met_in m p)
Ordered m (S.one S.loop p) = Ordered m p
Ordered m (S.one S.trap p) = Ordered m p
Ordered m (S.two (S.present s) p q) = (s ≤ m) × Ordered (met m s) p × Ordered (met_in (met m s) p) q
Ordered m (S.two S.sequence p q) = Ordered m p × Ordered (met_in m p) q
Ordered m (S.two S.parallel p q) = Ordered m p × Ordered (met_in m p) q

-- each exit's level is below the number of traps around it (check 10), where d stand around the statement
abbrev pub Trapped : ℕ → Stmt → Type 0
Trapped d (S.leaf S.nothing) = Unit {0}
Trapped d (S.leaf S.pause) = Unit {0}
Trapped d (S.leaf (S.emit s)) = Unit {0}
Trapped d (S.leaf (S.exit level)) = level < d
Trapped d (S.one (S.signal s) p) = Trapped d p
Trapped d (S.one (S.suspend s) p) = Trapped d p
Trapped d (S.one S.loop p) = Trapped d p
Trapped d (S.one S.trap p) = Trapped (suc d) p
Trapped d (S.two b p q) = Trapped d p × Trapped d q

-- a program that a text can express
pub record Expressible (p : Stmt) : Type 0 where
  pub flat : Flat p
  pub ordered : Ordered 0 p
  pub trapped : Trapped 0 p
