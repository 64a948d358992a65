-- Worked examples: what texts are told.
use mathlib.Core.Path.{◌≡◌, refl}
use mathlib.Core.List.{List, [], ◌∷◌}
use Prim.Native.Nat.{ℕ, ◌≤◌}
use native.Mathlib.Omega.{arith}
use lib.ListN.{length}
use Rattle.esterel.specs.Statement as S
use Rattle.esterel.specs.Table.{passed, refused, postfix}
use Rattle.grammar.specs.Limits.{max_source}
use Rattle.grammar.specs.Ascii.{ascii}
use Rattle.grammar.specs.Tokens.{Token, tokens, class_of, beginnings, byte_of}
use Rattle.grammar.specs.Tree as T
use Rattle.grammar.specs.Tree.{Tree, leaf, one, two}
use Rattle.grammar.specs.Machine.{accepted, stuck, parse}
use Rattle.grammar.specs.Meaning.{signals, verdict_of_tree, place_of, VerdictOf, faulty, derived}
use Rattle.grammar.specs.Faults.{number_of_fault}
use Rattle.grammar.specs.Grammar.{an-exit, a-trap, a-single, a-sequence, a-pause, an-abort}
use Rattle.grammar.proofs.Soundness.{sound}
use Rattle.grammar.proofs.Viability.{fault-at}

-- by the tree that the parser finds, or the tokens that it does not get past
told : (x : List ℕ) (t : Tree) → length x ≤ max_source → (e : parse (tokens x) ≡ accepted t) → VerdictOf x (verdict_of_tree t) (length (signals t)) (place_of x (sound t (tokens x) e))
told x t h e = derived t h (sound t (tokens x) e)

unread : (x : List ℕ) (us : List Token) → length x ≤ max_source → parse (tokens x) ≡ stuck us → VerdictOf x (refused (number_of_fault us) 0) 0 (byte_of x us)
unread x us h e = faulty us h (fault-at (tokens x) us e)

-- grouping, and branches that are missing
left_grouping : VerdictOf (ascii "pause;pause;nothing") (passed (S.two S.sequence (S.two S.sequence (S.leaf S.pause) (S.leaf S.pause)) (S.leaf S.nothing))) 0 0
unfolding tokens class_of
left_grouping = told (ascii "pause;pause;nothing") (two T.sequence (two T.sequence (leaf T.pause) (leaf T.pause)) (leaf T.nothing)) (omega arith) refl

branches_left : VerdictOf (ascii "[pause || pause || nothing]") (passed (S.two S.parallel (S.two S.parallel (S.leaf S.pause) (S.leaf S.pause)) (S.leaf S.nothing))) 0 0
unfolding tokens class_of
branches_left = told (ascii "[pause || pause || nothing]") (two T.parallel (two T.parallel (leaf T.pause) (leaf T.pause)) (leaf T.nothing)) (omega arith) refl

binds_looser : VerdictOf (ascii "[pause;nothing||pause]") (passed (S.two S.parallel (S.two S.sequence (S.leaf S.pause) (S.leaf S.nothing)) (S.leaf S.pause))) 0 0
unfolding tokens class_of
binds_looser = told (ascii "[pause;nothing||pause]") (two T.parallel (two T.sequence (leaf T.pause) (leaf T.nothing)) (leaf T.pause)) (omega arith) refl

only_else : VerdictOf (ascii "present S else pause end") (passed (S.two (S.present 0) (S.leaf S.nothing) (S.leaf S.pause))) 1 0
unfolding tokens class_of
only_else = told (ascii "present S else pause end") (two (T.present (ascii "S")) (leaf T.nothing) (leaf T.pause)) (omega arith) refl

-- numbers of signals, and traps
test-first : VerdictOf (ascii "present S then emit A end") (passed (S.two (S.present 0) (S.leaf (S.emit 1)) (S.leaf S.nothing))) 2 0
unfolding tokens class_of
test-first = told (ascii "present S then emit A end") (two (T.present (ascii "S")) (leaf (T.emit (ascii "A"))) (leaf T.nothing)) (omega arith) refl

suspend-last : VerdictOf (ascii "suspend emit A when S") (passed (S.one (S.suspend 1) (S.leaf (S.emit 0)))) 2 0
unfolding tokens class_of
suspend-last = told (ascii "suspend emit A when S") (one (T.suspend (ascii "S")) (leaf (T.emit (ascii "A")))) (omega arith) refl

second_declaration : VerdictOf (ascii "emit A;signal A in emit B end") (passed (S.two S.sequence (S.leaf (S.emit 0)) (S.one (S.signal 0) (S.leaf (S.emit 1))))) 2 0
unfolding tokens class_of
second_declaration = told (ascii "emit A;signal A in emit B end") (two T.sequence (leaf (T.emit (ascii "A"))) (one (T.signal (ascii "A")) (leaf (T.emit (ascii "B"))))) (omega arith) refl

nearest : VerdictOf (ascii "trap T in trap U in trap T in [exit T||exit U] end end end") (passed (S.one S.trap (S.one S.trap (S.one S.trap (S.two S.parallel (S.leaf (S.exit 0)) (S.leaf (S.exit 1))))))) 0 0
unfolding tokens class_of
nearest = told (ascii "trap T in trap U in trap T in [exit T||exit U] end end end") (one (T.trap (ascii "T")) (one (T.trap (ascii "U")) (one (T.trap (ascii "T")) (two T.parallel (leaf (T.exit (ascii "T"))) (leaf (T.exit (ascii "U"))))))) (omega arith) refl

two_name_spaces : VerdictOf (ascii "trap S in emit S;signal S in exit S end end") (passed (S.one S.trap (S.two S.sequence (S.leaf (S.emit 0)) (S.one (S.signal 0) (S.leaf (S.exit 0)))))) 1 0
unfolding tokens class_of
two_name_spaces = told (ascii "trap S in emit S;signal S in exit S end end") (one (T.trap (ascii "S")) (two T.sequence (leaf (T.emit (ascii "S"))) (one (T.signal (ascii "S")) (leaf (T.exit (ascii "S")))))) (omega arith) refl

no_trap : VerdictOf (ascii "trap T in exit U end") (refused 15 0) 0 15
unfolding tokens class_of beginnings byte_of
no_trap = derived (one (T.trap (ascii "T")) (leaf (T.exit (ascii "U")))) (omega arith) (a-single (a-trap (a-single an-exit)))

after-trap : VerdictOf (ascii "trap T in pause end;exit T") (refused 15 0) 0 25
unfolding tokens class_of beginnings byte_of
after-trap = derived (two T.sequence (one (T.trap (ascii "T")) (leaf T.pause)) (leaf (T.exit (ascii "T")))) (omega arith) (a-sequence (a-single (a-trap (a-single a-pause))) an-exit)

-- the first of two exits without their traps counts, also within an abort
first-lost : VerdictOf (ascii "abort exit A when S end;exit B") (refused 15 0) 1 11
unfolding tokens class_of beginnings byte_of
first-lost = derived (two T.sequence (T.abort T.strong (ascii "S") (leaf (T.exit (ascii "A")))) (leaf (T.exit (ascii "B")))) (omega arith) (a-sequence (a-single (an-abort (a-single an-exit))) an-exit)

-- the forms of F-9
halting : VerdictOf (ascii "halt") (passed (S.one S.loop (S.leaf S.pause))) 0 0
unfolding tokens class_of
halting = told (ascii "halt") T.halt (omega arith) refl

sustained : VerdictOf (ascii "sustain S") (passed (S.one S.loop (S.two S.sequence (S.leaf (S.emit 0)) (S.leaf S.pause)))) 1 0
unfolding tokens class_of
sustained = told (ascii "sustain S") (T.sustain (ascii "S")) (omega arith) refl

-- the await loop of signal 0
awaiting : S.Stmt
awaiting = S.one S.loop (S.two S.sequence (S.leaf S.pause) (S.two (S.present 0) (S.leaf (S.exit 0)) (S.leaf S.nothing)))

awaited : VerdictOf (ascii "await S") (passed (S.one S.trap awaiting)) 1 0
unfolding tokens class_of awaiting
awaited = told (ascii "await S") (T.await (ascii "S")) (omega arith) refl

aborted : VerdictOf (ascii "abort pause when S end") (passed (S.one S.trap (S.two S.parallel (S.two S.sequence (S.one (S.suspend 0) (S.leaf S.pause)) (S.leaf (S.exit 0))) awaiting))) 1 0
unfolding tokens class_of awaiting
aborted = told (ascii "abort pause when S end") (T.abort T.strong (ascii "S") (leaf T.pause)) (omega arith) refl

-- an exit that leaves the form counts the added trap
counted : VerdictOf (ascii "trap T in weak abort exit T when S end end") (passed (S.one S.trap (S.one S.trap (S.two S.parallel (S.two S.sequence (S.leaf (S.exit 1)) (S.leaf (S.exit 0))) awaiting)))) 1 0
unfolding tokens class_of awaiting
counted = told (ascii "trap T in weak abort exit T when S end end") (one (T.trap (ascii "T")) (T.abort T.weak (ascii "S") (leaf (T.exit (ascii "T"))))) (omega arith) refl

-- one that stays inside does not
inside : VerdictOf (ascii "weak abort trap T in exit T end when S end") (passed (S.one S.trap (S.two S.parallel (S.two S.sequence (S.one S.trap (S.leaf (S.exit 0))) (S.leaf (S.exit 0))) awaiting))) 1 0
unfolding tokens class_of awaiting
inside = told (ascii "weak abort trap T in exit T end when S end") (T.abort T.weak (ascii "S") (one (T.trap (ascii "T")) (leaf (T.exit (ascii "T"))))) (omega arith) refl

-- an abort's signal stands after its body's
abort-last : VerdictOf (ascii "abort emit A when S end") (passed (S.one S.trap (S.two S.parallel (S.two S.sequence (S.one (S.suspend 1) (S.leaf (S.emit 0))) (S.leaf (S.exit 0))) (S.one S.loop (S.two S.sequence (S.leaf S.pause) (S.two (S.present 1) (S.leaf (S.exit 0)) (S.leaf S.nothing))))))) 2 0
unfolding tokens class_of
abort-last = told (ascii "abort emit A when S end") (T.abort T.strong (ascii "S") (leaf (T.emit (ascii "A")))) (omega arith) refl

-- words of the full language, and counts
foreign-name : VerdictOf (ascii "emit case") (refused 20 0) 0 5
unfolding tokens class_of beginnings byte_of
foreign-name = unread (ascii "emit case") _ (omega arith) refl

a-count : VerdictOf (ascii "await 3 S") (refused 20 0) 0 6
unfolding tokens class_of beginnings byte_of
a-count = unread (ascii "await 3 S") _ (omega arith) refl

at_once : VerdictOf (ascii "await immediate S") (refused 20 0) 0 6
unfolding tokens class_of beginnings byte_of
at_once = unread (ascii "await immediate S") _ (omega arith) refl

foreign-first : VerdictOf (ascii "every") (refused 20 0) 0 0
unfolding tokens class_of beginnings byte_of
foreign-first = unread (ascii "every") _ (omega arith) refl

-- a count may be longer than a name
long-count : VerdictOf (ascii "emit 123456789012345678901234567890123") (refused 20 0) 0 5
unfolding tokens class_of beginnings byte_of
long-count = unread (ascii "emit 123456789012345678901234567890123") _ (omega arith) refl

before_point : VerdictOf (ascii "emit 3.5") (refused 20 0) 0 5
unfolding tokens class_of beginnings byte_of
before_point = unread (ascii "emit 3.5") _ (omega arith) refl

word_of_form : VerdictOf (ascii "emit halt") (refused 14 0) 0 5
unfolding tokens class_of beginnings byte_of
word_of_form = unread (ascii "emit halt") _ (omega arith) refl

foreign-later : VerdictOf (ascii "[pause | every") (refused 14 0) 0 7
unfolding tokens class_of beginnings byte_of
foreign-later = unread (ascii "[pause | every") _ (omega arith) refl

merely_stops : VerdictOf (ascii "abort pause when S ") (refused 14 0) 0 19
unfolding tokens class_of beginnings byte_of
merely_stops = unread (ascii "abort pause when S ") _ (omega arith) refl

-- outside the grammar
one-branch : VerdictOf (ascii "[pause]") (refused 14 0) 0 6
unfolding tokens class_of beginnings byte_of
one-branch = unread (ascii "[pause]") _ (omega arith) refl

no_text : VerdictOf (ascii "") (refused 14 0) 0 0
unfolding tokens class_of beginnings byte_of
no_text = unread (ascii "") _ (omega arith) refl

joined_word : VerdictOf (ascii "emit3") (refused 14 0) 0 0
unfolding tokens class_of beginnings byte_of
joined_word = unread (ascii "emit3") _ (omega arith) refl

digit-first : VerdictOf (ascii "emit 3a") (refused 14 0) 0 5
unfolding tokens class_of beginnings byte_of
digit-first = unread (ascii "emit 3a") _ (omega arith) refl

one-bar : VerdictOf (ascii "[pause|pause]") (refused 14 0) 0 6
unfolding tokens class_of beginnings byte_of
one-bar = unread (ascii "[pause|pause]") _ (omega arith) refl

bars-apart : VerdictOf (ascii "[pause| |pause]") (refused 14 0) 0 6
unfolding tokens class_of beginnings byte_of
bars-apart = unread (ascii "[pause| |pause]") _ (omega arith) refl

carriage_return : VerdictOf (ascii "pause\r") (refused 14 0) 0 5
unfolding tokens class_of beginnings byte_of
carriage_return = unread (ascii "pause\r") _ (omega arith) refl

extra_end : VerdictOf (ascii "suspend pause when S end") (refused 14 0) 0 21
unfolding tokens class_of beginnings byte_of
extra_end = unread (ascii "suspend pause when S end") _ (omega arith) refl

grammar_first : VerdictOf (ascii "exit T;[pause]") (refused 14 0) 0 13
unfolding tokens class_of beginnings byte_of
grammar_first = unread (ascii "exit T;[pause]") _ (omega arith) refl

long-name : VerdictOf (ascii "emit a23456789b123456789c123456789d12x") (refused 14 0) 0 5
unfolding tokens class_of beginnings byte_of
long-name = unread (ascii "emit a23456789b123456789c123456789d12x") _ (omega arith) refl

-- the bytes of the table
bytes : postfix (S.one (S.suspend 0) (S.two S.sequence (S.leaf S.pause) (S.leaf S.nothing))) ≡ 2 ∷ 0 ∷ 1 ∷ 0 ∷ 9 ∷ 0 ∷ 7 ∷ 0 ∷ []
bytes = refl
