-- What a tree with names means, and what a text is told (F-1, F-9).
use Rattle.std.specs.Prelude.{ℕ, ◌≤◌, ◌<◌, Bool, false, ◌||◌, not, cond, List, [], ◌∷◌, ltb, length}
use Rattle.esterel.specs.Limits.{signals as max_signals}
use Rattle.esterel.specs.Statement as S
use Rattle.esterel.specs.Statement.{Stmt}
use Rattle.esterel.specs.Sets.{places_of}
use Rattle.esterel.specs.Table.{Verdict, passed, refused, read, postfix}
use Rattle.esterel.specs.Checks.{too_deep, too_many_traps, first_node, refuse_at}
use Rattle.grammar.specs.Limits.{max_source}
use Rattle.grammar.specs.Tokens.{Token, tokens, byte_of}
use Rattle.grammar.specs.Tree as T
use Rattle.grammar.specs.Tree.{Tree, Name}
use Rattle.grammar.specs.Kernel.{Kernel, leaf, one, two, expand}
use Rattle.grammar.specs.Grammar.{Program}
use Rattle.grammar.specs.Names.{place, has, see}
use Rattle.grammar.specs.Faults.{Fault, number_of_fault, lost_from, crowded_from}

-- The signals of a tree in order of first appearance in the text, after those of ns. A suspend's name stands after its body, each other before
-- what is in the statement.
abbrev pub signals_from : List Name → Kernel → List Name
signals_from ns (leaf T.nothing) = ns
signals_from ns (leaf T.pause) = ns
signals_from ns (leaf (T.emit s)) = see ns s
signals_from ns (leaf (T.exit t)) = ns
signals_from ns (one (T.signal s) p) = signals_from (see ns s) p
signals_from ns (one (T.suspend s) p) = see (signals_from ns p) s
signals_from ns (one T.loop p) = signals_from ns p
signals_from ns (one (T.trap t) p) = signals_from ns p
signals_from ns (two (T.present s) p q) = signals_from (signals_from (see ns s) p) q
signals_from ns (two T.sequence p q) = signals_from (signals_from ns p) q
signals_from ns (two T.parallel p q) = signals_from (signals_from ns p) q

abbrev pub signals : Tree → List Name
signals t = signals_from [] (expand t)

-- 15: an exit without its trap, where ts are the names of the traps around, the nearest first
abbrev pub untrapped : List Name → Kernel → Bool
untrapped ts (leaf T.nothing) = false
untrapped ts (leaf T.pause) = false
untrapped ts (leaf (T.emit s)) = false
untrapped ts (leaf (T.exit t)) = not (has ts t)
untrapped ts (one (T.signal s) p) = untrapped ts p
untrapped ts (one (T.suspend s) p) = untrapped ts p
untrapped ts (one T.loop p) = untrapped ts p
untrapped ts (one (T.trap t) p) = untrapped (t ∷ ts) p
untrapped ts (two b p q) = untrapped ts p || untrapped ts q

-- The statement. A signal's number is the place of its name among all, an exit's level the place of its name among the traps around, so that it
-- means the nearest of its name.
abbrev pub resolve : (ns ts : List Name) → Kernel → Stmt
resolve ns ts (leaf T.nothing) = S.leaf S.nothing
resolve ns ts (leaf T.pause) = S.leaf S.pause
resolve ns ts (leaf (T.emit s)) = S.leaf (S.emit (place ns s))
resolve ns ts (leaf (T.exit t)) = S.leaf (S.exit (place ts t))
resolve ns ts (one (T.signal s) p) = S.one (S.signal (place ns s)) (resolve ns ts p)
resolve ns ts (one (T.suspend s) p) = S.one (S.suspend (place ns s)) (resolve ns ts p)
resolve ns ts (one T.loop p) = S.one S.loop (resolve ns ts p)
resolve ns ts (one (T.trap t) p) = S.one S.trap (resolve ns (t ∷ ts) p)
resolve ns ts (two (T.present s) p q) = S.two (S.present (place ns s)) (resolve ns ts p) (resolve ns ts q)
resolve ns ts (two T.sequence p q) = S.two S.sequence (resolve ns ts p) (resolve ns ts q)
resolve ns ts (two T.parallel p q) = S.two S.parallel (resolve ns ts p) (resolve ns ts q)

abbrev pub statement_of : Tree → Stmt
statement_of t = resolve (signals t) [] (expand t)

-- checks 8 and 9 of a program that was read from its table
abbrev pub check_nesting : Verdict → Verdict
check_nesting (refused number node) = refused number node
check_nesting (passed p) = refuse_at 8 (first_node too_deep (places_of p) 0) (refuse_at 9 (first_node too_many_traps (places_of p) 0) (passed p))

-- what is told of a tree by 15, by 16, or by neither
abbrev pub by_names : {A : Type 0} → Tree → (lost crowded neither : A) → A
by_names t lost crowded neither = cond (untrapped [] (expand t)) lost (cond (ltb max_signals (length (signals t))) crowded neither)

-- 15, 16, then the checks of the statement's table: 1, 8 and 9
abbrev pub verdict_of_tree : Tree → Verdict
verdict_of_tree t = by_names t (refused 15 0) (refused 16 0) (check_nesting (read (postfix (statement_of t))))

-- the byte where a derivation of a text is at fault: the name of an exit, or of a signal, for 15 and 16
abbrev pub place_of : (text : List ℕ) {t : Tree} → Program t (tokens text) → ℕ
place_of text {t = t} d = by_names t (byte_of text (lost_from [] d [])) (byte_of text (crowded_from [] false (tokens text))) 0

-- The verdict of a text, the number of its signals, and the byte where it is at fault, which is 0 where none is named. A text over the length is
-- refused 14, at the first byte over it; one that has no derivation 14 or 20; any other is told what its derivation's tree is told.
pub data VerdictOf (text : List ℕ) : Verdict → (signal_count place : ℕ) → Type 0 where
  overlong : max_source < length text → VerdictOf text (refused 14 0) 0 max_source
  faulty : (us : List Token) → length text ≤ max_source → Fault (tokens text) us → VerdictOf text (refused (number_of_fault us) 0) 0 (byte_of text us)
  derived : (t : Tree) → length text ≤ max_source → (d : Program t (tokens text)) → VerdictOf text (verdict_of_tree t) (length (signals t)) (place_of text d)
