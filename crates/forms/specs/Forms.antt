-- What is proved of the forms of the everyday dialect (F-9): the statements. The proofs are in proofs/.
use Rattle.std.specs.Prelude.{ℕ, suc, ◌≡◌, cond, List, [], ◌∷◌, ltb}
use Rattle.esterel.specs.Codes.{only}
use Rattle.esterel.specs.Statement.{Stmt, leaf, one, two, nothing, pause, emit, exit, signal, suspend, loop, trap, present, sequence, parallel}
use Rattle.esterel.specs.Sets.{start_set}
use Rattle.grammar.specs.Tokens.{tokens}
use Rattle.grammar.specs.Tree as T
use Rattle.grammar.specs.Tree.{Tree, Name}
use Rattle.grammar.specs.Kernel.{added, expand}
use Rattle.grammar.specs.Grammar.{Program}
use Rattle.grammar.specs.Names.{place}
use Rattle.grammar.specs.Meaning.{resolve}

-- The statement with every exit that leaves it one level further out: under one trap more, such an exit still goes where it did. d traps of its own
-- stand around, and an exit to one of them stays.
abbrev pub lift : ℕ → Stmt → Stmt
lift d (leaf nothing) = leaf nothing
lift d (leaf pause) = leaf pause
lift d (leaf (emit s)) = leaf (emit s)
lift d (leaf (exit level)) = leaf (exit (cond (ltb level d) level (suc level)))
lift d (one (signal s) p) = one (signal s) (lift d p)
lift d (one (suspend s) p) = one (suspend s) (lift d p)
lift d (one loop p) = one loop (lift d p)
lift d (one trap p) = one trap (lift (suc d) p)
lift d (two b p q) = two b (lift d p) (lift d q)

-- No exit's name in the tree is empty: the name of no letters is that of the traps that forms add, which no exit of a text means.
abbrev pub Lettered : Tree → Type 0
Lettered (T.leaf T.nothing) = Unit {0}
Lettered (T.leaf T.pause) = Unit {0}
Lettered (T.leaf (T.emit s)) = Unit {0}
Lettered (T.leaf (T.exit t)) = t ≡ [] → ⊥
Lettered (T.one u p) = Lettered p
Lettered (T.two b p q) = Lettered p × Lettered q
Lettered T.halt = Unit {0}
Lettered (T.sustain s) = Unit {0}
Lettered (T.await s) = Unit {0}
Lettered (T.abort w s p) = Lettered p

-- the loop of an await and of an abort, within their trap: a pause, and an exit of that trap if the signal is present
abbrev pub awaiting : ℕ → Stmt
awaiting s = one loop (two sequence (leaf pause) (two (present s) (leaf (exit 0)) (leaf nothing)))

-- a strong abort suspends its body when the signal is present, a weak one does not
abbrev pub guarded_by : T.Strength → ℕ → Stmt → Stmt
guarded_by T.strong s p = one (suspend s) p
guarded_by T.weak s p = p

-- Of every place where a form can stand: ns are the signals of the text, ts the names of the traps around, the nearest first.
pub record OfForms : Type 0 where
  -- under an added trap a statement is the same, except that the exits that leave it count that trap
  pub lifts : (ns ts : List Name) (p : Tree) → Lettered p → resolve ns (added ∷ ts) (expand p) ≡ lift 0 (resolve ns ts (expand p))
  -- what each form is as a statement; an abort is a trap around two branches: its body followed by an exit of the trap, and the await loop
  pub halt_is : (ns ts : List Name) → resolve ns ts (expand T.halt) ≡ one loop (leaf pause)
  pub sustain_is : (ns ts : List Name) (s : Name) →
      resolve ns ts (expand (T.sustain s)) ≡ one loop (two sequence (leaf (emit (place ns s))) (leaf pause))
  pub await_is : (ns ts : List Name) (s : Name) → resolve ns ts (expand (T.await s)) ≡ one trap (awaiting (place ns s))
  pub abort_is : (ns ts : List Name) (w : T.Strength) (s : Name) (p : Tree) → Lettered p →
      resolve ns ts (expand (T.abort w s p)) ≡
      one trap (two parallel (two sequence (guarded_by w (place ns s) (lift 0 (resolve ns ts (expand p)))) (leaf (exit 0))) (awaiting (place ns s)))
  -- halt, sustain and await pause at their start, and can do nothing else
  pub halts : (ns ts : List Name) (k : ℕ) → start_set (resolve ns ts (expand T.halt)) k ≡ only 1 k
  pub sustains : (ns ts : List Name) (s : Name) (k : ℕ) → start_set (resolve ns ts (expand (T.sustain s))) k ≡ only 1 k
  pub awaits : (ns ts : List Name) (s : Name) (k : ℕ) → start_set (resolve ns ts (expand (T.await s))) k ≡ only 1 k
  -- the start set of either abort is that of p written in its place, without the added trap; the abort's own signal may be missing from the text
  -- then, which numbers the others anew: they are ns'
  pub aborts : (ns ns' ts : List Name) (w : T.Strength) (s : Name) (p : Tree) → Lettered p → (k : ℕ) →
      start_set (resolve ns ts (expand (T.abort w s p))) k ≡ start_set (resolve ns' ts (expand p)) k
  -- every tree of a text has lettered exits, so that the others hold of it
  pub of_text : (text : List ℕ) (t : Tree) → Program t (tokens text) → Lettered t
