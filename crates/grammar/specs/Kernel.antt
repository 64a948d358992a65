-- Statements of the kernel, still with names, and what the forms of the everyday dialect stand for there (F-9): Berry's definitions.
use Rattle.grammar.specs.Tree as T
use Rattle.grammar.specs.Tree.{Tree, Name, Leaf, Unary, Binary}
use Rattle.std.specs.Prelude.{[]}

pub data Kernel : Type 0 where
  leaf : (l : Leaf) → Kernel
  one : (u : Unary) (p : Kernel) → Kernel
  two : (b : Binary) (p q : Kernel) → Kernel

-- A trap that a form adds has a name of no letters, which no exit of a text has: so an exit that leaves the form counts this trap as any other,
-- and none of the text's means it.
abbrev pub added : Name
added = []

-- halt is a loop of pause
abbrev pub halt_of : Kernel
halt_of = one T.loop (leaf T.pause)

-- sustain is a loop of emit and pause
abbrev pub sustain_of : Name → Kernel
sustain_of s = one T.loop (two T.sequence (leaf (T.emit s)) (leaf T.pause))

-- the await loop: pause, and an exit of the added trap if the signal is present
abbrev pub await_loop : Name → Kernel
await_loop s = one T.loop (two T.sequence (leaf T.pause) (two (T.present s) (leaf (T.exit added)) (leaf T.nothing)))

-- await is a trap around the await loop
abbrev pub await_of : Name → Kernel
await_of s = one (T.trap added) (await_loop s)

-- the body of an abort is suspended when the signal is present, that of a weak abort is not
abbrev pub guarded : T.Strength → Name → Kernel → Kernel
guarded T.strong s p = one (T.suspend s) p
guarded T.weak s p = p

-- abort is a trap around two branches: the body followed by an exit, and the await loop
abbrev pub abort_of : T.Strength → Name → Kernel → Kernel
abort_of w s p = one (T.trap added) (two T.parallel (two T.sequence (guarded w s p) (leaf (T.exit added))) (await_loop s))

abbrev pub expand : Tree → Kernel
expand (T.leaf l) = leaf l
expand (T.one u p) = one u (expand p)
expand (T.two b p q) = two b (expand p) (expand q)
expand T.halt = halt_of
expand (T.sustain s) = sustain_of s
expand (T.await s) = await_of s
expand (T.abort w s p) = abort_of w s (expand p)
