-- Statements with names, as a text has them: the syntax trees of the grammar (F-1), with the forms of the everyday dialect (F-9).
use Rattle.std.specs.Prelude.{ℕ, suc, max, List}

abbrev pub Name : Type 0
Name = List ℕ

pub data Leaf : Type 0 where
  nothing : Leaf
  pause : Leaf
  emit : (s : Name) → Leaf
  exit : (t : Name) → Leaf

pub data Unary : Type 0 where
  signal : (s : Name) → Unary
  suspend : (s : Name) → Unary
  loop : Unary
  trap : (t : Name) → Unary

pub data Binary : Type 0 where
  present : (s : Name) → Binary  -- then, else
  sequence : Binary
  parallel : Binary

pub data Strength : Type 0 where
  strong weak : Strength

pub data Tree : Type 0 where
  leaf : (l : Leaf) → Tree
  one : (u : Unary) (p : Tree) → Tree
  two : (b : Binary) (p q : Tree) → Tree
  halt : Tree
  sustain : (s : Name) → Tree
  await : (s : Name) → Tree
  abort : (w : Strength) (s : Name) (p : Tree) → Tree

-- the levels of nesting: how many statements but sequences stand around each other in the tree. A bracket of m branches has m - 1 of them, while a
-- reader goes one level deep for it; so the readers never go deeper than this
abbrev pub over : Binary → ℕ → ℕ
over (present s) l = suc l
over sequence l = l
over parallel l = suc l

abbrev pub levels : Tree → ℕ
levels (leaf l) = 0
levels (one u p) = suc (levels p)
levels (two b p q) = over b (max (levels p) (levels q))
levels halt = 0
levels (sustain s) = 0
levels (await s) = 0
levels (abort w s p) = suc (levels p)
