-- Lists of names: a name's place, and a list with a name more.
use Rattle.std.specs.Prelude.{ℕ, suc, Bool, cond, List, [], ◌∷◌, ◌++◌, ltb, length}
use Rattle.grammar.specs.Tokens.{same_bytes}
use Rattle.grammar.specs.Tree.{Name}

-- the first place of a name in a list: the list's length where it has none such
abbrev pub place : List Name → Name → ℕ
place [] s = 0
place (n ∷ ns) s = cond (same_bytes n s) 0 (suc (place ns s))

abbrev pub has : List Name → Name → Bool
has ns s = ltb (place ns s) (length ns)

-- a list with a name, which is put at the end where it is new
abbrev pub see : List Name → Name → List Name
see ns s = cond (has ns s) ns (ns ++ (s ∷ []))
