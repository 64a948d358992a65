-- A search for the first exit without its trap, over the tokens alone: for the contract of the code that looks for it. That it finds the exit that
-- the derivation names is proved (proofs/Exits).
use Rattle.std.specs.Prelude.{◌<◌, cond, List, [], ◌∷◌, length}
use Rattle.grammar.specs.Limits.{max_levels}
use Rattle.grammar.specs.Tokens.{Token, opening, mark, name, foreign, stray, Opening, Mark, nothing, pause, emit, exit, signal, trap, loop, present, suspend, bracket, halt, sustain, await, abort, weak, semicolon, bars, close, in-mark, then, else, end, when}
use Rattle.grammar.specs.Tree.{Name}
use Rattle.grammar.specs.Kernel.{added}
use Rattle.grammar.specs.Names.{has}

-- whose name comes next
pub data Want : Type 0 where
  no_name a_trap an_exit : Want

abbrev pub wants : Opening → Want
wants nothing = no_name
wants pause = no_name
wants emit = no_name
wants exit = an_exit
wants signal = no_name
wants trap = a_trap
wants loop = no_name
wants present = no_name
wants suspend = no_name
wants bracket = no_name
wants halt = no_name
wants sustain = no_name
wants await = no_name
wants abort = no_name
wants weak = no_name

-- Each statement that `end` closes is counted as a trap; one that is none has no name.
abbrev pub opened : Opening → List Name → List Name
opened nothing ls = ls
opened pause ls = ls
opened emit ls = ls
opened exit ls = ls
opened signal ls = added ∷ ls
opened trap ls = ls
opened loop ls = added ∷ ls
opened present ls = added ∷ ls
opened suspend ls = ls
opened bracket ls = ls
opened halt ls = ls
opened sustain ls = ls
opened await ls = ls
opened abort ls = added ∷ ls
opened weak ls = ls

abbrev pub closed : Mark → List Name → List Name
closed semicolon ls = ls
closed bars ls = ls
closed close ls = ls
closed in-mark ls = ls
closed then ls = ls
closed else ls = ls
closed end [] = []
closed end (n ∷ ls) = ls
closed when ls = ls

-- an end closes something
abbrev pub Closable : Mark → List Name → Type 0
Closable semicolon ls = Unit {0}
Closable bars ls = Unit {0}
Closable close ls = Unit {0}
Closable in-mark ls = Unit {0}
Closable then ls = Unit {0}
Closable else ls = Unit {0}
Closable end [] = ⊥
Closable end (n ∷ ls) = Unit {0}
Closable when ls = Unit {0}

-- the tokens from its name on
abbrev pub look : Want → List Name → List Token → List Token
look w ls [] = []
look w ls (opening o ∷ ts) = look (wants o) (opened o ls) ts
look w ls (mark m ∷ ts) = look no_name (closed m ls) ts
look no_name ls (name n ∷ ts) = look no_name ls ts
look a_trap ls (name n ∷ ts) = look no_name (n ∷ ls) ts
look an_exit ls (name n ∷ ts) = cond (has ls n) (look no_name ls ts) (name n ∷ ts)
look w ls (foreign ∷ ts) = look no_name ls ts
look w ls (stray ∷ ts) = look no_name ls ts

-- never are too many open, and none is closed that is not open
abbrev pub Room : Want → List Name → List Token → Type 0
Room w ls [] = Unit {0}
Room w ls (opening o ∷ ts) = (length ls < max_levels) × Room (wants o) (opened o ls) ts
Room w ls (mark m ∷ ts) = (length ls < max_levels) × Closable m ls × Room no_name (closed m ls) ts
Room no_name ls (name n ∷ ts) = (length ls < max_levels) × Room no_name ls ts
Room a_trap ls (name n ∷ ts) = (length ls < max_levels) × Room no_name (n ∷ ls) ts
Room an_exit ls (name n ∷ ts) = (length ls < max_levels) × Room no_name ls ts
Room w ls (foreign ∷ ts) = (length ls < max_levels) × Room no_name ls ts
Room w ls (stray ∷ ts) = (length ls < max_levels) × Room no_name ls ts
