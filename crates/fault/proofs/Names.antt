-- Levels and signals on a sheet.
use Rattle.std.proofs.Common.{◌≡◌, ℕ, ◌<◌, ◌≤◌, Bool, true, false, List, [], ◌∷◌, length, ltb, refl}
use borrow.Author.Tests.{le-ltb, ltb-true, ltb-false}
use Rattle.esterel.specs.Limits.{signals as max_signals}
use Rattle.grammar.specs.Limits.{max_levels}
use Rattle.grammar.specs.Kernel.{added}
use Rattle.grammar.specs.Progress as P
use Rattle.grammar.specs.Tree.{Name as Word}
use Rattle.grammar.specs.Search.{Closable, closed}
use Rattle.grammar.specs.Tokens as G
use Rattle.scan.specs.Scanning.{mark_is}
use Rattle.scan.specs.declared.Mark.{Mark}
use Rattle.scan.specs.declared.Mark.TheVariants as K
use Rattle.sheet.specs.declared.Sheet.{Sheet}
use Rattle.sheet.specs.Sheet.{part, Part, Filled}
use Rattle.sheet.proofs.Sheets.{empty-bounds, empty-part}
use Rattle.fault.specs.Walking.{met, Levels}

pub level-entered : {x : List ℕ} {w w' : Sheet} (at : ℕ) → ((ts : List Word) (g : P.Progress) → Part x at at → length ts < max_levels → Filled x w ts g → Filled x w' (part x at at ∷ ts) g) → (ls : List Word) → at ≤ length x → length ls < max_levels → Levels x w ls → Levels x w' (added ∷ ls)
level-entered {x} at f ls h i l = let q = f ls (met []) (empty-bounds x at h) i l in rw (empty-part x at) at q

pub end-closes : {x : List ℕ} {w w' : Sheet} (m : Mark) → m ≡ K.End → ((t : Word) (ts : List Word) (g : P.Progress) → Filled x w (t ∷ ts) g → Filled x w' ts g) → (ls : List Word) → Closable (mark_is m) ls → Levels x w ls → Levels x w' (closed (mark_is m) ls)
end-closes {x} {w} {w'} m e f ls h l = rw e (go ls (rw e at h) l)
  where
    go : (ls : List Word) → Closable G.end ls → Levels x w ls → Levels x w' (closed G.end ls)
    go [] h l = absurd h
    go (n ∷ ls) h l = f n ls (met []) l

-- the count of signals tells whether there are too many
pub crowd-told : {x : List ℕ} {w : Sheet} (ns : List Word) → Filled x w [] (met ns) → ltb 256 w.signal_count ≡ ltb max_signals (length ns)
crowd-told {x} {w} ns l = go (ltb max_signals (length ns)) refl
  where
    go : (b : Bool) → ltb max_signals (length ns) ≡ b → ltb 256 w.signal_count ≡ ltb max_signals (length ns)
    go true i = rw (i, l.many (ltb-true max_signals (length ns) i))
    go false i =
        let j : length ns ≤ max_signals = ltb-false max_signals (length ns) i in
        rw (i, l.counted j) (le-ltb 256 (length ns) j)
