-- The first exit without its trap, found from the tokens alone: each statement that `end` closes counts as a trap, without a name where it is none.
use mathlib.Core.Path.{◌≡◌, refl, sym, ap, ◌∙◌}
use mathlib.Core.Bool.{Bool, true, false}
use mathlib.Core.List.{List, [], ◌∷◌}
use Prim.Native.Nat.{ℕ, suc, ◌+◌, ◌<◌}
use native.Mathlib.Omega.{arith}
use lib.Dec.{ltb}
use lib.ListN.{length}
use borrow.Author.Tests.{lt-ltb, le-ltb, ltb-true, ltb-false}
use Rattle.grammar.specs.Limits.{max_levels}
use Rattle.grammar.specs.Tokens.{Token, same_bytes}
use Rattle.grammar.specs.Tree.{Tree, Name, levels}
use Rattle.grammar.specs.Kernel.{added}
use Rattle.grammar.specs.Grammar.{Category, Derives, a-nothing, a-pause, an-emit, an-exit, a-signal, a-trap, a-loop, a-suspend, a_then_else, a-then, an_else, a_bracket, a-halt, a-sustain, an-await, an-abort, a_weak_abort, a-single, a-sequence, a_pair, a-branch, Program}
use Rattle.grammar.specs.Names.{place, has}
use Rattle.grammar.specs.Faults.{lost_from}
use Rattle.grammar.specs.Search.{no_name, look, Room}
use Rattle.grammar.proofs.Letters.{Lettered, letters-left}

-- lists that have the same names, but for that of no letters
pub record Same (ls ts : List Name) : Type 0 where
  pub is : (t : Name) → (t ≡ [] → ⊥) → has ls t ≡ has ts t

shift : (a b : ℕ) → ltb (suc a) (suc b) ≡ ltb a b
shift a b = go (ltb a b) refl
  where
    go : (c : Bool) → ltb a b ≡ c → ltb (suc a) (suc b) ≡ c
    go true e = lt-ltb (suc a) (suc b) (omega (arith, ltb-true a b e))
    go false e = le-ltb (suc a) (suc b) (omega (arith, ltb-false a b e))

nameless : (ls : List Name) (t : Name) → (t ≡ [] → ⊥) → has (added ∷ ls) t ≡ has ls t
nameless ls [] h = absurd (h refl)
nameless ls (b ∷ t) h = shift (place ls (b ∷ t)) (length ls)

plain : {ls ts : List Name} → Same ls ts → Same (added ∷ ls) ts
plain {ls = ls} s = record { is = λ t h. nameless ls t h ∙ s.is t h }

both : {ls ts : List Name} (n : Name) → Same ls ts → Same (n ∷ ls) (n ∷ ts)
both {ls = ls} {ts = ts} n s = record { is = λ t h. go t (same_bytes n t) refl (s.is t h) }
  where
    go : (t : Name) (b : Bool) → same_bytes n t ≡ b → has ls t ≡ has ts t → has (n ∷ ls) t ≡ has (n ∷ ts) t
    go t true e f = rw e (lt-ltb 0 (suc (length ls)) (omega arith) ∙ sym (lt-ltb 0 (suc (length ts)) (omega arith)))
    go t false e f = rw e (shift (place ls t) (length ls) ∙ f ∙ sym (shift (place ts t) (length ts)))

-- what is looked for in a derivation's tokens, and then in those after it
found : {what : Category} {p : Tree} {us r : List Token} (d : Derives what p us r) (ls ts : List Name) → Same ls ts → Lettered us → look no_name ls us ≡ lost_from ts d (look no_name ls r)
found a-nothing ls ts s l = refl
found a-pause ls ts s l = refl
found an-emit ls ts s l = refl
found (an-exit {t = t}) ls ts s l = rw (s.is t l.0)
found (a-signal d) ls ts s l = found d (added ∷ ls) ts (plain s) l.1
found (a-trap {t = t} d) ls ts s l = found d (t ∷ ls) (t ∷ ts) (both t s) l.1
found (a-loop d) ls ts s l = found d (added ∷ ls) ts (plain s) l
found (a-suspend d) ls ts s l = found d ls ts s l
found (a_then_else d e) ls ts s l = found d (added ∷ ls) ts (plain s) l.1 ∙ ap (lost_from ts d) (found e (added ∷ ls) ts (plain s) (letters-left d l.1))
found (a-then d) ls ts s l = found d (added ∷ ls) ts (plain s) l.1
found (an_else d) ls ts s l = found d (added ∷ ls) ts (plain s) l.1
found (a_bracket d) ls ts s l = found d ls ts s l
found a-halt ls ts s l = refl
found a-sustain ls ts s l = refl
found an-await ls ts s l = refl
found (an-abort d) ls ts s l = found d (added ∷ ls) (added ∷ ts) (both added s) l
found (a_weak_abort d) ls ts s l = found d (added ∷ ls) (added ∷ ts) (both added s) l
found (a-single d) ls ts s l = found d ls ts s l
found (a-sequence d e) ls ts s l = found d ls ts s l ∙ ap (lost_from ts d) (found e ls ts s (letters-left d l))
found (a_pair d e) ls ts s l = found d ls ts s l ∙ ap (lost_from ts d) (found e ls ts s (letters-left d l))
found (a-branch d e) ls ts s l = found d ls ts s l ∙ ap (lost_from ts d) (found e ls ts s (letters-left d l))

-- no more statements are open at a time than there are levels
fits : {what : Category} {p : Tree} {us r : List Token} → Derives what p us r → (ls : List Name) → length ls + levels p < max_levels → Room no_name ls r → Room no_name ls us
fits a-nothing ls h o = (omega arith, o)
fits a-pause ls h o = (omega arith, o)
fits an-emit ls h o = (omega arith, (omega arith, o))
fits an-exit ls h o = (omega arith, (omega arith, o))
fits (a-signal d) ls h o = (omega arith, (omega arith, (omega arith, tt, fits d (added ∷ ls) (omega arith) (omega arith, tt, o))))
fits (a-trap {t = t} d) ls h o = (omega arith, (omega arith, (omega arith, tt, fits d (t ∷ ls) (omega arith) (omega arith, tt, o))))
fits (a-loop d) ls h o = (omega arith, fits d (added ∷ ls) (omega arith) (omega arith, tt, o))
fits (a-suspend d) ls h o = (omega arith, fits d ls (omega arith) (omega arith, tt, (omega arith, o)))
fits (a_then_else d e) ls h o = (omega arith, (omega arith, (omega arith, tt, fits d (added ∷ ls) (omega arith) (omega arith, tt, fits e (added ∷ ls) (omega arith) (omega arith, tt, o)))))
fits (a-then d) ls h o = (omega arith, (omega arith, (omega arith, tt, fits d (added ∷ ls) (omega arith) (omega arith, tt, o))))
fits (an_else d) ls h o = (omega arith, (omega arith, (omega arith, tt, fits d (added ∷ ls) (omega arith) (omega arith, tt, o))))
fits (a_bracket d) ls h o = (omega arith, fits d ls h (omega arith, tt, o))
fits a-halt ls h o = (omega arith, o)
fits a-sustain ls h o = (omega arith, (omega arith, o))
fits an-await ls h o = (omega arith, (omega arith, o))
fits (an-abort d) ls h o = (omega arith, fits d (added ∷ ls) (omega arith) (omega arith, tt, (omega arith, (omega arith, tt, o))))
fits (a_weak_abort d) ls h o = (omega arith, (omega arith, fits d (added ∷ ls) (omega arith) (omega arith, tt, (omega arith, (omega arith, tt, o)))))
fits (a-single d) ls h o = fits d ls h o
fits (a-sequence d e) ls h o = fits d ls (omega arith) (omega arith, tt, fits e ls (omega arith) o)
fits (a_pair d e) ls h o = fits d ls (omega arith) (omega arith, tt, fits e ls (omega arith) o)
fits (a-branch d e) ls h o = fits d ls (omega arith) (omega arith, tt, fits e ls (omega arith) o)

none-around : Same [] []
none-around = record { is = λ t h. refl }

-- of a whole program
pub look-finds : (t : Tree) (ts : List Token) (d : Program t ts) → Lettered ts → look no_name [] ts ≡ lost_from [] d []
look-finds t ts d l = found d [] [] none-around l

pub look-fits : (t : Tree) (ts : List Token) → Program t ts → levels t < max_levels → Room no_name [] ts
look-fits t ts d h = fits d [] (omega arith) tt
