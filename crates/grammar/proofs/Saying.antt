-- Only programs that a text can express are read from texts.
use mathlib.Core.Path.{◌≡◌, refl, sym, ap, subst, ◌∙◌}
use mathlib.Core.Bool.{Bool, true, false, ◌||◌, not}
use mathlib.Core.List.{List, [], ◌∷◌, ◌++◌}
use Prim.Native.Nat.{ℕ, suc, ◌≤◌, ◌<◌}
use native.Mathlib.Omega.{arith}
use lib.ListN.{length, length-append}
use borrow.Author.Tests.{lt-ltb, le-ltb, ltb-true, ltb-false}
use Rattle.esterel.specs.Statement.{Stmt}
use Rattle.grammar.specs.Tokens.{Token}
use Rattle.grammar.specs.Tree as T
use Rattle.grammar.specs.Tree.{Tree, Name}
use Rattle.grammar.specs.Kernel.{Kernel, leaf, one, two, expand}
use Rattle.grammar.specs.Grammar.{Category, statement, sequence, branches, Derives, a-nothing, a-pause, an-emit, an-exit, a-signal, a-trap, a-loop, a-suspend, a_then_else, a-then, an_else, a_bracket, a-halt, a-sustain, an-await, an-abort, a_weak_abort, a-single, a-sequence, a_pair, a-branch}
use Rattle.grammar.specs.Names.{place, has, see}
use Rattle.grammar.specs.Meaning.{signals_from, untrapped, resolve}
use Rattle.grammar.specs.Printing.{NoSequence, Flat, met, met_in, Ordered, Trapped}
use Rattle.grammar.proofs.Writing.{place_end, Longer, longer-then, longer-signals, longer-see, place_kept}

-- a statement is no sequence, so that the second of a sequence is none
abbrev FlatAs : Category → Stmt → Type 0
FlatAs statement p = Flat p × NoSequence p
FlatAs sequence p = Flat p
FlatAs branches p = Flat p × NoSequence p

pub flat : {w : Category} {p : Tree} {ts r : List Token} → Derives w p ts r → (ns us : List Name) → FlatAs w (resolve ns us (expand p))
flat a-nothing ns us = (tt, tt)
flat a-pause ns us = (tt, tt)
flat an-emit ns us = (tt, tt)
flat an-exit ns us = (tt, tt)
flat (a-signal d) ns us = (flat d ns us, tt)
flat (a-trap d) ns us = (flat d ns _, tt)
flat (a-loop d) ns us = (flat d ns us, tt)
flat (a-suspend d) ns us = (flat d ns us, tt)
flat (a_then_else d e) ns us = ((flat d ns us, flat e ns us), tt)
flat (a-then d) ns us = ((flat d ns us, tt), tt)
flat (an_else d) ns us = ((tt, flat d ns us), tt)
flat (a_bracket d) ns us = flat d ns us
flat a-halt ns us = (tt, tt)
flat a-sustain ns us = ((tt, tt, tt), tt)
flat an-await ns us = ((tt, (tt, tt), tt), tt)
flat (an-abort d) ns us = (((flat d ns _, tt, tt), (tt, (tt, tt), tt)), tt)
flat (a_weak_abort d) ns us = (((flat d ns _, tt, tt), (tt, (tt, tt), tt)), tt)
flat (a-single d) ns us = (flat d ns us).0
flat (a-sequence d e) ns us = (flat d ns us, (flat e ns us).0, (flat e ns us).1)
flat (a_pair d e) ns us = ((flat d ns us, flat e ns us), tt)
flat (a-branch d e) ns us = (((flat d ns us).0, flat e ns us), tt)

-- exits
or_left : (a b : Bool) → (a || b) ≡ false → a ≡ false
or_left true b e = e
or_left false b e = refl

or_right : (a b : Bool) → (a || b) ≡ false → b ≡ false
or_right true b e = let z : ◌≡◌ {A = ℕ} 0 1 = cc in absurd (omega arith)
or_right false b e = e

not-false-is : (a : Bool) → not a ≡ false → a ≡ true
not-false-is true e = refl
not-false-is false e = let z : ◌≡◌ {A = ℕ} 0 1 = cc in absurd (omega arith)

pub trapped : (ns ts : List Name) (t : Kernel) → untrapped ts t ≡ false → Trapped (length ts) (resolve ns ts t)
trapped ns ts (leaf T.nothing) h = tt
trapped ns ts (leaf T.pause) h = tt
trapped ns ts (leaf (T.emit s)) h = tt
trapped ns ts (leaf (T.exit t)) h = ltb-true (place ts t) (length ts) (not-false-is (has ts t) h)
trapped ns ts (one (T.signal s) p) h = trapped ns ts p h
trapped ns ts (one (T.suspend s) p) h = trapped ns ts p h
trapped ns ts (one T.loop p) h = trapped ns ts p h
trapped ns ts (one (T.trap t) p) h = trapped ns (t ∷ ts) p h
trapped ns ts (two (T.present s) p q) h = (trapped ns ts p (or_left _ _ h), trapped ns ts q (or_right (untrapped ts p) _ h))
trapped ns ts (two T.sequence p q) h = (trapped ns ts p (or_left _ _ h), trapped ns ts q (or_right (untrapped ts p) _ h))
trapped ns ts (two T.parallel p q) h = (trapped ns ts p (or_left _ _ h), trapped ns ts q (or_right (untrapped ts p) _ h))

-- a name that is met: its number in the whole list, and how many have been met then
pub record Met (ns fin : List Name) (s : Name) : Type 0 where
  pub low : place fin s ≤ length ns
  pub count : met (length ns) (place fin s) ≡ length (see ns s)

met-here : (ns fin : List Name) (s : Name) → Longer (see ns s) fin → Met ns fin s
met-here ns fin s l = go (has ns s) refl
  where
    go : (b : Bool) → has ns s ≡ b → Met ns fin s
    go true e =
        let i : place ns s < length ns = ltb-true (place ns s) (length ns) e in
        let f : see ns s ≡ ns = rw e in
        let p : place fin s ≡ place ns s = (place_kept s i (rw f at l)).0 in
        record { low = omega arith; count = rw (f, lt-ltb (place fin s) (length ns) (omega arith)) }
    go false e =
        let i : length ns ≤ place ns s = ltb-false (place ns s) (length ns) e in
        let f : see ns s ≡ ns ++ (s ∷ []) = rw e in
        let q : place (ns ++ (s ∷ [])) s ≡ length ns = place_end ns s i in
        let n : length (ns ++ (s ∷ [])) ≡ suc (length ns) = length-append ns (s ∷ []) ∙ omega arith in
        let p : place fin s ≡ place (ns ++ (s ∷ [])) s = (place_kept s (omega arith) (rw f at l)).0 in
        record { low = omega arith; count = rw (f, le-ltb (place fin s) (length ns) (omega arith)) (sym n) }

-- signals
pub record InTurn (ns : List Name) (t : Kernel) (p : Stmt) : Type 0 where
  pub order : Ordered (length ns) p
  pub count : met_in (length ns) p ≡ length (signals_from ns t)

-- the same, where so many have been met
moved : (a b : ℕ) → a ≡ b → (p : Stmt) → Ordered b p → {n : ℕ} → met_in b p ≡ n → Ordered a p × (met_in a p ≡ n)
moved a b e p o c = (subst (λ (x : ℕ). Ordered x p) (sym e) o, ap (λ (x : ℕ). met_in x p) e ∙ c)

pub in_turn : (fin ts ns : List Name) (t : Kernel) → Longer (signals_from ns t) fin → InTurn ns t (resolve fin ts t)
in_turn fin ts ns (leaf T.nothing) l = record { order = tt; count = refl }
in_turn fin ts ns (leaf T.pause) l = record { order = tt; count = refl }
in_turn fin ts ns (leaf (T.emit s)) l = let m = met-here ns fin s l in record { order = m.low; count = m.count }
in_turn fin ts ns (leaf (T.exit t)) l = record { order = tt; count = refl }
in_turn fin ts ns (one (T.signal s) p) l =
    let m = met-here ns fin s (longer-then (longer-signals p (see ns s)) l) in
    let o = in_turn fin ts (see ns s) p l in
    let v = moved (met (length ns) (place fin s)) (length (see ns s)) m.count (resolve fin ts p) o.order o.count in
    record { order = (m.low, v.0); count = v.1 }
in_turn fin ts ns (one (T.suspend s) p) l =
    let o = in_turn fin ts ns p (longer-then (longer-see (signals_from ns p) s) l) in
    let m = met-here (signals_from ns p) fin s l in
    record { order = (o.order, omega (arith, m.low, o.count)); count = ap (λ (x : ℕ). met x (place fin s)) o.count ∙ m.count }
in_turn fin ts ns (one T.loop p) l = let o = in_turn fin ts ns p l in record { order = o.order; count = o.count }
in_turn fin ts ns (one (T.trap t) p) l = let o = in_turn fin (t ∷ ts) ns p l in record { order = o.order; count = o.count }
in_turn fin ts ns (two (T.present s) p q) l =
    let m = met-here ns fin s (longer-then (longer-then (longer-signals p (see ns s)) (longer-signals q (signals_from (see ns s) p))) l) in
    let o = in_turn fin ts (see ns s) p (longer-then (longer-signals q (signals_from (see ns s) p)) l) in
    let u = in_turn fin ts (signals_from (see ns s) p) q l in
    let v = moved (met (length ns) (place fin s)) (length (see ns s)) m.count (resolve fin ts p) o.order o.count in
    let w = moved (met_in (met (length ns) (place fin s)) (resolve fin ts p)) (length (signals_from (see ns s) p)) v.1 (resolve fin ts q) u.order u.count in
    record { order = (m.low, v.0, w.0); count = w.1 }
in_turn fin ts ns (two T.sequence p q) l =
    let o = in_turn fin ts ns p (longer-then (longer-signals q (signals_from ns p)) l) in
    let u = in_turn fin ts (signals_from ns p) q l in
    let w = moved (met_in (length ns) (resolve fin ts p)) (length (signals_from ns p)) o.count (resolve fin ts q) u.order u.count in
    record { order = (o.order, w.0); count = w.1 }
in_turn fin ts ns (two T.parallel p q) l =
    let o = in_turn fin ts ns p (longer-then (longer-signals q (signals_from ns p)) l) in
    let u = in_turn fin ts (signals_from ns p) q l in
    let w = moved (met_in (length ns) (resolve fin ts p)) (length (signals_from ns p)) o.count (resolve fin ts q) u.order u.count in
    record { order = (o.order, w.0); count = w.1 }
