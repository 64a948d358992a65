-- Under an added trap a statement is the same, except that the exits that leave it count that trap.
use mathlib.Core.Path.{◌≡◌, refl, ap, ap₂, ◌∙◌}
use mathlib.Core.Bool.{Bool, true, false, cond}
use mathlib.Core.List.{List, [], ◌∷◌, ◌++◌}
use Prim.Native.Nat.{ℕ, suc}
use native.Mathlib.Omega.{arith}
use lib.Dec.{ltb, leb-suc-suc}
use lib.ListN.{length}
use borrow.Author.Tests.{lt-ltb, le-ltb}
use Rattle.esterel.specs.Statement as S
use Rattle.grammar.specs.Tokens.{same_bytes}
use Rattle.grammar.specs.Tree as T
use Rattle.grammar.specs.Tree.{Tree, Name}
use Rattle.grammar.specs.Kernel.{Kernel, added, abort_of, expand}
use Rattle.grammar.specs.Names.{place}
use Rattle.grammar.specs.Meaning.{resolve}
use Rattle.forms.specs.Forms.{lift, Lettered}

-- an exit to the nearest trap stays, as those that a form adds
nearest : (d : ℕ) → ltb 0 (suc d) ≡ true
nearest d = lt-ltb 0 (suc d) (omega arith)

-- where both are one more
deeper : (level d : ℕ) → suc (cond (ltb level d) level (suc level)) ≡ cond (ltb (suc level) (suc d)) (suc level) (suc (suc level))
deeper level d = rw (leb-suc-suc (suc level) d) (go (ltb level d))
  where
    go : (c : Bool) → suc (cond c level (suc level)) ≡ cond c (suc level) (suc (suc level))
    go true = refl
    go false = refl

-- the place of a name where a trap is added, within which stand the traps us
counted : (us ts : List Name) (t : Name) → (t ≡ [] → ⊥) →
    place (us ++ (added ∷ ts)) t ≡ cond (ltb (place (us ++ ts) t) (length us)) (place (us ++ ts) t) (suc (place (us ++ ts) t))
counted [] ts [] h = absurd (h refl)
counted [] ts (b ∷ t) h = rw (le-ltb (place ts (b ∷ t)) 0 (omega arith))
counted (n ∷ us) ts t h = go (same_bytes n t) (place (us ++ ts) t) (counted us ts t h)
  where
    go : (c : Bool) (level : ℕ) {x : ℕ} → x ≡ cond (ltb level (length us)) level (suc level) →
        cond c 0 (suc x) ≡ cond (ltb (cond c 0 (suc level)) (suc (length us))) (cond c 0 (suc level)) (suc (cond c 0 (suc level)))
    go true level e = rw (nearest (length us))
    go false level e = ap suc e ∙ deeper level (length us)

-- the exits that an abort adds are to its own trap
aborted : (ns us ts : List Name) (w : T.Strength) (s : Name) (p : Kernel) →
    resolve ns (added ∷ us ++ (added ∷ ts)) p ≡ lift (suc (length us)) (resolve ns (added ∷ us ++ ts) p) →
    resolve ns (us ++ (added ∷ ts)) (abort_of w s p) ≡ lift (length us) (resolve ns (us ++ ts) (abort_of w s p))
aborted ns us ts T.strong s p e = rw (e, nearest (length us))
aborted ns us ts T.weak s p e = rw (e, nearest (length us))

-- the whole, with the traps us within
lifted : (ns us ts : List Name) (p : Tree) → Lettered p →
    resolve ns (us ++ (added ∷ ts)) (expand p) ≡ lift (length us) (resolve ns (us ++ ts) (expand p))
lifted ns us ts (T.leaf T.nothing) h = refl
lifted ns us ts (T.leaf T.pause) h = refl
lifted ns us ts (T.leaf (T.emit s)) h = refl
lifted ns us ts (T.leaf (T.exit t)) h = ap (λ level. S.leaf (S.exit level)) (counted us ts t h)
lifted ns us ts (T.one (T.signal s) p) h = ap (S.one (S.signal (place ns s))) (lifted ns us ts p h)
lifted ns us ts (T.one (T.suspend s) p) h = ap (S.one (S.suspend (place ns s))) (lifted ns us ts p h)
lifted ns us ts (T.one T.loop p) h = ap (S.one S.loop) (lifted ns us ts p h)
lifted ns us ts (T.one (T.trap t) p) h = ap (S.one S.trap) (lifted ns (t ∷ us) ts p h)
lifted ns us ts (T.two (T.present s) p q) h = ap₂ (S.two (S.present (place ns s))) (lifted ns us ts p h.0) (lifted ns us ts q h.1)
lifted ns us ts (T.two T.sequence p q) h = ap₂ (S.two S.sequence) (lifted ns us ts p h.0) (lifted ns us ts q h.1)
lifted ns us ts (T.two T.parallel p q) h = ap₂ (S.two S.parallel) (lifted ns us ts p h.0) (lifted ns us ts q h.1)
lifted ns us ts T.halt h = refl
lifted ns us ts (T.sustain s) h = refl
lifted ns us ts (T.await s) h = rw (nearest (length us))
lifted ns us ts (T.abort w s p) h = aborted ns us ts w s (expand p) (lifted ns (added ∷ us) ts p h)

-- where the added trap is the nearest
pub lifts : (ns ts : List Name) (p : Tree) → Lettered p → resolve ns (added ∷ ts) (expand p) ≡ lift 0 (resolve ns ts (expand p))
lifts ns ts p h = lifted ns [] ts p h
