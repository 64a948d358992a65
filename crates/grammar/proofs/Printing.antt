-- The tree of a program with names by number means that program.
use mathlib.Core.Path.{◌≡◌, refl, sym, ap, ◌∙◌}
use mathlib.Core.Bool.{Bool, true, false, cond}
use mathlib.Core.List.{List, [], ◌∷◌, ◌++◌}
use Prim.Native.Nat.{ℕ, zero, suc, ◌+◌, ◌-◌, ◌/◌, ◌≤◌, ◌<◌}
use native.Mathlib.Omega.{arith}
use lib.Dec.{eqb, ltb}
use lib.ListN.{length, length-append}
use borrow.Author.Tests.{lt-ltb, le-ltb, ltb-true, ltb-false, eqb-true}
use Rattle.esterel.specs.Statement as S
use Rattle.esterel.specs.Statement.{Stmt, size}
use Rattle.grammar.specs.Tokens.{same_bytes}
use Rattle.grammar.specs.Tree.{Name}
use Rattle.grammar.specs.Names.{place, has, see}
use Rattle.grammar.specs.Meaning.{signals_from, untrapped, resolve}
use Rattle.grammar.specs.Printing.{letter, name_of, named, met, met_in, Ordered, Trapped}
use Rattle.grammar.proofs.Writing.{same_name, place_in, place_end}

-- numbers that have names of their own
abbrev pub most : ℕ
most = 17576

small : (x y : ℕ) → x < 26 → y < 26 → letter x ≡ letter y → x ≡ y
small x y h k e = omega arith

first_small : (a : ℕ) → a < most → a / 26 / 26 < 26
first_small a h = omega arith

step : (a b : ℕ) → a / 26 ≡ b / 26 → letter a ≡ letter b → a ≡ b
step a b h e = omega arith

same_number : (a b : ℕ) → a < most → b < most → letter (a / 26 / 26) ≡ letter (b / 26 / 26) → letter (a / 26) ≡ letter (b / 26) → letter a ≡ letter b → a ≡ b
same_number a b h k x y z = step a b (step (a / 26) (b / 26) (small (a / 26 / 26) (b / 26 / 26) (first_small a h) (first_small b k) x) y) z

names_differ : (a b : ℕ) → a < most → b < most → (a ≡ b → ⊥) → same_bytes (name_of a) (name_of b) ≡ false
names_differ a b h k n = go (eqb (letter (a / 26 / 26)) (letter (b / 26 / 26))) refl (eqb (letter (a / 26)) (letter (b / 26))) refl (eqb (letter a) (letter b)) refl
  where
    go : (p : Bool) → eqb (letter (a / 26 / 26)) (letter (b / 26 / 26)) ≡ p → (q : Bool) → eqb (letter (a / 26)) (letter (b / 26)) ≡ q → (r : Bool) → eqb (letter a) (letter b) ≡ r → same_bytes (name_of a) (name_of b) ≡ false
    go false e q f r g = rw e
    go true e false f r g = rw (e, f)
    go true e true f false g = rw (e, f, g)
    go true e true f true g = absurd (n (same_number a b h k (eqb-true _ _ e) (eqb-true _ _ f) (eqb-true _ _ g)))

-- the first m names, in order
abbrev pub name_list : ℕ → List Name
name_list zero = []
name_list (suc m) = name_list m ++ (name_of m ∷ [])

pub long : (m : ℕ) → length (name_list m) ≡ m
long zero = refl
long (suc m) = length-append (name_list m) (name_of m ∷ []) ∙ omega (arith, long m)

-- another name at the end leaves a name that is not in a list outside
place_out : (ns : List Name) (x s : Name) → place ns s ≡ length ns → same_bytes x s ≡ false → place (ns ++ (x ∷ [])) s ≡ suc (length ns)
place_out [] x s h e = rw e
place_out (n ∷ ns) x s h e = go (same_bytes n s) refl (λ i. place_out ns x s i e)
  where
    go : (c : Bool) → same_bytes n s ≡ c → (place ns s ≡ length ns → place (ns ++ (x ∷ [])) s ≡ suc (length ns)) → cond (same_bytes n s) 0 (suc (place (ns ++ (x ∷ [])) s)) ≡ suc (suc (length ns))
    go true f ih = let g : place (n ∷ ns) s ≡ 0 = rw f in absurd (omega arith)
    go false f ih = let g : place (n ∷ ns) s ≡ suc (place ns s) = rw f in rw f (ap suc (ih (omega arith)))

-- a name has the place of its number, or none
pub record PlaceOf (m s : ℕ) : Type 0 where
  pub known : s < m → place (name_list m) (name_of s) ≡ s
  pub unknown : m ≤ s → place (name_list m) (name_of s) ≡ m

place_of : (m s : ℕ) → m ≤ most → s < most → PlaceOf m s
place_of zero s h k = record { known = λ i. absurd (omega arith); unknown = λ i. refl }
place_of (suc m) s h k = go (place_of m s (omega arith) k)
  where
    go : PlaceOf m s → PlaceOf (suc m) s
    go o = record {
      known = λ i. at i (ltb s m) refl;
      unknown = λ i. place_out (name_list m) (name_of m) (name_of s) (o.unknown (omega arith) ∙ sym (long m)) (names_differ m s (omega arith) k (λ e. omega arith)) ∙ ap suc (long m);
    }
      where
        at : s < suc m → (b : Bool) → ltb s m ≡ b → place (name_list (suc m)) (name_of s) ≡ s
        at i true e =
            let j : s < m = ltb-true s m e in
            place_in (name_list m) (name_of m ∷ []) (name_of s) (omega (arith, o.known j, long m)) ∙ o.known j
        at i false e =
            let j : s ≡ m = omega (arith, ltb-false s m e) in
            let f : place (name_list m ++ (name_of s ∷ [])) (name_of s) ≡ length (name_list m) = place_end (name_list m) (name_of s) (omega (arith, o.unknown (omega arith), long m)) in
            let g : name_list (suc m) ≡ name_list m ++ (name_of s ∷ []) = rw j in
            rw g (f ∙ long m ∙ sym j)

-- a name that is met
met-above : (m s : ℕ) → s ≤ m → s < met m s
met-above m s h = go (ltb s m) refl
  where
    go : (b : Bool) → ltb s m ≡ b → s < cond b m (suc m)
    go true e = ltb-true s m e
    go false e = omega arith

met-more : (m s : ℕ) → m ≤ met m s
met-more m s = go (ltb s m)
  where
    go : (b : Bool) → m ≤ cond b m (suc m)
    go true = omega arith
    go false = omega arith

see-met : (m s : ℕ) → s ≤ m → m < most → see (name_list m) (name_of s) ≡ name_list (met m s)
see-met m s h k = go (ltb s m) refl (place_of m s (omega arith) (omega arith))
  where
    go : (b : Bool) → ltb s m ≡ b → PlaceOf m s → see (name_list m) (name_of s) ≡ name_list (cond b m (suc m))
    go true e o =
        let j : s < m = ltb-true s m e in
        let f : has (name_list m) (name_of s) ≡ true = lt-ltb (place (name_list m) (name_of s)) (length (name_list m)) (omega (arith, o.known j, long m)) in
        rw f
    go false e o =
        let j : s ≡ m = omega (arith, ltb-false s m e) in
        let f : has (name_list m) (name_of s) ≡ false = le-ltb (place (name_list m) (name_of s)) (length (name_list m)) (omega (arith, o.unknown (omega arith), long m)) in
        rw (f, j)

met-grows : (m : ℕ) (p : Stmt) → m ≤ met_in m p
met-grows m (S.leaf S.nothing) = omega arith
met-grows m (S.leaf S.pause) = omega arith
met-grows m (S.leaf (S.emit s)) = met-more m s
met-grows m (S.leaf (S.exit level)) = omega arith
met-grows m (S.one (S.signal s) p) = omega (arith, met-more m s, met-grows (met m s) p)
met-grows m (S.one (S.suspend s) p) = omega (arith, met-grows m p, met-more (met_in m p) s)
met-grows m (S.one S.loop p) = met-grows m p
met-grows m (S.one S.trap p) = met-grows m p
met-grows m (S.two (S.present s) p q) = omega (arith, met-more m s, met-grows (met m s) p, met-grows (met_in (met m s) p) q)
met-grows m (S.two S.sequence p q) = omega (arith, met-grows m p, met-grows (met_in m p) q)
met-grows m (S.two S.parallel p q) = omega (arith, met-grows m p, met-grows (met_in m p) q)

-- the signals of a tree with names by number are the first names
pub signals-named : (d m : ℕ) (p : Stmt) → Ordered m p → met_in m p < most → signals_from (name_list m) (named d p) ≡ name_list (met_in m p)
signals-named d m (S.leaf S.nothing) o h = refl
signals-named d m (S.leaf S.pause) o h = refl
signals-named d m (S.leaf (S.emit s)) o h = see-met m s o (omega (arith, met-more m s))
signals-named d m (S.leaf (S.exit level)) o h = refl
signals-named d m (S.one (S.signal s) p) o h =
    ap (λ (ns : List Name). signals_from ns (named d p)) (see-met m s o.0 (omega (arith, met-more m s, met-grows (met m s) p))) ∙
    signals-named d (met m s) p o.1 h
signals-named d m (S.one (S.suspend s) p) o h =
    ap (λ (ns : List Name). see ns (name_of s)) (signals-named d m p o.0 (omega (arith, met-more (met_in m p) s))) ∙
    see-met (met_in m p) s o.1 (omega (arith, met-more (met_in m p) s))
signals-named d m (S.one S.loop p) o h = signals-named d m p o h
signals-named d m (S.one S.trap p) o h = signals-named (suc d) m p o h
signals-named d m (S.two (S.present s) p q) o h =
    let a : met_in (met m s) p < most = omega (arith, met-grows (met_in (met m s) p) q) in
    ap (λ (ns : List Name). signals_from (signals_from ns (named d p)) (named d q)) (see-met m s o.0 (omega (arith, met-more m s, met-grows (met m s) p))) ∙
    ap (λ (ns : List Name). signals_from ns (named d q)) (signals-named d (met m s) p o.1 a) ∙
    signals-named d (met_in (met m s) p) q o.2 h
signals-named d m (S.two S.sequence p q) o h =
    ap (λ (ns : List Name). signals_from ns (named d q)) (signals-named d m p o.0 (omega (arith, met-grows (met_in m p) q))) ∙
    signals-named d (met_in m p) q o.1 h
signals-named d m (S.two S.parallel p q) o h =
    ap (λ (ns : List Name). signals_from ns (named d q)) (signals-named d m p o.0 (omega (arith, met-grows (met_in m p) q))) ∙
    signals-named d (met_in m p) q o.1 h

-- the traps around, the nearest first
abbrev pub trap_names : ℕ → List Name
trap_names zero = []
trap_names (suc d) = name_of d ∷ trap_names d

traps-long : (d : ℕ) → length (trap_names d) ≡ d
traps-long zero = refl
traps-long (suc d) = ap suc (traps-long d)

trap-place : (d k level : ℕ) → d ≤ most → k + suc level ≡ d → place (trap_names d) (name_of k) ≡ level
trap-place zero k level h e = absurd (omega arith)
trap-place (suc d) k zero h e = let z : k ≡ d = omega arith in rw (z, same_name (name_of d))
trap-place (suc d) k (suc l) h e = rw (names_differ d k (omega arith) (omega arith) (λ z. omega arith)) (ap suc (trap-place d k l (omega arith) (omega arith)))

-- where its exits are trapped, none is without its trap
pub all-trapped : (d : ℕ) (p : Stmt) → Trapped d p → d + size p ≤ most → untrapped (trap_names d) (named d p) ≡ false
all-trapped d (S.leaf S.nothing) t h = refl
all-trapped d (S.leaf S.pause) t h = refl
all-trapped d (S.leaf (S.emit s)) t h = refl
all-trapped d (S.leaf (S.exit level)) t h =
    let e : place (trap_names d) (name_of (d - 1 - level)) ≡ level = trap-place d (d - 1 - level) level (omega arith) (omega arith) in
    rw (lt-ltb (place (trap_names d) (name_of (d - 1 - level))) (length (trap_names d)) (omega (arith, e, traps-long d)))
all-trapped d (S.one (S.signal s) p) t h = all-trapped d p t (omega arith)
all-trapped d (S.one (S.suspend s) p) t h = all-trapped d p t (omega arith)
all-trapped d (S.one S.loop p) t h = all-trapped d p t (omega arith)
all-trapped d (S.one S.trap p) t h = all-trapped (suc d) p t (omega arith)
all-trapped d (S.two (S.present s) p q) t h = rw (all-trapped d p t.0 (omega arith)) (all-trapped d q t.1 (omega arith))
all-trapped d (S.two S.sequence p q) t h = rw (all-trapped d p t.0 (omega arith)) (all-trapped d q t.1 (omega arith))
all-trapped d (S.two S.parallel p q) t h = rw (all-trapped d p t.0 (omega arith)) (all-trapped d q t.1 (omega arith))

-- numbers and levels come back
module _ (M : ℕ) (few : M < most) where
  signal-back : (m s : ℕ) → s ≤ m → met m s ≤ M → place (name_list M) (name_of s) ≡ s
  signal-back m s h k = (place_of M s (omega arith) (omega (arith, met-above m s h))).known (omega (arith, met-above m s h))

  pub resolved : (d m : ℕ) (p : Stmt) → Ordered m p → met_in m p ≤ M → Trapped d p → d + size p ≤ most → resolve (name_list M) (trap_names d) (named d p) ≡ p
  resolved d m (S.leaf S.nothing) o k t h = refl
  resolved d m (S.leaf S.pause) o k t h = refl
  resolved d m (S.leaf (S.emit s)) o k t h = rw (signal-back m s o k)
  resolved d m (S.leaf (S.exit level)) o k t h =
      let e : place (trap_names d) (name_of (d - 1 - level)) ≡ level = trap-place d (d - 1 - level) level (omega arith) (omega arith) in
      rw e
  resolved d m (S.one (S.signal s) p) o k t h =
      rw (signal-back m s o.0 (omega (arith, met-grows (met m s) p)), resolved d (met m s) p o.1 k t (omega arith))
  resolved d m (S.one (S.suspend s) p) o k t h =
      rw (signal-back (met_in m p) s o.1 k, resolved d m p o.0 (omega (arith, met-more (met_in m p) s)) t (omega arith))
  resolved d m (S.one S.loop p) o k t h = rw (resolved d m p o k t (omega arith))
  resolved d m (S.one S.trap p) o k t h = rw (resolved (suc d) m p o k t (omega arith))
  resolved d m (S.two (S.present s) p q) o k t h =
      let a : met_in (met m s) p ≤ M = omega (arith, met-grows (met_in (met m s) p) q) in
      rw (signal-back m s o.0 (omega (arith, met-grows (met m s) p)), resolved d (met m s) p o.1 a t.0 (omega arith), resolved d (met_in (met m s) p) q o.2 k t.1 (omega arith))
  resolved d m (S.two S.sequence p q) o k t h =
      rw (resolved d m p o.0 (omega (arith, met-grows (met_in m p) q)) t.0 (omega arith), resolved d (met_in m p) q o.1 k t.1 (omega arith))
  resolved d m (S.two S.parallel p q) o k t h =
      rw (resolved d m p o.0 (omega (arith, met-grows (met_in m p) q)) t.0 (omega arith), resolved d (met_in m p) q o.1 k t.1 (omega arith))
