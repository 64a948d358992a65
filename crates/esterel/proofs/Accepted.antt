-- What checks 10 and 11 say of an accepted program.
use mathlib.Core.Path.{◌≡◌, refl, sym, ap, ◌∙◌}
use mathlib.Core.Bool.{Bool, true, false, cond}
use mathlib.Core.Option.{Option, some}
use mathlib.Core.List.{List, [], ◌∷◌, map, map-append}
use Prim.Native.Nat.{ℕ, suc}
use native.Mathlib.Omega.{arith}
use lib.Dec.{leb, nleb→lt}
use lib.ListN.{length, get_or, length-map, get_or-map}
use Rattle.codes.proofs.Bools.{to_not}
use Rattle.esterel.specs.Statement.{nothing, pause, emit, exit, loop, Stmt, leaf, one, two, size, nodes, traps_under}
use Rattle.esterel.specs.Codes.{Codes, empty}
use Rattle.esterel.specs.Sets.{start_set, Place, at, stmt_of, places, places_of, outside, place_at, under, under_left, under_right}
use Rattle.esterel.specs.Table.{Verdict, passed, refused, read}
use Rattle.esterel.specs.Checks.{too_deep, too_many_traps, uncaught, ends_at_once, first_node, refuse_at, check_places, check_program, verdict}
use Rattle.esterel.specs.Outcome.{statement_at}
use Rattle.esterel.specs.Theorems.{Accepted, Acceptance}
use Rattle.esterel.proofs.Sizes.{length-nodes}
use Rattle.esterel.proofs.Reading.{reads_only_lem}
use Rattle.esterel.proofs.Every.{Every, none, also, every_left, every_right, every_at}
use Rattle.esterel.proofs.Low.{Exits}

refuse-none : (number : ℕ) (o : Option ℕ) (next : Verdict) (p : Stmt) → refuse_at number o next ≡ passed p → (o ≡ Option.none) × (next ≡ passed p)
refuse-none number Option.none next p e = (refl, e)
refuse-none number (some n) next p e = (cc, cc)

-- every place passes the test
abbrev pub Passes : (Place → Bool) → List Place → Type 0
Passes test ps = Every (λ x. test x ≡ false) ps

pub first_passes : (test : Place → Bool) (xs : List Place) (n : ℕ) → first_node test xs n ≡ Option.none → Passes test xs
first_passes test [] n e = none
first_passes test (x ∷ xs) n e = go (test x) refl (first_passes test xs (suc n)) e
  where
    go : (b : Bool) → test x ≡ b → (first_node test xs (suc n) ≡ Option.none → Passes test xs) → cond b (some n) (first_node test xs (suc n)) ≡ Option.none → Passes test (x ∷ xs)
    go true z ih f = also {x = x} (cc) (ih (cc))
    go false z ih f = also z (ih f)

-- what passes the four checks passes each
pub record PassesAll (ps : List Place) : Type 0 where
  pub depths : Passes too_deep ps
  pub traps : Passes too_many_traps ps
  pub exits : Passes uncaught ps
  pub loops : Passes ends_at_once ps

passed-all : (ps : List Place) (next : Verdict) (p : Stmt) → check_places ps next ≡ passed p → PassesAll ps × (next ≡ passed p)
passed-all ps next p e =
    let e8 = refuse-none 8 (first_node too_deep ps 0) _ p e in
    let e9 = refuse-none 9 (first_node too_many_traps ps 0) _ p e8.1 in
    let e10 = refuse-none 10 (first_node uncaught ps 0) _ p e9.1 in
    let e11 = refuse-none 11 (first_node ends_at_once ps 0) _ p e10.1 in (
      record {
        depths = first_passes too_deep ps 0 e8.0;
        traps = first_passes too_many_traps ps 0 e9.0;
        exits = first_passes uncaught ps 0 e10.0;
        loops = first_passes ends_at_once ps 0 e11.0;
      },
      e11.1,
    )

pub passes : (p : Stmt) → Accepted p → PassesAll (places_of p)
passes p e = (passed-all (places_of p) (passed p) p e).0

pub exits-caught : (p : Stmt) (d t : ℕ) (P : Codes) → Passes uncaught (places d t P p) → Exits t p
exits-caught (leaf nothing) d t P c = tt
exits-caught (leaf pause) d t P c = tt
exits-caught (leaf (emit s)) d t P c = tt
exits-caught (leaf (exit level)) d t P (also e c) = nleb→lt t level (to_not (leb t level) e)
exits-caught (one u p) d t P c = exits-caught p (suc d) (traps_under u t) (under u P) (every_left _ _ c)
exits-caught (two b p q) d t P c =
    (exits-caught p (suc d) t (under_left b t P q) (every_left _ _ (every_left _ _ c)), exits-caught q (suc d) t (under_right b t P p) (every_right (places (suc d) t (under_left b t P q) p) _ (every_left _ _ c)))

pub statements : (p : Stmt) (d t : ℕ) (P : Codes) → map stmt_of (places d t P p) ≡ nodes p
statements (leaf l) d t P = refl
statements (one u p) d t P = simp (map-append, statements p)
statements (two b p q) d t P = simp (map-append, statements p, statements q)

pub place-statement : (p : Stmt) (i : ℕ) → stmt_of (place_at p i) ≡ statement_at (nodes p) i
place-statement p i = sym (get_or-map stmt_of (places_of p) i outside) ∙ ap (λ l. get_or l i (leaf nothing)) (statements p 1 0 empty)

pub length-places : (p : Stmt) (d t : ℕ) (P : Codes) → length (places d t P p) ≡ size p
length-places p d t P = sym (length-map (places d t P p) stmt_of) ∙ ap length (statements p d t P) ∙ length-nodes p

no_end : (x : Place) (b : Stmt) → ends_at_once x ≡ false → stmt_of x ≡ one loop b → start_set b 0 ≡ true → ⊥
no_end (at d t S p) b f e c =
    let g : start_set b 0 ≡ false = sym (ap (λ q. ends_at_once (at d t S q)) e) ∙ f in
    let z : ◌≡◌ {A = ℕ} 0 1 = cc in
    omega arith

-- no loop's body ends at once, and every exit is caught
pub ends-not : (p : Stmt) → Accepted p → (n : ℕ) (b : Stmt) → statement_at (nodes p) n ≡ one loop b → start_set b 0 ≡ true → ⊥
ends-not p a n b e c = no_end (place_at p n) b (every_at outside refl (passes p a).loops n) (place-statement p n ∙ e) c

pub exits_in : (p : Stmt) → Accepted p → Exits 0 p
exits_in p a = exits-caught p 1 0 empty (passes p a).exits

-- an accepted table reads to its program, which is accepted
pub accepted-read : (bytes : List ℕ) (p : Stmt) → verdict bytes ≡ passed p → (read bytes ≡ passed p) × Accepted p
accepted-read bytes p e = go (read bytes) refl e
  where
    go : (x : Verdict) → read bytes ≡ x → check_program x ≡ passed p → (read bytes ≡ passed p) × Accepted p
    go (refused number node) z f = (cc, cc)
    go (passed q) z f =
        let same : q ≡ p = cc (passed-all (places_of q) (passed q) p f).1 in
        (z ∙ ap passed same, rw same at f)

pub acceptance : Acceptance
acceptance bytes p e = let (reads, a) = accepted-read bytes p e in (reads_only_lem bytes p reads, a)
