-- A state is admitted exactly if it holds a pause and fits.
use mathlib.Core.Path.{◌≡◌, refl, ap, ◌∙◌, subst}
use mathlib.Core.Bool.{true, false, ◌&&◌, ◌||◌, and_assoc, and-false}
use mathlib.Core.List.{List, [], ◌∷◌, ◌++◌, append_assoc}
use Prim.Native.Nat.{ℕ, zero, suc}
use lib.Dec.{eqb, eqb-suc-zero, eqb-suc-suc}
use lib.ListN.{length, take, drop, take-append-drop}
use Rattle.codes.proofs.Bools.{both, left, right}
use Rattle.esterel.specs.Statement.{nothing, pause, emit, exit, Unary, signal, suspend, loop, trap, Binary, present, sequence, parallel, Stmt, leaf, one, two, kind, size, nodes}
use Rattle.esterel.specs.Instant.{holds, first, second, apart, at_pauses, one_branch, admitted}
use Rattle.esterel.proofs.Sizes.{length-nodes}
use Rattle.esterel.proofs.Held.{Fits, fits-leaf, fits-pause, fits_one, fits-two, first_one, first_two, second-two}

at-append : (ps qs : List Stmt) (h : List ℕ) → at_pauses (ps ++ qs) h ≡ (at_pauses ps (take (length ps) h) && at_pauses qs (drop (length ps) h))
at-append [] qs h = refl
at-append (p ∷ ps) qs [] = refl
at-append (p ∷ ps) qs (b ∷ h) = rw (at-append ps qs h, and_assoc)

at_join : (ps qs : List Stmt) (h g : List ℕ) → at_pauses ps h ≡ true → at_pauses qs g ≡ true → at_pauses (ps ++ qs) (h ++ g) ≡ true
at_join [] qs [] g e f = f
at_join [] qs (b ∷ h) g e f = cc
at_join (p ∷ ps) qs [] g e f = cc
at_join (p ∷ ps) qs (b ∷ h) g e f =
    both (left (eqb b 0 || eqb b 1 && eqb (kind p) 2) (at_pauses ps h) e) (at_join ps qs h g (right (eqb b 0 || eqb b 1 && eqb (kind p) 2) e) f)

no_pause_one : (u : Unary) (p : Stmt) → eqb (kind (one u p)) 2 ≡ false
no_pause_one (signal s) p = refl
no_pause_one (suspend s) p = refl
no_pause_one loop p = refl
no_pause_one trap p = refl

no_pause_two : (b : Binary) (p q : Stmt) → eqb (kind (two b p q)) 2 ≡ false
no_pause_two (present s) p q = refl
no_pause_two sequence p q = refl
no_pause_two parallel p q = refl

-- the byte of a node that is no pause
at_zero : (w : Stmt) (h : List ℕ) → eqb (kind w) 2 ≡ false → at_pauses (w ∷ []) h ≡ true → 0 ∷ [] ≡ h
at_zero w [] e f = cc
at_zero w (zero ∷ []) e f = refl
at_zero w (zero ∷ (b ∷ h)) e f = cc
at_zero w (suc a ∷ h) e f = let g = rw (eqb-suc-zero, e, and-false) at f in cc

at_pause : (h : List ℕ) → at_pauses (leaf pause ∷ []) h ≡ true → Fits (leaf pause) h
at_pause [] e = subst (Fits (leaf pause)) (cc) (fits-leaf pause)
at_pause (zero ∷ []) e = fits-leaf pause
at_pause (zero ∷ (b ∷ h)) e = subst (Fits (leaf pause)) (cc) (fits-leaf pause)
at_pause (suc zero ∷ []) e = fits-pause
at_pause (suc zero ∷ (b ∷ h)) e = subst (Fits (leaf pause)) (cc) fits-pause
at_pause (suc (suc a) ∷ h) e =
    let f = rw (eqb-suc-zero, eqb-suc-suc, eqb-suc-zero) at e in
    subst (Fits (leaf pause)) (cc) fits-pause

pub fits_of : (p : Stmt) (h : List ℕ) → at_pauses (nodes p) h ≡ true → one_branch p h ≡ true → Fits p h
fits_of (leaf nothing) h e o = subst (Fits (leaf nothing)) (at_zero (leaf nothing) h refl e) (fits-leaf nothing)
fits_of (leaf pause) h e o = at_pause h e
fits_of (leaf (emit s)) h e o = subst (Fits (leaf (emit s))) (at_zero (leaf (emit s)) h refl e) (fits-leaf (emit s))
fits_of (leaf (exit level)) h e o = subst (Fits (leaf (exit level))) (at_zero (leaf (exit level)) h refl e) (fits-leaf (exit level))
fits_of (one u p) h e o =
    let s = rw (at-append (nodes p) (one u p ∷ []) h, length-nodes) at e in
    let own = at_zero (one u p) (drop (size p) h) (no_pause_one u p) (right (at_pauses (nodes p) (first p h)) s) in
    let whole : first p h ++ (0 ∷ []) ≡ h = ap (λ l. first p h ++ l) own ∙ take-append-drop (size p) h in
    subst (Fits (one u p)) whole (fits_one u (fits_of p (first p h) (left (at_pauses (nodes p) (first p h)) _ s) o))
fits_of (two b p q) h e o =
    let w = two b p q in
    let s = rw (append_assoc, at-append (nodes p) (nodes q ++ (w ∷ [])) h, length-nodes, at-append (nodes q) (w ∷ []) (drop (size p) h), length-nodes) at e in
    let f = right (at_pauses (nodes p) (first p h)) s in
    let own = at_zero w (drop (size q) (drop (size p) h)) (no_pause_two b p q) (right (at_pauses (nodes q) (second p q h)) f) in
    let z = apart b (holds (first p h)) (holds (second p q h)) in
    let rest : second p q h ++ (0 ∷ []) ≡ drop (size p) h = ap (λ l. second p q h ++ l) own ∙ take-append-drop (size q) (drop (size p) h) in
    let whole : (first p h ++ second p q h) ++ (0 ∷ []) ≡ h = rw (append_assoc, rest) (take-append-drop (size p) h) in
    subst (Fits w) whole
    (fits-two b (fits_of p (first p h) (left (at_pauses (nodes p) (first p h)) _ s) (left (one_branch p (first p h)) (one_branch q (second p q h)) (right z o)))
    (fits_of q (second p q h) (left (at_pauses (nodes q) (second p q h)) _ f) (right (one_branch p (first p h)) (right z o))) (left z _ o))

at_of : {p : Stmt} {h : List ℕ} → Fits p h → at_pauses (nodes p) h ≡ true
at_of (fits-leaf l) = refl
at_of fits-pause = refl
at_of (fits_one {p = p} {h = h} u f) = at_join (nodes p) (one u p ∷ []) h (0 ∷ []) (at_of f) refl
at_of (fits-two {p = p} {q = q} {h = h} {g = g} b f e z) =
    at_join (nodes p ++ nodes q) (two b p q ∷ []) (h ++ g) (0 ∷ []) (at_join (nodes p) (nodes q) h g (at_of f) (at_of e)) refl

branch_of : {p : Stmt} {h : List ℕ} → Fits p h → one_branch p h ≡ true
branch_of (fits-leaf l) = refl
branch_of fits-pause = refl
branch_of (fits_one u f) = rw (first_one f) (branch_of f)
branch_of (fits-two b f e z) = rw (first_two f e, second-two f e) (both z (both (branch_of f) (branch_of e)))

pub admitted-holds : (p : Stmt) (h : List ℕ) → admitted p h ≡ true → holds h ≡ true
admitted-holds p h e = left (holds h) (at_pauses (nodes p) h && one_branch p h) e

pub admitted-fits : (p : Stmt) (h : List ℕ) → admitted p h ≡ true → Fits p h
admitted-fits p h e =
    let f = right (holds h) e in
    fits_of p h (left (at_pauses (nodes p) h) (one_branch p h) f) (right (at_pauses (nodes p) h) f)

pub admits : {p : Stmt} {h : List ℕ} → Fits p h → holds h ≡ true → admitted p h ≡ true
admits f e = both e (both (at_of f) (branch_of f))
