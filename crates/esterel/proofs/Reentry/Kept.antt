-- The invariant of reached states. Where the second of a sequence holds, 0 is in the first's A; where one child of a parallel holds
-- and the other does not, 0 is in the other's A. So 1 is in A of every statement that holds.
use mathlib.Core.Path.{◌≡◌, refl, sym, ◌∙◌}
use mathlib.Core.Bool.{Bool, true, false, ◌||◌, or-false, false≢true}
use mathlib.Core.List.{List, [], ◌∷◌, ◌++◌}
use Prim.Native.Nat.{ℕ}
use Rattle.codes.proofs.Bools.{inl_true, inr_true}
use Rattle.codes.proofs.Members.{larger_in, sequence-first, sequence-second}
use Rattle.esterel.specs.Statement.{Unary, signal, suspend, loop, trap, Binary, present, sequence, parallel, Stmt, one, two, size}
use Rattle.esterel.specs.Sets.{any_instant_set}
use Rattle.esterel.specs.Instant.{zeros, holds}
use Rattle.esterel.proofs.Held.{holds-append, Joint, Shaped, fits-leaf, fits-pause, fits_one, fits-two, shaped_zeros}

pub false-true : {A : Type 0} → false ≡ true → A
false-true e = absurd (false≢true e)

-- of two children of which the first holds if x, the second if y
abbrev pub Joined : Joint
Joined (present s) p q x y = Unit {0}
Joined sequence p q x y = y ≡ true → any_instant_set p 0 ≡ true
Joined parallel p q x y = (x ≡ true → y ≡ false → any_instant_set q 0 ≡ true) × (x ≡ false → y ≡ true → any_instant_set p 0 ≡ true)

abbrev pub Kept : Stmt → List ℕ → Type 0
Kept = Shaped Joined

-- nothing held
pub joined-none : (b : Binary) (p q : Stmt) (x y : Bool) → x ≡ false → y ≡ false → Joined b p q x y
joined-none (present s) p q x y e f = tt
joined-none sequence p q x y e f = λ h. false-true (sym f ∙ h)
joined-none parallel p q x y e f = (λ h _. false-true (sym e ∙ h), λ _ h. false-true (sym f ∙ h))

pub kept-zeros : (p : Stmt) → Kept p (zeros (size p))
kept-zeros = shaped_zeros joined-none

-- a statement that holds has 1 in A
one_in : (u : Unary) (p : Stmt) → any_instant_set p 1 ≡ true → any_instant_set (one u p) 1 ≡ true
one_in (signal s) p e = e
one_in (suspend s) p e = e
one_in loop p e = e
one_in trap p e = e

two_in : (b : Binary) (p q : Stmt) (x y : Bool) → Joined b p q x y → (x ≡ true → any_instant_set p 1 ≡ true) → (y ≡ true → any_instant_set q 1 ≡ true) → (x || y) ≡ true → any_instant_set (two b p q) 1 ≡ true
two_in (present s) p q true y j f g e = inl_true (any_instant_set p 1) (any_instant_set q 1) (f refl)
two_in (present s) p q false y j f g e = inr_true (any_instant_set p 1) (any_instant_set q 1) (g e)
two_in sequence p q true y j f g e = sequence-first (any_instant_set p) (any_instant_set q) 0 (f refl)
two_in sequence p q false y j f g e = sequence-second (any_instant_set p) (any_instant_set q) 1 (j e) (g e)
two_in parallel p q true true j f g e = larger_in (any_instant_set p) (any_instant_set q) 1 1 (f refl) (g refl)
two_in parallel p q true false j f g e = larger_in (any_instant_set p) (any_instant_set q) 1 0 (f refl) (j.0 refl refl)
two_in parallel p q false true j f g e = larger_in (any_instant_set p) (any_instant_set q) 0 1 (j.1 refl refl) (g refl)
two_in parallel p q false false j f g e = false-true e

pub holds-one : {p : Stmt} {h : List ℕ} → Kept p h → holds h ≡ true → any_instant_set p 1 ≡ true
holds-one (fits-leaf l) e = false-true e
holds-one fits-pause e = refl
holds-one (fits_one {p = p} u f) e = one_in u p (holds-one f (rw (holds-append, or-false) at e))
holds-one (fits-two {p = p} {q = q} {h = h} {g = g} b f k z) e =
    two_in b p q (holds h) (holds g) z (λ s. holds-one f s) (λ s. holds-one k s) (rw (holds-append (h ++ g) (0 ∷ []), or-false, holds-append h g) at e)
