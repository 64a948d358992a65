-- Where a statement's places stand in the program's list.
use mathlib.Core.Path.{◌≡◌, refl, sym, subst}
use mathlib.Core.List.{List, [], ◌∷◌, ◌++◌, append_assoc, append-nil}
use Prim.Native.Nat.{ℕ, suc, ◌+◌}
use native.Mathlib.Omega.{arith}
use lib.ListN.{length, get_or, length-append}
use lib.Seq.{get_or_at}
use Rattle.esterel.specs.Statement.{Stmt, leaf, one, two, size, traps_under}
use Rattle.esterel.specs.Codes.{Codes, empty}
use Rattle.esterel.specs.Sets.{Place, at, places, places_of, outside, under, under_left, under_right}
use Rattle.esterel.proofs.Accepted.{length-places}

-- the place of node i, where xs are the program's
abbrev pub place_in : List Place → ℕ → Place
place_in xs i = get_or xs i outside

-- p's nodes from n on have the places that the parent's gives them
abbrev pub Placed : List Place → ℕ → (d t : ℕ) → Codes → Stmt → Type 0
Placed xs n d t P (leaf l) = place_in xs n ≡ at d t P (leaf l)
Placed xs n d t P (one u p) = Placed xs n (suc d) (traps_under u t) (under u P) p × (place_in xs (n + size p) ≡ at d t P (one u p))
Placed xs n d t P (two b p q) =
    Placed xs n (suc d) t (under_left b t P q) p × Placed xs (n + size p) (suc d) t (under_right b t P p) q ×
    (place_in xs (n + (size p + size q)) ≡ at d t P (two b p q))

pub placed : (p : Stmt) (d t : ℕ) (P : Codes) (pre post : List Place) (n : ℕ) → length pre ≡ n → Placed (pre ++ (places d t P p ++ post)) n d t P p
placed (leaf l) d t P pre post n e = get_or_at pre (at d t P (leaf l)) post outside n e
placed (one u p) d t P pre post n e =
    let inner = places (suc d) (traps_under u t) (under u P) p in
    let own = at d t P (one u p) in
    let child : pre ++ ((inner ++ (own ∷ [])) ++ post) ≡ pre ++ (inner ++ (own ∷ post)) = simp append_assoc in
    let last : pre ++ ((inner ++ (own ∷ [])) ++ post) ≡ (pre ++ inner) ++ (own ∷ post) = simp append_assoc in (
      subst (λ xs. Placed xs n (suc d) (traps_under u t) (under u P) p) (sym child) (placed p (suc d) (traps_under u t) (under u P) pre (own ∷ post) n e),
      subst (λ xs. place_in xs (n + size p) ≡ own) (sym last) (get_or_at (pre ++ inner) own post outside (n + size p) (rw length-append (omega (arith, length-places p (suc d) (traps_under u t) (under u P))))),
    )
placed (two b p q) d t P pre post n e =
    let l = places (suc d) t (under_left b t P q) p in
    let r = places (suc d) t (under_right b t P p) q in
    let own = at d t P (two b p q) in
    let ll = length-places p (suc d) t (under_left b t P q) in
    let rr = length-places q (suc d) t (under_right b t P p) in
    let first : pre ++ ((l ++ r ++ (own ∷ [])) ++ post) ≡ pre ++ (l ++ (r ++ (own ∷ post))) = simp append_assoc in
    let second : pre ++ ((l ++ r ++ (own ∷ [])) ++ post) ≡ (pre ++ l) ++ (r ++ (own ∷ post)) = simp append_assoc in
    let last : pre ++ ((l ++ r ++ (own ∷ [])) ++ post) ≡ (pre ++ (l ++ r)) ++ (own ∷ post) = simp append_assoc in (
      subst (λ xs. Placed xs n (suc d) t (under_left b t P q) p) (sym first) (placed p (suc d) t (under_left b t P q) pre (r ++ (own ∷ post)) n e),
      subst (λ xs. Placed xs (n + size p) (suc d) t (under_right b t P p) q) (sym second) (placed q (suc d) t (under_right b t P p) (pre ++ l) (own ∷ post) (n + size p) (rw length-append (omega arith))),
      subst (λ xs. place_in xs (n + (size p + size q)) ≡ own) (sym last) (get_or_at (pre ++ (l ++ r)) own post outside (n + (size p + size q)) (rw (length-append, length-append) (omega arith))),
    )

pub placed-own : (p : Stmt) → Placed (places_of p) 0 1 0 empty p
placed-own p = rw append-nil at (placed p 1 0 empty [] [] 0 refl)

-- a statement's own place is its last node's
pub placed-root : (xs : List Place) (p : Stmt) (n d t : ℕ) (P : Codes) → Placed xs n d t P p → (i : ℕ) × (place_in xs i ≡ at d t P p)
placed-root xs (leaf l) n d t P w = (n, w)
placed-root xs (one u p) n d t P w = (n + size p, w.1)
placed-root xs (two b p q) n d t P w = (n + (size p + size q), w.2)
