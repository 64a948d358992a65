-- Held bytes: what they say of a code, and the states that fit a statement.
use mathlib.Core.Path.{◌≡◌, refl, ap}
use mathlib.Core.Bool.{Bool, true, false, ◌||◌, or-false, and-false}
use mathlib.Core.List.{List, [], ◌∷◌, ◌++◌, append_assoc}
use Prim.Native.Nat.{ℕ, zero, suc, ◌+◌, max}
use native.Mathlib.Nat.{zero-max, max-zero, suc-max-suc}
use native.Mathlib.Omega.{arith}
use lib.ListN.{length, length-append, replicate-append-replicate}
use lib.Seq.{take_at, drop_at}
use Rattle.esterel.specs.Statement.{Leaf, pause, Unary, Binary, present, sequence, parallel, Stmt, leaf, one, two, size}
use Rattle.esterel.specs.Instant.{zeros, holds, first, second, apart}

pub holds-append : (a b : List ℕ) → holds (a ++ b) ≡ (holds a || holds b)
holds-append [] b = refl
holds-append (zero ∷ a) b = holds-append a b
holds-append (suc x ∷ a) b = refl

pub holds-zeros : (n : ℕ) → holds (zeros n) ≡ false
holds-zeros zero = refl
holds-zeros (suc n) = holds-zeros n

pub none-zeros : (h : List ℕ) → holds h ≡ false → h ≡ zeros (length h)
none-zeros [] e = refl
none-zeros (zero ∷ h) e = ap {B = List ℕ} (λ l. 0 ∷ l) (none-zeros h e)
none-zeros (suc b ∷ h) e = cc

-- what a code says of the held pauses: none after 0, some after 1
abbrev pub Shows : ℕ → Bool → Type 0
Shows zero b = b ≡ false
Shows (suc zero) b = b ≡ true
Shows (suc (suc k)) b = Unit {0}

pub shows-max : (k l : ℕ) (b c : Bool) → Shows k b → Shows l c → Shows (max k l) (b || c)
shows-max zero l b c p q = rw (zero-max, p) q
shows-max (suc k) zero b c p q = rw (max-zero, q, or-false) p
shows-max (suc zero) (suc zero) b c p q = rw p
shows-max (suc zero) (suc (suc l)) b c p q = rw (suc-max-suc, zero-max) tt
shows-max (suc (suc k)) (suc zero) b c p q = rw (suc-max-suc, max-zero) tt
shows-max (suc (suc k)) (suc (suc l)) b c p q = rw (suc-max-suc, suc-max-suc) tt

-- one child that holds nothing keeps any two apart
pub apart-left : (b : Binary) (x : Bool) → apart b false x ≡ true
apart-left (present s) x = refl
apart-left sequence x = refl
apart-left parallel x = refl

pub apart-right : (b : Binary) (x : Bool) → apart b x false ≡ true
apart-right (present s) x = rw and-false
apart-right sequence x = rw and-false
apart-right parallel x = refl

pub zeros_snoc : (n : ℕ) → zeros (suc n) ≡ zeros n ++ (0 ∷ [])
zeros_snoc zero = refl
zeros_snoc (suc n) = ap {B = List ℕ} (λ l. 0 ∷ l) (zeros_snoc n)

pub zeros-two : (n m : ℕ) → zeros (suc (n + m)) ≡ (zeros n ++ zeros m) ++ (0 ∷ [])
zeros-two n m = rw (zeros_snoc, replicate-append-replicate)

-- the bytes of a statement's nodes: each 1 stands at a pause, none is above 1, and J is true of the children p and q of each b, of which the
-- first holds if x, the second if y
abbrev pub Joint : Type 1
Joint = Binary → Stmt → Stmt → (x y : Bool) → Type 0

pub data Shaped (J : Joint) : Stmt → List ℕ → Type 0 where
  fits-leaf : (l : Leaf) → Shaped J (leaf l) (0 ∷ [])
  fits-pause : Shaped J (leaf pause) (1 ∷ [])
  fits_one : {p : Stmt} {h : List ℕ} (u : Unary) → Shaped J p h → Shaped J (one u p) (h ++ (0 ∷ []))
  fits-two : {p q : Stmt} {h g : List ℕ} (b : Binary) → Shaped J p h → Shaped J q g → J b p q (holds h) (holds g) → Shaped J (two b p q) ((h ++ g) ++ (0 ∷ []))

module _ {J : Joint} where
  pub fits-length : {p : Stmt} {h : List ℕ} → Shaped J p h → length h ≡ size p
  fits-length (fits-leaf l) = refl
  fits-length fits-pause = refl
  fits-length (fits_one u f) = simp length-append (omega (arith, fits-length f))
  fits-length (fits-two b f g z) = simp length-append (omega (arith, fits-length f, fits-length g))

  -- the children's bytes
  pub first_one : {p : Stmt} {h : List ℕ} → Shaped J p h → first p (h ++ (0 ∷ [])) ≡ h
  first_one {p} {h} f = take_at h (0 ∷ []) (size p) (fits-length f)

  module _ {p q : Stmt} {h g : List ℕ} (f : Shaped J p h) (e : Shaped J q g) where
    pub first_two : first p ((h ++ g) ++ (0 ∷ [])) ≡ h
    first_two = rw (append_assoc, take_at h (g ++ (0 ∷ [])) (size p) (fits-length f))

    pub second-two : second p q ((h ++ g) ++ (0 ∷ [])) ≡ g
    second-two = rw (append_assoc, drop_at h (g ++ (0 ∷ [])) (size p) (fits-length f), take_at g (0 ∷ []) (size q) (fits-length e))

  pub child_fits : {u : Unary} {p : Stmt} {h : List ℕ} → Shaped J (one u p) h → Shaped J p (first p h)
  child_fits (fits_one u f) = rw (first_one f) f

  pub left-fits : {b : Binary} {p q : Stmt} {h : List ℕ} → Shaped J (two b p q) h → Shaped J p (first p h)
  left-fits (fits-two b f g z) = rw (first_two f g) f

  pub right-fits : {b : Binary} {p q : Stmt} {h : List ℕ} → Shaped J (two b p q) h → Shaped J q (second p q h)
  right-fits (fits-two b f g z) = rw (second-two f g) g

  pub joint : {b : Binary} {p q : Stmt} {h : List ℕ} → Shaped J (two b p q) h → J b p q (holds (first p h)) (holds (second p q h))
  joint (fits-two b f g z) = rw (first_two f g, second-two f g) z

  -- what a statement holds, its children hold
  pub child-holds : {u : Unary} {p : Stmt} {h : List ℕ} → Shaped J (one u p) h → holds h ≡ true → holds (first p h) ≡ true
  child-holds (fits_one u f) e = rw (first_one f) (rw (holds-append, or-false) at e)

  some_holds : {b : Binary} {p q : Stmt} {h : List ℕ} → Shaped J (two b p q) h → holds h ≡ true → (holds (first p h) || holds (second p q h)) ≡ true
  some_holds (fits-two {h = h} {g = g} b f e z) s =
      rw (first_two f e, second-two f e) (rw (holds-append (h ++ g) (0 ∷ []), or-false, holds-append h g) at s)

  pub right-holds : {b : Binary} {p q : Stmt} {h : List ℕ} → Shaped J (two b p q) h → holds h ≡ true → holds (first p h) ≡ false → holds (second p q h) ≡ true
  right-holds k s n = rw n at (some_holds k s)

  pub left-holds : {b : Binary} {p q : Stmt} {h : List ℕ} → Shaped J (two b p q) h → holds h ≡ true → holds (second p q h) ≡ false → holds (first p h) ≡ true
  left-holds k s n = rw (n, or-false) at (some_holds k s)

  -- only a pause holds among the statements without a child
  pub leaf-holds : {A : Type 0} {l : Leaf} {h : List ℕ} → Shaped J (leaf l) h → holds h ≡ true → (l ≡ pause → A) → A
  leaf-holds (fits-leaf l) e f = let z : ◌≡◌ {A = ℕ} 0 1 = cc in absurd (omega arith)
  leaf-holds fits-pause e f = f refl

  -- nothing held
  pub shaped_zeros : ((b : Binary) (p q : Stmt) (x y : Bool) → x ≡ false → y ≡ false → J b p q x y) → (p : Stmt) → Shaped J p (zeros (size p))
  shaped_zeros none (leaf l) = fits-leaf l
  shaped_zeros none (one u p) = rw zeros_snoc (fits_one u (shaped_zeros none p))
  shaped_zeros none (two b p q) =
      rw zeros-two (fits-two b (shaped_zeros none p) (shaped_zeros none q) (none b p q _ _ (holds-zeros (size p)) (holds-zeros (size q))))

-- the states that fit a statement: what must be apart is
abbrev pub Apart : Joint
Apart b p q x y = apart b x y ≡ true

abbrev pub Fits : Stmt → List ℕ → Type 0
Fits = Shaped Apart

pub fits-zeros : (p : Stmt) → Fits p (zeros (size p))
fits-zeros = shaped_zeros (λ b p q x y e f. rw e (apart-left b y))

-- and so does what one child holds, beside another that holds nothing
pub fits-ended : {p q : Stmt} {h g : List ℕ} (b : Binary) → Fits p h → Fits q g → holds h ≡ false → Fits (two b p q) ((h ++ g) ++ (0 ∷ []))
fits-ended {g = g} b f e z = fits-two b f e (rw z (apart-left b (holds g)))

pub fits-left : {p : Stmt} {h : List ℕ} (b : Binary) (q : Stmt) → Fits p h → Fits (two b p q) ((h ++ zeros (size q)) ++ (0 ∷ []))
fits-left b q f = fits-two b f (fits-zeros q) (rw holds-zeros (apart-right b _))

pub fits-right : {q : Stmt} {g : List ℕ} (b : Binary) (p : Stmt) → Fits q g → Fits (two b p q) ((zeros (size p) ++ g) ++ (0 ∷ []))
fits-right b p f = fits-ended b (fits-zeros p) f (holds-zeros (size p))
