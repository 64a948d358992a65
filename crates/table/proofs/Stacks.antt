-- The numbers of subtrees that wait, on a stack.
use mathlib.Core.Path.{◌≡◌, refl, sym, ap, ◌∙◌}
use mathlib.Core.List.{List, [], ◌∷◌}
use Prim.Native.Nat.{ℕ, zero, suc, ◌+◌, ◌-◌, ◌/◌, ◌≤◌, ◌<◌}
use native.Mathlib.Omega.{arith}
use lib.ListN.{length, get_or, set, length-set}
use lib.Seq.{get_or-set_same, get_or-set_other}
use Rattle.esterel.specs.Limits.{max_nodes}
use Rattle.esterel.specs.Statement.{Stmt, leaf, one, two}
use Rattle.esterel.specs.Codes.{Codes}
use Rattle.table.specs.Stacks.{next_of, kept_of, Moves}
use Rattle.table.proofs.Bytes.{children_of}
use Rattle.table.proofs.Walk.{Waiting, only_child, first_child, second_child, children, descend}

-- from place b on an array has the number f of each, the one that comes next last
pub data On (b : ℕ) (f : Waiting → ℕ) (xs : List ℕ) : List Waiting → Type 0 where
  none : On b f xs []
  more : (w : Waiting) (ws : List Waiting) → get_or xs (b + length ws) 0 ≡ f w → On b f xs ws → On b f xs (w ∷ ws)

module _ (b : ℕ) (f : Waiting → ℕ) where
  stored : (xs : List ℕ) (i v : ℕ) {ws : List Waiting} → b + length ws ≤ i → On b f xs ws → On b f (set xs i v) ws
  stored xs i v le none = none
  stored xs i v le (more w ws e h) = more w ws (get_or-set_other xs i (b + length ws) v 0 (λ q. omega arith) ∙ e) (stored xs i v (omega arith) h)

  pub pushed : (xs : List ℕ) (w : Waiting) (ws : List Waiting) (i v : ℕ) → i ≡ b + length ws → i < length xs → v ≡ f w → On b f xs ws → On b f (set xs i v) (w ∷ ws)
  pushed xs w ws i v ei lt ev h =
      more w ws (ap (λ n. get_or (set xs i v) n 0) (sym ei) ∙ get_or-set_same xs i v 0 lt ∙ ev) (stored xs i v (omega arith) h)

-- the numbers of a statement's children: x of the first, y of the second; of an only one either
module _ (f : Waiting → ℕ) (d t l : ℕ) (P : Codes) where
  abbrev pub First : Stmt → (x y : ℕ) → Type 0
  First (leaf a) x y = Unit {0}
  First (one u p) x y = x ≡ f (only_child d t l P u p)
  First (two b p q) x y = (x ≡ f (first_child d t l P b p q)) × (y ≡ f (second_child d t l P b p q))

  abbrev pub Last : Stmt → (x y : ℕ) → Type 0
  Last (leaf a) x y = Unit {0}
  Last (one u p) x y = y ≡ f (only_child d t l P u p)
  Last (two b p q) x y = (x ≡ f (first_child d t l P b p q)) × (y ≡ f (second_child d t l P b p q))

  -- From the first node to the last: all are on the stack, and a node's children are taken off
  pub taken : (s : Stmt) (ws : List Waiting) (xs : List ℕ) (i : ℕ) → i ≡ length ws → On 0 f xs (children d t l P s ws) → First s (get_or xs i 0) (get_or xs (i + 1) 0)
  taken (leaf a) ws xs i ei h = tt
  taken (one u p) ws xs i ei (more _ _ e h) = ap (λ n. get_or xs n 0) (omega arith) ∙ e
  taken (two b p q) ws xs i ei (more _ _ e (more _ _ e' h)) = (ap (λ n. get_or xs n 0) (omega arith) ∙ e', ap (λ n. get_or xs n 0) (omega arith) ∙ e)

  pub rest : (s : Stmt) (ws : List Waiting) (xs : List ℕ) → On 0 f xs (children d t l P s ws) → On 0 f xs ws
  rest (leaf a) ws xs h = h
  rest (one u p) ws xs (more _ _ e h) = h
  rest (two b p q) ws xs (more _ _ e (more _ _ e' h)) = h

-- From the last node to the first: the number of the next one is at hand, and those of the others are on the stack from place 1 on. (Place
-- 0 is read where no other waits.)
pub data At (f : Waiting → ℕ) (v : ℕ) (xs : List ℕ) : List Waiting → Type 0 where
  nowhere : At f v xs []
  here : (w : Waiting) (ws : List Waiting) → v ≡ f w → On 1 f xs ws → At f v xs (w ∷ ws)

from-top : (f : Waiting → ℕ) (xs : List ℕ) (ws : List Waiting) (i : ℕ) → i ≡ length ws → On 1 f xs ws → At f (get_or xs i 0) xs ws
from-top f xs [] i ei none = nowhere
from-top f xs (w ∷ ws) i ei (more _ _ e h) = here w ws (ap (λ n. get_or xs n 0) (omega arith) ∙ e) h

module _ (f : Waiting → ℕ) (d t l : ℕ) (P : Codes) where
  descend-on : (s : Stmt) (ws : List Waiting) (xs : List ℕ) (i x y : ℕ) → i ≡ suc (length ws) → i < length xs → Last f d t l P s x y → On 1 f xs ws
      → At f (next_of (children_of s) (get_or xs (i - 1) 0) y) (kept_of (children_of s) xs i x) (children d t l P s ws)
  descend-on (leaf a) ws xs i x y ei lt e h = from-top f xs ws (i - 1) (omega arith) h
  descend-on (one u p) ws xs i x y ei lt e h = here (only_child d t l P u p) ws e h
  descend-on (two b p q) ws xs i x y ei lt e h =
      here (second_child d t l P b p q) (first_child d t l P b p q ∷ ws) e.1 (pushed 1 f xs (first_child d t l P b p q) ws i x (omega arith) lt e.0 h)

module _ (f : Waiting → ℕ) (w : Waiting) (ws : List Waiting) {v : ℕ} {xs : List ℕ} where
  pub hand-is : At f v xs (w ∷ ws) → v ≡ f w
  hand-is (here _ _ e h) = e

  -- the next one gives way to its children
  pub descended : At f v xs (w ∷ ws) → {waiting c x y v' : ℕ} {xs' : List ℕ} → waiting ≡ suc (length ws) → c ≡ children_of w.root → waiting < length xs
      → Last f w.depth w.traps w.loops w.context w.root x y
      → Moves c waiting x y xs v' xs' → At f v' xs' (descend w ws)
  descended (here _ _ z h) {waiting} {c} {x} {y} ei ec lt e m =
      rw (m.hand, m.stack, ec) (descend-on f w.depth w.traps w.loops w.context w.root ws xs waiting x y ei lt e h)

pub moves-length : {c waiting x y v : ℕ} {xs xs' : List ℕ} → Moves c waiting x y xs v xs' → length xs' ≡ length xs
moves-length {c} {waiting} {x} {y} {v} {xs} {xs'} m = ap length m.stack ∙ go c
  where
    go : (c : ℕ) → length (kept_of c xs waiting x) ≡ length xs
    go zero = refl
    go (suc zero) = refl
    go (suc (suc c)) = length-set xs waiting x

-- the three ways: past a leaf, into an only child, into the second of two
module _ {c waiting x y v : ℕ} {xs : List ℕ} where
  pub moves-past : c ≡ 0 → v ≡ get_or xs (waiting - 1) 0 → Moves c waiting x y xs v xs
  moves-past e ev = rw e record { hand = ev; stack = refl }

  pub moves-into : c ≡ 1 → v ≡ y → Moves c waiting x y xs v xs
  moves-into e ev = rw e record { hand = ev; stack = refl }

  pub moves-second : {xs' : List ℕ} → c ≡ 2 → v ≡ y → xs' ≡ set xs waiting x → Moves c waiting x y xs v xs'
  moves-second e ev es = rw e record { hand = ev; stack = es }

-- past what is no leaf, the number of the last child is at hand
pub moves-down : (s : Stmt) {waiting x y v : ℕ} {xs xs' : List ℕ} → 0 < children_of s → Moves (children_of s) waiting x y xs v xs' → v ≡ y
moves-down (leaf a) lt m = absurd (omega arith)
moves-down (one u p) lt m = m.hand
moves-down (two b p q) lt m = m.hand

-- m bounds the numbers
pub data Low (f : Waiting → ℕ) (m : ℕ) : List Waiting → Type 0 where
  none : Low f m []
  more : (w : Waiting) (ws : List Waiting) → f w ≤ m → Low f m ws → Low f m (w ∷ ws)

module _ (f : Waiting → ℕ) {m : ℕ} where
  raised : {n : ℕ} {ws : List Waiting} → m ≤ n → Low f m ws → Low f n ws
  raised le none = none
  raised le (more w ws b h) = more w ws (omega arith) (raised le h)

  pub low-top : {w : Waiting} {ws : List Waiting} → Low f m (w ∷ ws) → f w ≤ m
  low-top (more w ws b h) = b

-- one number, of all children
module _ (f : Waiting → ℕ) (m : ℕ) (d t l : ℕ) (P : Codes) where
  children-low : (s : Stmt) (ws : List Waiting) (v : ℕ) → v ≤ m → Last f d t l P s v v → Low f m ws → Low f m (children d t l P s ws)
  children-low (leaf x) ws v le e h = h
  children-low (one u p) ws v le e h = more (only_child d t l P u p) ws (omega arith) h
  children-low (two b p q) ws v le e h =
      more (second_child d t l P b p q) (first_child d t l P b p q ∷ ws) (omega (arith, e.1)) (more (first_child d t l P b p q) ws (omega (arith, e.0)) h)

pub descend-low : (f : Waiting → ℕ) {m n v : ℕ} {w : Waiting} {ws : List Waiting} → m ≤ n → v ≤ n → Last f w.depth w.traps w.loops w.context w.root v v → Low f m (w ∷ ws) → Low f n (descend w ws)
descend-low f {n = n} {v = v} le lv e (more w ws b h) = children-low f n w.depth w.traps w.loops w.context w.root ws v lv e (raised f le h)

-- a number of the survey, at hand and on its stack
pub record Held (f : Waiting → ℕ) (m v : ℕ) (xs : List ℕ) (ws : List Waiting) : Type 0 where
  pub long : length xs ≡ max_nodes / 2 + 1
  pub at : At f v xs ws
  pub low : Low f m ws

pub record Hand (f : Waiting → ℕ) (m v : ℕ) (w : Waiting) : Type 0 where
  pub is : v ≡ f w
  pub low : f w ≤ m

module _ (f : Waiting → ℕ) (m : ℕ) (w : Waiting) (ws : List Waiting) {v : ℕ} {xs : List ℕ} (o : Held f m v xs (w ∷ ws)) where
  pub in_hand : Hand f m v w
  in_hand = record { is = hand-is f w ws o.at; low = low-top f o.low }

  -- its c children, which have the number y, take its place
  pub descend-held : {waiting c v' y : ℕ} {xs' : List ℕ} → waiting ≡ suc (length ws) → c ≡ children_of w.root → waiting ≤ max_nodes / 2
      → Moves c waiting y y xs v' xs' → y ≤ suc m
      → Last f w.depth w.traps w.loops w.context w.root y y → Held f (suc m) v' xs' (descend w ws)
  descend-held {waiting} {c} {v'} {y} ei ec lt moves le e =
      record {
        long = moves-length moves ∙ o.long;
        at = descended f w ws o.at ei ec (omega (arith, o.long)) e moves;
        low = descend-low f (omega arith) le e o.low;
      }
