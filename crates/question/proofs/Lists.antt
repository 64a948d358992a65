-- Lists of nodes: where they lie, and that none stands there twice.
use mathlib.Core.Path.{◌≡◌, refl, sym, ap, ap₂, ◌∙◌}
use mathlib.Core.Logic.{⊎_elim}
use mathlib.Core.Bool.{true, false, ◌||◌, false≢true, or_assoc}
use mathlib.Core.List.{List, [], ◌∷◌, ◌++◌}
use Prim.Native.Nat.{ℕ, zero, suc, ◌+◌, ◌≤◌, ◌<◌}
use native.Mathlib.Decide.{dec_le}
use native.Mathlib.Omega.{arith}
use lib.Dec.{eqb}
use lib.ListN.{length}
use borrow.Author.Tests.{eqb-true, eq-eqb}
use Rattle.codes.proofs.Bools.{either, inl_true, inr_true, cannot_pass}
use Rattle.esterel.specs.Outcome.{member}
use Rattle.question.specs.Question.{range}
use Rattle.question.specs.Theorems.{NoneTwice}

-- all lie from i on and before j
abbrev pub Between : (i j : ℕ) → List ℕ → Type 0
Between i j [] = Unit {0}
Between i j (n ∷ ns) = (i ≤ n) × (n < j) × Between i j ns

pub wider : (i j a b : ℕ) (ns : List ℕ) → a ≤ i → j ≤ b → Between i j ns → Between a b ns
wider i j a b [] l r o = tt
wider i j a b (n ∷ ns) l r o = (omega (arith, o.0), omega (arith, o.1), wider i j a b ns l r o.2)

pub between-append : (i j : ℕ) (ns ms : List ℕ) → Between i j ns → Between i j ms → Between i j (ns ++ ms)
between-append i j [] ms o x = x
between-append i j (n ∷ ns) ms o x = (o.0, o.1, between-append i j ns ms o.2 x)

pub member-between : (i j : ℕ) (ns : List ℕ) → Between i j ns → (n : ℕ) → member n ns ≡ true → (i ≤ n) × (n < j)
member-between i j [] o n e = absurd (false≢true e)
member-between i j (m ∷ ns) o n e =
    ⊎_elim (λ z. let w = eqb-true m n z in (omega (arith, o.0), omega (arith, o.1))) (member-between i j ns o.2 n) (either (eqb m n) (member n ns) e)

-- a node that lies elsewhere
pub elsewhere : (i j : ℕ) (ns : List ℕ) → Between i j ns → (n : ℕ) → (i ≤ n → n < j → ⊥) → member n ns ≡ false
elsewhere i j ns o n out = cannot_pass (member n ns) (λ e. let (l, r) = member-between i j ns o n e in out l r)

pub first-is : (n : ℕ) (ns : List ℕ) → member n (n ∷ ns) ≡ true
first-is n ns = inl_true (eqb n n) (member n ns) (eq-eqb n n refl)

-- one list after the other
member-append : (n : ℕ) (ns ms : List ℕ) → member n (ns ++ ms) ≡ (member n ns || member n ms)
member-append n [] ms = refl
member-append n (m ∷ ns) ms = ap (λ b. eqb m n || b) (member-append n ns ms) ∙ sym (or_assoc (eqb m n) (member n ns) (member n ms))

pub left_in : (n : ℕ) (ns ms : List ℕ) → member n ns ≡ true → member n (ns ++ ms) ≡ true
left_in n ns ms e = member-append n ns ms ∙ inl_true (member n ns) (member n ms) e

pub right_in : (n : ℕ) (ns ms : List ℕ) → member n ms ≡ true → member n (ns ++ ms) ≡ true
right_in n ns ms e = member-append n ns ms ∙ inr_true (member n ns) (member n ms) e

pub none-append : (i j k : ℕ) (ns ms : List ℕ) → Between i j ns → Between j k ms → NoneTwice ns → NoneTwice ms → NoneTwice (ns ++ ms)
none-append i j k [] ms o x p q = q
none-append i j k (n ∷ ns) ms o x p q =
    (member-append n ns ms ∙ ap₂ ◌||◌ p.0 (elsewhere j k ms x n (λ l r. omega (arith, o.1))), none-append i j k ns ms o.2 x p.1 q)

-- the nodes of a run
pub length-range : (i n : ℕ) → length (range i n) ≡ n
length-range i zero = refl
length-range i (suc n) = ap suc (length-range (suc i) n)

pub range-between : (i n : ℕ) → Between i (i + n) (range i n)
range-between i zero = tt
range-between i (suc n) = (omega arith, omega arith, wider (suc i) (suc i + n) i (i + suc n) (range (suc i) n) (omega arith) (omega arith) (range-between (suc i) n))

pub range-once : (i n : ℕ) → NoneTwice (range i n)
range-once i zero = tt
range-once i (suc n) = (elsewhere (suc i) (suc i + n) (range (suc i) n) (range-between (suc i) n) i (λ l r. omega arith), range-once (suc i) n)

pub in_range : (i n m : ℕ) → i ≤ m → m < i + n → member m (range i n) ≡ true
in_range i zero m l r = absurd (omega arith)
in_range i (suc n) m l r = go (dec_le (suc i) m) (λ h. in_range (suc i) n m h (omega arith))
  where
    go : Dec (suc i ≤ m) → (suc i ≤ m → member m (range (suc i) n) ≡ true) → (eqb i m || member m (range (suc i) n)) ≡ true
    go (yes h) later = inr_true (eqb i m) (member m (range (suc i) n)) (later h)
    go (no h) later = inl_true (eqb i m) (member m (range (suc i) n)) (eq-eqb i m (omega arith))

pub member-some : (n : ℕ) (ns : List ℕ) → member n ns ≡ true → 1 ≤ length ns
member-some n [] e = absurd (false≢true e)
member-some n (m ∷ ns) e = omega arith
