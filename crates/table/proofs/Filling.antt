-- A buffer while a column, a number for each node, is written into it from the first entry on.
use mathlib.Core.Path.{◌≡◌, refl, sym, ap, ◌∙◌}
use mathlib.Core.List.{List, [], ◌∷◌, ◌++◌, map}
use Prim.Native.Nat.{ℕ, zero, suc, ◌+◌, ◌≤◌, ◌<◌}
use native.Mathlib.Numerals.{add-one}
use native.Mathlib.Omega.{arith}
use lib.ListN.{length, get_or, take, drop, set, length-map}
use lib.Seq.{take-length}
use Rattle.esterel.specs.Statement.{nothing, Stmt, leaf, size, nodes}
use Rattle.esterel.specs.Outcome.{statement_at}
use Rattle.esterel.proofs.Sizes.{length-nodes}
use Rattle.table.specs.Columns.{onto}
use Rattle.table.proofs.Buffers.{front, front-suc, length_front, front_at}

-- a number for each member of a list
pub map_at : {A : Type 0} (f : A → ℕ) (xs : List A) (d : A) (i : ℕ) → i < length xs → get_or (map f xs) i 0 ≡ f (get_or xs i d)
map_at f [] d i h = absurd (omega arith)
map_at f (x ∷ xs) d zero h = refl
map_at f (x ∷ xs) d (suc i) h = map_at f xs d i (omega arith)

-- any column of a program, by its nodes
module _ (f : Stmt → ℕ) (p : Stmt) where
  pub length-column : length (map f (nodes p)) ≡ size p
  length-column = length-map (nodes p) f ∙ length-nodes p

  pub column-at : (i : ℕ) → i < size p → get_or (map f (nodes p)) i 0 ≡ f (statement_at (nodes p) i)
  column-at i h = map_at f (nodes p) (leaf nothing) i (omega (arith, length-nodes p))

-- n entries of the column are to be written, and i of them are
pub record Filling (column old now : List ℕ) (n i : ℕ) : Type 0 where
  pub bound : i ≤ n
  pub is : now ≡ front column old i

module _ {column old now : List ℕ} {n i : ℕ} (has : n ≤ length column) (room : n ≤ length old) (o : Filling column old now n i) where
  pub filling-length : length now ≡ length old
  filling-length = ap length o.is ∙ length_front column old i (omega (arith, o.bound)) (omega (arith, o.bound))

  pub filling-at : (j : ℕ) → j < i → get_or now j 0 ≡ get_or column j 0
  filling-at j h = ap (λ l. get_or l j 0) o.is ∙ front_at column old i j (omega (arith, o.bound)) h

  pub filling-next : (v : ℕ) → i < n → v ≡ get_or column i 0 → Filling column old (set now i v) n (i + 1)
  filling-next v h e =
      record {
        bound = omega arith;
        is = ap (λ l. set l i v) o.is ∙ front-suc column old i v (omega arith) (omega arith) e ∙ ap (front column old) (sym (add-one i));
      }

  pub filling-end : n ≤ i → now ≡ take n column ++ drop n old
  filling-end h = let all : i ≡ n = omega (arith, o.bound) in o.is ∙ ap (front column old) all

-- the whole column
pub whole : (column old : List ℕ) (n : ℕ) → length column ≡ n → take n column ++ drop n old ≡ onto column old
whole column old n e = rw (← e, take-length column) refl
