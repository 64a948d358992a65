-- Every node's statement stands in one piece that ends at the node; so do its children's.
use mathlib.Core.Path.{◌≡◌, refl, sym, ◌∙◌}
use mathlib.Core.Bool.{Bool, true, false, not, ◌&&◌}
use mathlib.Core.List.{List, [], ◌∷◌}
use Prim.Native.Nat.{ℕ, zero, suc, ◌+◌, ◌-◌, ◌*◌, ◌≤◌, ◌<◌}
use native.Mathlib.Decide.{dec_lt}
use native.Mathlib.Omega.{arith}
use lib.Dec.{eqb}
use lib.ListN.{length, get_or, get_or-eq_default}
use Rattle.codes.proofs.Bools.{both, left, right}
use Rattle.codes.proofs.Members.{only_out}
use Rattle.esterel.specs.Statement.{nothing, pause, emit, exit, Unary, signal, suspend, loop, trap, Binary, present, sequence, parallel, Stmt, leaf, one, two, kind, field, size, nodes}
use Rattle.esterel.specs.Sets.{start_set}
use Rattle.esterel.specs.Table.{bytes_of}
use Rattle.esterel.specs.Instant.{Entry, entry, started, resumed}
use Rattle.esterel.specs.Outcome.{statement_at, all_in, all_go_on}
use Rattle.esterel.specs.Theorems.{Subtrees}
use Rattle.esterel.proofs.Sizes.{length-nodes, size_pos}
use Rattle.esterel.proofs.Accepted.{place-statement}
use Rattle.esterel.proofs.Postorder.{Part, part-whole, part-child, part-first, part-second, part-own, pieces}
use Rattle.esterel.proofs.Nodes.{in_nodes}

-- the statement at node i
record PieceAt (ps : List Stmt) (i : ℕ) : Type 0 where
  first : ℕ
  part : Part ps first (nodes (statement_at ps i))
  ends : first + size (statement_at ps i) ≡ suc i

module _ (p : Stmt) (i : ℕ) where
  piece-at : i < size p → PieceAt (nodes p) i
  piece-at h =
      let x = pieces in_nodes (nodes p) tt p 0 (part-whole (nodes p)) i (omega arith) (omega arith) in
      let own : statement_at (nodes p) i ≡ x.stmt = part-own in_nodes (nodes p) (leaf nothing) tt x.stmt i x.ends x.part in
      record { first = x.first; part = rw own x.part; ends = rw own x.ends }

  -- a node past the program is `nothing`, so one with children is a node of it
  pub inside : (w : Stmt) → statement_at (nodes p) i ≡ w → (leaf nothing ≡ w → ⊥) → i < size p
  inside w e f = go (dec_lt i (size p))
    where
      go : Dec (i < size p) → i < size p
      go (yes h) = h
      go (no h) = absurd (f (sym (get_or-eq_default (nodes p) (leaf nothing) (rw length-nodes (omega arith))) ∙ e))

  pub only_child_lem : (u : Unary) (q : Stmt) → statement_at (nodes p) i ≡ one u q → (size q ≤ i) × (statement_at (nodes p) (i - 1) ≡ q)
  only_child_lem u q e =
      let c = piece-at (inside (one u q) e (λ z. let y : ◌≡◌ {A = ℕ} 0 1 = cc in omega arith)) in
      let ends : c.first + suc (size q) ≡ suc i = rw e at c.ends in
      let part = rw e at c.part in
      let pos = size_pos q in
      (omega arith, part-own in_nodes (nodes p) (leaf nothing) tt q (i - 1) (omega arith) (part-child in_nodes (nodes p) tt u q part))

  pub two-children : (b : Binary) (q r : Stmt) → statement_at (nodes p) i ≡ two b q r → (size q + size r ≤ i) × (statement_at (nodes p) (i - 1) ≡ r) × (statement_at (nodes p) (i - 1 - size r) ≡ q)
  two-children b q r e =
      let c = piece-at (inside (two b q r) e (λ z. let y : ◌≡◌ {A = ℕ} 0 1 = cc in omega arith)) in
      let ends : c.first + suc (size q + size r) ≡ suc i = rw e at c.ends in
      let part = rw e at c.part in
      let pos = size_pos q in
      let pos' = size_pos r in
      let first = part-own in_nodes (nodes p) (leaf nothing) tt q (i - 1 - size r) (omega arith) (part-first in_nodes (nodes p) tt b q r part) in
      let second = part-own in_nodes (nodes p) (leaf nothing) tt r (i - 1) (omega arith) (part-second in_nodes (nodes p) tt b q r part) in
      (omega arith, second, first)

kind-at : (ps : List Stmt) (i : ℕ) → i < length ps → get_or (bytes_of ps) (2 * i) 0 ≡ kind (statement_at ps i)
kind-at [] i h = absurd (omega arith)
kind-at (p ∷ ps) zero h = refl
kind-at (p ∷ ps) (suc i) h = let z : 2 * suc i ≡ suc (suc (2 * i)) = omega arith in rw z (kind-at ps i (omega arith))

field-at : (ps : List Stmt) (i : ℕ) → i < length ps → get_or (bytes_of ps) (2 * i + 1) 0 ≡ field (statement_at ps i)
field-at [] i h = absurd (omega arith)
field-at (p ∷ ps) zero h = refl
field-at (p ∷ ps) (suc i) h = let z : 2 * suc i + 1 ≡ suc (suc (2 * i + 1)) = omega arith in rw z (field-at ps i (omega arith))

pub subtrees : Subtrees
subtrees =
    record {
      piece = λ p i h. let c = piece-at p i h in (c.part.pre, c.part.post, c.part.is, rw c.part.at c.ends);
      only_child = only_child_lem;
      two_children = two-children;
      kind_at = λ p i h. kind-at (nodes p) i (rw length-nodes h);
      field_at = λ p i h. field-at (nodes p) i (rw length-nodes h);
      placed = place-statement;
    }

kind-loop : (p : Stmt) → eqb (kind p) 8 ≡ true → (b : Stmt) × (p ≡ one loop b)
kind-loop (leaf nothing) e = (leaf nothing, cc)
kind-loop (leaf pause) e = (leaf nothing, cc)
kind-loop (leaf (emit s)) e = (leaf nothing, cc)
kind-loop (leaf (exit level)) e = (leaf nothing, cc)
kind-loop (one (signal s) p) e = (leaf nothing, cc)
kind-loop (one (suspend s) p) e = (leaf nothing, cc)
kind-loop (one loop p) e = (p, refl)
kind-loop (one trap p) e = (leaf nothing, cc)
kind-loop (two (present s) p q) e = (leaf nothing, cc)
kind-loop (two sequence p q) e = (leaf nothing, cc)
kind-loop (two parallel p q) e = (leaf nothing, cc)

-- no started child of a loop has code 0, where each started code is in its node's K and no loop's body has 0 in K
pub all-go-on : (p : Stmt) (t : List Entry) → ((n : ℕ) (b : Stmt) → statement_at (nodes p) n ≡ one loop b → start_set b 0 ≡ true → ⊥) → all_in (nodes p) t ≡ true → all_go_on (nodes p) t ≡ true
all-go-on p [] ends f = refl
all-go-on p (entry n resumed k ∷ t) ends f = all-go-on p t ends f
all-go-on p (entry n started k ∷ t) ends f =
    both (go (eqb (kind (statement_at (nodes p) (suc n))) 8 && eqb k 0) refl)
    (all-go-on p t ends (right (start_set (statement_at (nodes p) n) k) f))
  where
    go : (c : Bool) → (eqb (kind (statement_at (nodes p) (suc n))) 8 && eqb k 0) ≡ c → not c ≡ true
    go false e = refl
    go true e =
        let (b, is) = kind-loop (statement_at (nodes p) (suc n)) (left (eqb (kind (statement_at (nodes p) (suc n))) 8) (eqb k 0) e) in
        let before : suc n - 1 ≡ n = omega arith in
        let child : statement_at (nodes p) n ≡ b = rw before at (only_child_lem p (suc n) loop b is).1 in
        let ended : k ≡ 0 = only_out k 0 (right (eqb (kind (statement_at (nodes p) (suc n))) 8) e) in
        absurd (ends (suc n) b is (rw (ended, child) at (left (start_set (statement_at (nodes p) n) k) (all_in (nodes p) t) f)))
