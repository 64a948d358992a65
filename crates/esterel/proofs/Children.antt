-- Where the children of a node stand in the bytes of a table that was read.
use mathlib.Core.Path.{◌≡◌, refl, ap, ap₂, ◌∙◌}
use mathlib.Core.List.{List, ◌++◌}
use Prim.Native.Nat.{ℕ, suc, ◌+◌, ◌-◌, ◌*◌, ◌<◌}
use native.Mathlib.Omega.{arith}
use lib.ListN.{length, get_or, take, drop}
use lib.Seq.{take_at, drop_at}
use Rattle.esterel.specs.Statement.{Unary, Binary, Stmt, leaf, one, two, kind, field, size, nodes}
use Rattle.esterel.specs.Table.{takes1, takes2, node_of, passed, read, bytes_of, postfix}
use Rattle.esterel.specs.Outcome.{statement_at}
use Rattle.esterel.specs.Theorems.{Stands, node_at, Children}
use Rattle.esterel.proofs.Sizes.{size_pos}
use Rattle.esterel.proofs.Reading.{bytes-append, length-bytes, length-postfix, node-leaf, node-one, node-two, reads_only_lem}
use Rattle.esterel.proofs.Subtrees.{only_child_lem, two-children, subtrees}

module _ (bytes : List ℕ) (p : Stmt) (e : read bytes ≡ passed p) where
  are : bytes ≡ postfix p
  are = reads_only_lem bytes p e

  -- a node's statement stands where its nodes are
  standing : (i : ℕ) → i < size p → (q : Stmt) → statement_at (nodes p) i ≡ q → (from : ℕ) → from + size q ≡ suc i → Stands bytes p from i q
  standing i h q is from spans =
      let (pre, post, split, ends) = subtrees.piece p i h in
      let nodes-split : nodes p ≡ pre ++ (nodes q ++ post) = rw is at split in
      let begins : length pre ≡ from = omega (arith, ap size is) in
      let bytes-split : bytes ≡ bytes_of pre ++ (postfix q ++ bytes_of post) = are ∙ ap bytes_of nodes-split ∙ bytes-append pre (nodes q ++ post) ∙ ap (λ l. bytes_of pre ++ l) (bytes-append (nodes q) post) in
      record {
        within = h;
        is = is;
        spans = spans;
        reads =
            ap (λ l. take (2 * size q) (drop (2 * from) l)) bytes-split
            ∙ ap (take (2 * size q)) (drop_at (bytes_of pre) (postfix q ++ bytes_of post) (2 * from) (length-bytes pre ∙ ap (λ n. 2 * n) begins))
            ∙ take_at (postfix q) (bytes_of post) (2 * size q) (length-postfix q);
      }

  -- it is the one that the node's bytes say
  module _ (i : ℕ) (h : i < size p) where
    said : (q : Stmt) → statement_at (nodes p) i ≡ q → node_at bytes i ≡ node_of (kind q) (field q)
    said q is =
        ap₂ node_of (ap (λ l. get_or l (2 * i) 0) are ∙ subtrees.kind_at p i h ∙ ap kind is) (ap (λ l. get_or l (2 * i + 1) 0) are ∙ subtrees.field_at p i h ∙ ap field is)

    single : (u : Unary) → node_at bytes i ≡ takes1 u → (from j : ℕ) × (q : Stmt) × (i ≡ suc j) × Stands bytes p from i (one u q) × Stands bytes p from j q
    single u z = go (statement_at (nodes p) i) refl
      where
        go : (w : Stmt) → statement_at (nodes p) i ≡ w → (from j : ℕ) × (q : Stmt) × (i ≡ suc j) × Stands bytes p from i (one u q) × Stands bytes p from j q
        go (leaf l) is = let y : ◌≡◌ {A = ℕ} 0 1 = cc (said (leaf l) is, node-leaf l) in absurd (omega arith)
        go (two b q r) is = let y : ◌≡◌ {A = ℕ} 0 1 = cc (said (two b q r) is, node-two b q r) in absurd (omega arith)
        go (one v q) is =
            let same : v ≡ u = cc (said (one v q) is, node-one v q) in
            let here : statement_at (nodes p) i ≡ one u q = is ∙ ap (λ x. one x q) same in
            let (le, child) = only_child_lem p i u q here in
            let pos = size_pos q in
            (i - size q, i - 1, q, omega arith, standing i h (one u q) here (i - size q) (omega arith), standing (i - 1) (omega arith) q child (i - size q) (omega arith))

    pair : (b : Binary) → node_at bytes i ≡ takes2 b → (from m j : ℕ) × (q r : Stmt) × (i ≡ suc j) × Stands bytes p from i (two b q r) × Stands bytes p (suc m) j r × Stands bytes p from m q
    pair b z = go (statement_at (nodes p) i) refl
      where
        go : (w : Stmt) → statement_at (nodes p) i ≡ w → (from m j : ℕ) × (q r : Stmt) × (i ≡ suc j) × Stands bytes p from i (two b q r) × Stands bytes p (suc m) j r × Stands bytes p from m q
        go (leaf l) is = let y : ◌≡◌ {A = ℕ} 0 1 = cc (said (leaf l) is, node-leaf l) in absurd (omega arith)
        go (one u q) is = let y : ◌≡◌ {A = ℕ} 0 1 = cc (said (one u q) is, node-one u q) in absurd (omega arith)
        go (two c q r) is =
            let same : c ≡ b = cc (said (two c q r) is, node-two c q r) in
            let here : statement_at (nodes p) i ≡ two b q r = is ∙ ap (λ x. two x q r) same in
            let (le, right, left) = two-children p i b q r here in
            let pos = size_pos q in
            let pos' = size_pos r in (
              i - size q - size r,
              i - 1 - size r,
              i - 1,
              q,
              r,
              omega arith,
              standing i h (two b q r) here (i - size q - size r) (omega arith),
              standing (i - 1) (omega arith) r right (suc (i - 1 - size r)) (omega arith),
              standing (i - 1 - size r) (omega arith) q left (i - size q - size r) (omega arith),
            )

pub children : Children
children =
    record {
      stands = λ bytes p e i h.
          let (pre, post, split, ends) = subtrees.piece p i h in
          (length pre, statement_at (nodes p) i, standing bytes p e i h (statement_at (nodes p) i) refl (length pre) ends);
      single = single;
      pair = pair;
    }
