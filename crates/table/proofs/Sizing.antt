-- The sizes of the subtrees, each from those before it.
use mathlib.Core.Path.{◌≡◌, refl, sym, ap, ◌∙◌}
use mathlib.Core.List.{List}
use Prim.Native.Nat.{ℕ, ◌+◌, ◌-◌, ◌*◌, ◌≤◌, ◌<◌}
use native.Mathlib.Omega.{arith}
use lib.ListN.{length, get_or, set, get_or-append}
use Rattle.esterel.specs.Statement.{Stmt, leaf, one, two, size, nodes}
use Rattle.esterel.specs.Outcome.{statement_at}
use Rattle.esterel.proofs.Sizes.{size_pos}
use Rattle.esterel.proofs.Subtrees.{only_child_lem, two-children}
use Rattle.table.specs.Kinds.{kind_of, arity_of}
use Rattle.table.specs.Program.{program_of, Readable}
use Rattle.table.specs.Columns.{onto, sizes_of, Measured}
use Rattle.table.specs.Check.{Room, span_of}
use Rattle.table.specs.declared.Kind.{Kind}
use Rattle.table.proofs.Bytes.{children_of, arity_of_lem, kind_byte}
use Rattle.table.proofs.Filling.{length-column, column-at, Filling, filling-length, filling-at, filling-next}

pub length_sizes : (p : Stmt) → length (sizes_of p) ≡ size p
unfolding sizes_of
length_sizes p = length-column size p

pub sizes_at : (p : Stmt) (i : ℕ) → i < size p → get_or (sizes_of p) i 0 ≡ size (statement_at (nodes p) i)
unfolding sizes_of
sizes_at p i h = column-at size p i h

-- the sizes of the nodes before i are written, and the last of them is at hand
pub record Sizing (p : Stmt) (old sizes : List ℕ) (last i : ℕ) : Type 0 where
  pub written : Filling (sizes_of p) old sizes (size p) i
  pub at_hand : 0 < i → last ≡ size (statement_at (nodes p) (i - 1))

-- one more
pub sizing_next : (p : Stmt) {old sizes : List ℕ} {last i : ℕ} → size p ≤ length old → Sizing p old sizes last i → (v : ℕ) → i < size p → v ≡ size (statement_at (nodes p) i) → Sizing p old (set sizes i v) v (i + 1)
sizing_next p {i = i} room o v h e =
    let back : i + 1 - 1 ≡ i = omega arith in
    record {
      written = filling-next (omega (arith, length_sizes p)) room o.written v h (e ∙ sym (sizes_at p i h));
      at_hand = λ z. e ∙ ap (λ j. size (statement_at (nodes p) j)) (sym back);
    }

-- what node i, with c children, needs of the sizes before it, and what its own is
pub record Turn (p : Stmt) (sizes : List ℕ) (i c last : ℕ) : Type 0 where
  pub room : Room sizes i c last
  pub spans : span_of sizes i c last ≡ size (statement_at (nodes p) i)

module _ (p : Stmt) {sizes : List ℕ} {last : ℕ} (i : ℕ) (long : size p ≤ length sizes) (h : i < size p) (before : (j : ℕ) → j < i → get_or sizes j 0 ≡ size (statement_at (nodes p) j)) (at_hand : 0 < i → last ≡ size (statement_at (nodes p) (i - 1))) where
  by-children : (w : Stmt) → statement_at (nodes p) i ≡ w → Turn p sizes i (children_of w) last
  unfolding span_of
  by-children (leaf l) e =
      record {
        room = record { within = omega arith; few = omega arith; two = λ z. absurd (omega arith); fits = omega arith };
        spans = sym (ap size e);
      }
  by-children (one u q) e =
      let (le, child) = only_child_lem p i u q e in
      let pos = size_pos q in
      let only : last ≡ size q = at_hand (omega arith) ∙ ap size child in
      record {
        room = record { within = omega arith; few = omega arith; two = λ z. absurd (omega arith); fits = omega arith };
        spans = omega (arith, ap size e);
      }
  by-children (two b q r) e =
      let (le, right, left) = two-children p i b q r e in
      let pos = size_pos q in
      let pos' = size_pos r in
      let second : last ≡ size r = at_hand (omega arith) ∙ ap size right in
      let first : get_or sizes (i - 1 - last) 0 ≡ size q = rw second (before (i - 1 - size r) (omega arith) ∙ ap size left) in
      record {
        room = record { within = omega arith; few = omega arith; two = λ z. omega arith; fits = omega arith };
        spans = omega (arith, ap size e);
      }

-- the same in the code's own terms
pub sized-turn : {t sizes₀ sizes : List ℕ} {last : ℕ} → Readable t → size (program_of t) ≤ length sizes₀ → (i : ℕ) → i < size (program_of t) → Sizing (program_of t) sizes₀ sizes last i → {k : Kind} {c : ℕ} → k ≡ kind_of (get_or t (2 * i) 0) → c ≡ arity_of k → Turn (program_of t) sizes i c last
sized-turn {t = t} ok room i h o ek ec =
    let has : size (program_of t) ≤ length (sizes_of (program_of t)) = omega (arith, length_sizes (program_of t)) in
    rw (ec, ek, kind_byte t ok i h, arity_of_lem (statement_at (nodes (program_of t)) i))
    (by-children (program_of t) i (omega (arith, filling-length has room o.written)) h (λ j l. filling-at has room o.written j l ∙ sizes_at (program_of t) j (omega arith)) o.at_hand (statement_at (nodes (program_of t)) i) refl)

-- with all sizes the table is measured
pub measured : {t sizes : List ℕ} (old : List ℕ) → Readable t → size (program_of t) ≤ length sizes → sizes ≡ onto (sizes_of (program_of t)) old → Measured t sizes
measured {t = t} old ok room e =
    record {
      readable = ok;
      sized = λ j h. ap (λ l. get_or l j 0) e ∙ get_or-append (sizes_of (program_of t)) _ 0 j (omega (arith, length_sizes (program_of t))) ∙ sizes_at (program_of t) j h;
      listed = room;
    }
