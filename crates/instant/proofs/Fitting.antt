-- What check 12 asks at one node, from the prefix counts.
use mathlib.Core.Path.{◌≡◌, refl, sym, ap, ap₂, ◌∙◌}
use mathlib.Core.Bool.{Bool, true, false, not, ◌&&◌, ◌||◌}
use mathlib.Core.List.{List}
use Prim.Native.Nat.{ℕ, ◌+◌, ◌-◌, ◌*◌, ◌≤◌, ◌<◌}
use native.Mathlib.Decide.{dec_lt}
use native.Mathlib.Omega.{arith}
use borrow.Author.Tests.{lt-ltb, le-ltb, eq-eqb, ne_eqb}
use lib.Dec.{eqb, ltb}
use lib.ListN.{get_or, take, drop}
use Rattle.esterel.specs.Statement.{nothing, pause, emit, exit, signal, suspend, loop, trap, Binary, present, sequence, parallel, Stmt, leaf, one, two, kind, size, nodes}
use Rattle.esterel.specs.Instant.{holds, apart}
use Rattle.esterel.specs.Outcome.{statement_at}
use Rattle.esterel.proofs.Sizes.{size_pos}
use Rattle.esterel.proofs.Subtrees.{two-children}
use Rattle.table.specs.Kinds.{kind_of, is_pause}
use Rattle.table.specs.Program.{program_of, Readable}
use Rattle.table.specs.declared.Kind.{Kind}
use Rattle.table.proofs.Bytes.{kind_byte}
use Rattle.table.specs.Columns.{stmt_at}
use Rattle.instant.specs.Admission.{count_held, Counted, byte_fits, children_apart, node_fits, byte_fits_kind, is_exclusive}
use Rattle.instant.proofs.Admits.{part-holds, count_rises}

-- a statement by whether it holds pauses in at most one child
data Sided (w : Stmt) : Bool → Type 0 where
  apart_at : (b : Binary) (q r : Stmt) → w ≡ two b q r → ((x y : Bool) → apart b x y ≡ not (x && y)) → Sided w true
  free : ((h : List ℕ) (i : ℕ) → children_apart w h i ≡ true) → Sided w false

sided : (w : Stmt) → Sided w (is_exclusive (kind_of (kind w)))
unfolding kind_of
sided (leaf nothing) = free (λ h i. refl)
sided (leaf pause) = free (λ h i. refl)
sided (leaf (emit s)) = free (λ h i. refl)
sided (leaf (exit level)) = free (λ h i. refl)
sided (one (signal s) q) = free (λ h i. refl)
sided (one (suspend s) q) = free (λ h i. refl)
sided (one loop q) = free (λ h i. refl)
sided (one trap q) = free (λ h i. refl)
sided (two (present s) q r) = apart_at (present s) q r refl (λ x y. refl)
sided (two sequence q r) = apart_at sequence q r refl (λ x y. refl)
sided (two parallel q r) = free (λ h i. refl)

is-pause : (w : Stmt) → is_pause (kind_of (kind w)) ≡ eqb (kind w) 2
unfolding kind_of
is-pause (leaf nothing) = refl
is-pause (leaf pause) = refl
is-pause (leaf (emit s)) = refl
is-pause (leaf (exit level)) = refl
is-pause (one (signal s) q) = refl
is-pause (one (suspend s) q) = refl
is-pause (one loop q) = refl
is-pause (one trap q) = refl
is-pause (two (present s) q r) = refl
is-pause (two sequence q r) = refl
is-pause (two parallel q r) = refl

module _ {t : List ℕ} (ok : Readable t) (i : ℕ) (h : i < size (program_of t)) {k : Kind} (ek : k ≡ kind_of (get_or t (2 * i) 0)) (state : List ℕ) where
  abbrev here : Stmt
  here = statement_at (nodes (program_of t)) i

  kind-here : k ≡ kind_of (kind here)
  kind-here = ek ∙ ap kind_of (kind_byte t ok i h)

  byte_here : {f : Bool} → f ≡ byte_fits_kind k (get_or state i 0) → f ≡ byte_fits here (get_or state i 0)
  byte_here e = e ∙ ap (λ x. eqb (get_or state i 0) 0 || eqb (get_or state i 0) 1 && x) (ap is_pause kind-here ∙ is-pause here)

  sided_here : {b : Bool} → b ≡ is_exclusive k → Sided here b
  sided_here e = rw (e, kind-here) (sided here)

  module _ {f : Bool} (ef : f ≡ byte_fits_kind k (get_or state i 0)) where
    pub misfit : f ≡ false → false ≡ node_fits (nodes (program_of t)) state i
    misfit z = ap (λ x. x && children_apart here state i) (sym z ∙ byte_here ef)

    module _ (yes-byte : f ≡ true) {b : Bool} (eb : b ≡ is_exclusive k) where
      by-children : {r : Bool} → r ≡ children_apart here state i → r ≡ node_fits (nodes (program_of t)) state i
      by-children e = e ∙ ap (λ x. x && children_apart here state i) (sym yes-byte ∙ byte_here ef)

      pub no_sides : b ≡ false → true ≡ node_fits (nodes (program_of t)) state i
      no_sides z = by-children (go (rw z at (sided_here eb)))
        where
          go : Sided here false → true ≡ children_apart here state i
          go (free g) = sym (g state i)

      module _ (z : b ≡ true) where
        pub some-before : 0 < i
        some-before = go (rw z at (sided_here eb))
          where
            go : Sided here true → 0 < i
            go (apart_at b q r e a) = omega (arith, (two-children (program_of t) i b q r e).0, size_pos q)

        module _ {s : ℕ} (es : s ≡ size (stmt_at t (i - 1))) where
          pub second-inside : s < i
          second-inside = go (rw z at (sided_here eb))
            where
              go : Sided here true → s < i
              go (apart_at b q r e a) =
                  let (le, right, left) = two-children (program_of t) i b q r e in
                  omega (arith, es ∙ ap size right, size_pos q)

          module _ {s' : ℕ} (es' : s' ≡ size (stmt_at t (i - s - 1))) where
            -- the sizes of both children
            record Children : Type 0 where
              op : Binary
              q : Stmt
              r : Stmt
              is : here ≡ two op q r
              rule : (x y : Bool) → apart op x y ≡ not (x && y)
              inside : size q + size r ≤ i
              first : s' ≡ size q
              second : s ≡ size r

            children : Children
            children = go (rw z at (sided_here eb))
              where
                go : Sided here true → Children
                go (apart_at b q r e a) =
                    let (le, right, left) = two-children (program_of t) i b q r e in
                    let second : s ≡ size r = es ∙ ap size right in
                    let place : i - s - 1 ≡ i - 1 - size r = omega arith in
                    record { op = b; q = q; r = r; is = e; rule = a; inside = le; second = second; first = es' ∙ rw place (ap size left) }

            pub first-inside : s' ≤ i - s
            first-inside = omega (arith, children.inside, children.first, children.second)

            module _ {counts : List ℕ} (c : Counted state counts (size (program_of t))) where
              -- the two children's counts
              abbrev before : ℕ
              before = get_or counts (i - s - s') 0

              abbrev between : ℕ
              between = get_or counts (i - s) 0

              abbrev after : ℕ
              after = get_or counts i 0

              rising : (a b : ℕ) → a ≤ b → b ≤ i → get_or counts a 0 ≤ get_or counts b 0
              rising a b l m =
                  let e : a + (b - a) ≡ b = omega arith in
                  let z = rw e at (count_rises state a (b - a)) in
                  omega (arith, c.entry a (omega arith), c.entry b (omega arith), z)

              at-node : children_apart here state i ≡ not (ltb before between && ltb between after)
              at-node =
                  let w = children in
                  let x : i - s - s' ≡ i - size w.r - size w.q = ap₂ (λ a b. i - a - b) w.second w.first in
                  let y : i - s ≡ i - size w.r = ap (λ a. i - a) w.second in
                  let u : i - size w.r - size w.q + size w.q ≡ i - s = omega (arith, w.inside, w.second) in
                  let v : i - size w.r + size w.r ≡ i = omega (arith, w.inside) in
                  let left : holds (take (size w.q) (drop (i - size w.r - size w.q) state)) ≡ ltb before between = part-holds state (i - size w.r - size w.q) (size w.q) ∙ ap₂ (λ a b. ltb (count_held (take a state)) (count_held (take b state))) (sym x) u ∙ ap₂ ltb (sym (c.entry (i - s - s') (omega arith))) (sym (c.entry (i - s) (omega arith))) in
                  let right : holds (take (size w.r) (drop (i - size w.r) state)) ≡ ltb between after = part-holds state (i - size w.r) (size w.r) ∙ ap₂ (λ a b. ltb (count_held (take a state)) (count_held (take b state))) (sym y) v ∙ ap₂ ltb (sym (c.entry (i - s) (omega arith))) (sym (c.entry i (omega arith))) in
                  ap (λ a. children_apart a state i) w.is ∙ w.rule _ _ ∙ ap₂ (λ a b. not (a && b)) left right

              pub first-idle : before ≡ between → true ≡ node_fits (nodes (program_of t)) state i
              first-idle e = by-children (sym (at-node ∙ ap (λ x. not (x && ltb between after)) (le-ltb before between (omega arith))))

              pub second-idle : (before ≡ between → ⊥) → eqb between after ≡ node_fits (nodes (program_of t)) state i
              second-idle n =
                  let low : before < between = omega (arith, n, rising (i - s - s') (i - s) (omega arith) (omega arith)) in
                  by-children (sym (at-node ∙ ap (λ x. not (x && ltb between after)) (lt-ltb before between low) ∙ other between after (rising (i - s) i (omega arith) (omega arith))))
                where
                  other : (a b : ℕ) → a ≤ b → not (ltb a b) ≡ eqb a b
                  other a b l = go (dec_lt a b)
                    where
                      go : Dec (a < b) → not (ltb a b) ≡ eqb a b
                      go (yes m) = ap not (lt-ltb a b m) ∙ sym (ne_eqb a b (λ e. omega arith))
                      go (no m) = ap not (le-ltb a b (omega arith)) ∙ sym (eq-eqb a b (omega arith))
