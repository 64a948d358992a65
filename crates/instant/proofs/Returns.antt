-- `start_at` in its own terms: what each of its calls asks, and one law for each of its returns.
use mathlib.Core.Path.{◌≡◌, refl, sym, ap, ap₂, ◌∙◌}
use mathlib.Core.Bool.{Bool, true, false, ◌&&◌, cond}
use mathlib.Core.List.{List, [], ◌∷◌}
use Prim.Native.Nat.{ℕ, zero, suc, ◌+◌, ◌-◌, ◌*◌, ◌<◌, ◌≤◌}
use native.Mathlib.Numerals.{add-one}
use native.Mathlib.Omega.{arith}
use lib.Dec.{eqb}
use lib.ListN.{length, get_or, drop, drop_of_length-le}
use lib.Seq.{sets, drop-cons}
use borrow.Author.Tests.{ne_eqb}
use Rattle.std.specs.Prelude.{Option, Some, None}
use Rattle.std.specs.Option.{option_map}
use Rattle.std.specs.List.{slice_get}
use Rattle.std.proofs.lemmas.Option.{slice_get_within, get_or_from_slice_get}
use Rattle.esterel.specs.Statement.{Unary, Binary, present, sequence, parallel, Stmt, one, two, kind, field, size}
use Rattle.esterel.specs.Instant.{Result, zeros, start}
use Rattle.table.specs.Kinds.{kind_of, arity_of, leaf_of, is_trap, is_present, is_sequence}
use Rattle.table.specs.Program.{program_of, Readable}
use Rattle.table.specs.declared.Kind.{Kind}
use Rattle.table.proofs.Surveying.{few-nodes}
use Rattle.table.proofs.Bytes.{leaf-is, field_byte}
use Rattle.instant.specs.Steps.{one_more, catch_ran, catches, Left, both, LeafRan}
use Rattle.instant.specs.Run.{stmt_at, first_at, Runnable, Room, Clear, RanIs, starves, Started}
use Rattle.instant.specs.declared.Reaction.{Reaction}
use Rattle.instant.proofs.Algebra.{Sized, entries_le, taken_le, held-length, em_length, held-behind}
use Rattle.instant.proofs.Nodes.{fine, start-sized, start-few}
use Rattle.table.proofs.Views.{spans, Over, Both}
use Rattle.table.proofs.TreeViews.{kind-is, leaf_of_lem, has_last, one_of, two_of_lem}
use Rattle.instant.proofs.Starts.{start_as, sized_as, leaf-start, one-start, one-starves, then-start, else_start, left-starves, stops-start, joined-start}

present-is : (b : Binary) (p q : Stmt) → is_present (kind_of (kind (two b p q))) ≡ true → (g : ℕ) × (b ≡ present g)
unfolding kind_of
present-is (present g) p q e = (g, refl)
present-is sequence p q e = (0, cc)
present-is parallel p q e = (0, cc)

-- where no answer is left
past-end : (xs : List ℕ) (i : ℕ) → None ≡ slice_get xs i → length xs ≤ i
past-end [] i e = omega arith
past-end (x ∷ xs) zero e = cc
past-end (x ∷ xs) (suc i) e = omega (arith, past-end xs i e)

-- a node with one child, from the size of that
module _ {t : List ℕ} (ok : Readable t) {node : ℕ} (h : node < size (program_of t)) {k : Kind} {n s : ℕ} (ek : k ≡ kind_of (get_or t (2 * node) 0)) (en : n ≡ arity_of k) (es : s ≡ size (stmt_at t (node - 1))) (z : n ≡ 1) where
  pub one_at : (u : Unary) × (p : Stmt) × Over t node s u p
  one_at = rw es (one_of ok h ek en z)

  pub size_le : s ≤ node
  size_le = let (u, p, v) = one_at in omega (arith, v.ends, v.sized)

-- a node with one child is left: in the statement's terms
pub left_as : {t mid held' : List ℕ} {node s : ℕ} {u : Unary} {p : Stmt} {k : Kind} {x r : Reaction} → Over t node s u p → kind_of (kind (one u p)) ≡ k → Left k x (node - s) node mid held' r → (r ≡ one_more (cond (is_trap (kind_of (kind (one u p)))) (catch_ran x) x)) × (held' ≡ cond (is_trap (kind_of (kind (one u p))) && catches x) (sets mid (first_at t node) (zeros (size p))) mid)
left_as {t} {mid} {held'} {node} {s} {u} {p} {k} {x} v e l =
    let at : node - s ≡ first_at t node = omega (arith, v.ends, v.sized) in
    let many : node - (node - s) ≡ size p = omega (arith, v.ends, v.sized) in
    rw e (l.answer, l.state ∙ ap₂ (λ a b. cond (is_trap k && catches x) (sets mid a (zeros b)) mid) at many)

-- the entries of a start are few
pub few-entries : {t answers h h' e e' : List ℕ} {r : Reaction} (j k : ℕ) → Runnable t → j < size (program_of t) → Started t answers h h' e e' j k (Some r) → r.entries ≤ 1024
few-entries {t = t} {answers = answers} j k ok h o =
    omega (arith, entries_le (size (stmt_at t j)) (start-few ok j h (drop k answers)) o, spans t j h, few-nodes t (fine ok))

-- the buffers after a part that closed
pub room_after : {t answers held mid em emid : List ℕ} {f node taken : ℕ} {x : Result} {l : Reaction} (i : ℕ) → i ≤ node → Room t answers held em node taken → RanIs t answers f held mid em emid x (Some l) → Room t answers mid emid i l.taken
room_after i le room o =
    record {
      within = omega (arith, room.within);
      places = omega (arith, room.places, held-length o);
      marks = omega (arith, room.marks, em_length o);
      lent = taken_le o;
    }

module _ {t answers held em : List ℕ} {node taken : ℕ} (ok : Runnable t) (room : Room t answers held em node taken) (free : Clear t held node) where
  -- the start of a node j beneath this one, with k answers taken
  beneath : (j k : ℕ) → first_at t node ≤ first_at t j → j < node → k ≤ length answers → Runnable t × Room t answers held em j k × Clear t held j
  unfolding Clear
  beneath j k lo hi le =
      (ok, record { within = omega (arith, room.within); places = room.places; marks = room.marks; lent = le }, λ i a b. free i (omega arith) (omega arith))

  -- the kind that the code has read, and the children that it counts
  module _ {k : Kind} {n : ℕ} (ek : k ≡ kind_of (get_or t (2 * node) 0)) (en : n ≡ arity_of k) where
    pub leaf-returns : {held' em' : List ℕ} {r : Reaction} → n ≡ 0 → LeafRan (leaf_of k (get_or t (2 * node + 1) 0)) node taken held held' em em' r → Started t answers held held' em em' node taken (Some r)
    leaf-returns z o =
        let (l, e) = leaf_of_lem (fine ok) room.within ek en z in
        let first : first_at t node ≡ node = omega (arith, ap size e) in
        let is = ap₂ leaf_of (sym (kind-is (fine ok) room.within ek en e)) (field_byte t (fine ok) node room.within ∙ ap field e) ∙ leaf-is l in
        start_as (sym first) (sym e) (drop taken answers) (leaf-start ok room free l e first (rw is at o))

    module _ {s : ℕ} (es : s ≡ size (stmt_at t (node - 1))) where
      -- with one child
      pub child_call : n ≡ 1 → Runnable t × Room t answers held em (node - 1) taken × Clear t held (node - 1)
      child_call z =
          let (u, p, v) = one_at (fine ok) room.within ek en es z in
          beneath (node - 1) taken (omega (arith, v.first)) (omega (arith, v.ends, v.some)) room.lent

      pub child-returns : {mid held' em' : List ℕ} {x r : Reaction} → n ≡ 1 → Started t answers held mid em em' (node - 1) taken (Some x) → Left k x (node - s) node mid held' r → Started t answers held held' em em' node taken (Some r)
      child-returns z o l =
          let (u, p, v) = one_at (fine ok) room.within ek en es z in
          let (answer, state) = left_as v (kind-is (fine ok) room.within ek en v.is) l in
          let fits = sized_as v.first v.child (drop taken answers) (start-sized ok (node - 1) (omega (arith, v.ends, v.some, room.within)) (drop taken answers)) in
          rw answer (start_as refl (sym v.is) (drop taken answers) (one-start ok room free u v state fits (start_as v.first v.child (drop taken answers) o)))

      pub child-starves : {held' em' : List ℕ} → n ≡ 1 → Started t answers held held' em em' (node - 1) taken None → Started t answers held held' em em' node taken None
      child-starves z o =
          let (u, p, v) = one_at (fine ok) room.within ek en es z in
          start_as refl (sym v.is) (drop taken answers) (one-starves ok room free u v (start_as v.first v.child (drop taken answers) o))

      -- with two
      module _ (z : n ≡ 0 → ⊥) (y : n ≡ 1 → ⊥) where
        pub first_call : Runnable t × Room t answers held em (node - 1 - s) taken × Clear t held (node - 1 - s)
        first_call =
            let (b, p, q, v) = two_of_lem (fine ok) room.within ek en es z y in
            beneath (node - 1 - s) taken (omega (arith, v.first)) (omega (arith, v.ends, v.some_right)) room.lent

        first_fits : (b : Binary) (p q : Stmt) → Both t node s b p q → (ans : List ℕ) → Sized (size p) (start (first_at t node) p ans)
        first_fits b p q v ans = sized_as v.first v.left ans (start-sized ok (node - 1 - s) (omega (arith, room.within)) ans)

        -- a present: no answer is left, or one is taken
        module _ (pr : is_present k ≡ true) where
          signal_of : (b : Binary) {p q : Stmt} → Both t node s b p q → (g : ℕ) × (b ≡ present g)
          signal_of b {p} {q} v = present-is b p q (ap is_present (kind-is (fine ok) room.within ek en v.is) ∙ pr)

          pub present-starves : None ≡ slice_get answers taken → Started t answers held held em em node taken None
          present-starves none-left =
              let le = past-end answers taken none-left in
              let (b, p, q, v) = two_of_lem (fine ok) room.within ek en es z y in
              let (g, e) = signal_of b v in
              let none : drop taken answers ≡ [] = drop_of_length-le answers le in
              start_as refl (sym v.is) (drop taken answers) (rw (none, e) starves)

          module _ {a b : ℕ} (got : Some a ≡ slice_get answers taken) (chosen : b ≡ cond (eqb a 0) (node - 1) (node - 1 - s)) where
            lt : taken < length answers
            lt = slice_get_within answers taken a (sym got)

            eb : b ≡ cond (eqb (get_or answers taken 0) 0) (node - 1) (node - 1 - s)
            eb = chosen ∙ ap (λ x. cond (eqb x 0) (node - 1) (node - 1 - s)) (sym (get_or_from_slice_get answers taken a 0 (sym got)))

            pub branch_lt : b < node
            branch_lt = go (eqb (get_or answers taken 0) 0) eb
              where
                go : (c : Bool) → b ≡ cond c (node - 1) (node - 1 - s) → b < node
                go true e = omega (arith, has_last (fine ok) room.within ek en z)
                go false e = omega (arith, has_last (fine ok) room.within ek en z)

            pub branch_call : Runnable t × Room t answers held em b (taken + 1) × Clear t held b
            branch_call = go (eqb (get_or answers taken 0) 0) eb
              where
                go : (c : Bool) → b ≡ cond c (node - 1) (node - 1 - s) → Runnable t × Room t answers held em b (taken + 1) × Clear t held b
                go true e =
                    let (c, p, q, v) = two_of_lem (fine ok) room.within ek en es z y in
                    rw e (beneath (node - 1) (taken + 1) (omega (arith, v.second)) (omega (arith, v.ends, v.some_right)) (omega (arith, lt)))
                go false e =
                    let (c, p, q, v) = two_of_lem (fine ok) room.within ek en es z y in
                    rw e (beneath (node - 1 - s) (taken + 1) (omega (arith, v.first)) (omega (arith, v.ends, v.some_right)) (omega (arith, lt)))

            pub present-returns : {held' em' : List ℕ} {r r' : Option Reaction} → Started t answers held held' em em' b (taken + 1) r → r' ≡ option_map one_more r → Started t answers held held' em em' node taken r'
            present-returns {held'} {em'} {r} {r'} o l =
                let (c, p, q, v) = two_of_lem (fine ok) room.within ek en es z y in
                let (g, e) = signal_of c v in
                let here : Both t node s (present g) p q = rw e at v in
                let next : drop taken answers ≡ get_or answers taken 0 ∷ drop (taken + 1) answers = rw (add-one, drop-cons answers taken 0 lt) in
                rw l (start_as refl (sym here.is) (drop taken answers) (rw next (go g p q here (get_or answers taken 0) eb)))
              where
                go : (g : ℕ) (p q : Stmt) → Both t node s (present g) p q → (a : ℕ) → b ≡ cond (eqb a 0) (node - 1) (node - 1 - s) → RanIs t answers (first_at t node) held held' em em' (start (first_at t node) (two (present g) p q) (a ∷ drop (taken + 1) answers)) (option_map one_more r)
                go g p q v zero e = else_start ok room free g (drop (taken + 1) answers) v (start_as v.second v.right (drop (taken + 1) answers) (rw e at o))
                go g p q v (suc a) e =
                    let first : b ≡ node - 1 - s = e ∙ ap (λ c. cond c (node - 1) (node - 1 - s)) (ne_eqb (suc a) 0 (λ x. omega arith)) in
                    then-start ok room free g a (drop (taken + 1) answers) v (first_fits (present g) p q v (drop (taken + 1) answers)) (start_as v.first v.left (drop (taken + 1) answers) (rw first at o))

        -- a sequence or a parallel: its first child starves
        module _ (np : is_present k ≡ false) where
          not-present : {b : Binary} {p q : Stmt} → Both t node s b p q → is_present (kind_of (kind (two b p q))) ≡ false
          not-present v = ap is_present (kind-is (fine ok) room.within ek en v.is) ∙ np

          pub first-starves : {held' em' : List ℕ} → Started t answers held held' em em' (node - 1 - s) taken None → Started t answers held held' em em' node taken None
          first-starves o =
              let (b, p, q, v) = two_of_lem (fine ok) room.within ek en es z y in
              start_as refl (sym v.is) (drop taken answers) (left-starves ok room free b v (not-present v) (start_as v.first v.left (drop taken answers) o))

          -- or closes
          module _ {x : Reaction} {mid emid : List ℕ} (o : Started t answers held mid em emid (node - 1 - s) taken (Some x)) where
            pub second_call : Runnable t × Room t answers mid emid (node - 1) x.taken × Clear t mid (node - 1)
            unfolding Clear
            second_call =
                let (b, p, q, v) = two_of_lem (fine ok) room.within ek en es z y in
                let left = start_as v.first v.left (drop taken answers) o in (
                  ok,
                  room_after (node - 1) (omega arith) room left,
                  λ i lo hi. held-behind (size p) (first_fits b p q v (drop taken answers)) left i (omega (arith, v.second)) ∙ free i (omega (arith, v.second)) (omega arith),
                )

            pub stops-returns : is_sequence k ≡ true → (x.code ≡ 0 → ⊥) → {r : Reaction} → r ≡ one_more x → Started t answers held mid em emid node taken (Some r)
            stops-returns sq go er =
                let (b, p, q, v) = two_of_lem (fine ok) room.within ek en es z y in
                rw er
                (start_as refl (sym v.is) (drop taken answers)
                (stops-start ok room free b v (ap is_sequence (kind-is (fine ok) room.within ek en v.is) ∙ sq) go (first_fits b p q v (drop taken answers)) (start_as v.first v.left (drop taken answers) o)))

            pub joined-returns : (is_sequence k ≡ true → x.code ≡ 0) → {held' em' : List ℕ} {r r' : Option Reaction} → Started t answers mid held' emid em' (node - 1) x.taken r → r' ≡ option_map one_more (option_map (both x) r) → Started t answers held held' em em' node taken r'
            joined-returns ends d er =
                let (b, p, q, v) = two_of_lem (fine ok) room.within ek en es z y in
                rw er
                (start_as refl (sym v.is) (drop taken answers)
                (joined-start ok room free b v (not-present v) (λ w. ends (sym (ap is_sequence (kind-is (fine ok) room.within ek en v.is)) ∙ w)) (first_fits b p q v (drop taken answers)) (start_as v.first v.left (drop taken answers) o) (start_as v.second v.right (drop x.taken answers) d)))
