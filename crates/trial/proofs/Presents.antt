-- The presents of a statement, counted over its nodes.
use mathlib.Core.Path.{◌≡◌, refl, sym, ap, ap₂, ◌∙◌}
use mathlib.Core.Bool.{Bool, true, false, cond}
use mathlib.Core.List.{List, [], ◌∷◌, ◌++◌}
use Prim.Native.Nat.{ℕ, zero, suc, ◌+◌, ◌-◌, ◌*◌, ◌≤◌, ◌<◌}
use native.Mathlib.Numerals.{add-one}
use native.Mathlib.Omega.{arith}
use lib.ListN.{length, get_or, take, drop}
use lib.Seq.{drop-cons, take_at, drop_at}
use Rattle.std.specs.List.{range_with_len, filter}
use Rattle.codes.specs.Codes.{bit}
use Rattle.esterel.specs.Statement.{Leaf, nothing, pause, emit, exit, Unary, signal, suspend, loop, trap, Binary, present, sequence, parallel, Stmt, leaf, one, two, kind, size, nodes}
use Rattle.esterel.proofs.Sizes.{length-nodes}
use Rattle.esterel.proofs.Subtrees.{subtrees}
use Rattle.table.specs.Kinds.{kind_of, is_present}
use Rattle.table.specs.Program.{program_of, Readable}
use Rattle.table.specs.Columns.{stmt_at, first_at}
use Rattle.table.proofs.Bytes.{kind_byte}
use Rattle.table.proofs.Said.{bit-small}
use Rattle.table.proofs.Views.{spans}
use Rattle.starts.specs.Ticks.{presents}
use Rattle.trial.specs.Steps.{Countable}

-- 1 for a present
pub own : Stmt → ℕ
own w = bit (is_present (kind_of (kind w)))

-- of a list of nodes
pub tests : List Stmt → ℕ
tests [] = 0
tests (w ∷ ws) = own w + tests ws

tests-append : (a b : List Stmt) → tests (a ++ b) ≡ tests a + tests b
unfolding tests
tests-append [] b = omega arith
tests-append (w ∷ a) b = omega (arith, tests-append a b)

tests-last : (a : List Stmt) (w : Stmt) → tests (a ++ (w ∷ [])) ≡ tests a + own w
unfolding tests
tests-last a w = omega (arith, tests-append a (w ∷ []))

own-leaf : (l : Leaf) → own (leaf l) ≡ 0
unfolding own kind_of
own-leaf nothing = refl
own-leaf pause = refl
own-leaf (emit s) = refl
own-leaf (exit level) = refl

own-one : (u : Unary) (p : Stmt) → own (one u p) ≡ 0
unfolding own kind_of
own-one (signal s) p = refl
own-one (suspend s) p = refl
own-one loop p = refl
own-one trap p = refl

own-two : (b : Binary) (p q : Stmt) → own (two b p q) + (presents p + presents q) ≡ presents (two b p q)
unfolding own kind_of
own-two (present s) p q = omega arith
own-two sequence p q = omega arith
own-two parallel p q = omega arith

tests-nodes : (p : Stmt) → tests (nodes p) ≡ presents p
unfolding tests
tests-nodes (leaf l) = omega (arith, own-leaf l)
tests-nodes (one u p) = tests-last (nodes p) (one u p) ∙ omega (arith, tests-nodes p, own-one u p)
tests-nodes (two b p q) =
    tests-last (nodes p ++ nodes q) (two b p q) ∙ omega (arith, tests-append (nodes p) (nodes q), tests-nodes p, tests-nodes q, own-two b p q)

own-few : (w : Stmt) → own w ≤ 1
unfolding own
own-few w = bit-small (is_present (kind_of (kind w)))

-- whether node i of a table is a present
abbrev pub is_present_at : List ℕ → ℕ → Bool
is_present_at t i = is_present (kind_of (get_or t (2 * i) 0))

kept : (b : Bool) (i : ℕ) (is : List ℕ) → length (cond b (i ∷ is) is) ≡ bit b + length is
kept true i is = omega arith
kept false i is = omega arith

-- of n nodes from i on
counted : (t : List ℕ) → Readable t → (n i : ℕ) → i + n ≤ size (program_of t) → length (filter (is_present_at t) (range_with_len i n)) ≡ tests (take n (drop i (nodes (program_of t))))
unfolding tests own
counted t ok zero i h = refl
counted t ok (suc n) i h =
    let ns = nodes (program_of t) in
    let inside : i < length ns = omega (arith, length-nodes (program_of t)) in
    let mine : is_present_at t i ≡ is_present (kind_of (kind (get_or ns i (leaf nothing)))) = ap (λ k. is_present (kind_of k)) (kind_byte t ok i (omega arith)) in
    kept (is_present_at t i) i _ ∙ ap₂ ◌+◌ (ap bit mine) (counted t ok n (i + 1) (omega arith))
    ∙ ap (λ j. own (get_or ns i (leaf nothing)) + tests (take n (drop j ns))) (add-one i)
    ∙ sym (ap (λ l. tests (take (suc n) l)) (drop-cons ns i (leaf nothing) inside))

module _ {t : List ℕ} {first node : ℕ} (ok : Readable t) (w : Countable t first node) where
  -- the nodes of the statement are those from its first on
  its_nodes : take (size (stmt_at t node)) (drop (first_at t node) (nodes (program_of t))) ≡ nodes (stmt_at t node)
  its_nodes =
      let (pre, post, is, len) = subtrees.piece (program_of t) node w.within in
      let first : length pre ≡ first_at t node = omega arith in
      ap (λ l. take (size (stmt_at t node)) (drop (first_at t node) l)) is ∙ ap (take (size (stmt_at t node))) (drop_at pre (nodes (stmt_at t node) ++ post) (first_at t node) first) ∙ take_at (nodes (stmt_at t node)) post (size (stmt_at t node)) (length-nodes (stmt_at t node))

  pub presents_are : length (filter (is_present_at t) (range_with_len first (node + 1 - first))) ≡ presents (stmt_at t node)
  presents_are =
      let all : node + 1 - first ≡ size (stmt_at t node) = omega (arith, w.starts, spans t node w.within) in
      counted t ok (node + 1 - first) first (omega (arith, w.starts, spans t node w.within, w.within))
      ∙ ap₂ (λ n i. tests (take n (drop i (nodes (program_of t))))) all w.starts ∙ ap tests its_nodes ∙ tests-nodes (stmt_at t node)
