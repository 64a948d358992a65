-- Each node's narrowed set from its children's, on words.
use mathlib.Core.Path.{◌≡◌, refl, sym, ap, ap₂, ◌∙◌}
use mathlib.Core.Bool.{false}
use mathlib.Core.List.{List}
use Prim.Native.Nat.{ℕ, ◌+◌, ◌-◌, ◌*◌, ◌≤◌, ◌<◌}
use native.Mathlib.Omega.{arith}
use lib.ListN.{length, get_or, set, length-map, length-set}
use Rattle.codes.specs.Codes.{word}
use Rattle.codes.proofs.Bools.{cannot_pass}
use Rattle.codes.proofs.Laws.{union-word}
use Rattle.esterel.specs.Statement.{Binary, present, sequence, parallel, Stmt, leaf, one, two, kind, field, size, nodes}
use Rattle.esterel.specs.Sets.{start_set}
use Rattle.esterel.specs.Outcome.{statement_at}
use Rattle.table.specs.Kinds.{kind_of, arity_of}
use Rattle.table.specs.Program.{program_of}
use Rattle.table.specs.Columns.{stmt_at}
use Rattle.table.specs.declared.Kind.{Kind}
use Rattle.table.proofs.Filling.{map_at, Filling, filling-at, filling-next, filling-end, whole}
use Rattle.table.proofs.TreeViews.{leaf_of_lem, one_of, two_of_lem, has_last}
use Rattle.analysis.specs.Passes.{Placed}
use Rattle.analysis.specs.Steps.{codes_of}
use Rattle.analysis.proofs.Nodes.{leaf-step, one-step, two-step, few, kind-is, field_is}
use Rattle.tied.specs.Ties.{Ties, by_tie}
use Rattle.tied.specs.declared.Tie.{Tie}
use Rattle.tied.specs.declared.Tie.TheVariants.{Unknown, Absent, Present}
use Rattle.tied.specs.Narrowed.{ties_under, at, narrowed_in, spots, outside, spot_at, ties_at, narrowed_at, word_in, words_of}
use Rattle.tied.specs.Theorems.{replaced}
use Rattle.tied.specs.Passes.{tested_of, codes_under, Known, NextSet, SetsFilled}
use Rattle.tied.proofs.Replaced.{narrowed_as}
use Rattle.tied.proofs.Spots.{length-spots, narrowed_at_lem, under_one, under-two}
use Rattle.tied.proofs.Theorems.{fewer}

test_word : (t : Tie) (q r : Stmt) (s : ℕ) → tested_of t (word (start_set q)) (word (start_set r)) ≡ word (start_set (by_tie t (two (present s) q r) r q))
test_word Unknown q r s = union-word (start_set q) (start_set r)
test_word Absent q r s = refl
test_word Present q r s = refl

two-word : (d : Ties) (b : Binary) (q r : Stmt) → codes_under (d (field (two b q r))) (kind_of (kind (two b q r))) (word (start_set (replaced d q))) (word (start_set (replaced d r))) ≡ word (start_set (replaced d (two b q r)))
unfolding kind_of
two-word d (present s) q r = test_word (d s) (replaced d q) (replaced d r) s
two-word d sequence q r = two-step false sequence q r (replaced d q) (replaced d r)
two-word d parallel q r = two-step false parallel q r (replaced d q) (replaced d r)

-- the words of all nodes
module _ (c : Ties) (p : Stmt) where
  pub length-words : length (words_of c p) ≡ size p
  unfolding words_of
  length-words = length-map (spots c p) word_in ∙ length-spots c p

  pub words-at : (i : ℕ) → i < size p → get_or (words_of c p) i 0 ≡ word (narrowed_at c p i)
  unfolding words_of
  words-at i h = map_at word_in (spots c p) outside i (omega (arith, length-spots c p))

-- the set of a node of p, where its place is known
spot-set : (c : Ties) (p : Stmt) (j : ℕ) (d : Ties) (q : Stmt) → spot_at c p j ≡ at d q → narrowed_at c p j ≡ start_set (replaced d q)
spot-set c p j d q e = ap narrowed_in e ∙ narrowed_as d q

own-set : (c : Ties) (p : Stmt) (i : ℕ) (w : Stmt) → statement_at (nodes p) i ≡ w → narrowed_at c p i ≡ start_set (replaced (ties_at c p i) w)
own-set c p i w e = narrowed_at_lem c p i ∙ narrowed_as (ties_at c p i) (statement_at (nodes p) i) ∙ ap (λ q. start_set (replaced (ties_at c p i) q)) e

-- a node of an accepted table, with its kind, its field and the number of its children
module _ {t : List ℕ} (ok : Placed t) {node : ℕ} (h : node < size (program_of t)) {k : Kind} {f n : ℕ} (ek : k ≡ kind_of (get_or t (2 * node) 0)) (ef : f ≡ get_or t (2 * node + 1) 0) (en : n ≡ arity_of k) where
  kind_of_lem : {w : Stmt} → stmt_at t node ≡ w → k ≡ kind_of (kind w)
  kind_of_lem e = kind-is ok node h ek ef ∙ ap (λ w. kind_of (kind w)) e

  field_of : {w : Stmt} → stmt_at t node ≡ w → f ≡ field w
  field_of e = field_is ok node h ek ef ∙ ap field e

  -- no set has code 64
  no_64 : (c : Ties) (j : ℕ) (q : Stmt) → narrowed_at c (program_of t) j ≡ start_set q → start_set q 64 ≡ false
  no_64 c j q e = cannot_pass (start_set q 64) (λ z. omega (arith, few ok false j 64 (fewer.in_k c (program_of t) j 64 (ap (λ a. a 64) e ∙ z))))

  pub leaf-set : {known : List Tie} {words : List ℕ} {r : ℕ} → n ≡ 0 → r ≡ codes_of false k f 0 0 → NextSet t known words node r
  leaf-set z er =
      let (l, e) = leaf_of_lem ok.readable h ek en z in
      record { is = λ c o words_are. er ∙ ap₂ (λ a b. codes_of false a b 0 0) (kind_of_lem e) (field_of e) ∙ leaf-step false l 0 0 ∙ sym (ap word (own-set c (program_of t) node (leaf l) e)) }

  pub one_set : {known : List Tie} {words : List ℕ} {r : ℕ} → n ≡ 1 → r ≡ codes_of false k f (get_or words (node - 1) 0) 0 → NextSet t known words node r
  one_set {known} {words} z er =
      let (u, q, v) = one_of ok.readable h ek en z in
      let pos = has_last ok.readable h ek en (λ y. omega arith) in
      record {
        is = λ c o words_are.
            let d = ties_under u (ties_at c (program_of t) node) in
            let child = spot-set c (program_of t) (node - 1) d q (under_one c (program_of t) node h u q v.is) in
            er ∙ ap₂ (λ a b. codes_of false a b (get_or words (node - 1) 0) 0) (kind_of_lem v.is) (field_of v.is)
            ∙ ap (λ x. codes_of false (kind_of (kind (one u q))) (field (one u q)) x 0) (words_are (node - 1) (omega arith) ∙ ap word child)
            ∙ one-step false u q (replaced d q) 0 (no_64 c (node - 1) (replaced d q) child)
            ∙ sym (ap word (own-set c (program_of t) node (one u q) v.is));
      }

  pub two-set : {known : List Tie} {words : List ℕ} {r s : ℕ} → s ≡ size (stmt_at t (node - 1)) → (n ≡ 0 → ⊥) → (n ≡ 1 → ⊥) → r ≡ codes_under (get_or known node Unknown) k (get_or words (node - 1 - s) 0) (get_or words (node - 1) 0) → NextSet t known words node r
  two-set {known} {words} {s = s} es z y er =
      let pos = has_last ok.readable h ek en z in
      let (b, q, w, v) = two_of_lem ok.readable h ek en es z y in
      record {
        is = λ c o words_are.
            let d = ties_at c (program_of t) node in
            let (left, right) = under-two c (program_of t) node h b q w v.is in
            let first = spot-set c (program_of t) (node - 1 - s) d q (ap (λ m. spot_at c (program_of t) (node - 1 - m)) v.sized ∙ left) in
            let last = spot-set c (program_of t) (node - 1) d w right in
            er ∙ ap₂ (λ a j. codes_under a j (get_or words (node - 1 - s) 0) (get_or words (node - 1) 0)) (o.at node h ∙ ap (λ x. d (field x)) v.is) (kind_of_lem v.is)
            ∙ ap₂ (codes_under (d (field (two b q w))) (kind_of (kind (two b q w)))) (words_are (node - 1 - s) (omega arith) ∙ ap word first) (words_are (node - 1) (omega arith) ∙ ap word last)
            ∙ two-word d b q w
            ∙ sym (ap word (own-set c (program_of t) node (two b q w) v.is));
      }

-- the sets of the nodes before i are filled in, whatever the ties are that the bytes in `known` come from
pub record SetsTo (t : List ℕ) (known : List Tie) (old now : List ℕ) (i : ℕ) : Type 0 where
  pub long : length now ≡ length old
  pub is : (c : Ties) → Known c t known → Filling (words_of c (program_of t)) old now (size (program_of t)) i

module _ {t : List ℕ} {known : List Tie} {old now : List ℕ} {i : ℕ} (room : size (program_of t) ≤ length old) (o : SetsTo t known old now i) where
  abbrev has : (c : Ties) → size (program_of t) ≤ length (words_of c (program_of t))
  has c = omega (arith, length-words c (program_of t))

  pub next-set : {v : ℕ} → i < size (program_of t) → NextSet t known now i v → SetsTo t known old (set now i v) (i + 1)
  next-set {v} h s =
      record {
        long = length-set now i v ∙ o.long;
        is = λ c k.
            let before = filling-at (has c) room (o.is c k) in
            let own = s.is c k (λ j l. before j l ∙ words-at c (program_of t) j (omega arith)) in
            filling-next (has c) room (o.is c k) v h (own ∙ sym (words-at c (program_of t) i h));
      }

  pub all_set : size (program_of t) ≤ i → SetsFilled t known old now
  all_set h =
      record { is = λ c k. filling-end (has c) room (o.is c k) h ∙ whole (words_of c (program_of t)) old (size (program_of t)) (length-words c (program_of t)) }
