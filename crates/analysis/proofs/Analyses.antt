-- One lemma for each return of `analyse`.
use mathlib.Core.Path.{◌≡◌, refl, sym, ap, ap₂, subst, ◌∙◌}
use mathlib.Core.Bool.{Bool, true, false, ◌&&◌}
use mathlib.Core.List.{List, [], ◌∷◌, map}
use Prim.Native.Nat.{ℕ, ◌/◌, ◌≤◌}
use native.Mathlib.Omega.{arith}
use borrow.Author.Tests.{leb-true}
use lib.Dec.{leb}
use lib.ListN.{length, get_or, drop, get_or-append}
use lib.Seq.{drop_at}
use Rattle.esterel.specs.Refusal.{Reply, yields, rejects}
use Rattle.esterel.proofs.Replies.{rejects≢yields}
use Rattle.codes.specs.Codes.{empty, word}
use Rattle.codes.proofs.Bools.{left, right}
use Rattle.esterel.specs.Limits.{max_nodes}
use Rattle.esterel.specs.Statement.{Stmt, size, loop_depth}
use Rattle.esterel.specs.Sets.{start_set, any_instant_set, Place, at, context_of, stmt_of, places_of, mark}
use Rattle.esterel.specs.Table.{Verdict, passed, refused, scan}
use Rattle.esterel.specs.Checks.{check_program, Line, line_of, listing}
use Rattle.esterel.proofs.Accepted.{statements}
use Rattle.esterel.proofs.Reading.{length-passed}
use Rattle.table.specs.Program.{program_of, Readable}
use Rattle.table.specs.Check.{refuse, length_check}
use Rattle.table.specs.Check.{answer_of as check_of}
use Rattle.table.proofs.Bytes.{table-length}
use Rattle.table.proofs.Trees.{measured-by}
use Rattle.table.specs.Columns.{Measured}
use Rattle.table.specs.declared.Tree.{Tree}
use Rattle.table.proofs.Surveying.{few-nodes}
use Rattle.analysis.specs.Steps.{set_of_stmt}
use Rattle.analysis.specs.Passes.{Filled, words_of, onto, flags_of, Fillable, context_word, contexts_of, marks_of, Ready, depth_of, Accepting, Walkable}
use Rattle.analysis.specs.Analysis.{check_room, checked, TableChecked, Sized, TreeChecked, room_for, done, answer_of, k_of, a_of, s_of, mark_of, column, verdict_for, Analysis}
use Rattle.analysis.proofs.Accepts.{length_law}
use Rattle.analysis.proofs.Contexts.{length-marks}
use Rattle.analysis.proofs.Filling.{filled, length-flags, flags-at}

-- ---- the verdict of a call

module _ (t : List ℕ) (room : Bool) where
  abbrev later : Bool → Verdict
  later b = check_room b (check_program (scan t 0 []))

  after-length : (c : Reply (Unit {0})) → c ≡ length_check t → checked room t ≡ refuse c (later room)
  unfolding checked
  after-length c e = length_law t (later room) ∙ ap (λ x. refuse x (later room)) (sym e)

  pub length-refused : (number node : ℕ) → rejects number node ≡ length_check t → checked room t ≡ refused number node
  length-refused number node e = after-length (rejects number node) e

  module _ (e : yields tt ≡ length_check t) where
    after-room : checked room t ≡ check_room room (check_program (scan t 0 []))
    after-room = after-length (yields tt) e

    pub room-refused : room ≡ false → checked room t ≡ refused 3 0
    room-refused f = after-room ∙ ap later f

    pub room-passed : room ≡ true → checked room t ≡ check_program (scan t 0 [])
    room-passed f = after-room ∙ ap later f

-- where it passes, the buffers suffice and the program passes
pub checked-program : (room : Bool) (t : List ℕ) (p : Stmt) → checked room t ≡ passed p → (room ≡ true) × (check_program (scan t 0 []) ≡ passed p)
unfolding checked
checked-program true t p e = (refl, length-passed t (check_program (scan t 0 [])) p e)
checked-program false t p e = let z = length-passed t (refused 3 0) p e in (cc, cc)

-- a refusal's number and node are its verdict's
pub verdict-refused : (v : Verdict) (number node : ℕ) → rejects number node ≡ check_of v → v ≡ refused number node
verdict-refused (passed p) number node e = absurd (rejects≢yields e)
verdict-refused (refused x y) number node e = cc

depth-refused : (v : Verdict) (number node : ℕ) → rejects number node ≡ depth_of v → v ≡ refused number node
depth-refused (passed p) number node e = absurd (rejects≢yields e)
depth-refused (refused x y) number node e = cc

depth-passed : (v : Verdict) (d : ℕ) → yields d ≡ depth_of v → (p : Stmt) × (v ≡ passed p)
depth-passed (passed p) d e = (p, refl)
depth-passed (refused x y) d e = absurd (rejects≢yields (sym e))

-- ---- the returns of `check_table`

module _ {t : List ℕ} {room : Bool} where
  pub not-passed : {number node : ℕ} → checked room t ≡ refused number node → TableChecked room t (rejects number node)
  not-passed v = record { answer = sym (ap depth_of v); ready = λ d z. absurd (rejects≢yields z) }

  pub table-checked : {r : Reply ℕ} → yields tt ≡ length_check t → room ≡ true → Accepting t r → TableChecked room t r
  table-checked e f o = record { answer = o.answer ∙ ap depth_of (sym (room-passed t room e f)); ready = o.ready }

  -- a call that was refused
  pub table-refused : {number node : ℕ} → TableChecked room t (rejects number node) → checked room t ≡ refused number node
  table-refused o = depth-refused (checked room t) _ _ o.answer

  pub tree-fails : {number node : ℕ} → TableChecked room t (rejects number node) → TreeChecked room t (rejects number node)
  tree-fails o = record { answer = sym (ap check_of (table-refused o)); same = λ x y. absurd (rejects≢yields y); sized = λ x y. absurd (rejects≢yields y) }

-- a call that passed
module _ {t : List ℕ} {room : Bool} {d : ℕ} (o : TableChecked room t (yields d)) where
  pub ready : Ready t
  ready = o.ready d refl

  pub table-passed : (room ≡ true) × (checked room t ≡ passed (program_of t))
  table-passed =
      let (p, e) = depth-passed (checked room t) d o.answer in
      let (suffices, v) = checked-program room t p e in
      (suffices, e ∙ sym v ∙ ready.verdict)

  pub depth-is : d ≡ loop_depth (program_of t)
  depth-is = let e : yields d ≡ yields (loop_depth (program_of t)) = o.answer ∙ ap depth_of table-passed.1 in cc

  abbrev fine : Readable t
  fine = ready.placed.readable

  -- what the sizes need
  pub sizable : (old : List ℕ) → max_nodes ≤ length old → Readable t × (size (program_of t) ≤ length old)
  sizable old long = (fine, omega (arith, few-nodes t fine))

  -- the tree that is handed out
  pub tree-checked : (x : Tree) → x.table.now ≡ t → TreeChecked room t (yields x)
  tree-checked x is =
      let (suffices, verdict) = table-passed in
      let few = few-nodes t fine in
      let kept : Measured t x.sizes.now = subst (λ u. Measured u x.sizes.now) is (measured-by x.tree) in
      record {
        answer = sym (ap check_of verdict);
        same = λ y e. ap (λ r. tree_in r x) (sym e) ∙ is;
        sized = λ y e. subst (λ z. Sized room t z.sizes.now) (ap (λ r. value x r) e) (record { suffices = suffices; verdict = verdict; ready = ready; measured = kept; few = few });
      }
    where
      value : Tree → Reply Tree → Tree
      value d (yields a) = a
      value d (rejects n v) = d

      tree_in : Reply Tree → Tree → List ℕ
      tree_in r d = (value d r).table.now

-- nothing lent has changed
pub refusing : {t k a s m : List ℕ} {number node : ℕ} → verdict_for t k a s m ≡ refused number node → Analysis t k a s m k a s m (rejects number node)
unfolding answer_of column
refusing {k = k} {a = a} {s = s} {m = m} v =
    record {
      answer = sym (ap answer_of v);
      starts_are = sym (ap (λ x. column k_of x k) v);
      anys_are = sym (ap (λ x. column a_of x a) v);
      contexts_are = sym (ap (λ x. column s_of x s) v);
      marks_are = sym (ap (λ x. column mark_of x m) v);
    }

-- ---- room

-- n is the number of nodes
pub record Room (n k a s m : ℕ) : Type 0 where
  pub starts : n ≤ k
  pub anys : n ≤ a
  pub contexts : n ≤ s
  pub marks : n ≤ m

pub room_of : (n k a s m : ℕ) → room_for n k a s m ≡ true → Room n k a s m
room_of n k a s m f =
    let g = left (leb n k && leb n a && leb n s) (leb n m) f in
    let h = left (leb n k && leb n a) (leb n s) g in
    record {
      starts = leb-true n k (left (leb n k) (leb n a) h);
      anys = leb-true n a (right (leb n k) h);
      contexts = leb-true n s (right (leb n k && leb n a) g);
      marks = leb-true n m (right (leb n k && leb n a && leb n s) f);
    }

-- ---- the columns

pub map_lines : (f : Line → ℕ) (g : Place → ℕ) → ((x : Place) → f (line_of x) ≡ g x) → (ps : List Place) → map f (map line_of ps) ≡ map g ps
map_lines f g e [] = refl
map_lines f g e (x ∷ ps) = rw (e x, map_lines f g e ps)

map_stmts : (f : Stmt → ℕ) (ps : List Place) → map (λ x. f (stmt_of x)) ps ≡ map f (map stmt_of ps)
map_stmts f [] = refl
map_stmts f (x ∷ ps) = rw (map_stmts f ps)

-- the words of a node's line
pub line_k : (x : Place) → k_of (line_of x) ≡ word (start_set (stmt_of x))
line_k (at d t S q) = refl

pub line-a : (x : Place) → a_of (line_of x) ≡ word (any_instant_set (stmt_of x))
line-a (at d t S q) = refl

pub line-s : (x : Place) → s_of (line_of x) ≡ word (context_of x)
line-s (at d t S q) = refl

pub line-mark : (x : Place) → mark_of (line_of x) ≡ mark x
line-mark (at d t S q) = refl

starts-column : (p : Stmt) → map k_of (listing p) ≡ words_of false p
unfolding words_of
starts-column p =
    map_lines k_of (λ x. word (set_of_stmt false (stmt_of x))) line_k (places_of p) ∙ map_stmts (λ q. word (set_of_stmt false q)) (places_of p) ∙ ap (map (λ q. word (set_of_stmt false q))) (statements p 1 0 empty)

anys-column : (p : Stmt) → map a_of (listing p) ≡ words_of true p
unfolding words_of
anys-column p =
    map_lines a_of (λ x. word (set_of_stmt true (stmt_of x))) line-a (places_of p) ∙ map_stmts (λ q. word (set_of_stmt true q)) (places_of p) ∙ ap (map (λ q. word (set_of_stmt true q))) (statements p 1 0 empty)

contexts-column : (p : Stmt) → map s_of (listing p) ≡ contexts_of p
unfolding contexts_of
contexts-column p = map_lines s_of context_word line-s (places_of p)

marks-column : (p : Stmt) → map mark_of (listing p) ≡ marks_of p
unfolding marks_of
marks-column p = map_lines mark_of mark line-mark (places_of p)

column-is : (f : Line → ℕ) (p : Stmt) (v : Verdict) (c old : List ℕ) → v ≡ passed p → map f (listing p) ≡ c → onto c old ≡ column f v old
unfolding column
column-is f p v c old e z = ap (λ x. onto x old) (sym z) ∙ sym (ap (λ x. column f x old) e)

-- a column over a column of the same length
onto-onto : (c d old : List ℕ) → length c ≡ length d → onto c (onto d old) ≡ onto c old
onto-onto c d old e = rw (drop_at d (drop (length d) old) (length c) (sym e), ← e) refl

-- ---- what the passes need, and what they leave

module _ {t : List ℕ} (o : Ready t) where
  abbrev p : Stmt
  p = program_of t

  pub nodes-are : length t / 2 ≡ size p
  nodes-are = omega (arith, table-length t o.placed.readable)

  module _ (k a s m : List ℕ) (room : Room (length t / 2) (length k) (length a) (length s) (length m)) where
    pub fillable : Fillable t k a m
    fillable =
        record {
          placed = o.placed;
          starts_room = omega (arith, nodes-are, room.starts);
          anys_room = omega (arith, nodes-are, room.anys);
          flags_room = omega (arith, nodes-are, room.marks);
        }

    -- k', a' and f are what the pass over K and A leaves
    module _ {k' a' f : List ℕ} (ek : k' ≡ onto (words_of false p) k) (ea : a' ≡ onto (words_of true p) a) (ef : f ≡ onto (flags_of p) m) where
      pub walkable : length k' ≡ length k → length a' ≡ length a → length f ≡ length m → Walkable t k' a' s f
      walkable lk la lf =
          record {
            placed = o.placed;
            starts = subst (Filled false p) (sym ek) (filled false p k);
            starts_room = omega (arith, nodes-are, room.starts);
            any = subst (Filled true p) (sym ea) (filled true p a);
            any_room = omega (arith, nodes-are, room.anys);
            flags = λ j h. ap (λ l. get_or l j 0) ef ∙ get_or-append (flags_of p) (drop (length (flags_of p)) m) 0 j (rw (length-flags p) h) ∙ flags-at p j h;
            room = omega (arith, nodes-are, room.contexts);
            marks_room = omega (arith, nodes-are, room.marks);
          }

      pub finishing : {s' m' : List ℕ} {n loops : ℕ} → verdict_for t k a s m ≡ passed p → n ≡ length t / 2 → loops ≡ loop_depth p → s' ≡ onto (contexts_of p) s → m' ≡ onto (marks_of p) f → Analysis t k a s m k' a' s' m' (done n loops)
      unfolding answer_of
      finishing {n = n} z en el es em =
          record {
            answer = ap₂ done (en ∙ nodes-are) el ∙ sym (ap answer_of z);
            starts_are = ek ∙ column-is k_of p _ _ k z (starts-column p);
            anys_are = ea ∙ column-is a_of p _ _ a z (anys-column p);
            contexts_are = es ∙ column-is s_of p _ _ s z (contexts-column p);
            marks_are = em ∙ ap (onto (marks_of p)) ef ∙ onto-onto (marks_of p) (flags_of p) m (length-marks p ∙ sym (length-flags p)) ∙ column-is mark_of p _ _ m z (marks-column p);
          }
