-- The walk from the first node to the last with the words of the statements that are unused so far on a stack, at most one for each
-- level of depth. A node's own word takes the place of its children's.
use mathlib.Core.Path.{◌≡◌, refl, sym, ap, ◌∙◌}
use mathlib.Core.Bool.{Bool, false, ◌&&◌}
use mathlib.Core.List.{List, [], ◌∷◌}
use Prim.Native.Nat.{ℕ, ◌+◌, ◌-◌, ◌*◌, ◌≤◌, ◌<◌}
use native.Mathlib.Numerals.{add-one}
use native.Mathlib.Omega.{arith}
use lib.ListN.{length, get_or, set, length-set}
use lib.Seq.{get_or-set_same}
use Rattle.codes.specs.Codes.{Codes, bit, word}
use Rattle.codes.specs.Words.{◌∋◌}
use Rattle.codes.proofs.Laws.{∋_word}
use Rattle.esterel.specs.Limits.{max_depth}
use Rattle.esterel.specs.Statement.{nothing, pause, emit, exit, signal, suspend, loop, trap, present, sequence, parallel, Stmt, leaf, one, two, kind, size, nodes}
use Rattle.esterel.specs.Sets.{start_set, place_at}
use Rattle.esterel.specs.Checks.{ends_at_once}
use Rattle.esterel.specs.Outcome.{statement_at}
use Rattle.esterel.proofs.LoopCheck.{loop_ends, ends_at}
use Rattle.table.specs.Kinds.{kind_of, arity_of, is_loop, is_sequence}
use Rattle.table.specs.Program.{program_of}
use Rattle.table.specs.declared.Kind.{Kind}
use Rattle.table.proofs.Said.{count-below}
use Rattle.table.proofs.Stacks.{On, none, First, pushed, taken, rest}
use Rattle.table.proofs.Bytes.{children_of, arity_of_lem}
use Rattle.table.proofs.Walk.{Waiting, Unused, Ahead, ahead, at_first}
use Rattle.analysis.specs.Steps.{set_of_stmt, codes_of}
use Rattle.analysis.specs.Passes.{Placed, first_ends}
use Rattle.analysis.proofs.Nodes.{word_of, not-deep, kind-is, own-word}

-- before node i the subtrees us are unused
pub record Before (p : Stmt) (us : List Waiting) (unused i : ℕ) : Type 0 where
  pub waits : Unused p i us
  pub count : unused ≡ length us
  pub bound : i ≤ size p

-- and these are their words
pub record Words (any : Bool) (us : List Waiting) (xs : List ℕ) : Type 0 where
  pub long : length xs ≡ max_depth + 1
  pub on : On 0 (word_of any) xs us

pub begin : (p : Stmt) → Before p [] 0 0
begin p = record { waits = at_first p; count = refl; bound = omega arith }

pub no_words : (any : Bool) (xs : List ℕ) → length xs ≡ max_depth + 1 → Words any [] xs
no_words any xs l = record { long = l; on = none }

-- check 11 and the flag of a node, by its kind and the start set of its only or first child
module _ (d t l : ℕ) (P : Codes) (x y : ℕ) where
  ends-word : (s : Stmt) → First (word_of false) d t l P s x y → (is_loop (kind_of (kind s)) && (x ∋ 0)) ≡ loop_ends s
  unfolding kind_of
  ends-word (leaf nothing) c = refl
  ends-word (leaf pause) c = refl
  ends-word (leaf (emit s)) c = refl
  ends-word (leaf (exit level)) c = refl
  ends-word (one (signal s) q) c = refl
  ends-word (one (suspend s) q) c = refl
  ends-word (one loop q) c = ap (λ z. z ∋ 0) c ∙ ∋_word (start_set q) 0 (omega arith)
  ends-word (one trap q) c = refl
  ends-word (two (present s) q r) c = refl
  ends-word (two sequence q r) c = refl
  ends-word (two parallel q r) c = refl

  flag_word : (s : Stmt) → First (word_of false) d t l P s x y → bit (is_sequence (kind_of (kind s)) && (x ∋ 0)) ≡ first_ends s
  unfolding kind_of
  flag_word (leaf nothing) c = refl
  flag_word (leaf pause) c = refl
  flag_word (leaf (emit s)) c = refl
  flag_word (leaf (exit level)) c = refl
  flag_word (one (signal s) q) c = refl
  flag_word (one (suspend s) q) c = refl
  flag_word (one loop q) c = refl
  flag_word (one trap q) c = refl
  flag_word (two (present s) q r) c = refl
  flag_word (two sequence q r) c = ap (λ z. bit (z ∋ 0)) c.0 ∙ ap bit (∋_word (start_set q) 0 (omega arith))
  flag_word (two parallel q r) c = refl

-- a turn at node i, with the kind k, the field f and the number c of children that the code has read
module _ {t : List ℕ} (ok : Placed t) {us : List Waiting} {unused i : ℕ} (o : Before (program_of t) us unused i) (inside : i < size (program_of t)) {k : Kind} {f c : ℕ} (ek : k ≡ kind_of (get_or t (2 * i) 0)) (ef : f ≡ get_or t (2 * i + 1) 0) (ec : c ≡ arity_of k) where
  pub here : Ahead (program_of t) i us
  here = ahead (program_of t) o.waits inside

  abbrev w : Waiting
  w = here.top

  pub kind-here : k ≡ kind_of (kind w.root)
  kind-here = kind-is ok i inside ek ef ∙ ap (λ s. kind_of (kind s)) here.statement

  arity_here : c ≡ children_of w.root
  arity_here = ec ∙ ap arity_of kind-here ∙ arity_of_lem w.root

  counts : length here.below + c ≡ unused
  counts = omega (arith, arity_here, count-below w.depth w.traps w.loops w.context w.root here.below, ap length here.is, o.count)

  pub base_is : unused - c ≡ length here.below
  base_is = omega (arith, counts)

  pub enough : c ≤ unused
  enough = omega (arith, counts)

  pub low : unused - c < max_depth
  low = omega (arith, base_is, here.depth, not-deep ok i w here.place)

  -- what is unused after it
  abbrev pub after : List Waiting
  after = w ∷ here.below

  pub next : Before (program_of t) after (unused - c + 1) (i + 1)
  next = record { waits = rw add-one here.on; count = omega (arith, base_is); bound = omega arith }

  module _ {any : Bool} {xs : List ℕ} (ws : Words any us xs) where
    children : First (word_of any) w.depth w.traps w.loops w.context w.root (get_or xs (unused - c) 0) (get_or xs (unused - c + 1) 0)
    children = taken (word_of any) w.depth w.traps w.loops w.context w.root here.below xs (unused - c) base_is (rw here.is at ws.on)

    abbrev own : ℕ
    own = codes_of any k f (get_or xs (unused - c) 0) (get_or xs (unused - c + 1) 0)

    own_root : own ≡ word_of any w
    own_root = own-word ok i inside ek ef any w (get_or xs (unused - c) 0) (get_or xs (unused - c + 1) 0) here.statement children

    own_is : own ≡ word (set_of_stmt any (statement_at (nodes (program_of t)) i))
    own_is = own_root ∙ ap (λ s. word (set_of_stmt any s)) (sym here.statement)

    fits : unused - c < length xs
    fits = omega (arith, low, ws.long)

    -- the stack with the node's own word on it
    module _ (ys : List ℕ) (e : ys ≡ set xs (unused - c) own) where
      pub own_at : get_or ys (unused - c) 0 ≡ word (set_of_stmt any (statement_at (nodes (program_of t)) i))
      own_at = ap (λ l. get_or l (unused - c) 0) e ∙ get_or-set_same xs (unused - c) own 0 fits ∙ own_is

      pub words-next : Words any after ys
      words-next =
          rw e
          record {
            long = simp length-set ws.long;
            on = pushed 0 (word_of any) xs w here.below (unused - c) own (omega (arith, base_is)) fits own_root (rest (word_of any) w.depth w.traps w.loops w.context w.root here.below xs (rw here.is at ws.on));
          }

  module _ {xs : List ℕ} (ws : Words false us xs) where
    pub ends_is : (is_loop k && (get_or xs (unused - c) 0 ∋ 0)) ≡ ends_at_once (place_at (program_of t) i)
    ends_is = ap (λ j. is_loop j && (get_or xs (unused - c) 0 ∋ 0)) kind-here ∙ ends-word w.depth w.traps w.loops w.context _ _ w.root (children ws) ∙ ap loop_ends (sym here.statement) ∙ sym (ends_at (program_of t) i)

    pub flag_is : bit (is_sequence k && (get_or xs (unused - c) 0 ∋ 0)) ≡ first_ends (statement_at (nodes (program_of t)) i)
    flag_is = ap (λ j. bit (is_sequence j && (get_or xs (unused - c) 0 ∋ 0))) kind-here ∙ flag_word w.depth w.traps w.loops w.context _ _ w.root (children ws) ∙ ap first_ends (sym here.statement)
