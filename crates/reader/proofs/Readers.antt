-- One law for each return of the readers.
use mathlib.Core.Path.{◌≡◌, refl, sym, ◌∙◌}
use mathlib.Core.List.{List}
use Prim.Native.Nat.{ℕ, suc, ◌+◌, ◌*◌, ◌≤◌, ◌<◌, ◌-◌}
use native.Mathlib.Omega.{arith}
use lib.ListN.{length}
use Rattle.std.specs.Prelude.{Option, Some, None}
use Rattle.grammar.specs.Tokens as G
use Rattle.grammar.specs.Tokens.{mark}
use Rattle.grammar.specs.Tree as T
use Rattle.grammar.specs.Tree.{Tree, Name, leaf, two}
use Rattle.grammar.specs.Kernel.{expand}
use Rattle.grammar.specs.Machine.{Before, alone, after, Open, within, Frame, branch, body, then_branch, else_branch, suspended, aborted, expect, have, run}
use Rattle.grammar.specs.Progress.{Progress, node, named, past, traps_within, past_open}
use Rattle.grammar.proofs.Depth.{open_levels}
use Rattle.grammar.proofs.Stops.{first-bars, bars-or-close, then-end, else_end, refuses}
use Rattle.scan.specs.Scanning.{rest, Lexed, Lacks, PastMark}
use Rattle.scan.specs.declared.Mark.TheVariants.{Close}
use Rattle.sheet.specs.declared.Sheet.{Sheet}
use Rattle.sheet.specs.Sheet.{Filled, Adds}
use Rattle.reader.specs.declared.Leaf.{Leaf}
use Rattle.reader.specs.declared.Frame as R
use Rattle.reader.specs.Reading.{leaf_of, LeafIn, frame_of, High, Deeper, LeafRead, Entered, Ready, Enters, StatementIs, StatementRead, SequenceIs, RestIs, RestRead}

-- a frame has at most one trap
inner-high : (f : Frame) (ts : List Name) (depth : ℕ) → High ts (suc depth) → High (traps_within f ts) depth
inner-high (branch l) ts depth h = omega arith
inner-high (body (T.signal s)) ts depth h = omega arith
inner-high (body (T.suspend s)) ts depth h = omega arith
inner-high (body T.loop) ts depth h = omega arith
inner-high (body (T.trap t)) ts depth h = omega arith
inner-high (then_branch s) ts depth h = omega arith
inner-high (else_branch s p) ts depth h = omega arith
inner-high suspended ts depth h = omega arith
inner-high (aborted w) ts depth h = omega arith

-- a statement
pub whole-read : {x : List ℕ} {at : ℕ} {l : Leaf} {e : ℕ} (d : LeafRead expect x at l e) (depth : ℕ) (t t' : Sheet) → t'.nodes ≤ t.nodes + 7 → (LeafIn x l → Adds x t t' (λ ts g. past ts (expand (leaf_of x l)) g)) → StatementIs x at depth t t' e
whole-read {x = x} {l = l} d depth t t' z w = record {
  from = d.from;
  few = omega (arith, d.from);
  to = d.to;
  tree = leaf_of x l;
  moves = d.moves;
  wrote = λ ts g h f. w d.bounds ts g f;
}

module _ {x : List ℕ} {at e : ℕ} {f : R.Frame} (d : Entered expect x at f e) (depth : ℕ) where
  pub too_deep_lem : depth ≡ 0 → (b : Before) (k : Open) → Deeper (expect b k) k x at depth
  too_deep_lem z b k p i = omega (arith, open_levels (rest x e) alone (within (frame_of x f) b k) p (sym (d.moves b k) ∙ i))

  pub body_unread : (depth ≡ 0 → ⊥) → ((k : Open) → Deeper (expect alone k) k x e (depth - 1)) → (b : Before) (k : Open) → Deeper (expect b k) k x at depth
  body_unread z h b k p i = omega (arith, h (within (frame_of x f) b k) p (sym (d.moves b k) ∙ i))

  module _ (t : Sheet) {t0 : Sheet} (few : t0.nodes ≤ t.nodes + 1) (w : Enters x t t0 (frame_of x f)) {t2 : Sheet} {m : ℕ} (s : SequenceIs x e (depth - 1) t0 t2 m) where
    pub statement-ends : (t' : Sheet) (r : Option ℕ) → (depth ≡ 0 → ⊥) → RestRead (frame_of x f) x m (depth - 1) t2 t' r → StatementRead x at depth t t' r
    statement-ends t' (Some u) z h = record {
      from = omega (arith, d.from, s.from, h.from);
      few = omega (arith, d.from, s.few, h.few);
      to = h.to;
      tree = (h.goes s.tree).tree;
      moves = λ b k. d.moves b k ∙ s.moves (within (frame_of x f) b k) ∙ (h.goes s.tree).moves b k;
      wrote = λ ts g i j.
          (h.goes s.tree).wrote ts g (omega (arith, z))
          (s.wrote (traps_within (frame_of x f) ts) (past_open ts (frame_of x f) g) (inner-high (frame_of x f) ts (depth - 1) (omega (arith, z))) (w ts g (omega (arith, z)) j));
    }
    statement-ends t' None z h = λ b k p i.
        omega (arith, h s.tree b k p (sym (d.moves b k ∙ s.moves (within (frame_of x f) b k)) ∙ i))

-- a sequence p that is read on from a place
pub record Longer (x : List ℕ) (at depth : ℕ) (t t' : Sheet) (e : ℕ) (p : Tree) : Type 0 where
  pub tree : Tree
  pub moves : (k : Open) → run (have p k) (rest x at) ≡ run (have tree k) (rest x e)
  pub wrote : (ts : List Name) (g : Progress) → High ts depth → Filled x t ts (past ts (expand p) g) → Filled x t' ts (past ts (expand tree) g)

pub record Going (x : List ℕ) (at depth : ℕ) (t t' : Sheet) (e : ℕ) : Type 0 where
  pub from : at ≤ e
  pub few : t'.nodes + 8 * at ≤ t.nodes + 8 * e
  pub to : e ≤ length x
  pub goes : (p : Tree) → Longer x at depth t t' e p

pub going_first : (x : List ℕ) (at depth : ℕ) (t : Sheet) → at ≤ length x → Going x at depth t t at
going_first x at depth t h = record {
  from = omega arith;
  few = omega arith;
  to = h;
  goes = λ p. record {
    tree = p;
    moves = λ k. refl;
    wrote = λ ts g h f. f;
  };
}

module _ {x : List ℕ} {at depth : ℕ} {t t1 : Sheet} {e : ℕ} (g : Going x at depth t t1 e) where
  pub going_on : {m : ℕ} → Lexed x e m (mark G.semicolon) → {t2 : Sheet} {f : ℕ} → StatementIs x m depth t1 t2 f → (t3 : Sheet) → t3.nodes ≡ t2.nodes + 1 → Adds x t2 t3 (λ ts g. node 9 0 g) → Going x at depth t t3 f
  going_on l s t3 z w = record {
    from = omega (arith, g.from, l.from, s.from);
    few = omega (arith, g.few, l.from, s.few);
    to = s.to;
    goes = λ p. record {
      tree = two T.sequence (g.goes p).tree s.tree;
      moves = λ k. (g.goes p).moves k ∙ rw l.moves (s.moves (after (g.goes p).tree) k);
      wrote = λ ts q h i. w ts _ (s.wrote ts _ h ((g.goes p).wrote ts q h i));
    };
  }

  module _ {a : ℕ} {t0 : Sheet} (s : StatementIs x a depth t0 t at) where
    pub sequence-read : Lacks x e (mark G.semicolon) → SequenceIs x a depth t0 t1 e
    sequence-read h = record {
      from = omega (arith, s.from, g.from);
      few = omega (arith, s.few, g.few);
      to = g.to;
      stops = h;
      tree = (g.goes s.tree).tree;
      moves = λ k. s.moves alone k ∙ (g.goes s.tree).moves k;
      wrote = λ ts q h f. (g.goes s.tree).wrote ts q h (s.wrote ts q h f);
    }

    pub sequence_unread : {m : ℕ} → Lexed x e m (mark G.semicolon) → ((b : Before) (k : Open) → Deeper (expect b k) k x m depth) → (k : Open) → Deeper (expect alone k) k x a depth
    sequence_unread {m = m} l h k q f =
        let i : run (expect alone k) (rest x a) ≡ run (expect (after (g.goes s.tree).tree) k) (rest x m) =
        s.moves alone k ∙ (g.goes s.tree).moves k ∙ rw l.moves in
        h (after (g.goes s.tree).tree) k q (sym i ∙ f)

-- a bracket, up to a branch
pub record BranchAt (x : List ℕ) (at depth : ℕ) (t t' : Sheet) (e : ℕ) (p : Tree) : Type 0 where
  pub tree : Tree
  pub moves : (b : Before) (k : Open) → run (have p (within (branch alone) b k)) (rest x at) ≡ run (expect alone (within (branch (after tree)) b k)) (rest x e)
  pub wrote : (ts : List Name) (g : Progress) → High ts (suc depth) → Filled x t ts (past ts (expand p) g) → Filled x t' ts (past ts (expand tree) g)

pub record Branching (x : List ℕ) (at depth : ℕ) (t t' : Sheet) (e : ℕ) : Type 0 where
  pub from : at < e
  pub few : t'.nodes + 8 * at ≤ t.nodes + 8 * e
  pub to : e ≤ length x
  pub goes : (p : Tree) → BranchAt x at depth t t' e p

pub bars-missing : (x : List ℕ) (at depth n : ℕ) (t : Sheet) → Ready x at n → Lacks x at (mark G.bars) → RestRead (branch alone) x at depth t t None
bars-missing x at depth n t d h p b k q i = absurd (refuses q (first-bars p b k (rest x at) d.stops.first h.first) i)

pub branch-first : (x : List ℕ) (at depth : ℕ) (t : Sheet) {e : ℕ} → Lexed x at e (mark G.bars) → Branching x at depth t t e
branch-first x at depth t l = record {
  from = l.from;
  few = omega (arith, l.from);
  to = l.to;
  goes = λ p. record {
    tree = p;
    moves = λ b k. rw l.moves;
    wrote = λ ts g h f. f;
  };
}

module _ {x : List ℕ} {at depth : ℕ} {t t1 : Sheet} {e : ℕ} (g : Branching x at depth t t1 e) where
  pub branch_unread : (t2 : Sheet) → ((k : Open) → Deeper (expect alone k) k x e depth) → RestRead (branch alone) x at depth t t2 None
  branch_unread t2 h p b k q f = h (within (branch (after (g.goes p).tree)) b k) q (sym ((g.goes p).moves b k) ∙ f)

  module _ {t2 : Sheet} {m : ℕ} (last : SequenceIs x e depth t1 t2 m) where
    branch-moves : (p : Tree) (b : Before) (k : Open) → run (have p (within (branch alone) b k)) (rest x at) ≡ run (have last.tree (within (branch (after (g.goes p).tree)) b k)) (rest x m)
    branch-moves p b k = (g.goes p).moves b k ∙ last.moves (within (branch (after (g.goes p).tree)) b k)

    module _ (t3 : Sheet) (z : t3.nodes ≡ t2.nodes + 1) (w : Adds x t2 t3 (λ ts g. node 10 0 g)) where
      branch-wrote : (p : Tree) (ts : List Name) (i : Progress) → High ts (suc depth) → Filled x t ts (past ts (expand p) i) → Filled x t3 ts (past ts (expand (two T.parallel (g.goes p).tree last.tree)) i)
      branch-wrote p ts i h f = w ts _ (last.wrote ts _ (omega arith) ((g.goes p).wrote ts i h f))

      pub branch-again : {f : ℕ} → Lexed x m f (mark G.bars) → Branching x at depth t t3 f
      branch-again l = record {
        from = omega (arith, g.from, last.from, l.from);
        few = omega (arith, g.few, last.few, l.from);
        to = l.to;
        goes = λ p. record {
          tree = two T.parallel (g.goes p).tree last.tree;
          moves = λ b k. branch-moves p b k ∙ rw l.moves;
          wrote = branch-wrote p;
        };
      }

      -- no more branches: the bracket ends, or it does not
      pub branch-last : Lacks x m (mark G.bars) → (r : Option ℕ) → PastMark x m Close r → RestRead (branch alone) x at depth t t3 r
      branch-last h (Some f) l = record {
        from = omega (arith, g.from, last.from, l.from);
        few = omega (arith, g.few, last.few, l.from);
        to = l.to;
        goes = λ p. record {
          tree = two T.parallel (g.goes p).tree last.tree;
          moves = λ b k. branch-moves p b k ∙ rw l.moves;
          wrote = branch-wrote p;
        };
      }
      branch-last h None i = λ p b k r f.
          absurd (refuses {ts = rest x m} r (branch-moves p b k ∙ bars-or-close last.tree b k (g.goes p).tree (rest x m) last.stops.first h.first i.first) f)

-- a present after its then branch
module _ (x : List ℕ) (at depth : ℕ) (t : Sheet) (v : Name) where
  pub then_unclosed : {n : ℕ} → Ready x at n → Lacks x at (mark G.else) → Lacks x at (mark G.end) → RestRead (then_branch v) x at depth t t None
  then_unclosed d h i p b k q f = absurd (refuses q (then-end p b k v (rest x at) d.stops.first h.first i.first) f)

  pub then-closes : {e : ℕ} {t1 : Sheet} (t2 : Sheet) → Lexed x at e (mark G.end) → t1.nodes ≡ t.nodes + 1 → Adds x t t1 (λ ts g. node 1 0 g) → t2.nodes ≡ t1.nodes + 1 → Adds x t1 t2 (λ ts g. named 6 v g) → RestIs (then_branch v) x at depth t t2 e
  then-closes t2 l y w z u = record {
    from = l.from;
    few = omega (arith, l.from);
    to = l.to;
    goes = λ p. record {
      tree = two (T.present v) p (leaf T.nothing);
      moves = λ b k. rw l.moves;
      wrote = λ ts g h i. u ts _ (w ts _ i);
    };
  }

  module _ {e : ℕ} (l : Lexed x at e (mark G.else)) where
    to_else : (p : Tree) (b : Before) (k : Open) → run (have p (within (then_branch v) b k)) (rest x at) ≡ run (expect alone (within (else_branch v p) b k)) (rest x e)
    to_else p b k = rw l.moves

    pub else_unread : (t2 : Sheet) → ((k : Open) → Deeper (expect alone k) k x e depth) → RestRead (then_branch v) x at depth t t2 None
    else_unread t2 h p b k q f = h (within (else_branch v p) b k) q (sym (to_else p b k) ∙ f)

    module _ {t2 : Sheet} {m : ℕ} (last : SequenceIs x e depth t t2 m) where
      pub else_unclosed : Lacks x m (mark G.end) → RestRead (then_branch v) x at depth t t2 None
      else_unclosed h p b k r f =
          absurd (refuses r (to_else p b k ∙ last.moves (within (else_branch v p) b k) ∙ else_end last.tree b k v p (rest x m) last.stops.first h.first) f)

      pub else_ends : (t3 : Sheet) → t3.nodes ≡ t2.nodes + 1 → Adds x t2 t3 (λ ts g. named 6 v g) → {f : ℕ} → Lexed x m f (mark G.end) → RestIs (then_branch v) x at depth t t3 f
      else_ends t3 z w i = record {
        from = omega (arith, l.from, last.from, i.from);
        few = omega (arith, l.from, last.few, i.from);
        to = i.to;
        goes = λ p. record {
          tree = two (T.present v) p last.tree;
          moves = λ b k. to_else p b k ∙ last.moves (within (else_branch v p) b k) ∙ rw i.moves;
          wrote = λ ts g h j. w ts _ (last.wrote ts _ (omega arith) j);
        };
      }
