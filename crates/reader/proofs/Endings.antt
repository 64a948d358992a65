-- The ends of the open statements.
use mathlib.Core.Path.{◌≡◌, refl}
use mathlib.Core.List.{List, ◌∷◌}
use Prim.Native.Nat.{ℕ, ◌+◌, ◌≤◌}
use native.Mathlib.Omega.{arith}
use Rattle.std.specs.Prelude.{None}
use Rattle.grammar.specs.Tokens as G
use Rattle.grammar.specs.Tokens.{mark, name}
use Rattle.grammar.specs.Tree as T
use Rattle.grammar.specs.Tree.{Tree, Name, leaf, one, two}
use Rattle.grammar.specs.Machine.{Before, Open, within, body, else_branch, suspended, aborted, a_suspend, an_abort, have, stuck, run}
use Rattle.grammar.specs.Progress as P
use Rattle.grammar.specs.Kernel.{Kernel, added, abort_of, expand}
use Rattle.grammar.specs.Progress.{Progress, node, named, past, traps_within}
use Rattle.sheet.specs.declared.Sheet.{Sheet}
use Rattle.sheet.specs.Sheet.{part, Part, name_at, Filled, Adds}
use Rattle.scan.specs.Scanning.{rest, Lexed, NameAt, Lacks}
use Rattle.grammar.proofs.Stops.{wants-name, wants-end, body_end, else_end, suspend_when, abort_when, refuses}
use Rattle.scan.specs.declared.Part.{Part as Part'}
use Rattle.reader.specs.declared.Frame as R
use Rattle.reader.specs.declared.Frame.TheVariants as F
use Rattle.reader.specs.Reading.{frame_of, RestIs, RestRead, PlainEnd, end_of}

-- a loop, which is what is left of the statements that `end` closes
pub loop-ends : (x : List ℕ) (t t1 : Sheet) (f : R.Frame) → PlainEnd f → ((p : Part') → f ≡ F.Signal p → ⊥) → ((p : Part') → f ≡ F.Else p → ⊥) → ((p : Part') → f ≡ F.Trap p → ⊥) → Adds x t t1 (λ ts g. node 8 0 g) → (ts : List Name) (g : Progress) → Filled x t (traps_within (frame_of x f) ts) g → Filled x t1 ts (end_of (frame_of x f) g)
loop-ends x t t1 F.Bracket i ns ne nt a ts g c = absurd i
loop-ends x t t1 (F.Signal p) i ns ne nt a ts g c = absurd (ns p refl)
loop-ends x t t1 F.Loop i ns ne nt a ts g c = a ts g c
loop-ends x t t1 (F.Trap p) i ns ne nt a ts g c = absurd (nt p refl)
loop-ends x t t1 (F.Then p) i ns ne nt a ts g c = absurd i
loop-ends x t t1 (F.Else p) i ns ne nt a ts g c = absurd (ne p refl)
loop-ends x t t1 F.Suspend i ns ne nt a ts g c = absurd i
loop-ends x t t1 (F.Abort w) i ns ne nt a ts g c = absurd i

module _ (x : List ℕ) (at : ℕ) (stops : Lacks x at (mark G.semicolon)) (t : Sheet) where
  -- `end`
  no_end : Lacks x at (mark G.end) → (f : R.Frame) → PlainEnd f → (p : Tree) (b : Before) (k : Open) → run (have p (within (frame_of x f) b k)) (rest x at) ≡ stuck (rest x at)
  no_end l F.Bracket i p b k = absurd i
  no_end l (F.Signal r) i p b k = body_end p b k (T.signal (name_at x r)) (rest x at) stops.first l.first
  no_end l F.Loop i p b k = body_end p b k T.loop (rest x at) stops.first l.first
  no_end l (F.Trap r) i p b k = body_end p b k (T.trap (name_at x r)) (rest x at) stops.first l.first
  no_end l (F.Then r) i p b k = absurd i
  no_end l (F.Else r) i p b k = else_end p b k (name_at x r) (leaf T.nothing) (rest x at) stops.first l.first
  no_end l F.Suspend i p b k = absurd i
  no_end l (F.Abort w) i p b k = absurd i

  pub end-missing : (depth : ℕ) → Lacks x at (mark G.end) → (f : R.Frame) → PlainEnd f → RestRead (frame_of x f) x at depth t t None
  end-missing depth l f i p b k q h = absurd (refuses q (no_end l f i p b k) h)

  module _ {e : ℕ} (l : Lexed x at e (mark G.end)) (depth : ℕ) (t1 : Sheet) (z : t1.nodes ≡ t.nodes + 1) where
    body_is : (u : T.Unary) → ((ts : List Name) (g : Progress) → Filled x t (traps_within (body u) ts) g → Filled x t1 ts (end_of (body u) g)) → RestIs (body u) x at depth t t1 e
    body_is u w = record {
      from = l.from;
      few = omega (arith, l.from);
      to = l.to;
      goes = λ p. record {
        tree = one u p;
        moves = λ b k. rw l.moves;
        wrote = λ ts g h c. w ts _ c;
      };
    }

    else_is : (r : Name) → ((ts : List Name) (g : Progress) → Filled x t ts g → Filled x t1 ts (named 6 r g)) → RestIs (else_branch r (leaf T.nothing)) x at depth t t1 e
    else_is r w = record {
      from = l.from;
      few = omega (arith, l.from);
      to = l.to;
      goes = λ p. record {
        tree = two (T.present r) (leaf T.nothing) p;
        moves = λ b k. rw l.moves;
        wrote = λ ts g h c. w ts _ c;
      };
    }

    pub end-closes : (f : R.Frame) → PlainEnd f → ((ts : List Name) (g : Progress) → Filled x t (traps_within (frame_of x f) ts) g → Filled x t1 ts (end_of (frame_of x f) g)) → RestIs (frame_of x f) x at depth t t1 e
    end-closes F.Bracket i w = absurd i
    end-closes (F.Signal r) i w = body_is (T.signal (name_at x r)) w
    end-closes F.Loop i w = body_is T.loop w
    end-closes (F.Trap r) i w = body_is (T.trap (name_at x r)) w
    end-closes (F.Then r) i w = absurd i
    end-closes (F.Else r) i w = else_is (name_at x r) w
    end-closes F.Suspend i w = absurd i
    end-closes (F.Abort v) i w = absurd i

  -- `when`, a name and `end`
  pub abort_unfinished : (depth : ℕ) (w : T.Strength) → Lacks x at (mark G.when) → RestRead (aborted w) x at depth t t None
  abort_unfinished depth w h p b k q i = absurd (refuses q (abort_when p b k w (rest x at) stops.first h.first) i)

  pub abort-unnamed : {e : ℕ} (depth : ℕ) (w : T.Strength) → Lexed x at e (mark G.when) → ((s : Name) → Lacks x e (name s)) → RestRead (aborted w) x at depth t t None
  abort-unnamed {e = e} depth w l h p b k q i =
      absurd (refuses {ts = rest x e} q (rw l.moves (wants-name (an_abort w p) b k (rest x e) (λ s. (h s).first))) i)

  module _ {e start f : ℕ} (l : Lexed x at e (mark G.when)) (d : NameAt x e start f) (depth : ℕ) (w : T.Strength) where
    pub abort_unclosed : Lacks x f (mark G.end) → RestRead (aborted w) x at depth t t None
    abort_unclosed h p b k q i =
        absurd (refuses {ts = rest x f} q (rw (l.moves, d.lexed.moves) (wants-end (T.abort w (part x start f) p) b k (rest x f) h.first)) i)

    pub abort-closes : {g : ℕ} → Lexed x f g (mark G.end) → (t1 : Sheet) → t1.nodes ≤ t.nodes + 11 → (Part x start f → (p : Kernel) (ts : List Name) (g : Progress) → Filled x t (added ∷ ts) (past (added ∷ ts) p g) → Filled x t1 ts (past ts (abort_of w (part x start f) p) g)) → RestIs (aborted w) x at depth t t1 g
    abort-closes j t1 z v = record {
      from = omega (arith, l.from, d.lexed.from, j.from);
      few = omega (arith, l.from, d.lexed.from, j.from);
      to = j.to;
      goes = λ p. record {
        tree = T.abort w (part x start f) p;
        moves = λ b k. rw (l.moves, d.lexed.moves, j.moves);
        wrote = λ ts g h c. v record { order = d.ordered; within = d.lexed.to } (expand p) ts g c;
      };
    }

  -- `when` and a name
  pub when_missing : (depth : ℕ) → Lacks x at (mark G.when) → RestRead suspended x at depth t t None
  when_missing depth h p b k q i = absurd (refuses q (suspend_when p b k (rest x at) stops.first h.first) i)

  pub when_unnamed : {e : ℕ} (depth : ℕ) → Lexed x at e (mark G.when) → ((s : Name) → Lacks x e (name s)) → RestRead suspended x at depth t t None
  when_unnamed {e = e} depth l h p b k q i =
      absurd (refuses {ts = rest x e} q (rw l.moves (wants-name (a_suspend p) b k (rest x e) (λ s. (h s).first))) i)

  pub when_named : {e start f : ℕ} (depth : ℕ) → Lexed x at e (mark G.when) → NameAt x e start f → (t1 : Sheet) → t1.nodes ≡ t.nodes + 1 → (Part x start f → Adds x t t1 (λ ts g. named 7 (part x start f) (P.note (part x start f) g))) → RestIs suspended x at depth t t1 f
  when_named {start = start} {f = f} depth l d t1 z w =
      let v : Part x start f = record { order = d.ordered; within = d.lexed.to } in
      record {
        from = omega (arith, l.from, d.lexed.from);
        few = omega (arith, l.from, d.lexed.from);
        to = d.lexed.to;
        goes = λ p. record {
          tree = one (T.suspend (part x start f)) p;
          moves = λ b k. rw (l.moves, d.lexed.moves);
          wrote = λ ts g h c. w v ts _ c;
        };
      }
