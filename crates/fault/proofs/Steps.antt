-- A statement is opened over those that are open.
use Rattle.std.proofs.Common.{◌≡◌, ◌⊎◌, Option, Some, ℕ, ◌+◌, ◌<◌, ◌≤◌, List, length, set, refl, sym, ap, subst, ◌∙◌, ◌∙◌, arith}
use Rattle.std.proofs.Math.Seq.{get_or-set_same, get_or-set_other}
use Rattle.std.proofs.Math.ListN.{length-set}
use Rattle.grammar.specs.Limits.{max_source}
use Rattle.grammar.specs.Machine.{Before, alone, after, Frame, branch, body, then_branch, else_branch, suspended, aborted, Open, top, within, expect, at_bars, at_else, height as opens}
use Rattle.grammar.specs.Tree.{Tree, two, parallel}
use Rattle.fault.specs.declared.stack.Frame.{Frame as Kind}
use Rattle.fault.specs.declared.stack.Frame.TheVariants as F
use Rattle.fault.specs.declared.Mode.{Mode}
use Rattle.fault.specs.declared.stack.Stack.{Stack}
use Rattle.fault.specs.Walking.{frame_of, top_of, Framed, Stacked, StackedBelow, Kept, Stepped}

-- a store above what is open leaves it as it was
above : (w : List Kind) (k : Open) (i : ℕ) (v : Kind) → opens k ≤ i → Framed w k → Framed (set w i v) k
above w top i v h s = length-set w i v ∙ s
above w (within f b k) i v h s = (get_or-set_other w i (opens k) v F.First (omega arith) ∙ s.0, above w k i v (omega arith) s.1)

long : (w : List Kind) (k : Open) → Framed w k → length w ≡ max_source
long w top s = s
long w (within f b k) s = long w k s.1

opened : (w : List Kind) (v : Kind) (f : Frame) (b : Before) (k : Open) → opens k < max_source → v ≡ frame_of f → Framed w k → Framed (set w (opens k) v) (within f b k)
opened w v f b k h e s = (get_or-set_same w (opens k) v F.First (omega (arith, long w k s)) ∙ e, above w k (opens k) v (omega arith) s)

pub pushed : (w w' : Stack) (v : Kind) (f : Frame) (b : Before) (k : Open) → w.height < max_source → w'.frames ≡ set w.frames w.height v → w'.height ≡ w.height + 1 → v ≡ frame_of f → Stacked w k → Stacked w' (within f b k)
pushed w w' v f b k i p q e s = record {
  frames = subst (λ l. Framed l (within f b k)) (sym (p ∙ ap (λ n. set w.frames n v) s.height)) (opened w.frames v f b k (omega (arith, s.height)) e s.frames);
  height = q ∙ omega (arith, s.height);
}

-- a branch comes after a branch, and an else branch after a then branch
module _ {w w' : Stack} {m : Mode} (p : Tree) where
  pub bars_open : (k : Open) {x : Kind} → (x ≡ F.First) ⊎ (x ≡ F.Branch) → ◌≡◌ {A = Option Kind} (Some x) (top_of k) → StackedBelow w k → ((f : Frame) (b : Before) (k : Open) → F.Branch ≡ frame_of f → Stacked w k → Kept w' m (expect alone (within f b k))) → Stepped (at_bars p k) w' (Some m)
  bars_open top o e s g = grind arith
  bars_open (within (branch alone) b k) o e s g = g (branch (after p)) b k refl s
  bars_open (within (branch (after l)) b k) o e s g = g (branch (after (two parallel l p))) b k refl s
  bars_open (within (body u) b k) o e s g = grind arith
  bars_open (within (then_branch n) b k) o e s g = grind arith
  bars_open (within (else_branch n l) b k) o e s g = grind arith
  bars_open (within suspended b k) o e s g = grind arith
  bars_open (within (aborted l) b k) o e s g = grind arith

  pub else_open : (k : Open) {x : Kind} → x ≡ F.Then → ◌≡◌ {A = Option Kind} (Some x) (top_of k) → StackedBelow w k → ((f : Frame) (b : Before) (k : Open) → F.Else ≡ frame_of f → Stacked w k → Kept w' m (expect alone (within f b k))) → Stepped (at_else p k) w' (Some m)
  else_open top o e s g = grind arith
  else_open (within (branch alone) b k) o e s g = grind arith
  else_open (within (branch (after l)) b k) o e s g = grind arith
  else_open (within (body u) b k) o e s g = grind arith
  else_open (within (then_branch n) b k) o e s g = g (else_branch n p) b k refl s
  else_open (within (else_branch n l) b k) o e s g = grind arith
  else_open (within suspended b k) o e s g = grind arith
  else_open (within (aborted l) b k) o e s g = grind arith
