-- What is known at a node of a table that passes checks 1 to 10, in the code's own terms.
use mathlib.Core.Path.{◌≡◌, refl, sym, ap, ap₂, ◌∙◌}
use mathlib.Core.Bool.{Bool, true, false, cond, or-false}
use mathlib.Core.Option.{Option}
use mathlib.Core.List.{List}
use Prim.Native.Nat.{ℕ, suc, ◌+◌, ◌-◌, ◌*◌, ◌≤◌, ◌<◌}
use native.Mathlib.Omega.{arith}
use lib.Dec.{ltb, nltb→le}
use lib.ListN.{get_or}
use Rattle.esterel.specs.Refusal.{Reply, yields}
use Rattle.codes.specs.Codes.{Codes, union, given, without_ended, word}
use Rattle.codes.specs.Words.{union_of, without_ended_of}
use Rattle.codes.specs.Theorems.{AtMost}
use Rattle.codes.proofs.Bools.{cannot_pass, to_not}
use Rattle.codes.proofs.Members.{only_in}
use Rattle.codes.proofs.Laws.{singleton_word, union-word, without-ended-word, parallel-word, caught-word, ∋_word, word_same}
use Rattle.esterel.specs.Limits.{max_depth, max_traps}
use Rattle.esterel.specs.Statement.{Leaf, nothing, pause, emit, exit, Unary, signal, suspend, loop, trap, Binary, present, sequence, parallel, Stmt, leaf, one, two, kind, field, size, nodes}
use Rattle.esterel.specs.Sets.{Place, places_of, outside, place_at}
use Rattle.esterel.specs.Checks.{first_node, too_deep, too_many_traps, uncaught}
use Rattle.esterel.specs.Outcome.{statement_at}
use Rattle.esterel.specs.Theorems.{WellFormed}
use Rattle.esterel.proofs.Accepted.{Passes, first_passes}
use Rattle.esterel.proofs.Caught.{codes-few}
use Rattle.esterel.proofs.Every.{every_at}
use Rattle.esterel.proofs.Low.{start-pause, any-pause}
use Rattle.esterel.proofs.Subtrees.{only_child_lem}
use Rattle.table.specs.Kinds.{kind_of}
use Rattle.table.specs.Program.{program_of}
use Rattle.table.specs.Check.{refuse_found, places_check}
use Rattle.table.specs.declared.Kind.{Kind}
use Rattle.table.specs.declared.Kind.TheVariants.{Exit}
use Rattle.table.proofs.Bytes.{kind_byte, field_byte}
use Rattle.table.proofs.Stacks.{First}
use Rattle.table.proofs.Walk.{Waiting, place_of}
use Rattle.analysis.specs.Steps.{pause_set, set_of_stmt, sequence_of, codes_of}
use Rattle.analysis.specs.Passes.{Placed}

-- the checks of places that passed
found_none : (number : ℕ) (o : Option ℕ) (next : Reply (Unit {0})) → refuse_found number o next ≡ yields tt → (o ≡ Option.none) × (next ≡ yields tt)
found_none number Option.none next e = (refl, e)
found_none number (Option.some n) next e = (cc, cc)

pub record PlacesPass (ps : List Place) : Type 0 where
  pub depths : Passes too_deep ps
  pub traps : Passes too_many_traps ps
  pub exits : Passes uncaught ps

pub places-pass : (ps : List Place) → places_check ps 0 ≡ yields tt → PlacesPass ps
unfolding places_check
places-pass ps e =
    let e8 = found_none 8 (first_node too_deep ps 0) _ e in
    let e9 = found_none 9 (first_node too_many_traps ps 0) _ e8.1 in
    let e10 = found_none 10 (first_node uncaught ps 0) _ e9.1 in
    record {
      depths = first_passes too_deep ps 0 e8.0;
      traps = first_passes too_many_traps ps 0 e9.0;
      exits = first_passes uncaught ps 0 e10.0;
    }

-- such a table passes checks 1, 2 and 4 to 10
pub well_formed_lem : {t : List ℕ} → Placed t → WellFormed t (program_of t)
unfolding places_check
well_formed_lem {t} o =
    let ps = places_of (program_of t) in
    let e8 = found_none 8 (first_node too_deep ps 0) _ o.passes in
    let e9 = found_none 9 (first_node too_many_traps ps 0) _ e8.1 in
    let e10 = found_none 10 (first_node uncaught ps 0) _ e9.1 in
    record { reads = o.readable.reads; depths = e8.0; traps = e9.0; exits = e10.0 }

-- the codes of a pause are 0 and 1
pub pause-few : (any : Bool) → AtMost 1 (pause_set any)
pause-few true = any-pause
pause-few false = start-pause

sequence-word : (a b : Codes) → sequence_of (word a) (word b) ≡ word (union (without_ended a) (given (a 0) b))
unfolding sequence_of
sequence-word a b = rw (∋_word a 0 (omega arith)) (go (a 0) refl)
  where
    go : (t : Bool) → a 0 ≡ t → cond t (union_of (without_ended_of (word a)) (word b)) (without_ended_of (word a)) ≡ word (union (without_ended a) (given t b))
    go true e = rw (without-ended-word a, union-word (without_ended a) b) (word_same _ _ (λ k h. refl))
    go false e = rw (without-ended-word a) (word_same _ _ (λ k h. sym (or-false (without_ended a k))))

-- each node's word from its children's; of the statements w and v, in their place, only the kind and the field are looked at
module _ (any : Bool) where
  pub leaf-step : (l : Leaf) (x y : ℕ) → codes_of any (kind_of (kind (leaf l))) (field (leaf l)) x y ≡ word (set_of_stmt any (leaf l))
  unfolding kind_of
  leaf-step nothing x y = singleton_word 0
  leaf-step pause x y = refl
  leaf-step (emit s) x y = singleton_word 0
  leaf-step (exit level) x y = singleton_word (2 + level)

  pub one-step : (u : Unary) (w q : Stmt) (y : ℕ) → set_of_stmt any q 64 ≡ false → codes_of any (kind_of (kind (one u w))) (field (one u w)) (word (set_of_stmt any q)) y ≡ word (set_of_stmt any (one u q))
  unfolding kind_of
  one-step (signal s) w q y h = refl
  one-step (suspend s) w q y h = refl
  one-step loop w q y h = without-ended-word (set_of_stmt any q)
  one-step trap w q y h = caught-word (set_of_stmt any q) h

  pub two-step : (b : Binary) (w v q r : Stmt) → codes_of any (kind_of (kind (two b w v))) (field (two b w v)) (word (set_of_stmt any q)) (word (set_of_stmt any r)) ≡ word (set_of_stmt any (two b q r))
  unfolding kind_of
  two-step (present s) w v q r = union-word (set_of_stmt any q) (set_of_stmt any r)
  two-step sequence w v q r = sequence-word (set_of_stmt any q) (set_of_stmt any r)
  two-step parallel w v q r = parallel-word (set_of_stmt any q) (set_of_stmt any r)

-- the word of a subtree
abbrev pub word_of : Bool → Waiting → ℕ
word_of any w = word (set_of_stmt any w.root)

module _ {t : List ℕ} (ok : Placed t) where
  -- no node is too deep
  pub not-deep : (i : ℕ) (w : Waiting) → place_at (program_of t) i ≡ place_of w → w.depth ≤ max_depth
  not-deep i w e =
      let x = every_at outside refl (places-pass (places_of (program_of t)) ok.passes).depths i in
      let y : too_deep (place_of w) ≡ false = rw e at x in
      nltb→le max_depth w.depth (to_not (ltb max_depth w.depth) y)

  -- no code is past the outermost trap's
  pub few : (any : Bool) (j : ℕ) → AtMost (suc max_traps) (set_of_stmt any (statement_at (nodes (program_of t)) j))
  few any j =
      let pass = places-pass (places_of (program_of t)) ok.passes in
      codes-few (program_of t) pass.traps pass.exits (pause_set any) (pause-few any) j

  -- the level of an exit
  exit-low : (i : ℕ) (w : Stmt) → statement_at (nodes (program_of t)) i ≡ w → kind_of (kind w) ≡ Exit → field w < max_traps
  unfolding kind_of
  exit-low i (leaf nothing) e z = let y : ◌≡◌ {A = ℕ} 0 1 = cc in absurd (omega arith)
  exit-low i (leaf pause) e z = let y : ◌≡◌ {A = ℕ} 0 1 = cc in absurd (omega arith)
  exit-low i (leaf (emit s)) e z = let y : ◌≡◌ {A = ℕ} 0 1 = cc in absurd (omega arith)
  exit-low i (leaf (exit level)) e z = omega (arith, few false i (2 + level) (rw e (only_in (2 + level))))
  exit-low i (one (signal s) q) e z = let y : ◌≡◌ {A = ℕ} 0 1 = cc in absurd (omega arith)
  exit-low i (one (suspend s) q) e z = let y : ◌≡◌ {A = ℕ} 0 1 = cc in absurd (omega arith)
  exit-low i (one loop q) e z = let y : ◌≡◌ {A = ℕ} 0 1 = cc in absurd (omega arith)
  exit-low i (one trap q) e z = let y : ◌≡◌ {A = ℕ} 0 1 = cc in absurd (omega arith)
  exit-low i (two (present s) q r) e z = let y : ◌≡◌ {A = ℕ} 0 1 = cc in absurd (omega arith)
  exit-low i (two sequence q r) e z = let y : ◌≡◌ {A = ℕ} 0 1 = cc in absurd (omega arith)
  exit-low i (two parallel q r) e z = let y : ◌≡◌ {A = ℕ} 0 1 = cc in absurd (omega arith)

  -- node i, with the kind and the field that the code has read
  module _ (i : ℕ) (h : i < size (program_of t)) {k : Kind} {f : ℕ} (ek : k ≡ kind_of (get_or t (2 * i) 0)) (ef : f ≡ get_or t (2 * i + 1) 0) where
    abbrev here : Stmt
    here = statement_at (nodes (program_of t)) i

    pub kind-is : k ≡ kind_of (kind here)
    kind-is = ek ∙ ap kind_of (kind_byte t ok.readable i h)

    pub field_is : f ≡ field here
    field_is = ef ∙ field_byte t ok.readable i h

    pub exit-field : k ≡ Exit → f < max_traps
    exit-field e = rw field_is (exit-low i here refl (sym kind-is ∙ e))

    -- x and y are the words of the children
    pub own-word : (any : Bool) (w : Waiting) (x y : ℕ) → here ≡ w.root → First (word_of any) w.depth w.traps w.loops w.context w.root x y → codes_of any k f x y ≡ word_of any w
    own-word any w x y e c = ap₂ (λ a b. codes_of any a b x y) (kind-is ∙ ap (λ s. kind_of (kind s)) e) (field_is ∙ ap field e) ∙ go w.root e c
      where
        go : (s : Stmt) → here ≡ s → First (word_of any) w.depth w.traps w.loops w.context s x y → codes_of any (kind_of (kind s)) (field s) x y ≡ word (set_of_stmt any s)
        go (leaf l) e c = leaf-step any l x y
        go (one u q) e c =
            let (le, child) = only_child_lem (program_of t) i u q e in
            rw c (one-step any u q q y (cannot_pass (set_of_stmt any q 64) (λ z. omega (arith, few any (i - 1) 64 (rw child z)))))
        go (two b q r) e c = rw (c.0, c.1) (two-step any b q r q r)
