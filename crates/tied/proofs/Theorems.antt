-- The theorems of specs/Theorems.antt.
use mathlib.Core.Path.{◌≡◌, refl, sym, ap, ap₂, ◌∙◌}
use mathlib.Core.Bool.{Bool, true, false, cond}
use mathlib.Core.Logic.{◌⊎◌, inl, inr, ⊎_elim, ◌↔◌}
use mathlib.Core.List.{List}
use Prim.Native.Nat.{ℕ, ◌-◌, ◌<◌}
use native.Mathlib.Decide.{dec_lt}
use native.Mathlib.Omega.{arith}
use lib.Dec.{eqb}
use lib.ListN.{get_or-eq_default}
use Rattle.codes.proofs.Members.{only_out}
use Rattle.codes.proofs.Theorems.{on_sets}
use Rattle.esterel.specs.Codes.{AtMost, only}
use Rattle.esterel.specs.Statement.{Unary, signal, suspend, loop, trap, Binary, present, sequence, parallel, Stmt, one, two, field, size, nodes}
use Rattle.esterel.specs.Sets.{start_set}
use Rattle.esterel.specs.Instant.{Entry, Result, closed}
use Rattle.esterel.specs.Outcome.{statement_at}
use Rattle.esterel.specs.Theorems.{Finishes, Accepted}
use Rattle.esterel.proofs.Theorems.{exactness}
use Rattle.esterel.proofs.Accepted.{passes, ends-not}
use Rattle.esterel.proofs.Caught.{codes-few}
use Rattle.esterel.proofs.Low.{start-pause}
use Rattle.esterel.proofs.Subtrees.{inside as within}
use Rattle.tied.specs.Ties.{Ties, none_tied, tie, start_tied}
use Rattle.tied.specs.declared.Tie.{Tie}
use Rattle.tied.specs.declared.Tie.TheVariants.{Unknown}
use Rattle.tied.specs.Narrowed.{narrowed_in, narrowed, ties_under, spots, outside, spot_at, ties_at, narrowed_at}
use Rattle.tied.specs.Theorems.{Exact, InBody, Places, Untied, Fewer, of_child, of_children, ByNodes, NeverEmpty, NoneLost, replaced, Alike, close, starve, stick, Replacing}
use Rattle.tied.proofs.Replaced.{narrowed_as, none-replaced, start-alike, start_untied}
use Rattle.tied.proofs.Fewer.{Looser, same, free, narrowed-within}
use Rattle.tied.proofs.Some.{some}
use Rattle.tied.proofs.Spots.{length-spots, narrowed_at_lem, under_one, under-two, unknown_in, in_body_lem, in_body_or_tied}

-- ---- exactness: that of K, of the statement in whose place the ties are

alike_from : {x y : Result} (k : ℕ) (t : List Entry) (h r : List ℕ) → Alike x y → x ≡ closed k t h r → (t' : List Entry) × (h' r' : List ℕ) × (y ≡ closed k t' h' r')
alike_from k t h r (close l u u' g g' s) e = let z : l ≡ k = cc in (u', g', s, rw z)
alike_from k t h r starve e = (t, h, r, cc)
alike_from k t h r stick e = (t, h, r, cc)

alike-to : {x y : Result} (k : ℕ) (t : List Entry) (h r : List ℕ) → Alike x y → y ≡ closed k t h r → (t' : List Entry) × (h' r' : List ℕ) × (x ≡ closed k t' h' r')
alike-to k t h r (close l u u' g g' s) e = let z : l ≡ k = cc in (u, g, s, rw z)
alike-to k t h r starve e = (t, h, r, cc)
alike-to k t h r stick e = (t, h, r, cc)

narrowed-exact : (c : Ties) (q : Stmt) (first k : ℕ) → (narrowed c q k ≡ true) ↔ Finishes (start_tied c first q) k
narrowed-exact c q first k = (
  λ e.
      let (ans, t, h, r, z) = (exactness (replaced c q) first k).0 (sym (ap (λ a. a k) (narrowed_as c q)) ∙ e) in
      let (t', h', r', y) = alike-to k t h r (start-alike c q first first ans) z in
      (ans, t', h', r', y),
  λ (ans, t, h, r, z).
      let (t', h', r', y) = alike_from k t h r (start-alike c q first first ans) z in
      ap (λ a. a k) (narrowed_as c q) ∙ (exactness (replaced c q) first k).1 (ans, t', h', r', y),
)

pub exact : Exact
exact c p i first k =
    let e : narrowed_at c p i k ≡ narrowed (ties_at c p i) (statement_at (nodes p) i) k = ap (λ a. a k) (narrowed_at_lem c p i) in
    let (there, back) = narrowed-exact (ties_at c p i) (statement_at (nodes p) i) first k in
    (λ z. there (sym e ∙ z), λ z. e ∙ back z)

pub replacing : Replacing
replacing = record { sets = λ c p k. ap (λ a. a k) (narrowed_as c p); starts = start-alike }

-- ---- what is known at a place

pub places : Places
places = record { in_body = λ c p s i b. in_body_lem p c s i b; elsewhere = elsewhere }
  where
    elsewhere : (c : Ties) (p : Stmt) (s i : ℕ) → i < size p → (InBody p s i → ⊥) → ties_at c p i s ≡ c s
    elsewhere c p s i h f = ⊎_elim (λ b. absurd (f b)) (λ e. e) (in_body_or_tied c p s i h)

-- ---- fewer ties

-- past the program nothing is known
at-outside : (c : Ties) (p : Stmt) (i : ℕ) → (i < size p → ⊥) → spot_at c p i ≡ outside
at-outside c p i h = get_or-eq_default (spots c p) outside (omega (arith, length-spots c p))

looser_at : (p : Stmt) (i : ℕ) (c d : Ties) → ((s : ℕ) → Looser (c s) (d s)) → (s : ℕ) → Looser (ties_at c p i s) (ties_at d p i s)
looser_at p i c d o s = go (dec_lt i (size p))
  where
    there : InBody p s i ⊎ (ties_at c p i s ≡ c s) → InBody p s i ⊎ (ties_at d p i s ≡ d s) → Looser (ties_at c p i s) (ties_at d p i s)
    there (inl b) x = rw (in_body_lem p c s i b, in_body_lem p d s i b) (same Unknown)
    there (inr e) (inl b) = rw (in_body_lem p c s i b, in_body_lem p d s i b) (same Unknown)
    there (inr e) (inr f) = rw (e, f) (o s)

    go : Dec (i < size p) → Looser (ties_at c p i s) (ties_at d p i s)
    go (yes h) = there (in_body_or_tied c p s i h) (in_body_or_tied d p s i h)
    go (no h) = rw (at-outside c p i h, at-outside d p i h) (same Unknown)

narrowed_fewer : (c d : Ties) → ((s : ℕ) → Looser (c s) (d s)) → (p : Stmt) (i k : ℕ) → narrowed_at c p i k ≡ true → narrowed_at d p i k ≡ true
narrowed_fewer c d o p i k e =
    ap (λ a. a k) (narrowed_at_lem d p i) ∙ narrowed-within (statement_at (nodes p) i) (looser_at p i c d o) k (sym (ap (λ a. a k) (narrowed_at_lem c p i)) ∙ e)

-- ---- none tied

narrowed_untied : (p : Stmt) (i k : ℕ) → narrowed_at none_tied p i k ≡ start_set (statement_at (nodes p) i) k
narrowed_untied p i k =
    ap (λ a. a k) (narrowed_at_lem none_tied p i ∙ narrowed_as (ties_at none_tied p i) (statement_at (nodes p) i))
    ∙ ap (λ q. start_set q k) (none-replaced (ties_at none_tied p i) (λ s. unknown_in s none_tied p i refl) (statement_at (nodes p) i))

pub untied : Untied
untied = record { starts = λ p first ans. start_untied none_tied (λ s. refl) p first ans; sets = narrowed_untied }

pub fewer : Fewer
fewer =
    record {
      one_more = λ c s t e. several c (tie s t c) (freed c s t e);
      several = several;
      in_k = λ c p i k e. sym (narrowed_untied p i k) ∙ several none_tied c (λ s. inr refl) p i k e;
    }
  where
    several : (c d : Ties) → ((s : ℕ) → (d s ≡ c s) ⊎ (c s ≡ Unknown)) → (p : Stmt) (i k : ℕ) → narrowed_at d p i k ≡ true → narrowed_at c p i k ≡ true
    several c d o = narrowed_fewer d c (λ s. ⊎_elim (λ e. rw e (same (c s))) (λ e. rw e (free (d s))) (o s))

    freed : (c : Ties) (s : ℕ) (t : Tie) → c s ≡ Unknown → (x : ℕ) → (tie s t c x ≡ c x) ⊎ (c x ≡ Unknown)
    freed c s t e x = go (eqb x s) refl
      where
        go : (b : Bool) → eqb x s ≡ b → (cond b t (c x) ≡ c x) ⊎ (c x ≡ Unknown)
        go true z = inr (rw (only_out x s z) e)
        go false z = inl refl

-- ---- the rules by node numbers

of_child_lem : (d : Ties) (u : Unary) (q : Stmt) → narrowed d (one u q) ≡ of_child u (narrowed (ties_under u d) q)
of_child_lem d (signal s) q = refl
of_child_lem d (suspend s) q = refl
of_child_lem d loop q = refl
of_child_lem d trap q = refl

of_children_lem : (d : Ties) (b : Binary) (q r : Stmt) → narrowed d (two b q r) ≡ of_children (d (field (two b q r))) b (narrowed d q) (narrowed d r)
of_children_lem d (present s) q r = refl
of_children_lem d sequence q r = refl
of_children_lem d parallel q r = refl

pub by_nodes : ByNodes
by_nodes = record { single = single; pair = pair }
  where
    own : (c : Ties) (p : Stmt) (i : ℕ) (w : Stmt) → statement_at (nodes p) i ≡ w → narrowed_at c p i ≡ narrowed (ties_at c p i) w
    own c p i w e = narrowed_at_lem c p i ∙ ap (narrowed (ties_at c p i)) e

    single : (c : Ties) (p : Stmt) (i : ℕ) (u : Unary) (q : Stmt) → statement_at (nodes p) i ≡ one u q → (k : ℕ) → narrowed_at c p i k ≡ of_child u (narrowed_at c p (i - 1)) k
    single c p i u q e k =
        let h = within p i (one u q) e (λ z. let y : ◌≡◌ {A = ℕ} 0 1 = cc in omega arith) in
        ap (λ a. a k) (own c p i (one u q) e ∙ of_child_lem (ties_at c p i) u q ∙ ap (of_child u) (sym (ap narrowed_in (under_one c p i h u q e))))

    pair : (c : Ties) (p : Stmt) (i : ℕ) (b : Binary) (q r : Stmt) → statement_at (nodes p) i ≡ two b q r → (k : ℕ) → narrowed_at c p i k ≡ of_children (ties_at c p i (field (two b q r))) b (narrowed_at c p (i - 1 - size r)) (narrowed_at c p (i - 1)) k
    pair c p i b q r e k =
        let h = within p i (two b q r) e (λ z. let y : ◌≡◌ {A = ℕ} 0 1 = cc in omega arith) in
        let (left, right) = under-two c p i h b q r e in
        ap (λ a. a k) (own c p i (two b q r) e ∙ of_children_lem (ties_at c p i) b q r ∙ ap₂ (of_children (ties_at c p i (field (two b q r))) b) (sym (ap narrowed_in left)) (sym (ap narrowed_in right)))

-- ---- never empty, and none lost

-- of a statement alone
in_start : (c : Ties) (q : Stmt) (k : ℕ) → narrowed c q k ≡ true → start_set q k ≡ true
in_start c q k e =
    ap (λ p. start_set p k) (sym (none-replaced none_tied (λ s. refl) q)) ∙ sym (ap (λ a. a k) (narrowed_as none_tied q))
    ∙ narrowed-within q {c = c} {d = none_tied} (λ s. free (c s)) k e

pub never_empty : NeverEmpty
never_empty c p a i =
    let (k, e) = some p (ends-not p a) in_start (statement_at (nodes p) i) i refl (ties_at c p i) in
    (k, ap (λ x. x k) (narrowed_at_lem c p i) ∙ e)

narrowed_low : (c : Ties) (p : Stmt) → Accepted p → (i : ℕ) → AtMost 63 (narrowed_at c p i)
narrowed_low c p a i k e =
    let h = codes-few p (passes p a).traps (passes p a).exits (only 1) start-pause i k (fewer.in_k c p i k e) in
    omega arith

pub none_lost : NoneLost
none_lost c p a i h = on_sets.word_is (narrowed_at c p i) (narrowed_low c p a i)
