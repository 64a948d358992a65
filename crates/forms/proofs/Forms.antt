-- The start sets of the forms, and all that specs/Forms.antt states.
use mathlib.Core.Path.{◌≡◌, refl, sym, ap, ap₂, ◌∙◌, fun_ext}
use mathlib.Core.Bool.{and-true, and-false, or-false, or_self}
use mathlib.Core.List.{List, ◌∷◌}
use Prim.Native.Nat.{ℕ, zero, suc}
use native.Mathlib.Omega.{arith}
use lib.Dec.{eqb-zero-suc}
use borrow.Author.Tests.{ne_eqb}
use Rattle.codes.proofs.Members.{only_in, up_to_in}
use Rattle.esterel.specs.Codes.{Codes, only, union, given, without_ended, larger, caught}
use Rattle.esterel.specs.Statement.{leaf, one, two, exit, trap, sequence, parallel}
use Rattle.esterel.specs.Sets.{start_set}
use Rattle.grammar.specs.Tree as T
use Rattle.grammar.specs.Tree.{Tree, Name}
use Rattle.grammar.specs.Kernel.{Kernel, leaf as leaf_of, one as one_of, two as two_of, added, await_loop, expand}
use Rattle.grammar.specs.Names.{place}
use Rattle.grammar.specs.Meaning.{resolve}
use Rattle.forms.specs.Forms.{lift, awaiting, guarded_by, Lettered, OfForms}
use Rattle.forms.proofs.Exits.{lifts}
use Rattle.forms.proofs.Sets.{Inserted, of_lift}
use Rattle.forms.proofs.Letters.{of_text_lem}

-- ---- those that pause at their start

halts : (ns ts : List Name) (k : ℕ) → start_set (resolve ns ts (expand T.halt)) k ≡ only 1 k
halts ns ts zero = refl
halts ns ts (suc k) = refl

sustains : (ns ts : List Name) (s : Name) (k : ℕ) → start_set (resolve ns ts (expand (T.sustain s))) k ≡ only 1 k
sustains ns ts s zero = refl
sustains ns ts s (suc k) = rw (eqb-zero-suc k)

-- the await loop, which an await and an abort have
waits : (ns ts : List Name) (s : Name) → start_set (resolve ns ts (await_loop s)) ≡ only 1
waits ns ts s = fun_ext each
  where
    each : (k : ℕ) → start_set (resolve ns ts (await_loop s)) k ≡ only 1 k
    each zero = refl
    each (suc k) = or-false (only 1 (suc k))

caught-pause : (k : ℕ) → caught (only 1) k ≡ only 1 k
caught-pause zero = refl
caught-pause (suc zero) = refl
caught-pause (suc (suc k)) = ne_eqb 1 (suc (suc (suc k))) (λ e. omega arith) ∙ sym (ne_eqb 1 (suc (suc k)) (λ e. omega arith))

awaits : (ns ts : List Name) (s : Name) (k : ℕ) → start_set (resolve ns ts (expand (T.await s))) k ≡ only 1 k
awaits ns ts s k = ap (λ a. caught a k) (waits ns (added ∷ ts) s) ∙ caught-pause k

-- ---- the aborts

-- the start set of an abort, where a is its body's and b the await loop's
abbrev abort_set : (a b : Codes) → Codes
abort_set a b = caught (larger (union (without_ended a) (given (a 0) (only 2))) b)

-- The body does not give the code of the added trap's exit, 2. So 2 tells that the body ended, and the trap makes 0 of it again; it takes each code
-- above, one more than without the trap, back down; and the pause of the await loop is never the larger one.
body-again : {a b : Codes} → Inserted 2 a b → (k : ℕ) → abort_set b (only 1) k ≡ a k
body-again r zero = rw (r.new, r.below 0 (omega arith)) (simp (and-true, and-false, or-false))
body-again {a} r (suc zero) = rw (r.below 0 (omega arith), r.below 1 (omega arith)) (simp (and-true, and-false, or-false) (or_self (a 1)))
body-again r (suc (suc k)) =
    let c = suc (suc (suc k)) in
    rw (r.above (suc (suc k)) (omega arith), up_to_in (only 1) 1 c (omega arith) (only_in 1))
    (rw (ne_eqb 1 c (λ e. omega arith), ne_eqb 2 c (λ e. omega arith)) (simp (and-true, and-false, or-false)))

weak_aborts : (ns ts : List Name) (s : Name) (p : Tree) → Lettered p → (k : ℕ) →
    start_set (resolve ns ts (expand (T.abort T.weak s p))) k ≡ start_set (resolve ns ts (expand p)) k
weak_aborts ns ts s p h k =
    ap₂ (λ q b. abort_set (start_set q) b k) (lifts ns ts p h) (waits ns (added ∷ ts) s) ∙ body-again (of_lift 0 (resolve ns ts (expand p))) k

-- a suspend has the start set of its body
either-aborts : (ns ts : List Name) (w : T.Strength) (s : Name) (p : Tree) → Lettered p → (k : ℕ) →
    start_set (resolve ns ts (expand (T.abort w s p))) k ≡ start_set (resolve ns ts (expand p)) k
either-aborts ns ts T.strong s p h k = weak_aborts ns ts s p h k
either-aborts ns ts T.weak s p h k = weak_aborts ns ts s p h k

-- a start set looks at no signal's number
unnumbered : (ns ns' ts : List Name) (p : Kernel) → start_set (resolve ns ts p) ≡ start_set (resolve ns' ts p)
unnumbered ns ns' ts (leaf_of T.nothing) = refl
unnumbered ns ns' ts (leaf_of T.pause) = refl
unnumbered ns ns' ts (leaf_of (T.emit s)) = refl
unnumbered ns ns' ts (leaf_of (T.exit t)) = refl
unnumbered ns ns' ts (one_of (T.signal s) p) = unnumbered ns ns' ts p
unnumbered ns ns' ts (one_of (T.suspend s) p) = unnumbered ns ns' ts p
unnumbered ns ns' ts (one_of T.loop p) = ap without_ended (unnumbered ns ns' ts p)
unnumbered ns ns' ts (one_of (T.trap t) p) = ap caught (unnumbered ns ns' (t ∷ ts) p)
unnumbered ns ns' ts (two_of (T.present s) p q) = ap₂ union (unnumbered ns ns' ts p) (unnumbered ns ns' ts q)
unnumbered ns ns' ts (two_of T.sequence p q) =
    ap₂ (λ a b. union (without_ended a) (given (a 0) b)) (unnumbered ns ns' ts p) (unnumbered ns ns' ts q)
unnumbered ns ns' ts (two_of T.parallel p q) = ap₂ larger (unnumbered ns ns' ts p) (unnumbered ns ns' ts q)

aborts : (ns ns' ts : List Name) (w : T.Strength) (s : Name) (p : Tree) → Lettered p → (k : ℕ) →
    start_set (resolve ns ts (expand (T.abort w s p))) k ≡ start_set (resolve ns' ts (expand p)) k
aborts ns ns' ts w s p h k = either-aborts ns ts w s p h k ∙ ap (λ (a : Codes). a k) (unnumbered ns ns' ts (expand p))

-- an abort as a statement: all but its body is so by definition
abort-is : (ns ts : List Name) (w : T.Strength) (s : Name) (p : Tree) → Lettered p →
    resolve ns ts (expand (T.abort w s p)) ≡
    one trap (two parallel (two sequence (guarded_by w (place ns s) (lift 0 (resolve ns ts (expand p)))) (leaf (exit 0))) (awaiting (place ns s)))
abort-is ns ts T.strong s p h = rw (lifts ns ts p h)
abort-is ns ts T.weak s p h = rw (lifts ns ts p h)

pub of_forms : OfForms
of_forms =
    record {
      lifts = lifts;
      halt_is = λ ns ts. refl;
      sustain_is = λ ns ts s. refl;
      await_is = λ ns ts s. refl;
      abort_is = abort-is;
      halts = halts;
      sustains = sustains;
      awaits = awaits;
      aborts = aborts;
      of_text = of_text_lem;
    }
