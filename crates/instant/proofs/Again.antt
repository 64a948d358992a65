-- The resumption of a statement from the answers of the statements beneath it: one law for each shape and each way through it.
-- B are the bytes of its nodes.
use mathlib.Core.Path.{◌≡◌, refl, sym, ap, ◌∙◌}
use mathlib.Core.Bool.{Bool, true, false, ◌&&◌, cond, false≢true}
use mathlib.Core.List.{List, [], ◌∷◌}
use Prim.Native.Nat.{ℕ, zero, suc, ◌+◌, ◌<◌, ◌≤◌}
use native.Mathlib.Numerals.{add-one}
use native.Mathlib.Omega.{arith}
use lib.Dec.{ltb}
use lib.ListN.{length, get_or, drop, drop_of_length-le, length-replicate}
use lib.Seq.{sets, drop-cons}
use borrow.Author.Tests.{ltb-true, ltb-false, not-true}
use Rattle.std.specs.Prelude.{Option, Some, None}
use Rattle.std.specs.Option.{option_map}
use Rattle.esterel.specs.Statement.{Unary, signal, suspend, loop, trap, Binary, present, sequence, parallel, Stmt, one, two, kind, size}
use Rattle.esterel.specs.Instant.{started, resumed, entry, Result, zeros, enter, body, again, catch, first, second, holds, idle, apart, start, resume}
use Rattle.esterel.specs.Outcome.{emission}
use Rattle.table.specs.Kinds.{kind_of, is_trap, is_loop, is_sequence, is_suspend}
use Rattle.instant.specs.Steps.{alone, one_more, catch_ran, catches, both, kept, asked}
use Rattle.instant.specs.Run.{stmt_at, RanIs, ran, starves}
use Rattle.instant.specs.declared.Reaction.{Reaction}
use Rattle.instant.proofs.Sets.{Zero}
use Rattle.instant.proofs.Algebra.{Sized, inside, is-starved, taken_le, held-behind, then-zeros-is, zeros-then-is, stopped_is, beside-is, second_is, catch-is, again_kept, again-is, idle-is, both-none, both-idle}
use Rattle.instant.proofs.Starts.{entered}

-- one statement beneath: what its resumption x becomes
abbrev pub around : Unary → ℕ → Stmt → Result → Result
around (signal g) f p x = enter (f + size p) resumed x
around (suspend g) f p x = enter (f + size p) resumed x
around loop f p x = enter (f + size p) resumed (again x (start f p))
around trap f p x = enter (f + size p) resumed (catch x)

-- what is asked before it is resumed
pub data Asking (answers : List ℕ) (taken : ℕ) : Bool → Option Reaction → Type 0 where
  free : Asking answers taken false (Some (record { code = 0; taken = taken; entries = 0 }))
  unanswered : length answers ≤ taken → Asking answers taken true None
  keeps : (a : ℕ) → drop taken answers ≡ suc a ∷ drop (taken + 1) answers → taken < length answers → Asking answers taken true (Some (alone 1 (taken + 1)))
  goes : drop taken answers ≡ zero ∷ drop (taken + 1) answers → taken < length answers → Asking answers taken true (Some (record { code = 0; taken = taken + 1; entries = 0 }))

pub asking : (answers : List ℕ) (taken : ℕ) (b : Bool) → Asking answers taken b (asked b answers taken)
asking answers taken false = free
asking answers taken true = go (ltb taken (length answers)) refl (get_or answers taken 0) refl
  where
    next : taken < length answers → drop taken answers ≡ get_or answers taken 0 ∷ drop (taken + 1) answers
    next lt = rw (add-one, drop-cons answers taken 0 lt)

    go : (b : Bool) → ltb taken (length answers) ≡ b → (a : ℕ) → get_or answers taken 0 ≡ a → Asking answers taken true (cond b (Some (kept a (taken + 1))) None)
    go false e a z = unanswered (ltb-false taken (length answers) e)
    go true e zero z = let lt = ltb-true taken (length answers) e in goes (next lt ∙ ap (λ a. a ∷ drop (taken + 1) answers) z) lt
    go true e (suc a) z = let lt = ltb-true taken (length answers) e in keeps a (next lt ∙ ap (λ a. a ∷ drop (taken + 1) answers) z) lt

pub asked_le : {answers : List ℕ} {taken : ℕ} {b : Bool} (x : Reaction) → x.code ≡ 0 → taken ≤ length answers → Asking answers taken b (Some x) → x.taken ≤ length answers
asked_le x en le free = le
asked_le x en le (keeps a e lt) = omega arith
asked_le x en le (goes e lt) = omega arith

suspend-is : (u : Unary) (p : Stmt) → is_suspend (kind_of (kind (one u p))) ≡ true → (g : ℕ) × (u ≡ suspend g)
unfolding kind_of
suspend-is (signal g) p e = (g, cc)
suspend-is (suspend g) p e = (g, refl)
suspend-is loop p e = (0, cc)
suspend-is trap p e = (0, cc)

module _ {answers : List ℕ} {taken : ℕ} (f : ℕ) (u : Unary) (p : Stmt) (B : List ℕ) where
  -- the child is resumed
  pub goes_in : {b : Bool} (x : Reaction) → is_suspend (kind_of (kind (one u p))) ≡ b → x.code ≡ 0 → Asking answers taken b (Some x) → resume f (one u p) B (drop taken answers) ≡ around u f p (resume f p (first p B) (drop x.taken answers))
  unfolding kind_of
  goes_in x su en free = others u su
    where
      others : (u : Unary) → is_suspend (kind_of (kind (one u p))) ≡ false → resume f (one u p) B (drop taken answers) ≡ around u f p (resume f p (first p B) (drop taken answers))
      others (signal g) su = refl
      others (suspend g) su = absurd (false≢true (sym su))
      others loop su = refl
      others trap su = refl
  goes_in x su en (keeps a e lt) = absurd (omega arith)
  goes_in x su en (goes e lt) = let (g, is) = suspend-is u p su in rw (is, e)

  -- or not, and all is as it was
  pub stays_out : {t held em : List ℕ} {node : ℕ} {b : Bool} (x : Reaction) → f + size p ≡ node → stmt_at t node ≡ one u p → sets held f B ≡ held → is_suspend (kind_of (kind (one u p))) ≡ b → (x.code ≡ 0 → ⊥) → Asking answers taken b (Some x) → RanIs t answers f held held em em (resume f (one u p) B (drop taken answers)) (Some x)
  stays_out x ends is same su go free = absurd (go refl)
  stays_out {t} {held} {em} x ends is same su go (keeps a e lt) =
      let (g, z) = suspend-is u p su in
      let quiet : emission (stmt_at t (f + size p)) ≡ [] = rw (ends, is) in
      rw (z, e) (ran 1 (taken + 1) (entry (f + size p) resumed 1 ∷ []) B (omega arith) (sym same) (rw quiet refl))
  stays_out x ends is same su go (goes e lt) = absurd (go refl)

  pub asks-more : {t held em : List ℕ} {b : Bool} → is_suspend (kind_of (kind (one u p))) ≡ b → Asking answers taken b None → RanIs t answers f held held em em (resume f (one u p) B (drop taken answers)) None
  asks-more su (unanswered le) = let (g, z) = suspend-is u p su in rw (z, drop_of_length-le answers le) starves

module _ {t answers held em : List ℕ} {node f : ℕ} (own : get_or held node 0 ≡ 0) (p : Stmt) (ends : f + size p ≡ node) (y : Result) (n : Sized (size p) y) where
  pub one_left : (u : Unary) (x : Reaction) {mid held' em' : List ℕ} → stmt_at t node ≡ one u p → Sized (suc (size p)) (around u f p y) → (is_loop (kind_of (kind (one u p))) ≡ true → x.code ≡ 0 → ⊥) → held' ≡ cond (is_trap (kind_of (kind (one u p))) && catches x) (sets mid f (zeros (size p))) mid → RanIs t answers f held mid em em' y (Some x) → RanIs t answers f held held' em em' (around u f p y) (Some (one_more (cond (is_trap (kind_of (kind (one u p)))) (catch_ran x) x)))
  unfolding kind_of
  one_left (signal g) x is s go st o = rw st (entered resumed (size p) is refl ends own s o)
  one_left (suspend g) x is s go st o = rw st (entered resumed (size p) is refl ends own s o)
  one_left loop x is s go st o = rw st (entered resumed (size p) is refl ends own s (again_kept (start f p) (go refl) o))
  one_left trap x is s go st o = entered resumed (size p) is refl ends own s (catch-is (size p) n st refl o)

  pub one-starves : (u : Unary) {held' em' : List ℕ} → RanIs t answers f held held' em em' y None → RanIs t answers f held held' em em' (around u f p y) None
  one-starves (signal g) o = rw (is-starved o) starves
  one-starves (suspend g) o = rw (is-starved o) starves
  one-starves loop o = rw (is-starved o) starves
  one-starves trap o = rw (is-starved o) starves

  -- the body of a loop ends and is started
  pub loop-again : (u : Unary) {l : Reaction} {mid held' emid em' : List ℕ} {r : Option Reaction} → stmt_at t node ≡ one u p → Sized (suc (size p)) (around u f p y) → is_loop (kind_of (kind (one u p))) ≡ true → l.code ≡ 0 → Sized (suc (size p)) (start f (one u p) (drop l.taken answers)) → RanIs t answers f held mid em emid y (Some l) → RanIs t answers f mid held' emid em' (start f p (drop l.taken answers)) r → RanIs t answers f held held' em em' (around u f p y) (option_map one_more (option_map (both l) r))
  unfolding kind_of
  loop-again (signal g) is s lo z m o d = absurd (false≢true lo)
  loop-again (suspend g) is s lo z m o d = absurd (false≢true lo)
  loop-again loop {l = l} is s lo z m o d =
      entered resumed (size p) is refl ends own s (again-is (size p) (start f p) z n (inside (f + size p) (size p) started (body (start f p (drop l.taken answers))) m) o d)
  loop-again trap is s lo z m o d = absurd (false≢true lo)

-- a child of a parallel: resumed if it holds a pause, else idle
abbrev side : ℕ → Stmt → (bytes ans : List ℕ) → Result
side f q bytes ans = cond (holds bytes) (resume f q bytes ans) (idle (size q) ans)

-- two statements beneath
module _ {t answers held em : List ℕ} {node f : ℕ} (own : get_or held node 0 ≡ 0) (B : List ℕ) (taken : ℕ) (le : taken ≤ length answers) (p q : Stmt) (ends : f + (size p + size q) ≡ node) where
  -- only the second holds a pause
  pub right-only : (b : Binary) {held' em' : List ℕ} {r : Option Reaction} → stmt_at t node ≡ two b p q → holds (first p B) ≡ false → holds (second p q B) ≡ true → Zero held f (size p) → Sized (suc (size p + size q)) (resume f (two b p q) B (drop taken answers)) → RanIs t answers (f + size p) held held' em em' (resume (f + size p) q (second p q B) (drop taken answers)) r → RanIs t answers f held held' em em' (resume f (two b p q) B (drop taken answers)) (option_map one_more r)
  right-only (present g) is hl hr z s o = rw hl (entered resumed (size p + size q) is refl ends own (rw hl at s) (zeros-then-is (size p) z o))
  right-only sequence is hl hr z s o = rw hl (entered resumed (size p + size q) is refl ends own (rw hl at s) (zeros-then-is (size p) z o))
  right-only parallel {held' = held'} {em' = em'} {r = r} is hl hr z s o =
      let right = side (f + size p) q (second p q B) in
      let d : RanIs t answers (f + size p) held held' em em' (right (drop taken answers)) r = rw hr o in
      let sides = beside-is {r = r} (size p) right (length-replicate {A = ℕ} (size p) 0) (idle-is (size p) taken le z) d in
      rw hl (entered resumed (size p + size q) is refl ends own (rw hl at s) (rw (both-none taken r) at sides))

  module _ (hl : holds (first p B) ≡ true) (n : Sized (size p) (resume f p (first p B) (drop taken answers))) where
    pub left-starves : (b : Binary) {held' em' : List ℕ} → RanIs t answers f held held' em em' (resume f p (first p B) (drop taken answers)) None → RanIs t answers f held held' em em' (resume f (two b p q) B (drop taken answers)) None
    left-starves (present g) o = rw (hl, is-starved o) starves
    left-starves sequence o = rw (hl, is-starved o) starves
    left-starves parallel o = rw (hl, is-starved o) starves

    -- the second is not entered, and holds nothing: that of a sequence whose first did not end, or of another
    module _ {l : Reaction} {held' em' : List ℕ} (none : Zero held (f + size p) (size q)) (o : RanIs t answers f held held' em em' (resume f p (first p B) (drop taken answers)) (Some l)) where
      pub left-stops : (b : Binary) → stmt_at t node ≡ two b p q → Sized (suc (size p + size q)) (resume f (two b p q) B (drop taken answers)) → is_sequence (kind_of (kind (two b p q))) ≡ true → (l.code ≡ 0 → ⊥) → RanIs t answers f held held' em em' (resume f (two b p q) B (drop taken answers)) (Some (one_more l))
      unfolding kind_of
      left-stops (present g) is s sq go = absurd (false≢true sq)
      left-stops sequence is s sq go =
          rw hl (entered resumed (size p + size q) is refl ends own (rw hl at s) (stopped_is (size p) (size q) (start (f + size p) q) go n none o))
      left-stops parallel is s sq go = absurd (false≢true sq)

      pub left-alone : (b : Binary) → stmt_at t node ≡ two b p q → Sized (suc (size p + size q)) (resume f (two b p q) B (drop taken answers)) → is_sequence (kind_of (kind (two b p q))) ≡ false → holds (second p q B) ≡ false → RanIs t answers f held held' em em' (resume f (two b p q) B (drop taken answers)) (Some (one_more l))
      unfolding kind_of
      left-alone (present g) is s sq hr =
          rw hl (entered resumed (size p + size q) is refl ends own (rw hl at s) (then-zeros-is (size p) (size q) n none o))
      left-alone sequence is s sq hr = absurd (false≢true (sym sq))
      left-alone parallel is s sq hr =
          let right = side (f + size p) q (second p q B) in
          let idles : Zero held' (f + size p) (size q) = λ j lo hi. held-behind (size p) n o j lo ∙ none j lo hi in
          let d : RanIs t answers (f + size p) held' held' em' em' (right (drop l.taken answers)) (Some (record { code = 0; taken = l.taken; entries = 0 })) = rw hr (idle-is (size q) l.taken (taken_le o) idles) in
          let sides = beside-is {r = Some (record { code = 0; taken = l.taken; entries = 0 })} (size p) right n o d in
          rw hl (entered resumed (size p + size q) is refl ends own (rw hl at s) (rw (both-idle l) at sides))

    -- both are entered: a sequence's second is started, a parallel's resumed
    module _ {l : Reaction} {mid held' emid em' : List ℕ} {r : Option Reaction} (o : RanIs t answers f held mid em emid (resume f p (first p B) (drop taken answers)) (Some l)) where
      pub sequence-both : (b : Binary) → stmt_at t node ≡ two b p q → Sized (suc (size p + size q)) (resume f (two b p q) B (drop taken answers)) → is_sequence (kind_of (kind (two b p q))) ≡ true → l.code ≡ 0 → RanIs t answers (f + size p) mid held' emid em' (start (f + size p) q (drop l.taken answers)) r → RanIs t answers f held held' em em' (resume f (two b p q) B (drop taken answers)) (option_map one_more (option_map (both l) r))
      unfolding kind_of
      sequence-both (present g) is s sq z d = absurd (false≢true sq)
      sequence-both sequence is s sq z d =
          rw hl (entered resumed (size p + size q) is refl ends own (rw hl at s) (second_is (size p) (size q) (start (f + size p) q) z n o d))
      sequence-both parallel is s sq z d = absurd (false≢true sq)

      pub parallel-both : (b : Binary) → stmt_at t node ≡ two b p q → Sized (suc (size p + size q)) (resume f (two b p q) B (drop taken answers)) → is_sequence (kind_of (kind (two b p q))) ≡ false → apart b true (holds (second p q B)) ≡ true → holds (second p q B) ≡ true → RanIs t answers (f + size p) mid held' emid em' (resume (f + size p) q (second p q B) (drop l.taken answers)) r → RanIs t answers f held held' em em' (resume f (two b p q) B (drop taken answers)) (option_map one_more (option_map (both l) r))
      unfolding kind_of
      parallel-both (present g) is s sq a hr d = absurd (false≢true (sym (not-true (holds (second p q B)) a) ∙ hr))
      parallel-both sequence is s sq a hr d = absurd (false≢true (sym sq))
      parallel-both parallel is s sq a hr d =
          let right = side (f + size p) q (second p q B) in
          let d' : RanIs t answers (f + size p) mid held' emid em' (right (drop l.taken answers)) r = rw hr d in
          rw hl (entered resumed (size p + size q) is refl ends own (rw hl at s) (beside-is {r = r} (size p) right n o d'))
