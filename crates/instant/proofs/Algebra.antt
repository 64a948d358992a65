-- What the runner's answers make of each other, as the rules' results do: one law for each way in which `start` puts results together.
use mathlib.Core.Path.{◌≡◌, refl, sym, ap, ◌∙◌}
use mathlib.Core.Bool.{false, cond}
use mathlib.Core.List.{List, [], ◌∷◌, ◌++◌, append_assoc}
use Prim.Native.Nat.{ℕ, zero, suc, ◌+◌, ◌-◌, max, ◌≤◌}
use native.Mathlib.Nat.{zero-max, max-zero, zero-add, add-zero}
use native.Mathlib.Numerals.{add-one}
use native.Mathlib.Omega.{arith}
use lib.Dec.{eqb}
use borrow.Author.Tests.{ne_eqb}
use lib.ListN.{length, get_or, set, drop, length-append, length-replicate, length-set}
use lib.Seq.{sets, length-sets}
use Rattle.esterel.specs.Statement.{Stmt, nodes}
use Rattle.esterel.specs.Instant.{Mode, Entry, entry, Result, closed, starved, stuck, zeros, enter, onto, zeros_then, then_zeros, and_then, beside, body, again, catch, holds, idle}
use Rattle.esterel.specs.Outcome.{statement_at, emission, emitted}
use Rattle.table.specs.Program.{program_of}
use Rattle.instant.specs.Steps.{marked, one_more, catch_ran, catches, both}
use Rattle.std.specs.Prelude.{Option, Some, None}
use Rattle.std.specs.Option.{option_map}
use Rattle.instant.specs.Run.{stmt_at, RanIs, ran, starves}
use Rattle.instant.specs.declared.Reaction.{Reaction}
use Rattle.table.proofs.Buffers.{sets-append}
use Rattle.packing.proofs.Zeros.{none-at}
use Rattle.instant.proofs.Sets.{sets-at, part-behind, sets_over, sets_behind, sets-zeros, Zero, zeros-after, zeros-before}

-- the emissions of a trail after another
marked_append : (a b e : List ℕ) → marked (a ++ b) e ≡ marked b (marked a e)
marked_append [] b e = refl
marked_append (s ∷ a) b e = marked_append a b (set e s 1)

pub length_marked : (a e : List ℕ) → length (marked a e) ≡ length e
length_marked [] e = refl
length_marked (s ∷ a) e = length_marked a (set e s 1) ∙ length-set e s 1

emitted-append : (ps : List Stmt) (u v : List Entry) → emitted ps (u ++ v) ≡ emitted ps u ++ emitted ps v
emitted-append ps [] v = refl
emitted-append ps (entry n mode k ∷ u) v =
    ap (λ l. emission (statement_at ps n) ++ l) (emitted-append ps u v) ∙ sym (append_assoc (emission (statement_at ps n)) (emitted ps u) (emitted ps v))

emitted-both : (ps : List Stmt) (u v : List Entry) (e : List ℕ) → marked (emitted ps (u ++ v)) e ≡ marked (emitted ps v) (marked (emitted ps u) e)
emitted-both ps u v e = ap (λ l. marked l e) (emitted-append ps u v) ∙ marked_append (emitted ps u) (emitted ps v) e

-- a result with a byte for each of n nodes
abbrev pub Sized : ℕ → Result → Type 0
Sized n (closed k u h r) = length h ≡ n
Sized n starved = Unit {0}
Sized n stuck = ⊥

-- with at most n entries
abbrev pub Few : ℕ → Result → Type 0
Few n (closed k u h r) = length u ≤ n
Few n starved = Unit {0}
Few n stuck = ⊥

-- that holds nothing where it ended
abbrev pub Quiet : Result → Type 0
Quiet (closed zero u h r) = holds h ≡ false
Quiet (closed (suc k) u h r) = Unit {0}
Quiet starved = Unit {0}
Quiet stuck = ⊥

-- what is inside a node that is entered
pub inside : (node n : ℕ) (mode : Mode) (x : Result) → Sized (suc n) (enter node mode x) → Sized n x
inside node n mode (closed k u h r) s = omega (arith, length-append h (0 ∷ []), s)
inside node n mode starved s = tt
inside node n mode stuck s = s

module _ {t answers : List ℕ} {f : ℕ} {held held' em em' : List ℕ} where
  pub is-starved : {x : Result} → RanIs t answers f held held' em em' x None → x ≡ starved
  is-starved starves = refl

  pub entries_le : {x : Result} {r : Reaction} (n : ℕ) → Few n x → RanIs t answers f held held' em em' x (Some r) → r.entries ≤ n
  entries_le n s (ran c k u h le st m) = s

  -- what a closed answer says of the buffers
  pub taken_le : {x : Result} {r : Reaction} → RanIs t answers f held held' em em' x (Some r) → r.taken ≤ length answers
  taken_le (ran c k u h le st m) = le

  pub held-length : {x : Result} {r : Reaction} → RanIs t answers f held held' em em' x (Some r) → length held' ≡ length held
  held-length (ran c k u h le st m) = ap length st ∙ length-sets held f h

  pub em_length : {x : Result} {r : Reaction} → RanIs t answers f held held' em em' x (Some r) → length em' ≡ length em
  em_length (ran c k u h le st m) = ap length m ∙ length_marked (emitted (nodes (program_of t)) u) em

  pub held-behind : {x : Result} {r : Reaction} (n : ℕ) → Sized n x → RanIs t answers f held held' em em' x (Some r) → (j : ℕ) → f + n ≤ j → get_or held' j 0 ≡ get_or held j 0
  held-behind n s (ran c k u h le st m) j lo = ap (λ l. get_or l j 0) st ∙ sets_behind held f h j (omega (arith, s))

  pub drop-behind : {x : Result} {r : Reaction} (n : ℕ) → Sized n x → RanIs t answers f held held' em em' x (Some r) → (j : ℕ) → f + n ≤ j → drop j held' ≡ drop j held
  drop-behind n s (ran c k u h le st m) j lo = ap (drop j) st ∙ part-behind held f h j (omega (arith, s))

  -- nothing is held where a run ended
  pub ended-zero : {x : Result} {r : Reaction} (n : ℕ) → Sized n x → Quiet x → r.code ≡ 0 → n + f ≤ length held → RanIs t answers f held held' em em' x (Some r) → Zero held' f n
  ended-zero n s qu z le (ran zero k u h _ st m) j lo hi =
      ap (λ l. get_or l j 0) st ∙ sets-at held f h j lo (omega (arith, s)) (omega arith) ∙ none-at h qu (j - f)
  ended-zero n s qu z le (ran (suc c) k u h _ st m) j lo hi = absurd (omega arith)

  -- the node's own entry and byte
  pub enter-is : {x : Result} {r : Option Reaction} (node n : ℕ) (mode : Mode) → emission (stmt_at t node) ≡ [] → Sized n x → Zero held (f + n) 1 → RanIs t answers f held held' em em' x r → RanIs t answers f held held' em em' (enter node mode x) (option_map one_more r)
  enter-is node n mode e s z (ran c k u h le st m) =
      rw add-one (ran c k (entry node mode c ∷ u) (h ++ (0 ∷ [])) le (st ∙ sym (zeros-after held f h 1 (rw s z))) (rw e m))
  enter-is node n mode e s z starves = starves

  pub body_is : {x : Result} {r : Option Reaction} (n : ℕ) → Sized n (body x) → RanIs t answers f held held' em em' x r → RanIs t answers f held held' em em' (body x) r
  body_is n s (ran zero k u h le st m) = absurd s
  body_is n s (ran (suc c) k u h le st m) = ran (suc c) k u h le st m
  body_is n s starves = starves

  -- the child that is not entered holds nothing
  pub then-zeros-is : {x : Result} {r : Option Reaction} (n m : ℕ) → Sized n x → Zero held (f + n) m → RanIs t answers f held held' em em' x r → RanIs t answers f held held' em em' (then_zeros x m) r
  then-zeros-is n m s z (ran c k u h le st e) = ran c k u (h ++ zeros m) le (st ∙ sym (zeros-after held f h m (rw s z))) e
  then-zeros-is n m s z starves = starves

  pub zeros-then-is : {x : Result} {r : Option Reaction} (n : ℕ) → Zero held f n → RanIs t answers (f + n) held held' em em' x r → RanIs t answers f held held' em em' (zeros_then n x) r
  zeros-then-is n z (ran c k u h le st e) = ran c k u (zeros n ++ h) le (st ∙ sym (zeros-before held f n h z)) e
  zeros-then-is n z starves = starves

  -- a sequence whose first does not end
  pub stopped_is : {x : Result} {r : Reaction} (n m : ℕ) (second : List ℕ → Result) → (r.code ≡ 0 → ⊥) → Sized n x → Zero held (f + n) m → RanIs t answers f held held' em em' x (Some r) → RanIs t answers f held held' em em' (and_then x m second) (Some r)
  stopped_is n m second go s z (ran zero k u h le st e) = absurd (go refl)
  stopped_is n m second go s z (ran (suc c) k u h le st e) =
      ran (suc c) k u (h ++ zeros m) le (st ∙ sym (zeros-after held f h m (rw s z))) e

  -- a resumed loop whose body does not end
  pub again_kept : {x : Result} {r : Reaction} (once : List ℕ → Result) → (r.code ≡ 0 → ⊥) → RanIs t answers f held held' em em' x (Some r) → RanIs t answers f held held' em em' (again x once) (Some r)
  again_kept once go (ran zero k u h le st e) = absurd (go refl)
  again_kept once go (ran (suc c) k u h le st e) = ran (suc c) k u h le st e

-- one part, from `held` to `mid`, and another from there on
module _ {t answers : List ℕ} {f : ℕ} {held mid held' em emid em' : List ℕ} where
  pub onto-is : {y : Result} {r : Option Reaction} (code : ℕ → ℕ) (c k : ℕ) (u : List Entry) (g : List ℕ) → ((l : ℕ) → code l ≡ max c l) → mid ≡ sets held f g → emid ≡ marked (emitted (nodes (program_of t)) u) em → RanIs t answers (f + length g) mid held' emid em' y r → RanIs t answers f held held' em em' (onto code u g y) (option_map (both (record { code = c; taken = k; entries = length u })) r)
  onto-is code c j u g z st m (ran d k v h le st' m') =
      rw (← z d, ← length-append u v)
      (ran (code d) k (u ++ v) (g ++ h) le (st' ∙ ap (λ l. sets l (f + length g) h) st ∙ sym (sets-append held f g h))
      (m' ∙ ap (marked (emitted (nodes (program_of t)) v)) m ∙ sym (emitted-both (nodes (program_of t)) u v em)))
  onto-is code c j u g z st m starves = starves

  pub beside-is : {x : Result} {l : Reaction} {r : Option Reaction} (n : ℕ) (right : List ℕ → Result) → Sized n x → RanIs t answers f held mid em emid x (Some l) → RanIs t answers (f + n) mid held' emid em' (right (drop l.taken answers)) r → RanIs t answers f held held' em em' (beside x right) (option_map (both l) r)
  beside-is {r = r} n right s (ran c k u h le st m) o = onto-is {y = right (drop k answers)} {r = r} (max c) c k u h (λ l. refl) st m (rw s o)

  -- a sequence whose first ends
  pub second_is : {x : Result} {l : Reaction} {r : Option Reaction} (n m : ℕ) (second : List ℕ → Result) → l.code ≡ 0 → Sized n x → RanIs t answers f held mid em emid x (Some l) → RanIs t answers (f + n) mid held' emid em' (second (drop l.taken answers)) r → RanIs t answers f held held' em em' (and_then x m second) (option_map (both l) r)
  second_is {r = r} n m second z s (ran zero k u h le st e) o = onto-is {y = second (drop k answers)} {r = r} (λ l. l) 0 k u h (λ l. sym (zero-max l)) st e (rw s o)
  second_is n m second z s (ran (suc c) k u h le st e) o = absurd (omega arith)

  -- a resumed loop whose body ends: it is started once more, over the same bytes
  again-onto : {y : Result} {r : Option Reaction} (n k : ℕ) (u : List Entry) (g : List ℕ) → length g ≡ n → Sized n (body y) → mid ≡ sets held f g → emid ≡ marked (emitted (nodes (program_of t)) u) em → RanIs t answers f mid held' emid em' y r → RanIs t answers f held held' em em' (onto (λ l. l) u [] (body y)) (option_map (both (record { code = 0; taken = k; entries = length u })) r)
  again-onto n j u g len s st m (ran zero k v h le st' m') = absurd s
  again-onto n j u g len s st m (ran (suc d) k v h le st' m') =
      rw (zero-max, ← length-append u v)
      (ran (suc d) k (u ++ v) h le (st' ∙ ap (λ l. sets l f h) st ∙ sets_over held f g h (len ∙ sym s))
      (m' ∙ ap (marked (emitted (nodes (program_of t)) v)) m ∙ sym (emitted-both (nodes (program_of t)) u v em)))
  again-onto n j u g len s st m starves = starves

  pub again-is : {x : Result} {l : Reaction} {r : Option Reaction} (n : ℕ) (once : List ℕ → Result) → l.code ≡ 0 → Sized n x → Sized n (body (once (drop l.taken answers))) → RanIs t answers f held mid em emid x (Some l) → RanIs t answers f mid held' emid em' (once (drop l.taken answers)) r → RanIs t answers f held held' em em' (again x once) (option_map (both l) r)
  again-is {r = r} n once z s s' (ran zero k u h le st e) o = again-onto {y = once (drop k answers)} {r = r} n k u h s s' st e o
  again-is n once z s s' (ran (suc c) k u h le st e) o = absurd (omega arith)

  -- a trap; one that catches has cleared the bytes of its n nodes
  pub catch-is : {x : Result} {r : Reaction} (n : ℕ) → Sized n x → held' ≡ cond (catches r) (sets mid f (zeros n)) mid → em' ≡ emid → RanIs t answers f held mid em emid x (Some r) → RanIs t answers f held held' em em' (catch x) (Some (catch_ran r))
  catch-is n s z y (ran zero k u h le st e) = ran 0 k u h le (z ∙ st) (y ∙ e)
  catch-is n s z y (ran (suc zero) k u h le st e) = ran 1 k u h le (z ∙ st) (y ∙ e)
  catch-is n s z y (ran (suc (suc zero)) k u h le st e) =
      ran 0 k u (zeros (length h)) le
      (z ∙ ap (λ l. sets l f (zeros n)) st ∙ sets_over held f h (zeros n) (s ∙ sym (length-replicate {A = ℕ} n 0)) ∙ ap (λ l. sets held f (zeros l)) (sym (s)))
      (y ∙ e)
  catch-is n s z y (ran (suc (suc (suc c))) k u h le st e) =
      let other : eqb (suc (suc (suc c))) 2 ≡ false = ne_eqb (suc (suc (suc c))) 2 (λ q. omega arith) in
      ran (suc (suc c)) k u h le (z ∙ ap (λ b. cond b (sets mid f (zeros n)) mid) other ∙ st) (y ∙ e)

-- a child of n nodes that has ended is not entered
pub idle-is : {t answers held em : List ℕ} {f : ℕ} (n k : ℕ) → k ≤ length answers → Zero held f n → RanIs t answers f held held em em (idle n (drop k answers)) (Some (record { code = 0; taken = k; entries = 0 }))
idle-is {held = held} {f = f} n k le z = ran 0 k [] (zeros n) le (sym (sets-zeros held f n z)) refl

-- what nothing adds to
pub both-none : (k : ℕ) (r : Option Reaction) → option_map (both (record { code = 0; taken = k; entries = 0 })) r ≡ r
both-none k (Some r) = rw (zero-max, zero-add)
both-none k None = refl

pub both-idle : (l : Reaction) → both l (record { code = 0; taken = l.taken; entries = 0 }) ≡ l
both-idle l = rw (max-zero, add-zero)
