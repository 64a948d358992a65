-- A node that is held when an instant begins is resumed, or stands beneath a suspend that is resumed and pauses. In the second case it is
-- entered only after that suspend is entered again.
use mathlib.Core.Path.{◌≡◌, refl, sym, ap, ◌∙◌}
use mathlib.Core.Bool.{true, cond}
use mathlib.Core.List.{List, [], ◌∷◌, ◌++◌, append_assoc}
use mathlib.Core.Logic.{⊎_elim}
use Prim.Native.Nat.{ℕ, zero, suc, ◌+◌, ◌-◌, ◌≤◌, ◌<◌}
use native.Mathlib.Omega.{arith}
use Rattle.esterel.specs.Statement.{nothing, pause, emit, exit, signal, suspend, loop, trap, present, sequence, parallel, Stmt, leaf, one, two, kind, size, nodes}
use Rattle.esterel.specs.Codes.{Codes, catch_code}
use Rattle.esterel.specs.Sets.{places_of, place_at}
use Rattle.esterel.specs.Instant.{resumed, Entry, entry, start, resume, idle, holds, first, second}
use Rattle.esterel.specs.Outcome.{statement_at}
use Rattle.esterel.specs.Reentry.{Beneath, Entered, Holding}
use Rattle.esterel.proofs.Every.{Every, none, also, every_map}
use Rattle.esterel.proofs.Held.{Fits, joint, child_fits, left-fits, right-fits}
use Rattle.esterel.proofs.Parts.{holds-part}
use Rattle.esterel.proofs.Nodes.{Sits, within}
use Rattle.esterel.proofs.Ranges.{Over, over-join, over_last}
use Rattle.esterel.proofs.Caught.{Caught}
use Rattle.esterel.proofs.Reentry.Places.{Placed}
use Rattle.esterel.proofs.Reentry.Kept.{false-true}
use Rattle.esterel.proofs.Reentry.Invariant.{part_of, child-part, left-part, right-part}
use Rattle.esterel.proofs.Reentry.Seen.{node_of, Live}
use Rattle.esterel.proofs.Reentry.Start.{start_went}
use Rattle.esterel.proofs.Reentry.Splits.{Split, in_first, in_second, split, not-empty}
use Rattle.esterel.proofs.Reentry.Results.{leaves, asked, no_rule, same-leaves, both-leave, enter-leaves, alone-leaves, skip_leaves, and_then-leaves, beside-leaves, again-leaves, cond-leaves}
use Rattle.esterel.proofs.Reentry.Tracks.{Tracked, trap_tracked, entered, entered-behind, entered-either, entered-none, entered_in, member_of, Around}
use Rattle.esterel.proofs.Reentry.Words.{Within, Gone, gone-further, start_track, resume_track}
use Rattle.esterel.proofs.Reentry.Passing.{PausedIn, passes}

module _ (p₀ : Stmt) (i : ℕ) where
  pub record Met (t : List Entry) : Type 0 where
    pub before : List Entry
    pub code : ℕ
    pub after : List Entry
    pub is : t ≡ before ++ (entry i resumed code ∷ after)
    pub unentered : Entered i before → ⊥

  pub record Rests (t : List Entry) : Type 0 where
    pub pauser : ℕ
    pub is_suspend : kind (statement_at (nodes p₀) pauser) ≡ 7
    pub around : Beneath p₀ pauser i
    pub before : List Entry
    pub after : List Entry
    pub is : t ≡ before ++ (entry pauser resumed 1 ∷ after)
    pub unentered : Entered i before → ⊥
    -- an entry of i comes after another of the suspend, and code 1 passes down to it
    pub returns : (m : List Entry) (e : Entry) (z : List Entry) → after ≡ m ++ (e ∷ z) → node_of e ≡ i → Entered pauser m × (PausedIn p₀ pauser → PausedIn p₀ i)

  pub data Fate (t : List Entry) : Type 0 where
    met : Met t → Fate t
    rests : Rests t → Fate t

  -- behind what does not enter i
  behind : (x : List Entry) {t : List Entry} → (Entered i x → ⊥) → Fate t → Fate (x ++ t)
  behind x never (met o) =
      met
      record {
        before = x ++ o.before;
        code = o.code;
        after = o.after;
        is = ap (λ l. x ++ l) o.is ∙ sym (append_assoc x o.before _);
        unentered = λ y. ⊎_elim never o.unentered (entered-either x o.before y);
      }
  behind x never (rests o) =
      rests
      record {
        pauser = o.pauser;
        is_suspend = o.is_suspend;
        around = o.around;
        before = x ++ o.before;
        after = o.after;
        is = ap (λ l. x ++ l) o.is ∙ sym (append_assoc x o.before _);
        unentered = λ y. ⊎_elim never o.unentered (entered-either x o.before y);
        returns = o.returns;
      }

  -- what comes after t enters i only as is said here of each c that t enters
  abbrev Returns : (t u : List Entry) → Type 0
  Returns t u = (c : ℕ) → Entered c t → Beneath p₀ c i → (m : List Entry) (e : Entry) (z : List Entry) → u ≡ m ++ (e ∷ z) → node_of e ≡ i → Entered c m × (PausedIn p₀ c → PausedIn p₀ i)

  before_more : (t u : List Entry) → Returns t u → Fate t → Fate (t ++ u)
  before_more t u f (met o) =
      met record { before = o.before; code = o.code; after = o.after ++ u; is = ap (λ l. l ++ u) o.is ∙ append_assoc o.before _ u; unentered = o.unentered }
  before_more t u f (rests o) =
      rests
      record {
        pauser = o.pauser;
        is_suspend = o.is_suspend;
        around = o.around;
        before = o.before;
        after = o.after ++ u;
        is = ap (λ l. l ++ u) o.is ∙ append_assoc o.before _ u;
        unentered = o.unentered;
        returns = λ m e z y q. go m e z q (split o.after u m e z y);
      }
    where
      go : (m : List Entry) (e : Entry) (z : List Entry) → node_of e ≡ i → Split o.after u m e z → Entered o.pauser m × (PausedIn p₀ o.pauser → PausedIn p₀ i)
      go m e z q (in_first rest y v) = o.returns m e rest y q
      go m e z q (in_second pre y v) =
          let c = f o.pauser (entered o.before (entry o.pauser resumed 1) o.after refl o.is) o.around pre e z v q in
          (rw y (entered-behind o.after c.0), c.1)

  -- entries of other nodes
  elsewhere : (n s : ℕ) {t : List Entry} → (n ≤ i → n + s ≤ i) → Every (Within n s) t → Entered i t → ⊥
  elsewhere n s out c o = let w = entered_in c o in omega (arith, w.0, w.1, out w.0)

  none_return : (n s : ℕ) (t : List Entry) {u : List Entry} → (n ≤ i → n + s ≤ i) → Every (Within n s) u → Returns t u
  none_return n s t out c j _ _ m e z y q = absurd (elsewhere n s out c (entered m e z q y))

  -- the statement's own entry
  own_first : (node k : ℕ) (t : List Entry) → i ≡ node → Fate (entry node resumed k ∷ t)
  own_first node k t z = met record { before = []; code = k; after = t; is = rw z refl; unentered = entered-none }

  -- a suspend that pauses
  paused : (x : ℕ) (p : Stmt) (n : ℕ) → statement_at (nodes p₀) (n + size p) ≡ one (suspend x) p → n ≤ i → i < n + size p → Fate (entry (n + size p) resumed 1 ∷ [])
  paused x p n own lo hi =
      rests
      record {
        pauser = n + size p;
        is_suspend = rw own refl;
        around = (hi, rw own (omega arith));
        before = [];
        after = [];
        is = refl;
        unentered = entered-none;
        returns = λ m e z y. not-empty m e z y;
      }

  behind-own : (node k : ℕ) {t : List Entry} → i < node → Fate t → Fate (entry node resumed k ∷ t)
  behind-own node k h o = behind (entry node resumed k ∷ []) (λ y. let z = entered_in {P = λ e. node_of e ≡ node} (also {x = entry node resumed k} refl none) y in omega arith) o

module _ (p₀ : Stmt) (caught : (j : ℕ) → Caught (place_at p₀ j)) (held₀ : List ℕ) where
  -- each statement around a node that holds does
  holds-here : (p : Stmt) (n : ℕ) → Sits (nodes p₀) n p → (i : ℕ) → n ≤ i → i < n + size p → Holding p₀ held₀ i → holds (part_of n (size p) held₀) ≡ true
  holds-here p n w i lo hi holding =
      let s = size (statement_at (nodes p₀) i) in
      let le : n + s ≤ suc i = within (nodes p₀) p n w i lo hi in
      let from : suc i - s ≡ n + (suc i - s - n) = omega arith in
      holds-part n (suc i - s - n) s (size p) held₀ (omega arith) (rw from at holding)

  start-ranges : (p : Stmt) (n : ℕ) (ans : List ℕ) → Sits (nodes p₀) n p → Tracked (λ k t. Every (Within n (size p)) t) (start n p ans)
  start-ranges p n ans w = same-leaves (λ k t _ o. o.0.ranges) (start_track p₀ (Gone p₀) (gone-further p₀) p n ans w)

  resume-ranges : (p : Stmt) (n : ℕ) (held ans : List ℕ) → Sits (nodes p₀) n p → Tracked (λ k t. Every (Within n (size p)) t) (resume n p held ans)
  resume-ranges p n held ans w = same-leaves (λ k t _ o. o.0.ranges) (resume_track p₀ p n held ans w)

  -- of a resumed statement, each node that holds
  abbrev Fates : (p : Stmt) (n : ℕ) (held ans : List ℕ) → ℕ → Type 0
  Fates p n held ans i = Holding p₀ held₀ i → Tracked (λ k t. Fate p₀ i t) (resume n p held ans)

  own-fate : (p : Stmt) (n : ℕ) (held ans : List ℕ) (i : ℕ) → suc i ≡ n + size p → Sits (nodes p₀) n p → Fates p n held ans i
  own-fate p n held ans i z s h =
      same-leaves (λ k t _ o. let own : i ≡ o.1.last = omega (arith, o.1.last_is) in rw o.1.is (own_first p₀ i o.1.last k o.1.rest own)) (resume_track p₀ p n held ans s)

  -- a body that is started once more: each entry is of a node that a start may enter, and comes after those around it
  started_again : (p : Stmt) (n d t : ℕ) (P : Codes) (ans : List ℕ) → Sits (nodes p₀) n p → Placed (places_of p₀) n d t P p → Tracked (λ k u. Around p₀ (n + size p) u × Every (λ e. Live n p (node_of e)) u) (start n p ans)
  started_again p n d t P ans s w =
      both-leave (same-leaves (λ k u _ o. o.0.around) (start_track p₀ (Gone p₀) (gone-further p₀) p n ans s))
      (same-leaves (λ k u _ o. every_map (λ e y. y.1.live) o.entries) (start_went (places_of p₀) caught p n d t P ans w))

  again-returns : (p : Stmt) (n d t : ℕ) (P : Codes) → Sits (nodes p₀) n p → Placed (places_of p₀) n d t P p → (i : ℕ) → n ≤ i → (x u : List Entry) → Every (Within n (size p)) x → Around p₀ (n + size p) u → Every (λ e. Live n p (node_of e)) u → Returns p₀ i x u
  again-returns p n d t P s w i lo x u r f l c y b m e z v q =
      let c-in = entered_in r y in
      let live : Live n p i = rw q at (member_of m e z v l) in
      (f m e z v c c-in.1 (rw q b), passes p₀ i p n d t P s w c c-in.0 c-in.1 b live lo)

  -- a parallel's branch, which is resumed or has ended
  branch-ranges : (p : Stmt) (n : ℕ) (held ans : List ℕ) → Sits (nodes p₀) n p → Tracked (λ k t. Every (Within n (size p)) t) (cond (holds held) (resume n p held ans) (idle (size p) ans))
  branch-ranges p n held ans w = cond-leaves (holds held) (λ _. resume-ranges p n held ans w) (λ _. leaves 0 [] _ ans none)

  -- the bytes of two children
  module _ (p q : Stmt) (n : ℕ) (held : List ℕ) where
    first-is : held ≡ part_of n (suc (size p + size q)) held₀ → first p held ≡ part_of n (size p) held₀
    first-is z = ap (first p) z ∙ left-part n p q held₀

    second_is : held ≡ part_of n (suc (size p + size q)) held₀ → second p q held ≡ part_of (n + size p) (size q) held₀
    second_is z = ap (second p q) z ∙ right-part n p q held₀

    first_holds : Sits (nodes p₀) n p → held ≡ part_of n (suc (size p + size q)) held₀ → (i : ℕ) → n ≤ i → i < n + size p → Holding p₀ held₀ i → holds (first p held) ≡ true
    first_holds s z i lo hi h = rw (first-is z) (holds-here p n s i lo hi h)

    second_holds : Sits (nodes p₀) (n + size p) q → held ≡ part_of n (suc (size p + size q)) held₀ → (i : ℕ) → n + size p ≤ i → i < n + size p + size q → Holding p₀ held₀ i → holds (second p q held) ≡ true
    second_holds s z i lo hi h = rw (second_is z) (holds-here q (n + size p) s i lo hi h)

  pub fate : (p : Stmt) (n d t : ℕ) (P : Codes) (held ans : List ℕ) → Sits (nodes p₀) n p → Placed (places_of p₀) n d t P p → held ≡ part_of n (size p) held₀ → Fits p held → Over (Fates p n held ans) n (size p)
  fate (leaf nothing) n d t P held ans s w z f = λ i lo hi h. no_rule
  fate (leaf pause) n d t P held ans s w z f = λ i lo hi h. leaves 0 _ _ ans (own_first p₀ i n 0 [] (omega arith))
  fate (leaf (exit level)) n d t P held ans s w z f = λ i lo hi h. no_rule
  fate (leaf (emit x)) n d t P held ans s w z f = λ i lo hi h. no_rule
  fate (one loop p) n d t P held ans s w z f =
      over_last (Fates (one loop p) n held ans) n (size p)
      (λ i lo hi h. enter-leaves (n + size p) resumed (λ k u _ o. behind-own p₀ i (n + size p) k hi o)
      (again-leaves (λ k u _ o. o.0) (λ l x u _ _ o v. before_more p₀ i x u (again-returns p n _ _ _ s.0 w.0 i lo x u o.1 v.0 v.1) o.0)
      (both-leave (fate p n _ _ _ (first p held) ans s.0 w.0 (ap (first p) z ∙ child-part n p held₀) (child_fits f) i lo hi h) (resume-ranges p n (first p held) ans s.0))
      (λ r. started_again p n _ _ _ r s.0 w.0)))
      (own-fate (one loop p) n held ans (n + size p) (omega arith) s)
  fate (one trap p) n d t P held ans s w z f =
      over_last (Fates (one trap p) n held ans) n (size p)
      (λ i lo hi h. trap_tracked (n + size p) resumed (λ k u o. behind-own p₀ i (n + size p) (catch_code k) hi o)
      (fate p n _ _ _ (first p held) ans s.0 w.0 (ap (first p) z ∙ child-part n p held₀) (child_fits f) i lo hi h))
      (own-fate (one trap p) n held ans (n + size p) (omega arith) s)
  fate (one (signal x) p) n d t P held ans s w z f =
      over_last (Fates (one (signal x) p) n held ans) n (size p)
      (λ i lo hi h. enter-leaves (n + size p) resumed (λ k u _ o. behind-own p₀ i (n + size p) k hi o)
      (fate p n _ _ _ (first p held) ans s.0 w.0 (ap (first p) z ∙ child-part n p held₀) (child_fits f) i lo hi h))
      (own-fate (one (signal x) p) n held ans (n + size p) (omega arith) s)
  fate (one (suspend x) p) n d t P held [] s w z f = λ i lo hi h. asked
  fate (one (suspend x) p) n d t P held (suc a ∷ ans) s w z f =
      over_last (Fates (one (suspend x) p) n held (suc a ∷ ans)) n (size p)
      (λ i lo hi h. leaves 1 _ held ans (paused p₀ i x p n s.1 lo hi))
      (own-fate (one (suspend x) p) n held (suc a ∷ ans) (n + size p) (omega arith) s)
  fate (one (suspend x) p) n d t P held (zero ∷ ans) s w z f =
      over_last (Fates (one (suspend x) p) n held (zero ∷ ans)) n (size p)
      (λ i lo hi h. enter-leaves (n + size p) resumed (λ k u _ o. behind-own p₀ i (n + size p) k hi o)
      (fate p n _ _ _ (first p held) ans s.0 w.0 (ap (first p) z ∙ child-part n p held₀) (child_fits f) i lo hi h))
      (own-fate (one (suspend x) p) n held (zero ∷ ans) (n + size p) (omega arith) s)
  fate (two sequence p q) n d t P held ans s w z f =
      over_last (Fates (two sequence p q) n held ans) n (size p + size q)
      (over-join (Fates (two sequence p q) n held ans) n (size p) (size q)
      (λ i lo hi h. enter-leaves (n + (size p + size q)) resumed (λ k u _ o. behind-own p₀ i (n + (size p + size q)) k (omega arith) o)
      (cond-leaves (holds (first p held))
      (λ b. and_then-leaves (size q) (λ k u _ o. o) (λ l x u _ _ o v. before_more p₀ i x u (none_return p₀ i (n + size p) (size q) x (λ le. absurd (omega arith)) v) o)
      (fate p n _ _ _ (first p held) ans s.0 w.0 (first-is p q n held z) (left-fits f) i lo hi h) (λ r. start-ranges q (n + size p) r s.1))
      (λ b. false-true (sym b ∙ first_holds p q n held s.0 z i lo hi h))))
      (λ i lo hi h. enter-leaves (n + (size p + size q)) resumed (λ k u _ o. behind-own p₀ i (n + (size p + size q)) k (omega arith) o)
      (cond-leaves (holds (first p held))
      (λ b. false-true (rw (b, second_holds p q n held s.1 z i lo hi h) at (joint f)))
      (λ b. skip_leaves (size p) (λ k u _ o. o) (fate q (n + size p) _ _ _ (second p q held) ans s.1 w.1 (second_is p q n held z) (right-fits f) i lo hi h)))))
      (own-fate (two sequence p q) n held ans (n + (size p + size q)) (omega arith) s)
  fate (two (present x) p q) n d t P held ans s w z f =
      over_last (Fates (two (present x) p q) n held ans) n (size p + size q)
      (over-join (Fates (two (present x) p q) n held ans) n (size p) (size q)
      (λ i lo hi h. enter-leaves (n + (size p + size q)) resumed (λ k u _ o. behind-own p₀ i (n + (size p + size q)) k (omega arith) o)
      (cond-leaves (holds (first p held))
      (λ b. alone-leaves (size q) (λ k u _ o. o) (fate p n _ _ _ (first p held) ans s.0 w.0 (first-is p q n held z) (left-fits f) i lo hi h))
      (λ b. false-true (sym b ∙ first_holds p q n held s.0 z i lo hi h))))
      (λ i lo hi h. enter-leaves (n + (size p + size q)) resumed (λ k u _ o. behind-own p₀ i (n + (size p + size q)) k (omega arith) o)
      (cond-leaves (holds (first p held))
      (λ b. false-true (rw (b, second_holds p q n held s.1 z i lo hi h) at (joint f)))
      (λ b. skip_leaves (size p) (λ k u _ o. o) (fate q (n + size p) _ _ _ (second p q held) ans s.1 w.1 (second_is p q n held z) (right-fits f) i lo hi h)))))
      (own-fate (two (present x) p q) n held ans (n + (size p + size q)) (omega arith) s)
  fate (two parallel p q) n d t P held ans s w z f =
      over_last (Fates (two parallel p q) n held ans) n (size p + size q)
      (over-join (Fates (two parallel p q) n held ans) n (size p) (size q)
      (λ i lo hi h. enter-leaves (n + (size p + size q)) resumed (λ k u _ o. behind-own p₀ i (n + (size p + size q)) k (omega arith) o)
      (beside-leaves (λ k l x u _ _ o v. before_more p₀ i x u (none_return p₀ i (n + size p) (size q) x (λ le. absurd (omega arith)) v) o)
      (cond-leaves (holds (first p held))
      (λ b. fate p n _ _ _ (first p held) ans s.0 w.0 (first-is p q n held z) (left-fits f) i lo hi h)
      (λ b. false-true (sym b ∙ first_holds p q n held s.0 z i lo hi h)))
      (λ r. branch-ranges q (n + size p) (second p q held) r s.1)))
      (λ i lo hi h. enter-leaves (n + (size p + size q)) resumed (λ k u _ o. behind-own p₀ i (n + (size p + size q)) k (omega arith) o)
      (beside-leaves (λ k l x u _ _ o v. behind p₀ i x (elsewhere p₀ i n (size p) (λ le. lo) o) v) (branch-ranges p n (first p held) ans s.0)
      (λ r. cond-leaves (holds (second p q held))
      (λ b. fate q (n + size p) _ _ _ (second p q held) r s.1 w.1 (second_is p q n held z) (right-fits f) i lo hi h)
      (λ b. false-true (sym b ∙ second_holds p q n held s.1 z i lo hi h))))))
      (own-fate (two parallel p q) n held ans (n + (size p + size q)) (omega arith) s)
