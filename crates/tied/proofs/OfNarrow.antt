-- The theorem `OfNarrow` of specs/Theorems.antt: the contract of `narrow` joined with the theory.
use mathlib.Core.Path.{◌≡◌, refl, sym, ap, subst, fun_ext, ◌∙◌}
use mathlib.Core.Logic.{◌↔◌, ◌⊎◌, inl, inr, ⊎_elim}
use mathlib.Core.Bool.{Bool, true, false, cond}
use mathlib.Core.List.{List}
use Prim.Native.Nat.{ℕ, ◌+◌, ◌-◌, ◌/◌, ◌≤◌, ◌<◌}
use native.Mathlib.Decide.{dec_lt}
use native.Mathlib.Omega.{arith}
use borrow.Author.Tests.{eqb-true, eqb-false, le-leb, leb-true, leb-false}
use lib.Dec.{eqb, leb}
use lib.ListN.{length, get_or, set, take, drop, length-append, length-drop, length-take, get_or-append, get_or-eq_default}
use lib.Seq.{length-take-le, get_or-take, get_or-drop, get_or-append-add, get_or-set_other}
use Rattle.codes.specs.Codes.{word}
use Rattle.codes.specs.Words.{◌∋◌}
use Rattle.codes.specs.Theorems.{Represents}
use Rattle.codes.proofs.Bools.{both, left, right, cannot_pass}
use Rattle.esterel.specs.Limits.{max_nodes, signals}
use Rattle.esterel.specs.Statement.{Stmt, size, nodes}
use Rattle.esterel.specs.Sets.{start_set}
use Rattle.esterel.specs.Refusal.{Reply, yields, rejects}
use Rattle.esterel.specs.Table.{Verdict, passed, refused}
use Rattle.esterel.specs.Checks.{verdict}
use Rattle.esterel.specs.Outcome.{statement_at}
use Rattle.esterel.specs.Theorems.{Accepted}
use Rattle.esterel.proofs.Accepted.{acceptance}
use Rattle.esterel.proofs.Refusals.{Told, told-numbered}
use Rattle.esterel.proofs.Scanning.{each, fails-at}
use Rattle.table.specs.Columns.{onto}
use Rattle.analysis.specs.Analysis.{checked}
use Rattle.analysis.proofs.Theorems.{verdict-nodes, checked-room, checked-passed, checked-told}
use Rattle.analysis.proofs.Analyses.{checked-program}
use Rattle.tied.specs.Ties.{Ties, tie_of, ties_of, none_tied}
use Rattle.tied.specs.declared.Tie.TheVariants.{Unknown}
use Rattle.tied.specs.Narrowed.{narrowed_at, words_of}
use Rattle.tied.specs.Calls.{room_for, are_ties, check_ties, verdict_for, answer_of, sets_after, Narrowing}
use Rattle.tied.specs.Theorems.{Lent, TieBytes, NarrowedSets, OfNarrow}
use Rattle.tied.proofs.Theorems.{exact, untied, fewer, never_empty, none_lost}
use Rattle.tied.proofs.Words.{length-words, words-at}
use Rattle.tied.proofs.Reading.{are-ties}

-- ---- the bytes

all-ties : (ties : List ℕ) → are_ties (take signals ties) ≡ true → TieBytes ties
all-ties ties e s h = leb-true _ 2 (ap (λ b. leb b 2) (sym (get_or-take signals ties s 0 h)) ∙ each are-ties refl (take signals ties) e s)

module _ (ties : List ℕ) (room : signals ≤ length ties) where
  no_tie : are_ties (take signals ties) ≡ false → (s : ℕ) × (s < signals) × (2 < get_or ties s 0)
  no_tie e =
      let (s, h, f) = fails-at are-ties (take signals ties) e in
      let low : s < signals = omega (arith, length-take-le signals ties room) in
      (s, low, leb-false _ 2 (ap (λ b. leb b 2) (sym (get_or-take signals ties s 0 low)) ∙ f))

  bytes-are : TieBytes ties → are_ties (take signals ties) ≡ true
  bytes-are f = go (are_ties (take signals ties)) refl
    where
      go : (b : Bool) → are_ties (take signals ties) ≡ b → b ≡ true
      go true z = refl
      go false z = let (s, h, x) = no_tie z in absurd (omega (arith, f s h))

-- what is known of a signal, by its byte; of other numbers nothing is
tie-at : (l : List ℕ) (s : ℕ) → s < signals → ties_of (take signals l) s ≡ tie_of (get_or l s 0)
tie-at l s h = ap tie_of (get_or-take signals l s 0 h)

tie_past : (l : List ℕ) (s : ℕ) → (s < signals → ⊥) → ties_of (take signals l) s ≡ Unknown
tie_past l s h = ap tie_of (get_or-eq_default (take signals l) 0 (omega (arith, length-take signals l)))

-- ---- an answer is of one verdict

refused_of : (v : Verdict) (number node : ℕ) → rejects number node ≡ answer_of v → v ≡ refused number node
unfolding answer_of
refused_of (passed p) number node e = cc
refused_of (refused a b) number node e = cc

done_of : (v : Verdict) (n : ℕ) → yields n ≡ answer_of v → (p : Stmt) × (v ≡ passed p) × (n ≡ size p)
unfolding answer_of
done_of (passed p) n e = (p, refl, cc)
done_of (refused a b) n e = let z : ◌≡◌ {A = ℕ} 0 1 = cc in absurd (omega arith)

-- check 19 after the others
tied-passed : (ties : List ℕ) (v : Verdict) (p : Stmt) → check_ties ties v ≡ passed p → (v ≡ passed p) × (are_ties (take signals ties) ≡ true)
tied-passed ties (passed q) p e = go (are_ties (take signals ties)) refl e
  where
    go : (b : Bool) → are_ties (take signals ties) ≡ b → cond b (passed q) (refused 19 0) ≡ passed p → (passed q ≡ passed p) × (are_ties (take signals ties) ≡ true)
    go true z e = (e, z)
    go false z e = (cc, cc)
tied-passed ties (refused a b) p e = (cc, cc)

tied-refused : (ties : List ℕ) (v : Verdict) (number node : ℕ) → check_ties ties v ≡ refused number node → (v ≡ refused number node) ⊎ ((p : Stmt) × (v ≡ passed p) × (are_ties (take signals ties) ≡ false) × (number ≡ 19) × (node ≡ 0))
tied-refused ties (passed q) number node e = go (are_ties (take signals ties)) refl e
  where
    go : (b : Bool) → are_ties (take signals ties) ≡ b → cond b (passed q) (refused 19 0) ≡ refused number node → (passed q ≡ refused number node) ⊎ ((p : Stmt) × (passed q ≡ passed p) × (are_ties (take signals ties) ≡ false) × (number ≡ 19) × (node ≡ 0))
    go true z e = inl e
    go false z e = inr (q, refl, z, cc, cc)
tied-refused ties (refused a b) number node e = inl e

-- ---- the buffers, the table and the bytes

-- a call whose table passes
lent_of : (t ties old : List ℕ) (p : Stmt) → checked (room_for (length t / 2) (length old) (length ties)) t ≡ passed p → (verdict t ≡ passed p) × Lent t ties old
lent_of t ties old p e =
    let (room, program) = checked-program _ t p e in (
      checked-passed _ t p e,
      record {
        ties_room = leb-true _ _ (right (leb (length t / 2) (length old)) room);
        sets_room = leb-true _ _ (left (leb (length t / 2) (length old)) (leb signals (length ties)) room);
      },
    )

module _ {t ties old new : List ℕ} {r : Reply ℕ} (o : Narrowing t ties old new r) where
  module _ (l : Lent t ties old) where
    answer-is : r ≡ answer_of (check_ties ties (verdict t))
    answer-is =
        let room : room_for (length t / 2) (length old) (length ties) ≡ true = both (le-leb _ _ l.sets_room) (le-leb _ _ l.ties_room) in
        o.answer ∙ ap (λ b. answer_of (check_ties ties (checked b t))) room ∙ ap (λ v. answer_of (check_ties ties v)) (checked-room t)

    table-own : (number node : ℕ) → verdict t ≡ refused number node → r ≡ rejects number node
    unfolding answer_of
    table-own number node e = answer-is ∙ ap (λ v. answer_of (check_ties ties v)) e

    by-ties : (p : Stmt) → verdict t ≡ passed p → (b : Bool) → are_ties (take signals ties) ≡ b → r ≡ answer_of (cond b (passed p) (refused 19 0))
    by-ties p e b z = answer-is ∙ ap (λ v. answer_of (check_ties ties v)) e ∙ ap (λ a. answer_of (cond a (passed p) (refused 19 0))) z

  is-done : (n : ℕ) → (r ≡ yields n) ↔ ((p : Stmt) × (n ≡ size p) × (verdict t ≡ passed p) × Lent t ties old × TieBytes ties)
  unfolding answer_of
  is-done n = (there, back)
    where
      there : r ≡ yields n → (p : Stmt) × (n ≡ size p) × (verdict t ≡ passed p) × Lent t ties old × TieBytes ties
      there e =
          let (p, v, en) = done_of (verdict_for t ties old) n (sym e ∙ o.answer) in
          let (z, x) = tied-passed ties (checked (room_for (length t / 2) (length old) (length ties)) t) p v in
          let (accepted, lent) = lent_of t ties old p z in
          (p, en, accepted, lent, all-ties ties x)

      back : (p : Stmt) × (n ≡ size p) × (verdict t ≡ passed p) × Lent t ties old × TieBytes ties → r ≡ yields n
      back (p, en, e, l, f) = by-ties l p e true (bytes-are ties l.ties_room f) ∙ ap yields (sym en)

  is_bad : (r ≡ rejects 19 0) ↔ ((p : Stmt) × (verdict t ≡ passed p) × Lent t ties old × ((s : ℕ) × (s < signals) × (2 < get_or ties s 0)))
  unfolding answer_of
  is_bad = (there, back)
    where
      there : r ≡ rejects 19 0 → (p : Stmt) × (verdict t ≡ passed p) × Lent t ties old × ((s : ℕ) × (s < signals) × (2 < get_or ties s 0))
      there e =
          let v = refused_of (verdict_for t ties old) 19 0 (sym e ∙ o.answer) in
          go (tied-refused ties (checked (room_for (length t / 2) (length old) (length ties)) t) 19 0 v)
        where
          go : (checked (room_for (length t / 2) (length old) (length ties)) t ≡ refused 19 0) ⊎ ((p : Stmt) × (checked (room_for (length t / 2) (length old) (length ties)) t ≡ passed p) × (are_ties (take signals ties) ≡ false) × (◌≡◌ {A = ℕ} 19 19) × (◌≡◌ {A = ℕ} 0 0)) → (p : Stmt) × (verdict t ≡ passed p) × Lent t ties old × ((s : ℕ) × (s < signals) × (2 < get_or ties s 0))
          go (inl x) = absurd (omega (arith, (told-numbered (subst (Told 11) x (checked-told _ t))).known))
          go (inr (p, x, f, a, b)) = let (accepted, lent) = lent_of t ties old p x in (p, accepted, lent, no_tie ties lent.ties_room f)

      back : (p : Stmt) × (verdict t ≡ passed p) × Lent t ties old × ((s : ℕ) × (s < signals) × (2 < get_or ties s 0)) → r ≡ rejects 19 0
      back (p, e, l, (s, h, f)) = by-ties l p e false (cannot_pass (are_ties (take signals ties)) (λ z. omega (arith, all-ties ties z s h)))

-- ---- the sets

module _ (p : Stmt) (a : Accepted p) (c : Ties) (old : List ℕ) (room : size p ≤ length old) {new : List ℕ} (is : new ≡ onto (words_of c p) old) where
  represents : (i : ℕ) → i < size p → Represents (get_or new i 0) (narrowed_at c p i)
  represents i h =
      let own : get_or new i 0 ≡ word (narrowed_at c p i) = ap (λ l. get_or l i 0) is ∙ get_or-append (words_of c p) _ 0 i (rw (length-words c p) h) ∙ words-at c p i h in
      rw own (none_lost c p a i h)

  past_is : (i : ℕ) → size p ≤ i → get_or new i 0 ≡ get_or old i 0
  past_is i h =
      let n = length (words_of c p) in
      let e : n + (i - n) ≡ i = omega (arith, length-words c p) in
      ap (λ l. get_or l i 0) is ∙ ap (λ j. get_or (onto (words_of c p) old) j 0) (sym e)
      ∙ get_or-append-add (words_of c p) (drop n old) (i - n) 0 ∙ get_or-drop n old (i - n) 0 ∙ ap (λ j. get_or old j 0) e

  narrowed-sets : NarrowedSets p c old new
  narrowed-sets =
      record {
        bits = λ i first k h.
            (let (there, back) = exact c p i first k in
            (λ e. there (sym ((represents i h).bits k) ∙ e), λ f. (represents i h).bits k ∙ back f));
        words = represents;
        in_k = λ i k h e. fewer.in_k c p i k (sym ((represents i h).bits k) ∙ e);
        some = λ i h. (let (k, e) = never_empty c p a i in (k, (represents i h).bits k ∙ e));
        past = past_is;
        long = ap length is ∙ simp (length-append, length-drop) (omega (arith, length-words c p));
      }

module _ {t ties old new : List ℕ} {n : ℕ} (o : Narrowing t ties old new (yields n)) where
  done-sets : (p : Stmt) × (verdict t ≡ passed p) × (n ≡ size p) × NarrowedSets p (ties_of (take signals ties)) old new
  unfolding sets_after
  done-sets =
      let (p, v, en) = done_of (verdict_for t ties old) n o.answer in
      let (z, x) = tied-passed ties (checked (room_for (length t / 2) (length old) (length ties)) t) p v in
      let (accepted, lent) = lent_of t ties old p z in
      (p, accepted, en, narrowed-sets p (acceptance t p accepted).1 (ties_of (take signals ties)) old (omega (arith, verdict-nodes t p accepted, lent.sets_room)) (o.sets_are ∙ ap (λ w. sets_after w ties old) v))

  -- the set of a node, where the program is known
  done-set : (p : Stmt) → verdict t ≡ passed p → (i : ℕ) → i < n → Represents (get_or new i 0) (narrowed_at (ties_of (take signals ties)) p i)
  done-set p e i h =
      let (q, v, en, sets) = done-sets in
      let same : q ≡ p = cc in
      rw (← same) (sets.words i (omega arith))

untied_sets : {t ties old new : List ℕ} {n : ℕ} → Narrowing t ties old new (yields n) → ((s : ℕ) → s < signals → get_or ties s 0 ≡ 0) → (p : Stmt) → verdict t ≡ passed p → (i : ℕ) → i < n → Represents (get_or new i 0) (start_set (statement_at (nodes p) i))
untied_sets {ties = ties} {new = new} o f p e i h =
    subst (Represents (get_or new i 0)) (ap (λ c. narrowed_at c p i) (fun_ext none) ∙ fun_ext (λ k. untied.sets p i k)) (done-set o p e i h)
  where
    none : (s : ℕ) → ties_of (take signals ties) s ≡ none_tied s
    none s = go (dec_lt s signals)
      where
        go : Dec (s < signals) → ties_of (take signals ties) s ≡ Unknown
        go (yes l) = tie-at ties s l ∙ ap tie_of (f s l)
        go (no l) = tie_past ties s l

fewer_codes : (t ties old new old' new' : List ℕ) (n s b : ℕ) → get_or ties s 0 ≡ 0 → Narrowing t ties old new (yields n) → Narrowing t (set ties s b) old' new' (yields n) → (i k : ℕ) → i < n → (get_or new' i 0 ∋ k) ≡ true → (get_or new i 0 ∋ k) ≡ true
fewer_codes t ties old new old' new' n s b z o o' i k h e =
    let (p, v, en, sets) = done-sets o in
    let more = (done-set o' p v i h).bits k in
    (done-set o p v i h).bits k ∙ fewer.several (ties_of (take signals ties)) (ties_of (take signals (set ties s b))) freer p i k (sym more ∙ e)
  where
    freer : (x : ℕ) → (ties_of (take signals (set ties s b)) x ≡ ties_of (take signals ties) x) ⊎ (ties_of (take signals ties) x ≡ Unknown)
    freer x = go (dec_lt x signals) (eqb x s) refl
      where
        go : Dec (x < signals) → (c : Bool) → eqb x s ≡ c → (ties_of (take signals (set ties s b)) x ≡ ties_of (take signals ties) x) ⊎ (ties_of (take signals ties) x ≡ Unknown)
        go (no l) c w = inr (tie_past ties x l)
        go (yes l) true w = inr (tie-at ties x l ∙ ap (λ y. tie_of (get_or ties y 0)) (eqb-true x s w) ∙ ap tie_of z)
        go (yes l) false w = inl (tie-at (set ties s b) x l ∙ ap tie_of (get_or-set_other ties s x b 0 (eqb-false x s w)) ∙ sym (tie-at ties x l))

-- ---- refusals

refusal-known : (t ties old new : List ℕ) (number node : ℕ) → Narrowing t ties old new (rejects number node) → (1 ≤ number) × ((number ≤ 11) ⊎ (number ≡ 19)) × (node < max_nodes) × (new ≡ old)
unfolding sets_after
refusal-known t ties old new number node o =
    let v = refused_of (verdict_for t ties old) number node o.answer in
    let same : new ≡ old = o.sets_are ∙ ap (λ w. sets_after w ties old) v in
    ⊎_elim
    (λ e. let told = told-numbered (subst (Told 11) e (checked-told _ t)) in (told.some, inl told.known, told.within, same))
    (λ (p, x, f, e, z). (omega arith, inr e, omega arith, same))
    (tied-refused ties (checked (room_for (length t / 2) (length old) (length ties)) t) number node v)

pub of_narrow : OfNarrow
of_narrow =
    record {
      done = λ t ties old new r n o. is-done o n;
      bad_ties = λ t ties old new r o. is_bad o;
      table = λ t ties old new r number node l e o. table-own o l number node e;
      sets = λ t ties old new n o. done-sets o;
      untied = λ t ties old new n o f p e i h. untied_sets o f p e i h;
      one_more = fewer_codes;
      refusals = refusal-known;
    }
