-- The theorem `OfTrial` of specs/Theorems.antt: the contract of `trial` joined with the theory.
use mathlib.Core.Path.{◌≡◌, refl, sym, ap, subst, ◌∙◌}
use mathlib.Core.Bool.{Bool, true, false}
use mathlib.Core.List.{List}
use Prim.Native.Nat.{ℕ, suc, ◌-◌, ◌≤◌, ◌<◌}
use native.Mathlib.Omega.{arith}
use lib.Dec.{leb, ltb}
use lib.ListN.{get_or}
use borrow.Author.Tests.{ltb-true, ltb-false, leb-true, leb-false}
use Rattle.codes.specs.Codes.{word}
use Rattle.codes.proofs.Laws.{word_same}
use Rattle.codes.proofs.Theorems.{on_sets}
use Rattle.esterel.specs.Codes.{Represents}
use Rattle.esterel.specs.Limits.{max_nodes}
use Rattle.esterel.specs.Statement.{Stmt, size, nodes}
use Rattle.esterel.specs.Sets.{start_set}
use Rattle.esterel.specs.Refusal.{Reply, yields, rejects}
use Rattle.esterel.specs.Table.{Verdict, passed, refused}
use Rattle.esterel.specs.Checks.{verdict}
use Rattle.esterel.specs.Outcome.{statement_at}
use Rattle.esterel.proofs.Accepted.{acceptance}
use Rattle.esterel.proofs.Caught.{low_codes}
use Rattle.esterel.proofs.Refusals.{refusals, one-program}
use Rattle.esterel.proofs.Subtrees.{subtrees}
use Rattle.analysis.specs.Analysis.{Analysis, done}
use Rattle.analysis.proofs.Theorems.{demand2_of_call}
use Rattle.starts.specs.Ticks.{presents}
use Rattle.trial.specs.Trials.{tried, trial_answers}
use Rattle.trial.specs.Calls.{tells, tried_of}
use Rattle.trial.specs.Theorems.{Refusal, of_table, outside, too_many, Found, OfTrial}
use Rattle.trial.specs.declared.Tried.{Tried}
use Rattle.trial.proofs.Theorems.{trials}
use Rattle.trial.proofs.Told.{of_table_lem, outside-is, too_many_is, gathered-is}

module _ (t : List ℕ) (node : ℕ) where
  -- what is gathered is K
  gathered-at : (p : Stmt) → verdict t ≡ passed p → {r : Reply Tried} → r ≡ tried_of (verdict t) node → node < size p → presents (statement_at (nodes p) node) ≤ trial_answers → r ≡ tells (word (start_set (statement_at (nodes p) node))) (presents (statement_at (nodes p) node))
  gathered-at p e er h few =
      gathered-is t node er p e h few
      ∙ ap (λ s. tells s (presents (statement_at (nodes p) node))) (word_same _ _ (λ k j. trials.exact trial_answers _ (statement_at (nodes p) node) few k))

  -- an answer is of one of these kinds
  data Settled : Reply Tried → Type 0 where
    refuses : (number at : ℕ) → Refusal t node number at → Settled (rejects number at)
    finds : (x : Tried) → Found t node x.set x.presents → Settled (yields x)

  found_at : (p : Stmt) → verdict t ≡ passed p → node < size p → presents (statement_at (nodes p) node) ≤ trial_answers → Found t node (word (start_set (statement_at (nodes p) node))) (presents (statement_at (nodes p) node))
  found_at p e h few =
      let q = statement_at (nodes p) node in
      let is_k : Represents (word (start_set q)) (start_set q) = subst (λ w. Represents (word (start_set w)) (start_set w)) (subtrees.placed p node) (low_codes p (acceptance t p e).1 node h).word_k in
      let same : (k : ℕ) → tried trial_answers (suc node - size q) q k ≡ start_set q k = trials.exact trial_answers (suc node - size q) q few in
      record {
        program = p;
        accepted = e;
        inside = h;
        few = few;
        counts = refl;
        by_trial = λ k. (λ b. (trials.gathers trial_answers (suc node - size q) q k).0 (same k ∙ sym (is_k.bits k) ∙ b), λ g. is_k.bits k ∙ sym (same k) ∙ (trials.gathers trial_answers (suc node - size q) q k).1 g);
        is_k = is_k;
      }

  settled : {r : Reply Tried} → r ≡ tried_of (verdict t) node → (v : Verdict) → verdict t ≡ v → Settled r
  settled {r} er (refused number at) e = subst Settled (sym (of_table_lem t node er number at e)) (refuses number at (of_table number at e (refusals t number at e)))
  settled {r} er (passed p) e = go (ltb node (size p)) refl
    where
      within : node < size p → (b : Bool) → leb (presents (statement_at (nodes p) node)) trial_answers ≡ b → Settled r
      within h true z =
          let few = leb-true (presents (statement_at (nodes p) node)) trial_answers z in
          subst Settled (sym (gathered-at p e er h few)) (finds _ (found_at p e h few))
      within h false z =
          let l = leb-false (presents (statement_at (nodes p) node)) trial_answers z in
          subst Settled (sym (too_many_is t node er p e h l)) (refuses 22 0 (too_many p e h l))

      go : (b : Bool) → ltb node (size p) ≡ b → Settled r
      go true z = within (ltb-true node (size p) z) (leb (presents (statement_at (nodes p) node)) trial_answers) refl
      go false z = let l = ltb-false node (size p) z in subst Settled (sym (outside-is t node er p e l)) (refuses 21 0 (outside p e l))

  known_at : (set count : ℕ) → tells set count ≡ tried_of (verdict t) node → Found t node set count
  known_at set count er = go (settled er (verdict t) refl)
    where
      go : Settled (tells set count) → Found t node set count
      go (finds x o) = o

  refused-at : (number at : ℕ) → rejects number at ≡ tried_of (verdict t) node → Refusal t node number at
  refused-at number at er = go (settled er (verdict t) refl)
    where
      go : Settled (rejects number at) → Refusal t node number at
      go (refuses n a o) = o

  -- its number, and a node that a table can have
  pub numbered : (number at : ℕ) → rejects number at ≡ tried_of (verdict t) node → (1 ≤ number) × (number ≤ 22) × (at < max_nodes)
  numbered number at er = go (refused-at number at er)
    where
      go : {n a : ℕ} → Refusal t node n a → (1 ≤ n) × (n ≤ 22) × (a < max_nodes)
      go (of_table n a e (some, known, below)) = (some, omega arith, below)
      go (outside p e h) = (omega arith, omega arith, omega arith)
      go (too_many p e h l) = (omega arith, omega arith, omega arith)

listed_at : (t k a s m k' a' s' m' : List ℕ) (n d node set count : ℕ) → Analysis t k a s m k' a' s' m' (done n d) → tells set count ≡ tried_of (verdict t) node → (node < n) × (set ≡ get_or k' node 0)
listed_at t k a s m k' a' s' m' n d node set count o er =
    let x = demand2_of_call.sets t k a s m k' a' s' m' n d o in
    let y = known_at t node set count er in
    let same : y.program ≡ x.program = one-program y.accepted x.accepted in
    let l : node < n = omega (arith, x.nodes_are, ap size same, y.inside) in
    (l, (on_sets.represented set _ y.is_k).1 ∙ ap (λ p. word (start_set (statement_at (nodes p) node))) same ∙ sym (on_sets.represented (get_or k' node 0) _ (x.start_words node l)).1)

pub of_trial : OfTrial
of_trial =
    record {
      gathered = λ t p node r e h few er. gathered-at t node p e er h few;
      known = known_at;
      as_listed = listed_at;
      refusals = refused-at;
      of_table = λ t node number at r e er. of_table_lem t node er number at e;
      outside = λ t p node r e h er. outside-is t node er p e h;
      too_many = λ t p node r e h l er. too_many_is t node er p e h l;
    }
