-- The theorem `OfAsk` of specs/Theorems.antt: the contract of `ask` joined with the theory.
use mathlib.Core.Path.{◌≡◌, refl, sym, ap, ap₂, ◌∙◌}
use mathlib.Core.Bool.{Bool, true, false, cond}
use mathlib.Core.List.{List}
use Prim.Native.Nat.{ℕ, suc, ◌-◌, ◌≤◌, ◌<◌}
use native.Mathlib.Omega.{arith}
use lib.Dec.{ltb}
use lib.ListN.{length, get_or}
use borrow.Author.Tests.{lt-ltb, le-ltb, ltb-true, ltb-false}
use Rattle.codes.specs.Words.{◌∋◌}
use Rattle.esterel.specs.Limits.{max_nodes}
use Rattle.esterel.specs.Statement.{Stmt, size, nodes}
use Rattle.esterel.specs.Sets.{start_set}
use Rattle.esterel.specs.Refusal.{Reply, yields, rejects}
use Rattle.esterel.specs.Table.{Verdict, passed, refused}
use Rattle.esterel.specs.Checks.{verdict}
use Rattle.esterel.specs.Outcome.{statement_at}
use Rattle.esterel.proofs.Accepted.{acceptance}
use Rattle.esterel.proofs.Replies.{rejects≢yields}
use Rattle.esterel.proofs.Refusals.{refusals}
use Rattle.analysis.specs.Analysis.{Analysis, done}
use Rattle.analysis.proofs.Theorems.{demand2_of_call}
use Rattle.question.specs.Question.{nodes_of, max_code}
use Rattle.question.specs.Calls.{question_at, told, told_of, tells, asked_of}
use Rattle.question.specs.Theorems.{Refusal, of_table, outside, OfAsk}
use Rattle.question.specs.declared.Asked.{Asked}
use Rattle.question.proofs.Answers.{answers}
use Rattle.question.proofs.Theorems.{looks}

-- what is told is told once
told_once : {a b : Bool} {m n : ℕ} → tells a m ≡ tells b n → (a ≡ b) × (m ≡ n)
told_once {a} {b} {m} {n} e = let z : told a m ≡ told b n = cc in (ap (λ r. r.answer) z, ap (λ r. r.count) z)

module _ (t : List ℕ) (node code : ℕ) where
  by-verdict : {v : Verdict} → verdict t ≡ v → {r : Reply Asked} → r ≡ asked_of (verdict t) node code → r ≡ asked_of v node code
  by-verdict e er = er ∙ ap (λ v. asked_of v node code) e

  of_table_lem : (number at : ℕ) (r : Reply Asked) → verdict t ≡ refused number at → r ≡ asked_of (verdict t) node code → r ≡ rejects number at
  unfolding asked_of
  of_table_lem number at r e er = by-verdict e er

  by-node : {p : Stmt} → verdict t ≡ passed p → {r : Reply Asked} → r ≡ asked_of (verdict t) node code → {b : Bool} → ltb node (size p) ≡ b → r ≡ cond b (yields (told_of (question_at p node code))) (rejects 21 0)
  unfolding asked_of
  by-node {p} e er z = by-verdict e er ∙ ap (λ b. cond b (yields (told_of (question_at p node code))) (rejects 21 0)) z

  known_at : (p : Stmt) (r : Reply Asked) → verdict t ≡ passed p → node < size p → r ≡ asked_of (verdict t) node code → r ≡ tells (start_set (statement_at (nodes p) node) code) (length (nodes_of (question_at p node code)))
  known_at p r e h er =
      by-node e er (lt-ltb node (size p) h) ∙ ap (λ m. tells m (length (nodes_of (question_at p node code)))) (answers.exact p (acceptance t p e).1 node code)

  of_verdict : (number at : ℕ) → rejects number at ≡ asked_of (verdict t) node code → (v : Verdict) → verdict t ≡ v → Refusal t node number at
  of_verdict number at er (refused a b) e =
      let z = of_table_lem a b (rejects number at) e er in
      let en : number ≡ a = cc in
      let ea : at ≡ b = cc in
      of_table number at (e ∙ ap₂ refused (sym en) (sym ea)) (refusals t number at (e ∙ ap₂ refused (sym en) (sym ea)))
  of_verdict number at er (passed p) e = go (ltb node (size p)) refl
    where
      go : (b : Bool) → ltb node (size p) ≡ b → Refusal t node number at
      go true z = absurd (rejects≢yields (by-node e er z))
      go false z =
          let y = by-node e er z in
          let en : number ≡ 21 = cc in
          let ea : at ≡ 0 = cc in
          rw (en, ea) (outside p e (ltb-false node (size p) z))

  -- its number, and a node that a table can have
  pub numbered : (number at : ℕ) → rejects number at ≡ asked_of (verdict t) node code → (1 ≤ number) × (number ≤ 21) × (at < max_nodes)
  numbered number at er = go (of_verdict number at er (verdict t) refl)
    where
      go : {n a : ℕ} → Refusal t node n a → (1 ≤ n) × (n ≤ 21) × (a < max_nodes)
      go (of_table n a e (some, known, below)) = (some, omega arith, below)
      go (outside p e h) = (omega arith, omega arith, omega arith)

  -- what is known is of a node of the program
  pub record At (p : Stmt) (count : ℕ) (answer : Bool) : Type 0 where
    pub inside : node < size p
    pub is_member : answer ≡ start_set (statement_at (nodes p) node) code
    pub counts : count ≡ length (nodes_of (question_at p node code))

  at-node : (p : Stmt) (count : ℕ) (answer : Bool) → verdict t ≡ passed p → tells answer count ≡ asked_of (verdict t) node code → At p count answer
  at-node p count answer e er = go (ltb node (size p)) refl
    where
      go : (b : Bool) → ltb node (size p) ≡ b → At p count answer
      go true z =
          let h = ltb-true node (size p) z in
          let y = known_at p (tells answer count) e h er in
          let (same, many) = told_once y in
          record { inside = h; is_member = same; counts = many }
      go false z = absurd (rejects≢yields (sym (by-node e er z)))

  bounds : (p : Stmt) (count : ℕ) (answer : Bool) → verdict t ≡ passed p → tells answer count ≡ asked_of (verdict t) node code → (count ≤ size (statement_at (nodes p) node)) × (code ≤ max_code → 1 ≤ count) × (max_code < code → count ≡ 0)
  bounds p count answer e er =
      let x = at-node p count answer e er in
      let i = suc node - size (statement_at (nodes p) node) in
      (omega (arith, x.counts, looks.at_most i (statement_at (nodes p) node) code), λ h. omega (arith, x.counts, looks.at_least i (statement_at (nodes p) node) code h), λ h. x.counts ∙ ap length (looks.above i (statement_at (nodes p) node) code h))

listed_at : (t k a s m k' a' s' m' : List ℕ) (n d node code count : ℕ) (answer : Bool) → Analysis t k a s m k' a' s' m' (done n d) → tells answer count ≡ asked_of (verdict t) node code → (node < n) × (answer ≡ (get_or k' node 0 ∋ code))
listed_at t k a s m k' a' s' m' n d node code count answer o er =
    let x = demand2_of_call.sets t k a s m k' a' s' m' n d o in
    let y = at-node t node code x.program count answer x.accepted er in
    let l : node < n = omega (arith, x.nodes_are, y.inside) in
    (l, y.is_member ∙ sym ((x.start_words node l).bits code))

pub of_ask : OfAsk
of_ask =
    record {
      known = λ t p node code r e h er. known_at t node code p r e h er;
      counts = λ t p node code count answer e er. bounds t node code p count answer e er;
      as_listed = listed_at;
      refusals = λ t node code number at er. of_verdict t node code number at er (verdict t) refl;
      of_table = λ t node code number at r e er. of_table_lem t node code number at r e er;
      outside = λ t p node code r e h er. by-node t node code e er (le-ltb node (size p) h);
    }
