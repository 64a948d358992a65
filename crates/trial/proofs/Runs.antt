-- The answers of a list by its number, one run over it, and all of the runs.
use mathlib.Core.Path.{◌≡◌, refl, sym, ap, ap₂, ◌∙◌}
use mathlib.Core.Bool.{true, ◌||◌, or-false, or_assoc}
use mathlib.Core.List.{List, [], ◌∷◌, ◌++◌, append-nil}
use Rattle.std.specs.Prelude.{Option}
use Prim.Native.Nat.{ℕ, suc, ◌+◌, ◌-◌, ◌/◌, ◌%◌, ◌^◌, ◌≤◌, ◌<◌}
use native.Mathlib.Numerals.{add-one}
use native.Mathlib.Omega.{arith}
use lib.ListN.{length, get_or, set, take, drop, get_or-replicate, length-replicate, drop_of_length-le}
use lib.Seq.{drop-cons, take-suc, take_all, length-sets, sets}
use Rattle.codes.specs.Codes.{word}
use Rattle.codes.specs.Words.{union_of}
use Rattle.codes.proofs.Laws.{singleton_word, union-word, word-empty, word_same}
use Rattle.esterel.specs.Codes.{empty}
use Rattle.esterel.specs.Limits.{max_nodes, signals}
use Rattle.esterel.specs.Statement.{Stmt, size}
use Rattle.esterel.specs.Sets.{start_set}
use Rattle.esterel.specs.Instant.{Entry, Result, closed, start, zeros}
use Rattle.esterel.proofs.Caught.{low_codes}
use Rattle.esterel.proofs.Subtrees.{subtrees}
use Rattle.esterel.proofs.Theorems.{exactness}
use Rattle.table.specs.Program.{program_of}
use Rattle.table.proofs.Surveying.{few-nodes}
use Rattle.table.proofs.Views.{spans}
use Rattle.table.proofs.Filling.{Filling, filling-next, filling-end}
use Rattle.instant.specs.Run.{stmt_at, first_at, Runnable, Room, Clear, RanIs, ran, starves, Started}
use Rattle.instant.specs.declared.Reaction.{Reaction}
use Rattle.instant.proofs.Sets.{sets-at}
use Rattle.instant.proofs.Nodes.{fine, accepted}
use Rattle.trial.specs.Lists.{lists, list_at}
use Rattle.trial.specs.Trials.{completion, gathered, tried}
use Rattle.trial.specs.Steps.{Triable, code_set, LowCode}
use Rattle.trial.proofs.Lists.{length-lists, list-long, list_at_lem, half}

-- ---- the answers

-- i of m answers of a list are written, and the rest of its number has the others
pub record Writing (m number rest i : ℕ) (now : List ℕ) : Type 0 where
  pub filling : Filling (list_at m number) (zeros m) now m i
  pub low : rest < 2 ^ (m - i)
  pub left : drop i (list_at m number) ≡ list_at (m - i) rest

module _ {m number rest i : ℕ} {now : List ℕ} (l : number < 2 ^ m) (o : Writing m number rest i now) where
  pub writing_next : i < m → (v : ℕ) → v ≡ rest % 2 → Writing m number (rest / 2) (i + 1) (set now i v)
  writing_next h v e =
      let many = list-long m number l in
      let less : m - i ≡ suc (m - suc i) = omega arith in
      let low : rest < 2 ^ suc (m - suc i) = rw less at o.low in
      let next : drop i (list_at m number) ≡ rest % 2 ∷ list_at (m - suc i) (rest / 2) = o.left ∙ ap (λ n. list_at n rest) less ∙ list_at_lem (m - suc i) rest low in
      let own : drop i (list_at m number) ≡ get_or (list_at m number) i 0 ∷ drop (suc i) (list_at m number) = drop-cons (list_at m number) i 0 (omega arith) in
      let both : get_or (list_at m number) i 0 ∷ drop (suc i) (list_at m number) ≡ rest % 2 ∷ list_at (m - suc i) (rest / 2) = sym own ∙ next in
      let head : get_or (list_at m number) i 0 ≡ rest % 2 = cc in
      let tail : drop (suc i) (list_at m number) ≡ list_at (m - suc i) (rest / 2) = cc in
      record {
        filling = filling-next {column = list_at m number} {old = zeros m} (omega arith) (omega (arith, length-replicate {A = ℕ} m 0)) o.filling v h (e ∙ sym head);
        low = rw (add-one i) (half (m - suc i) rest low);
        left = rw (add-one i) tail;
      }

  pub writing_ends : m ≤ i → now ≡ list_at m number
  writing_ends h =
      let many = list-long m number l in
      filling-end {column = list_at m number} {old = zeros m} (omega arith) (omega (arith, length-replicate {A = ℕ} m 0)) o.filling h
      ∙ ap₂ ◌++◌ (take_all m (list_at m number) (omega arith)) (drop_of_length-le (zeros m) {i = m} (omega (arith, length-replicate {A = ℕ} m 0)))
      ∙ append-nil (list_at m number)

-- ---- one run

module _ {t : List ℕ} {first node : ℕ} (w : Triable t first node) where
  -- a code that a start gives is in K, and so below 64
  low : (answers : List ℕ) (k : ℕ) (u : List Entry) (h r : List ℕ) → start (first_at t node) (stmt_at t node) answers ≡ closed k u h r → k < 64
  low answers k u h r e =
      let x = low_codes (program_of t) (accepted w.runnable) node w.countable.within in
      let in-k : start_set (stmt_at t node) k ≡ true = (exactness (stmt_at t node) (first_at t node) k).1 (answers, u, h, r, e) in
      omega (arith, x.fits, x.low_k k (rw (subtrees.placed (program_of t) node) in-k))

  pub few-places : size (program_of t) ≤ max_nodes
  few-places = few-nodes t (fine w.runnable)

  -- its nodes' bytes, which are those from its first on
  pub in_bytes : (first ≤ node + 1) × (node + 1 ≤ size (program_of t))
  in_bytes = (omega (arith, w.countable.starts, spans t node w.countable.within), omega (arith, w.countable.within))

  -- once they are cleared, nothing is held beneath it
  cleared : (held : List ℕ) → size (program_of t) ≤ length held → Clear t (sets held first (zeros (node + 1 - first))) node
  unfolding Clear
  cleared held long j lo hi =
      sets-at held first (zeros (node + 1 - first)) j (omega (arith, w.countable.starts)) (omega (arith, length-replicate {A = ℕ} (node + 1 - first) 0)) (omega (arith, w.countable.within))
      ∙ get_or-replicate (node + 1 - first) (j - first) 0 0 (omega (arith, w.countable.starts))

  pub run_call : (held : List ℕ) {answers held' emissions : List ℕ} → held' ≡ sets held first (zeros (node + 1 - first)) → size (program_of t) ≤ length held → signals ≤ length emissions → Runnable t × Room t answers held' emissions node 0 × Clear t held' node
  run_call held cleans long wide =
      let same : length (sets held first (zeros (node + 1 - first))) ≡ length held = length-sets held first (zeros (node + 1 - first)) in
      (w.runnable, record { within = w.countable.within; places = rw cleans (omega arith); marks = wide; lent = omega arith }, rw cleans (cleared held long))

  pub run-low : {answers held held' marks marks' : List ℕ} {r : Option Reaction} → Started t answers held held' marks marks' node 0 r → LowCode r
  run-low {answers} {held} {held'} {marks} {marks'} {r} o = go (start (first_at t node) (stmt_at t node) answers) r o (low answers)
    where
      go : (x : Result) (r : Option Reaction) → RanIs t answers (first_at t node) held held' marks marks' x r → ((k : ℕ) (u : List Entry) (h s : List ℕ) → x ≡ closed k u h s → k < 64) → LowCode r
      go x r (ran code taken trail h le es em) lo = lo code trail h (drop taken answers) refl
      go x r starves lo = tt

  set_is : {answers held held' marks marks' : List ℕ} {f : ℕ} {x : Result} {r : Option Reaction} → RanIs t answers f held held' marks marks' x r → code_set r ≡ word (completion x)
  set_is (ran code taken trail h le es em) = singleton_word code
  set_is starves = sym (word-empty empty (λ k. refl))

  pub run-returns : {answers held held' marks marks' : List ℕ} {s : ℕ} {r : Option Reaction} → Started t answers held held' marks marks' node 0 r → s ≡ code_set r → s ≡ word (completion (start (first_at t node) (stmt_at t node) answers))
  run-returns o es = es ∙ set_is o

-- ---- all runs

-- one list more
gathered-last : (run : List ℕ → Result) (ls : List (List ℕ)) (l : List ℕ) (k : ℕ) → gathered run (ls ++ (l ∷ [])) k ≡ (gathered run ls k || completion (run l) k)
unfolding gathered
gathered-last run [] l k = or-false (completion (run l) k)
gathered-last run (x ∷ ls) l k = ap (λ b. completion (run x) k || b) (gathered-last run ls l k) ∙ sym (or_assoc (completion (run x) k) (gathered run ls k) (completion (run l) k))

-- the codes of the lists before number i
abbrev pub gathered_to : (run : List ℕ → Result) (m i : ℕ) → ℕ
gathered_to run m i = word (gathered run (take i (lists m)))

pub gathered-starts : (run : List ℕ → Result) (m : ℕ) → 0 ≡ gathered_to run m 0
unfolding gathered
gathered-starts run m = sym (word-empty empty (λ k. refl))

pub gathered_next : (run : List ℕ → Result) (m i : ℕ) {answers : List ℕ} {s x r : ℕ} → i < 2 ^ m → s ≡ gathered_to run m i → answers ≡ list_at m i → x ≡ word (completion (run answers)) → r ≡ union_of s x → r ≡ gathered_to run m (i + 1)
gathered_next run m i h es ea ex er =
    let more : take (suc i) (lists m) ≡ take i (lists m) ++ (list_at m i ∷ []) = take-suc (lists m) i [] (omega (arith, length-lists m)) in
    er ∙ ap₂ union_of es (ex ∙ ap (λ l. word (completion (run l))) ea) ∙ union-word (gathered run (take i (lists m))) (completion (run (list_at m i)))
    ∙ word_same _ _ (λ k j. sym (gathered-last run (take i (lists m)) (list_at m i) k))
    ∙ ap (λ ls. word (gathered run ls)) (sym more ∙ ap (λ n. take n (lists m)) (sym (add-one i)))

pub gathered-ends : (m n : ℕ) (p : Stmt) (i : ℕ) {s : ℕ} → 2 ^ m ≤ i → s ≡ gathered_to (start n p) m i → s ≡ word (tried m n p)
unfolding tried
gathered-ends m n p i h es = es ∙ ap (λ ls. word (gathered (start n p) ls)) (take_all i (lists m) (omega (arith, length-lists m)))
