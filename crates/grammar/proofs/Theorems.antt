-- The theorems of specs/Theorems.
use mathlib.Core.Path.{◌≡◌, refl, sym, ap, subst, ◌∙◌}
use mathlib.Core.Bool.{Bool, true, false, cond}
use mathlib.Core.Option.{Option, none, some}
use mathlib.Core.List.{List, [], ◌∷◌}
use mathlib.Core.Logic.{◌⊎◌, inl, inr}
use Prim.Native.Nat.{ℕ, ◌+◌, ◌*◌, ◌≤◌, ◌<◌}
use native.Mathlib.Omega.{arith}
use lib.Dec.{ltb}
use lib.ListN.{length}
use borrow.Author.Tests.{lt-ltb, le-ltb, ltb-true, ltb-false}
use Rattle.esterel.specs.Limits.{max_nodes, signals as max_signals}
use Rattle.esterel.specs.Statement.{Stmt, size}
use Rattle.esterel.specs.Codes.{empty}
use Rattle.esterel.specs.Sets.{places_of}
use Rattle.esterel.specs.Table.{Verdict, passed, refused, read, postfix}
use Rattle.esterel.specs.Checks.{too_deep, too_many_traps, uncaught, ends_at_once, first_node, refuse_at, check_program, verdict}
use Rattle.esterel.proofs.Reading.{length-postfix, reads-back}
use Rattle.esterel.proofs.Accepted.{length-places}
use Rattle.esterel.proofs.Refusals.{Below, first_below}
use Rattle.grammar.specs.Limits.{max_source}
use Rattle.grammar.specs.Tokens.{Token, opening, mark, name, foreign, stray, tokens, byte_of}
use Rattle.grammar.specs.Faults.{Fault, number_of_fault, lost_from, crowded_from}
use Rattle.grammar.specs.Tree.{Tree, Name}
use Rattle.grammar.specs.Kernel.{Kernel, expand}
use Rattle.grammar.specs.Grammar.{Program}
use Rattle.grammar.specs.Machine.{Outcome, accepted, stuck, parse}
use Rattle.grammar.specs.Clipping.{clip}
use Rattle.grammar.specs.Meaning.{signals, untrapped, resolve, statement_of, check_nesting, verdict_of_tree, place_of, VerdictOf, overlong, faulty, derived}
use Rattle.grammar.specs.Theorems.{OneDerivation, PassesGrammar, Refusal, exit_untrapped, outside_grammar, of_full_language, many_signals, many_nodes, deep_node, many_traps, OfTexts, Nesting, RoundTrip, OnlyExpressible}
use Rattle.grammar.specs.Printing.{named, print, spell, printed, met_in, Expressible}
use Rattle.grammar.proofs.Spelling.{spelled, spellable, plain, expanded, derivation}
use Rattle.grammar.proofs.Printing.{name_list, long, signals-named, all-trapped, resolved}
use Rattle.grammar.proofs.Saying.{flat, trapped, in_turn}
use Rattle.grammar.proofs.Tracing.{top, traced}
use Rattle.grammar.proofs.Completeness.{complete, one-tree}
use Rattle.grammar.proofs.Soundness.{sound}
use Rattle.grammar.proofs.Viability.{fault-at, one-fault}
use Rattle.grammar.proofs.Letters.{lettered}
use Rattle.grammar.proofs.Exits.{look-finds}
use Rattle.grammar.proofs.Depth.{few-levels}
use Rattle.grammar.proofs.Writing.{longer-same}
use Rattle.grammar.proofs.Clipping.{none_first, first-none, caught, clip-same}

pub one-derivation : OneDerivation
one-derivation = record {
  same_productions = λ ts p q d e. sym (traced d top) ∙ traced e top;
  same_tree = λ ts p q d e. one-tree p q ts d e;
}

pub nesting : Nesting
unfolding Nesting
nesting text t h d = few-levels text t h (complete t (tokens text) d)

-- the number of a refusal by the tree's table, and that of one by its names
pub record TableRefused (number node : ℕ) : Type 0 where
  pub is : Refusal number node
  pub low : number < 14

pub record TreeRefused (number node : ℕ) : Type 0 where
  pub is : Refusal number node
  pub not14 : number ≡ 14 → ⊥
  pub not20 : number ≡ 20 → ⊥

refused_as : (R : ℕ → ℕ → Type 0) (number node n i : ℕ) → R n i → refused n i ≡ refused number node → R number node
refused_as R number node n i r e = let a : n ≡ number = cc in let b : i ≡ node = cc in rw (← a, ← b) r

not-refused : {A : Type 0} {p : Stmt} {number node : ℕ} → passed p ≡ refused number node → A
not-refused e = let z : ◌≡◌ {A = ℕ} 0 1 = cc in absurd (omega arith)

-- what checks 8 and 9 of a program come to
nested : (x y : Option ℕ) (p : Stmt) (number node : ℕ) → Below max_nodes x → Below max_nodes y → refuse_at 8 x (refuse_at 9 y (passed p)) ≡ refused number node → TableRefused number node
nested (some i) y p number node a b e = refused_as TableRefused number node 8 i record { is = deep_node i a; low = omega arith } e
nested none (some i) p number node a b e = refused_as TableRefused number node 9 i record { is = many_traps i b; low = omega arith } e
nested none none p number node a b e = not-refused e

-- a program's table is read, or is too long
read_table : (p : Stmt) (b : Bool) → ltb max_nodes (size p) ≡ b → read (postfix p) ≡ cond b (refused 1 0) (passed p)
read_table p true e = rw (lt-ltb (2 * max_nodes) (length (postfix p)) (omega (arith, length-postfix p, ltb-true max_nodes (size p) e)))
read_table p false e = reads-back p (ltb-false max_nodes (size p) e)

pub table-refused : (p : Stmt) (number node : ℕ) → check_nesting (read (postfix p)) ≡ refused number node → TableRefused number node
table-refused p number node e = go (ltb max_nodes (size p)) refl
  where
    go : (b : Bool) → ltb max_nodes (size p) ≡ b → TableRefused number node
    go true f = refused_as TableRefused number node 1 0 record { is = many_nodes; low = omega arith } (ap check_nesting (sym (read_table p true f)) ∙ e)
    go false f =
        let few : 0 + length (places_of p) ≤ max_nodes = omega (arith, length-places p 1 0 empty, ltb-false max_nodes (size p) f) in
        nested (first_node too_deep (places_of p) 0) (first_node too_many_traps (places_of p) 0) p number node (first_below too_deep (places_of p) 0 max_nodes few) (first_below too_many_traps (places_of p) 0 max_nodes few) (ap check_nesting (sym (read_table p false f)) ∙ e)

tree-refused : (t : Tree) (number node : ℕ) → verdict_of_tree t ≡ refused number node → TreeRefused number node
tree-refused t number node = go (untrapped [] (expand t)) (ltb max_signals (length (signals t)))
  where
    go : (b c : Bool) → cond b (refused 15 0) (cond c (refused 16 0) (check_nesting (read (postfix (statement_of t))))) ≡ refused number node → TreeRefused number node
    go true c e = refused_as TreeRefused number node 15 0 record { is = exit_untrapped; not14 = λ z. omega arith; not20 = λ z. omega arith } e
    go false true e = refused_as TreeRefused number node 16 0 record { is = many_signals; not14 = λ z. omega arith; not20 = λ z. omega arith } e
    go false false e = let r = table-refused (statement_of t) number node e in record { is = r.is; not14 = λ z. omega (arith, r.low); not20 = λ z. omega (arith, r.low) }

-- what is known of a tree whose verdict is a program
pub record TreePassed (t : Tree) (p : Stmt) : Type 0 where
  pub is : p ≡ statement_of t
  pub trapped : untrapped [] (expand t) ≡ false
  pub few : length (signals t) ≤ max_signals
  pub reads : read (postfix (statement_of t)) ≡ passed (statement_of t)
  pub shallow : first_node too_deep (places_of (statement_of t)) 0 ≡ none
  pub few_traps : first_node too_many_traps (places_of (statement_of t)) 0 ≡ none

-- a refusal is no program
not-passed : {A : Type 0} {p : Stmt} {number node : ℕ} → refused number node ≡ passed p → A
not-passed e = let z : ◌≡◌ {A = ℕ} 0 1 = cc in absurd (omega arith)

tree-passed : (t : Tree) (p : Stmt) → verdict_of_tree t ≡ passed p → TreePassed t p
tree-passed t p = go (untrapped [] (expand t)) refl (ltb max_signals (length (signals t))) refl (ltb max_nodes (size (statement_of t))) refl
  where
    last : (x y : Option ℕ) → first_node too_deep (places_of (statement_of t)) 0 ≡ x → first_node too_many_traps (places_of (statement_of t)) 0 ≡ y → untrapped [] (expand t) ≡ false → length (signals t) ≤ max_signals → read (postfix (statement_of t)) ≡ passed (statement_of t) → refuse_at 8 x (refuse_at 9 y (passed (statement_of t))) ≡ passed p → TreePassed t p
    last (some i) y f g a b c e = not-passed e
    last none (some i) f g a b c e = not-passed e
    last none none f g a b c e = record { is = let z : statement_of t ≡ p = cc in sym z; trapped = a; few = b; reads = c; shallow = f; few_traps = g }

    go : (b : Bool) → untrapped [] (expand t) ≡ b → (c : Bool) → ltb max_signals (length (signals t)) ≡ c → (d : Bool) → ltb max_nodes (size (statement_of t)) ≡ d → cond b (refused 15 0) (cond c (refused 16 0) (check_nesting (read (postfix (statement_of t))))) ≡ passed p → TreePassed t p
    go true f c g d h e = not-passed e
    go false f true g d h e = not-passed e
    go false f false g true h e = not-passed (ap check_nesting (sym (read_table (statement_of t) true h)) ∙ e)
    go false f false g false h e =
        let r : read (postfix (statement_of t)) ≡ passed (statement_of t) = read_table (statement_of t) false h in
        last (first_node too_deep (places_of (statement_of t)) 0) (first_node too_many_traps (places_of (statement_of t)) 0) refl refl f (ltb-false max_signals (length (signals t)) g) r (ap check_nesting (sym r) ∙ e)

-- and its exits are caught
all-caught : (t : Tree) (p : Stmt) → TreePassed t p → first_node uncaught (places_of (statement_of t)) 0 ≡ none
all-caught t p h =
    let same : clip (statement_of t) ≡ statement_of t = clip-same (signals t) h.few [] [] (expand t) 1 empty (longer-same (signals t)) h.trapped (omega arith) (first-none too_many_traps (places_of (statement_of t)) 0 h.few_traps) in
    let c : first_node uncaught (places_of (clip (statement_of t))) 0 ≡ none = none_first uncaught (places_of (clip (statement_of t))) 0 (caught (signals t) [] (expand t) 1 empty h.trapped) in
    rw same at c

only_eleven_lem : (t : Tree) (p : Stmt) (number node : ℕ) → TreePassed t p → verdict (postfix p) ≡ refused number node → number ≡ 11
only_eleven_lem t p number node h e =
    go (first_node ends_at_once (places_of (statement_of t)) 0) (sym to-places ∙ rw h.is at e)
  where
    to-places : verdict (postfix (statement_of t)) ≡ refuse_at 11 (first_node ends_at_once (places_of (statement_of t)) 0) (passed (statement_of t))
    to-places = ap check_program h.reads ∙ rw (h.shallow, h.few_traps, all-caught t p h)

    go : (x : Option ℕ) → refuse_at 11 x (passed (statement_of t)) ≡ refused number node → number ≡ 11
    go (some i) f = let z : 11 ≡ number = cc in sym z
    go none f = not-refused f

-- 14 and 20 are of the text outside the grammar alone
fault-number : (us : List Token) (number node : ℕ) → refused (number_of_fault us) 0 ≡ refused number node → Refusal number node
fault-number us number node e = let a : number_of_fault us ≡ number = cc in let b : 0 ≡ node = cc in rw (← a, ← b) (go us)
  where
    go : (us : List Token) → Refusal (number_of_fault us) 0
    go [] = outside_grammar
    go (opening o ∷ us) = outside_grammar
    go (mark m ∷ us) = outside_grammar
    go (name n ∷ us) = outside_grammar
    go (foreign ∷ us) = of_full_language
    go (stray ∷ us) = outside_grammar

-- a fault is told by one of them
pub told_so : (us : List Token) → (number_of_fault us ≡ 14) ⊎ (number_of_fault us ≡ 20)
told_so [] = inl refl
told_so (opening o ∷ us) = inl refl
told_so (mark m ∷ us) = inl refl
told_so (name n ∷ us) = inl refl
told_so (foreign ∷ us) = inr refl
told_so (stray ∷ us) = inl refl

pub is_twenty : (us : List Token) → number_of_fault us ≡ 20 → (more : List Token) × (us ≡ foreign ∷ more)
is_twenty [] e = absurd (omega arith)
is_twenty (opening o ∷ us) e = absurd (omega arith)
is_twenty (mark m ∷ us) e = absurd (omega arith)
is_twenty (name n ∷ us) e = absurd (omega arith)
is_twenty (foreign ∷ us) e = (us, refl)
is_twenty (stray ∷ us) e = absurd (omega arith)

same_number : (a b c d : ℕ) → refused a b ≡ refused c d → a ≡ c
same_number a b c d e = cc

-- where a derivation is at fault is told by its tokens
pub same_place_lem : (text : List ℕ) (t u : Tree) (d : Program t (tokens text)) (e : Program u (tokens text)) → place_of text d ≡ place_of text e
same_place_lem text t u d e =
    let s : t ≡ u = one-tree t u (tokens text) d e in
    let l : lost_from [] d [] ≡ lost_from [] e [] = sym (look-finds t (tokens text) d (lettered text)) ∙ look-finds u (tokens text) e (lettered text) in
    ap (λ (a : Tree). cond (untrapped [] (expand a)) (byte_of text (lost_from [] d [])) (cond (ltb max_signals (length (signals a))) (byte_of text (crowded_from [] false (tokens text))) 0)) s ∙
    ap (λ (l : List Token). cond (untrapped [] (expand u)) (byte_of text l) (cond (ltb max_signals (length (signals u))) (byte_of text (crowded_from [] false (tokens text))) 0)) l

-- a text's verdict
module _ (text : List ℕ) where
  judged : (v : Verdict) × (n : ℕ) × (at : ℕ) × VerdictOf text v n at
  judged = go (ltb max_source (length text)) refl (parse (tokens text)) refl
    where
      go : (b : Bool) → ltb max_source (length text) ≡ b → (o : Outcome) → parse (tokens text) ≡ o → (v : Verdict) × (n : ℕ) × (at : ℕ) × VerdictOf text v n at
      go true e o f = (refused 14 0, 0, max_source, overlong (ltb-true max_source (length text) e))
      go false e (accepted t) f = let d = sound t (tokens text) f in (verdict_of_tree t, length (signals t), place_of text d, derived t (ltb-false max_source (length text) e) d)
      go false e (stuck us) f = (refused (number_of_fault us) 0, 0, byte_of text us, faulty us (ltb-false max_source (length text) e) (fault-at (tokens text) us f))

  one-verdict : (v w : Verdict) (n m at at' : ℕ) → VerdictOf text v n at → VerdictOf text w m at' → (v ≡ w) × (n ≡ m) × (at ≡ at')
  one-verdict v w n m i j (overlong a) (overlong b) = (refl, refl, refl)
  one-verdict v w n m i j (overlong a) (faulty us b f) = absurd (omega arith)
  one-verdict v w n m i j (overlong a) (derived t l d) = absurd (omega arith)
  one-verdict v w n m i j (faulty us a f) (overlong b) = absurd (omega arith)
  one-verdict v w n m i j (faulty us a f) (faulty vs b g) =
      let s : us ≡ vs = one-fault (tokens text) us vs f g in
      (ap (λ (l : List Token). refused (number_of_fault l) 0) s, refl, ap (byte_of text) s)
  one-verdict v w n m i j (faulty us a f) (derived t l d) = absurd (f.underivable t d)
  one-verdict v w n m i j (derived t l d) (overlong b) = absurd (omega arith)
  one-verdict v w n m i j (derived t l d) (faulty us b f) = absurd (f.underivable t d)
  one-verdict v w n m i j (derived t l d) (derived u k e) =
      let s : t ≡ u = one-tree t u (tokens text) d e in
      (ap verdict_of_tree s, ap (λ (a : Tree). length (signals a)) s, same_place_lem text t u d e)

  passes-derived : length text ≤ max_source → (t : Tree) → Program t (tokens text) → PassesGrammar text
  passes-derived h t d v n at node (overlong a) = absurd (omega arith)
  passes-derived h t d v n at node (faulty us a f) = absurd (f.underivable t d)
  passes-derived h t d v n at node (derived u l g) = ((λ e. (tree-refused u 14 node e).not14 refl), (λ e. (tree-refused u 20 node e).not20 refl))

  derived-passes : length text ≤ max_source → PassesGrammar text → (t : Tree) × Program t (tokens text)
  derived-passes l h = go (parse (tokens text)) refl
    where
      go : (o : Outcome) → parse (tokens text) ≡ o → (t : Tree) × Program t (tokens text)
      go (accepted t) e = (t, sound t (tokens text) e)
      go (stuck us) e = absurd (by (told_so us))
        where
          by : (number_of_fault us ≡ 14) ⊎ (number_of_fault us ≡ 20) → ⊥
          by (inl f) = (h _ _ _ 0 (faulty us l (fault-at (tokens text) us e))).0 (ap (λ (k : ℕ). refused k 0) f)
          by (inr f) = (h _ _ _ 0 (faulty us l (fault-at (tokens text) us e))).1 (ap (λ (k : ℕ). refused k 0) f)

  twenty_fault : (v : Verdict) (n at : ℕ) → VerdictOf text v n at → v ≡ refused 20 0 → (length text ≤ max_source) × (n ≡ 0) × ((us : List Token) × Fault (tokens text) (foreign ∷ us) × (at ≡ byte_of text (foreign ∷ us)))
  twenty_fault v n at (overlong a) e = absurd (omega (arith, same_number 14 0 20 0 e))
  twenty_fault v n at (faulty us a f) e =
      let (more, g) = is_twenty us (same_number (number_of_fault us) 0 20 0 e) in
      (a, refl, (more, subst (λ (l : List Token). Fault (tokens text) l) g f, ap (byte_of text) g))
  twenty_fault v n at (derived t l d) e = absurd ((tree-refused t 20 0 e).not20 refl)

  is-overlong : (v : Verdict) (n at : ℕ) → max_source < length text → VerdictOf text v n at → (v ≡ refused 14 0) × (at ≡ max_source)
  is-overlong v n at h (overlong a) = (refl, refl)
  is-overlong v n at h (faulty us a f) = absurd (omega arith)
  is-overlong v n at h (derived t l d) = absurd (omega arith)

  no_place : (v : Verdict) (number node n at : ℕ) → VerdictOf text v n at → v ≡ refused number node → number < 14 → at ≡ 0
  no_place v number node n at (overlong a) e h = let z : 14 ≡ number = same_number 14 0 number node e in absurd (omega arith)
  no_place v number node n at (faulty us a f) e h = absurd (by (told_so us))
    where
      by : (number_of_fault us ≡ 14) ⊎ (number_of_fault us ≡ 20) → ⊥
      by (inl g) = omega (arith, same_number (number_of_fault us) 0 number node e)
      by (inr g) = omega (arith, same_number (number_of_fault us) 0 number node e)
  no_place v number node n at (derived t l d) e h = go (untrapped [] (expand t)) (ltb max_signals (length (signals t))) e
    where
      go : (b c : Bool) → cond b (refused 15 0) (cond c (refused 16 0) (check_nesting (read (postfix (statement_of t))))) ≡ refused number node → cond b (byte_of text (lost_from [] d [])) (cond c (byte_of text (crowded_from [] false (tokens text))) 0) ≡ 0
      go true c f = let z : 15 ≡ number = same_number 15 0 number node f in absurd (omega arith)
      go false true f = let z : 16 ≡ number = same_number 16 0 number node f in absurd (omega arith)
      go false false f = refl

  refusal : (v : Verdict) (number node n at : ℕ) → VerdictOf text v n at → v ≡ refused number node → Refusal number node
  refusal v number node n at (overlong a) e = fault-number [] number node e
  refusal v number node n at (faulty us a f) e = fault-number us number node e
  refusal v number node n at (derived t l d) e = (tree-refused t number node e).is

  of_derivation : (v : Verdict) (p : Stmt) (n at : ℕ) → VerdictOf text v n at → v ≡ passed p → (t : Tree) × Program t (tokens text) × TreePassed t p × (n ≡ length (signals t))
  of_derivation v p n at (overlong a) e = not-passed e
  of_derivation v p n at (faulty us a f) e = not-passed e
  of_derivation v p n at (derived t l d) e = (t, d, tree-passed t p e, refl)

pub of_texts : OfTexts
of_texts = record {
  decided = judged;
  one_verdict = one-verdict;
  in_grammar = λ text h. (derived-passes text h, λ d. passes-derived text h d.0 d.1);
  twenty = λ text n at. (
    (λ j. twenty_fault text (refused 20 0) n at j refl),
    (λ f. rw (f.1, f.2.2) (faulty (foreign ∷ f.2.0) f.0 f.2.1)),
  );
  overlong = is-overlong;
  unplaced = λ text number node n at j h. no_place text (refused number node) number node n at j refl h;
  refusals = λ text number node n at j. refusal text (refused number node) number node n at j refl;
  program = λ text p n at j. let d = of_derivation text (passed p) p n at j refl in (d.0, d.1, d.2.is, d.3);
  only_eleven = λ text p n at number node j e. let d = of_derivation text (passed p) p n at j refl in only_eleven_lem d.0 p number node d.2 e;
}

-- a program that is read from a text has at most 1,024 nodes
pub program-few : (text : List ℕ) (p : Stmt) (n at : ℕ) → VerdictOf text (passed p) n at → size p ≤ max_nodes
program-few text p n at j = let d = of_derivation text (passed p) p n at j refl in go (ltb max_nodes (size p)) refl (rw (← d.2.is) at d.2.reads)
  where
    go : (b : Bool) → ltb max_nodes (size p) ≡ b → read (postfix p) ≡ passed p → size p ≤ max_nodes
    go true e f = not-passed (sym (read_table p true e) ∙ f)
    go false e f = ltb-false max_nodes (size p) e

-- what is printed is read back
module _ (p : Stmt) (h : Expressible p) (few : size p ≤ max_nodes) (low : met_in 0 p ≤ max_signals) where
  abbrev tree : Tree
  tree = plain (named 0 p)

  kernel : expand tree ≡ named 0 p
  kernel = expanded (named 0 p)

  tree-signals : signals tree ≡ name_list (met_in 0 p)
  tree-signals = rw kernel (signals-named 0 0 p h.ordered (omega arith))

  tree-statement : statement_of tree ≡ p
  tree-statement = ap (λ (ns : List Name). resolve ns [] (expand tree)) tree-signals ∙ ap (λ (k : Kernel). resolve (name_list (met_in 0 p)) [] k) kernel ∙ resolved (met_in 0 p) (omega arith) 0 0 p h.ordered (omega arith) h.trapped (omega arith)

  signals-met : length (signals tree) ≡ met_in 0 p
  signals-met = ap (λ (ns : List Name). length ns) tree-signals ∙ long (met_in 0 p)

  all_in : untrapped [] (expand tree) ≡ false
  all_in = rw kernel (all-trapped 0 p h.trapped (omega arith))

  few-signals : ltb max_signals (length (signals tree)) ≡ false
  few-signals = le-ltb max_signals (length (signals tree)) (omega (arith, signals-met))

  tree-verdict : verdict_of_tree tree ≡ check_nesting (passed p)
  tree-verdict =
      let c : read (postfix (statement_of tree)) ≡ passed p = ap (λ (q : Stmt). read (postfix q)) tree-statement ∙ reads-back p few in
      rw (all_in, few-signals, c)

  back : length (printed p) ≤ max_source → VerdictOf (printed p) (check_nesting (passed p)) (met_in 0 p) 0
  unfolding printed
  back l =
      let ts : List Token = print (named 0 p) [] in
      let e : tokens (spell ts) ≡ ts = spelled ts (spellable 0 p [] tt) in
      let d : Program tree (tokens (spell ts)) = rw e (derivation 0 p h.flat []).whole in
      let f : place_of (spell ts) d ≡ 0 = rw (all_in, few-signals) in
      subst (λ (k : ℕ). VerdictOf (spell ts) (check_nesting (passed p)) (met_in 0 p) k) f (rw (← tree-verdict, ← signals-met) (derived tree l d))

pub round_trip : RoundTrip
unfolding RoundTrip
round_trip p h few low l = back p h few low l

-- and only what can be said is read
pub only_expressible : OnlyExpressible
unfolding OnlyExpressible
only_expressible text p n at j =
    let (t, d, h, e) = of_derivation text (passed p) p n at j refl in
    let o = in_turn (signals t) [] [] (expand t) (longer-same (signals t)) in
    let q : Expressible (statement_of t) = record { flat = flat d (signals t) []; ordered = o.order; trapped = trapped (signals t) [] (expand t) h.trapped } in
    (rw h.is q, rw h.is (e ∙ sym o.count))
