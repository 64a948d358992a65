-- What follows from the contract of `read`.
use mathlib.Core.Path.{◌≡◌, refl, sym, ap, ◌∙◌}
use mathlib.Core.Logic.{◌↔◌, ◌⊎◌, inl, inr}
use mathlib.Core.Bool.{Bool, true, false, cond}
use mathlib.Core.List.{List, [], ◌∷◌}
use Prim.Native.Nat.{ℕ, ◌*◌, ◌≤◌, ◌<◌}
use native.Mathlib.Omega.{arith}
use lib.Dec.{ltb}
use lib.ListN.{length, take, drop, length-append}
use lib.Seq.{take_at}
use borrow.Author.Tests.{ltb-true}
use Rattle.esterel.specs.Limits.{max_nodes, signals as max_signals}
use Rattle.esterel.specs.Statement.{Stmt, size}
use Rattle.esterel.specs.Table.{Verdict, passed, refused, read, postfix}
use Rattle.esterel.specs.Checks.{verdict}
use Rattle.esterel.proofs.Reading.{length-postfix}
use Rattle.grammar.specs.Limits.{max_source}
use Rattle.grammar.specs.Tokens.{Token, foreign, tokens, byte_of}
use Rattle.grammar.specs.Tree.{Tree}
use Rattle.grammar.specs.Grammar.{Program}
use Rattle.grammar.specs.Kernel.{expand}
use Rattle.grammar.specs.Faults.{Fault, number_of_fault, lost_from, crowded_from}
use Rattle.grammar.specs.Meaning.{signals, untrapped, statement_of, check_nesting, verdict_of_tree, VerdictOf, overlong, faulty, derived}
use Rattle.grammar.specs.Theorems.{Refusal, outside_grammar, of_full_language, exit_untrapped, many_signals, many_nodes, deep_node, many_traps}
use Rattle.grammar.proofs.Viability.{of_faults}
use Rattle.grammar.proofs.Beginnings.{within_text}
use Rattle.grammar.proofs.Lost.{at_names}
use Rattle.grammar.proofs.Theorems.{of_texts, program-few, told_so, table-refused}
use Rattle.std.specs.Prelude.{Result, Ok, Err}
use Rattle.esterel.specs.Refusal.{number_of}
use Rattle.esterel.proofs.Replies.{number-once}
use Rattle.text.specs.declared.Reading.{Reading}
use Rattle.text.specs.declared.Fault as R
use Rattle.text.specs.Reading.{Answer, reads, refuses, answer, Told, ReadAs, short, judged}
use Rattle.text.specs.Theorems.{Wrote, AtExit, AtSignal, Number, short_table, of_text, OfRead}

not_done : {A : Type 0} {number node place nodes n : ℕ} → reads nodes n ≡ refuses number node place → A
not_done e = let z : ◌≡◌ {A = ℕ} 0 1 = cc in absurd (omega arith)

-- no two results say the same
fault-is : (a b : R.Fault) → number_of a.refusal.check ≡ number_of b.refusal.check → a.refusal.node ≡ b.refusal.node → a.place ≡ b.place → a ≡ b
fault-is a b e f g =
    let c = number-once a.refusal.check b.refusal.check e in
    let r : a.refusal ≡ b.refusal = rw (c, f) refl in
    rw (r, g) refl

one_result_lem : (a b : Result Reading R.Fault) → answer a ≡ answer b → a ≡ b
one_result_lem (Ok a) (Ok b) e = let n : a.nodes ≡ b.nodes = cc in let m : a.signals ≡ b.signals = cc in rw (n, m) refl
one_result_lem (Ok a) (Err f) e = not_done e
one_result_lem (Err f) (Ok b) e = not_done (sym e)
one_result_lem (Err f) (Err h) e =
    let n : number_of f.refusal.check ≡ number_of h.refusal.check = cc in
    let i : f.refusal.node ≡ h.refusal.node = cc in
    let p : f.place ≡ h.place = cc in
    ap Err (fault-is f h n i p)

-- what is told by one verdict
one_told : (v : Verdict) (n at : ℕ) (old new new' : List ℕ) (r r' : Answer) → Told v n at old new r → Told v n at old new' r' → (new ≡ new') × (r ≡ r')
one_told (passed p) n at old new new' r r' a b = (a.1 ∙ sym b.1, a.0 ∙ sym b.0)
one_told (refused number node) n at old new new' r r' a b = (a.1 ∙ sym b.1, a.0 ∙ sym b.0)

determined : (text old new new' : List ℕ) (r r' : Answer) → ReadAs text old new r → ReadAs text old new' r' → (new ≡ new') × (r ≡ r')
determined text old new new' r r' (short h a) (short k b) = (a.1 ∙ sym b.1, a.0 ∙ sym b.0)
determined text old new new' r r' (short h a) (judged v n at k j b) = absurd (omega arith)
determined text old new new' r r' (judged v n at h i a) (short k b) = absurd (omega arith)
determined text old new new' r r' (judged v n at h i a) (judged w m at' k j b) =
    let e = of_texts.one_verdict text v w n m at at' i j in
    one_told w m at' old new new' r r' (rw (e.0, e.1, e.2) at a) b

-- and with another table that has room
same-told : (v : Verdict) (n at : ℕ) (old new old' new' : List ℕ) (r r' : Answer) → Told v n at old new r → Told v n at old' new' r' → r ≡ r'
same-told (passed p) n at old new old' new' r r' a b = a.0 ∙ sym b.0
same-told (refused number node) n at old new old' new' r r' a b = a.0 ∙ sym b.0

same_answer_lem : (text old new old' new' : List ℕ) (r r' : Answer) → 2 * max_nodes ≤ length old → 2 * max_nodes ≤ length old' → ReadAs text old new r → ReadAs text old' new' r' → r ≡ r'
same_answer_lem text old new old' new' r r' g h (short k a) c = absurd (omega arith)
same_answer_lem text old new old' new' r r' g h (judged v n at k i a) (short l b) = absurd (omega arith)
same_answer_lem text old new old' new' r r' g h (judged v n at k i a) (judged w m at' l j b) =
    let e = of_texts.one_verdict text v w n m at at' i j in
    same-told w m at' old new old' new' r r' (rw (e.0, e.1, e.2) at a) b

-- a program that was written
written : (text old new : List ℕ) (p : Stmt) (m at nodes n : ℕ) → 2 * max_nodes ≤ length old → VerdictOf text (passed p) m at → Told (passed p) m at old new (reads nodes n) → Wrote text old new nodes n
written text old new p m at nodes n h j a =
    let d = of_texts.program text p m at j in
    let e : nodes ≡ size p = cc in
    let f : n ≡ m = cc in
    let l : length (postfix p) ≡ 2 * nodes = omega (arith, length-postfix p) in
    record {
      tree = d.0;
      derivation = d.1;
      nodes_are = e ∙ ap size d.2;
      signals_are = f ∙ d.3;
      content = rw (← d.2, ← l) a.1;
      fits = omega (arith, program-few text p m at j);
      room = h;
    }

-- it lies within the lent table
pub written-long : (text old new : List ℕ) (nodes n : ℕ) → Wrote text old new nodes n → 2 * nodes ≤ length new
written-long text old new nodes n w =
    let s = statement_of w.tree in
    omega (arith, w.nodes_are, length-postfix s, ap (λ (l : List ℕ). length l) w.content, length-append (postfix s) (drop (2 * nodes) old))

done : (text old new : List ℕ) (nodes n : ℕ) → ReadAs text old new (reads nodes n) → Wrote text old new nodes n
done text old new nodes n (short h a) = not_done a.0
done text old new nodes n (judged (passed p) m at h j a) = written text old new p m at nodes n h j a
done text old new nodes n (judged (refused number node) m at h j a) = not_done a.0

-- its table is at the front
front : (text old new : List ℕ) (p : Stmt) (m at nodes n : ℕ) → Told (passed p) m at old new (reads nodes n) → take (2 * nodes) new ≡ postfix p
front text old new p m at nodes n a =
    let e : nodes ≡ size p = cc in
    let l : length (postfix p) ≡ 2 * nodes = omega (arith, length-postfix p) in
    rw a.1 (take_at (postfix p) (drop (length (postfix p)) old) (2 * nodes) l)

only_eleven_lem : (text old new : List ℕ) (nodes n number node : ℕ) → ReadAs text old new (reads nodes n) → verdict (take (2 * nodes) new) ≡ refused number node → number ≡ 11
only_eleven_lem text old new nodes n number node (short h a) e = not_done a.0
only_eleven_lem text old new nodes n number node (judged (passed p) m at h j a) e =
    of_texts.only_eleven text p m at number node j (ap verdict (sym (front text old new p m at nodes n a)) ∙ e)
only_eleven_lem text old new nodes n number node (judged (refused k i) m at h j a) e = not_done a.0

-- refusals
below : {number node : ℕ} → Refusal number node → node < max_nodes
below outside_grammar = omega arith
below of_full_language = omega arith
below exit_untrapped = omega arith
below many_signals = omega arith
below many_nodes = omega arith
below (deep_node node h) = h
below (many_traps node h) = h

same-refusal : (number node place k i p : ℕ) → refuses number node place ≡ refuses k i p → (number ≡ k) × (node ≡ i) × (place ≡ p)
same-refusal number node place k i p e = (cc, cc, cc)

-- the place lies in the text
inside : (text : List ℕ) (v : Verdict) (n at : ℕ) → VerdictOf text v n at → (at ≤ length text) × (at ≤ max_source)
inside text v n at (overlong a) = (omega arith, omega arith)
inside text v n at (faulty us l f) = (within_text text us, omega (arith, within_text text us))
inside text v n at (derived t l d) = go (untrapped [] (expand t)) (ltb max_signals (length (signals t)))
  where
    go : (b c : Bool) → let p = cond b (byte_of text (lost_from [] d [])) (cond c (byte_of text (crowded_from [] false (tokens text))) 0) in (p ≤ length text) × (p ≤ max_source)
    go true c = (within_text text _, omega (arith, within_text text (lost_from [] d [])))
    go false true = (within_text text _, omega (arith, within_text text (crowded_from [] false (tokens text))))
    go false false = (omega arith, omega arith)

is-refused : (text old new : List ℕ) (number node place : ℕ) → ReadAs text old new (refuses number node place) → (new ≡ old) × Number number node × (node < max_nodes) × (place ≤ length text) × (place ≤ max_source)
is-refused text old new number node place (short h a) =
    let e = same-refusal number node place 3 0 0 a.0 in
    (a.1, rw (e.0, e.1) short_table, omega (arith, e.1), omega (arith, e.2), omega (arith, e.2))
is-refused text old new number node place (judged (passed p) m at h j a) = not_done (sym a.0)
is-refused text old new number node place (judged (refused k i) m at h j a) =
    let e = same-refusal number node place k i at a.0 in
    let r : Refusal number node = rw (e.0, e.1) (of_texts.refusals text k i m at j) in
    let l = inside text (refused k i) m at j in
    (a.1, of_text r, below r, omega (arith, e.2, l.0), omega (arith, e.2, l.1))

-- 14 and 20: a text with a fault is told so
at-fault : (text old new : List ℕ) (r : Answer) (us : List Token) → 2 * max_nodes ≤ length old → length text ≤ max_source → Fault (tokens text) us → ReadAs text old new r → r ≡ refuses (number_of_fault us) 0 (byte_of text us)
at-fault text old new r us room h f c =
    (determined text old new old r (refuses (number_of_fault us) 0 (byte_of text us)) c (judged (refused (number_of_fault us) 0) 0 (byte_of text us) room (faulty us h f) (refl, refl))).1

-- and one with a derivation is told neither
no_fault : (text old new : List ℕ) (number place : ℕ) → (number ≡ 14) ⊎ (number ≡ 20) → length text ≤ max_source → ReadAs text old new (refuses number 0 place) → (t : Tree) → Program t (tokens text) → ⊥
no_fault text old new number place (inl e) h (short l a) t d = omega (arith, e, (same-refusal number 0 place 3 0 0 a.0).0)
no_fault text old new number place (inr e) h (short l a) t d = omega (arith, e, (same-refusal number 0 place 3 0 0 a.0).0)
no_fault text old new number place n h (judged (passed p) m at l j a) t d = not_done (sym a.0)
no_fault text old new number place n h (judged (refused k i) m at l j a) t d = by n ((of_texts.in_grammar text h).1 (t, d) (refused k i) m at i j)
  where
    same : number ≡ k
    same = (same-refusal number 0 place k i at a.0).0

    by : (number ≡ 14) ⊎ (number ≡ 20) → ((refused k i ≡ refused 14 i → ⊥) × (refused k i ≡ refused 20 i → ⊥)) → ⊥
    by (inl e) g = g.0 (ap (λ (z : ℕ). refused z i) (sym same ∙ e))
    by (inr e) g = g.1 (ap (λ (z : ℕ). refused z i) (sym same ∙ e))

in_grammar_lem : (text old new : List ℕ) (r : Answer) → 2 * max_nodes ≤ length old → length text ≤ max_source → ReadAs text old new r → ((number : ℕ) × (place : ℕ) × ((number ≡ 14) ⊎ (number ≡ 20)) × (r ≡ refuses number 0 place)) ↔ ((t : Tree) → Program t (tokens text) → ⊥)
in_grammar_lem text old new r room h c = ((λ f. no_fault text old new f.0 f.1 f.2 h (rw f.3 at c)), (λ d. from d (of_faults.either (tokens text))))
  where
    from : ((t : Tree) → Program t (tokens text) → ⊥) → ((us : List Token) × Fault (tokens text) us) ⊎ ((t : Tree) × Program t (tokens text)) → (number : ℕ) × (place : ℕ) × ((number ≡ 14) ⊎ (number ≡ 20)) × (r ≡ refuses number 0 place)
    from d (inl f) = (number_of_fault f.0, byte_of text f.0, told_so f.0, at-fault text old new r f.0 room h f.1 c)
    from d (inr t) = absurd (d t.0 t.1)

twenty_told : (text old new : List ℕ) (place : ℕ) → ReadAs text old new (refuses 20 0 place) → (length text ≤ max_source) × ((us : List Token) × Fault (tokens text) (foreign ∷ us))
twenty_told text old new place (short l a) = absurd (omega (arith, (same-refusal 20 0 place 3 0 0 a.0).0))
twenty_told text old new place (judged (passed p) m at l j a) = not_done (sym a.0)
twenty_told text old new place (judged (refused k i) m at l j a) =
    let e = same-refusal 20 0 place k i at a.0 in
    let f = (of_texts.twenty text m at).0 (rw (← e.0, ← e.1) at j) in
    (f.0, (f.2.0, f.2.1))

twenty : (text old new : List ℕ) (r : Answer) → 2 * max_nodes ≤ length old → ReadAs text old new r → ((place : ℕ) × (r ≡ refuses 20 0 place)) ↔ ((length text ≤ max_source) × ((us : List Token) × Fault (tokens text) (foreign ∷ us)))
twenty text old new r room c = ((λ f. twenty_told text old new f.0 (rw f.1 at c)), (λ f. (byte_of text (foreign ∷ f.1.0), at-fault text old new r (foreign ∷ f.1.0) room f.0 f.1.1 c)))

too_long : (text old new : List ℕ) (r : Answer) → 2 * max_nodes ≤ length old → max_source < length text → ReadAs text old new r → r ≡ refuses 14 0 max_source
too_long text old new r room h c = (determined text old new old r (refuses 14 0 max_source) c (judged (refused 14 0) 0 max_source room (overlong h) (refl, refl))).1

no_place : (text old new : List ℕ) (number node place : ℕ) → ReadAs text old new (refuses number node place) → number < 14 → place ≡ 0
no_place text old new number node place (short l a) h = (same-refusal number node place 3 0 0 a.0).2
no_place text old new number node place (judged (passed p) m at l j a) h = not_done (sym a.0)
no_place text old new number node place (judged (refused k i) m at l j a) h =
    let e = same-refusal number node place k i at a.0 in
    e.2 ∙ of_texts.unplaced text k i m at j (omega (arith, e.0))

-- 15 and 16: by the checks of the tree
not-number : {A : Type 0} (a b : ℕ) → (a ≡ b → ⊥) → {node i : ℕ} → refused a node ≡ refused b i → A
not-number a b n e = let z : a ≡ b = cc in absurd (n z)

tree-lost : (t : Tree) (node : ℕ) → verdict_of_tree t ≡ refused 15 node → untrapped [] (expand t) ≡ true
tree-lost t node = go (untrapped [] (expand t)) (ltb max_signals (length (signals t)))
  where
    go : (b c : Bool) → cond b (refused 15 0) (cond c (refused 16 0) (check_nesting (read (postfix (statement_of t))))) ≡ refused 15 node → b ≡ true
    go true c e = refl
    go false true e = not-number 16 15 (λ z. omega arith) e
    go false false e = absurd (omega (arith, (table-refused (statement_of t) 15 node e).low))

tree-many : (t : Tree) (node : ℕ) → verdict_of_tree t ≡ refused 16 node → (untrapped [] (expand t) ≡ false) × (ltb max_signals (length (signals t)) ≡ true)
tree-many t node = go (untrapped [] (expand t)) (ltb max_signals (length (signals t)))
  where
    go : (b c : Bool) → cond b (refused 15 0) (cond c (refused 16 0) (check_nesting (read (postfix (statement_of t))))) ≡ refused 16 node → (b ≡ false) × (c ≡ true)
    go true c e = not-number 15 16 (λ z. omega arith) e
    go false true e = (refl, refl)
    go false false e = absurd (omega (arith, (table-refused (statement_of t) 16 node e).low))

of_fault : (us : List Token) (number node : ℕ) → (number ≡ 14 → ⊥) → (number ≡ 20 → ⊥) → {A : Type 0} → refused (number_of_fault us) 0 ≡ refused number node → A
of_fault us number node f g e = by (told_so us)
  where
    same : number_of_fault us ≡ number
    same = cc

    by : {A : Type 0} → (number_of_fault us ≡ 14) ⊎ (number_of_fault us ≡ 20) → A
    by (inl z) = absurd (f (sym same ∙ z))
    by (inr z) = absurd (g (sym same ∙ z))

lost-place : (text : List ℕ) (v : Verdict) (n at node : ℕ) → VerdictOf text v n at → v ≡ refused 15 node → AtExit text at
lost-place text v n at node (overlong a) e = not-number 14 15 (λ z. omega arith) e
lost-place text v n at node (faulty us l f) e = of_fault us 15 node (λ z. omega arith) (λ z. omega arith) e
lost-place text v n at node (derived t l d) e =
    let u : untrapped [] (expand t) ≡ true = tree-lost t node e in
    let (before, m, us, split, first) = at_names.lost (tokens text) t d u in
    record { tree = t; derivation = d; before = before; exit_name = m; rest = us; split = split; first = first; place_is = rw u (ap (byte_of text) first) }

many-place : (text : List ℕ) (v : Verdict) (n at node : ℕ) → VerdictOf text v n at → v ≡ refused 16 node → AtSignal text at
many-place text v n at node (overlong a) e = not-number 14 16 (λ z. omega arith) e
many-place text v n at node (faulty us l f) e = of_fault us 16 node (λ z. omega arith) (λ z. omega arith) e
many-place text v n at node (derived t l d) e =
    let m = tree-many t node e in
    let (before, s, us, split, first, few, many) = at_names.crowded (tokens text) t d (ltb-true max_signals (length (signals t)) m.1) in
    record { before = before; signal_name = s; rest = us; split = split; few = few; many = many; place_is = rw (m.0, m.1) (ap (byte_of text) first) }

fifteen : (text old new : List ℕ) (node place : ℕ) → ReadAs text old new (refuses 15 node place) → AtExit text place
fifteen text old new node place (short h a) = let e = same-refusal 15 node place 3 0 0 a.0 in absurd (omega (arith, e.0))
fifteen text old new node place (judged (passed p) m at h j a) = not_done (sym a.0)
fifteen text old new node place (judged (refused k i) m at h j a) =
    let e = same-refusal 15 node place k i at a.0 in
    rw e.2 (lost-place text (refused k i) m at i j (ap (λ (z : ℕ). refused z i) (sym e.0)))

sixteen : (text old new : List ℕ) (node place : ℕ) → ReadAs text old new (refuses 16 node place) → AtSignal text place
sixteen text old new node place (short h a) = let e = same-refusal 16 node place 3 0 0 a.0 in absurd (omega (arith, e.0))
sixteen text old new node place (judged (passed p) m at h j a) = not_done (sym a.0)
sixteen text old new node place (judged (refused k i) m at h j a) =
    let e = same-refusal 16 node place k i at a.0 in
    rw e.2 (many-place text (refused k i) m at i j (ap (λ (z : ℕ). refused z i) (sym e.0)))

pub of_read : OfRead
of_read = record {
  one_result = one_result_lem;
  determined = determined;
  same_answer = same_answer_lem;
  done = done;
  only_eleven = only_eleven_lem;
  refused = is-refused;
  in_grammar = in_grammar_lem;
  at_fault = at-fault;
  twenty = twenty;
  overlong = too_long;
  fifteen = fifteen;
  sixteen = sixteen;
  unplaced = no_place;
}

-- the numbers as numbers
pub number-known : {number node : ℕ} → Number number node → (1 ≤ number) × (number ≤ 20)
number-known short_table = (omega arith, omega arith)
number-known (of_text outside_grammar) = (omega arith, omega arith)
number-known (of_text of_full_language) = (omega arith, omega arith)
number-known (of_text exit_untrapped) = (omega arith, omega arith)
number-known (of_text many_signals) = (omega arith, omega arith)
number-known (of_text many_nodes) = (omega arith, omega arith)
number-known (of_text (deep_node node h)) = (omega arith, omega arith)
number-known (of_text (many_traps node h)) = (omega arith, omega arith)
