-- The theorems of specs/Theorems.antt.
use mathlib.Core.Path.{◌≡◌, refl, sym, ap, ap₂, subst, ◌∙◌}
use mathlib.Core.List.{List, [], ◌++◌, append-nil}
use Prim.Native.Nat.{ℕ, ◌≤◌}
use native.Mathlib.Omega.{arith}
use borrow.Author.Tests.{leb-true}
use lib.Dec.{leb}
use lib.ListN.{length, take, drop, length-append}
use lib.Seq.{take_at, drop_at}
use Rattle.esterel.specs.Statement.{Stmt, size, nodes}
use Rattle.esterel.specs.Table.{passed, refused}
use Rattle.esterel.specs.Refusal.{Reply, yields, rejects}
use Rattle.esterel.specs.Checks.{verdict}
use Rattle.esterel.specs.Instant.{Entry, closed, start}
use Rattle.esterel.specs.Outcome.{taken}
use Rattle.esterel.specs.Theorems.{Accepted, NeedsMore}
use Rattle.esterel.specs.Theorems.{Closed as ClosedBy}
use Rattle.esterel.proofs.Accepted.{acceptance}
use Rattle.esterel.proofs.Refusals.{Told, refusals, told-numbered, one-program, one-refusal, passed-refused}
use Rattle.esterel.proofs.Theorems.{demand3, left_over, starving}
use Rattle.table.specs.Columns.{onto}
use Rattle.table.proofs.Surveying.{few-accepted}
use Rattle.analysis.proofs.Analyses.{checked-program}
use Rattle.analysis.proofs.Theorems.{enough-room, checked-passed, checked-told}
use Rattle.packing.specs.Packing.{unpack}
use Rattle.instant.specs.Calls.{reacts, Starting}
use Rattle.instant.specs.Theorems.{Lent, Ends, Exact, Instant}
use Rattle.instant.specs.declared.Reaction.{Reaction}
use Rattle.instant.proofs.Theorems.{demand3_of_calls}
use Rattle.starts.specs.Ticks.{tick_answers}
use Rattle.starts.specs.Entries.{Makes, Greatest, IsLongest}
use Rattle.starts.proofs.Theorems.{few-tests}
use Rattle.starts.proofs.Entries.{first_tick}
use Rattle.planning.specs.declared.Longest.{Longest}
use Rattle.planning.specs.Planning.{Plans, verdict_for, reaches, Hands}
use Rattle.planning.specs.Theorems.{Determined, OfMostEntries, HandedOut, OfFindLongest, OfStarts}

-- the number of one program
same-greatest : {p q : Stmt} {m n : ℕ} → p ≡ q → Greatest p m → Greatest q n → m ≡ n
same-greatest {p} {m = m} {n = n} e g h = first_tick.unique p m n g (subst (λ s. Greatest s n) (sym e) h)

same-list : {p q : Stmt} {m n : ℕ} {u v : List ℕ} → p ≡ q → m ≡ n → IsLongest p m u → IsLongest q n v → u ≡ v
same-list {p} {m = m} {n = n} {u = u} {v = v} e f o d =
    first_tick.one_longest p m u v o (subst (λ k. IsLongest p k v) (sym f) (subst (λ s. IsLongest s n v) (sym e) d))

-- ---- each contract is met by one answer and one content

plans-once : (t : List ℕ) (r r' : Reply ℕ) → Plans t r → Plans t r' → r ≡ r'
plans-once t r r' (Plans.plans p n e g z) (Plans.plans q m f h y) = z ∙ ap yields (same-greatest (one-program e f) g h) ∙ sym y
plans-once t r r' (Plans.plans p n e g z) (Plans.refuses a b f y) = absurd (passed-refused e f)
plans-once t r r' (Plans.refuses a b e z) (Plans.plans q m f h y) = absurd (passed-refused f e)
plans-once t r r' (Plans.refuses a b e z) (Plans.refuses c d f y) = let (x, w) = one-refusal e f in z ∙ ap₂ rejects x w ∙ sym y

hands-once : (t old new new' : List ℕ) (r r' : Reply Longest) → Hands t old new r → Hands t old new' r' → (r ≡ r') × (new ≡ new')
hands-once t old new new' r r' (Hands.hands p n u e g o z w) (Hands.hands q m v f h d y x) =
    let number = same-greatest (one-program e f) g h in
    let list = same-list (one-program e f) number o d in
    (z ∙ ap₂ (λ i l. reaches i (length l)) number list ∙ sym y, w ∙ ap (λ l. onto l old) list ∙ sym x)
hands-once t old new new' r r' (Hands.hands p n u e g o z w) (Hands.refuses a b f y x) = absurd (passed-refused e f)
hands-once t old new new' r r' (Hands.refuses a b e z w) (Hands.hands q m v f h d y x) = absurd (passed-refused f e)
hands-once t old new new' r r' (Hands.refuses a b e z w) (Hands.refuses c d f y x) =
    let (i, j) = one-refusal e f in
    (z ∙ ap₂ rejects i j ∙ sym y, w ∙ sym x)

pub determined : Determined
determined = record { plans = plans-once; hands = hands-once }

-- ---- most_entries

planned-to : {t : List ℕ} {r : Reply ℕ} → Plans t r → (n : ℕ) → r ≡ yields n → (p : Stmt) × (verdict t ≡ passed p) × Greatest p n
planned-to (Plans.plans p m e g z) n y = let same : m ≡ n = cc in (p, e, subst (Greatest p) same g)
planned-to (Plans.refuses a b e z) n y = let x : ◌≡◌ {A = ℕ} 0 1 = cc in absurd (omega arith)

planned-from : {t : List ℕ} {r : Reply ℕ} → Plans t r → (n : ℕ) → (p : Stmt) × (verdict t ≡ passed p) × Greatest p n → r ≡ yields n
planned-from (Plans.plans q m f h z) n (p, e, g) = z ∙ ap yields (same-greatest (one-program f e) h g)
planned-from (Plans.refuses a b f z) n (p, e, g) = absurd (passed-refused e f)

refused-to : {t : List ℕ} {r : Reply ℕ} → Plans t r → (number node : ℕ) → r ≡ rejects number node → verdict t ≡ refused number node
refused-to (Plans.plans p m e g z) number node y = let x : ◌≡◌ {A = ℕ} 0 1 = cc in absurd (omega arith)
refused-to (Plans.refuses a b e z) number node y = let i : a ≡ number = cc in let j : b ≡ node = cc in e ∙ ap₂ refused i j

refused-from : {t : List ℕ} {r : Reply ℕ} → Plans t r → (number node : ℕ) → verdict t ≡ refused number node → r ≡ rejects number node
refused-from (Plans.plans p m e g z) number node f = absurd (passed-refused e f)
refused-from (Plans.refuses a b e z) number node f = let (i, j) = one-refusal e f in z ∙ ap₂ rejects i j

pub of_most_entries : OfMostEntries
of_most_entries =
    record {
      planned = λ t r o n. (planned-to o n, planned-from o n);
      refused = λ t r o number node. (refused-to o number node, refused-from o number node);
      bounds = λ t n o. let (p, e, g) = planned-to o n refl in (p, e, first_tick.some p n g, first_tick.nodes p n g);
      refusals = λ t number node o. refusals t number node (refused-to o number node refl);
    }

-- ---- find_longest

abbrev entries_in : Reply Longest → ℕ
entries_in (yields r) = r.entries
entries_in (rejects number node) = 0

abbrev length-in : Reply Longest → ℕ
length-in (yields r) = r.length
length-in (rejects number node) = 0

handed-to : {t old new : List ℕ} {r : Reply Longest} → Hands t old new r → (n l : ℕ) → r ≡ reaches n l → HandedOut t old new n l
handed-to {t} {old} {new} (Hands.hands p m list e g o z w) n l y =
    let number : m ≡ n = ap entries_in (sym z ∙ y) in
    let long : length list ≡ l = ap length-in (sym z ∙ y) in
    let v : verdict t ≡ passed p = checked-passed (leb tick_answers (length old)) t p e in
    let room = leb-true tick_answers (length old) (checked-program (leb tick_answers (length old)) t p e).0 in
    let short = first_tick.short p m list o in
    let front : take l new ≡ list = ap (take l) w ∙ ap (λ k. take k (list ++ drop (length list) old)) (sym long) ∙ take_at list (drop (length list) old) (length list) refl in
    record {
      program = p;
      accepted = v;
      room = room;
      greatest = subst (Greatest p) number g;
      longest = subst (λ k. IsLongest p k (take l new)) number (subst (IsLongest p m) (sym front) o);
      long = ap length front ∙ long;
      short = omega (arith, short, few-tests p, few-accepted t p v);
      past = ap (drop l) w ∙ ap (λ k. drop k (list ++ drop (length list) old)) (sym long) ∙ drop_at list (drop (length list) old) (length list) refl ∙ ap (λ k. drop k old) long;
    }
handed-to (Hands.refuses a b e z w) n l y = let x : ◌≡◌ {A = ℕ} 0 1 = cc in absurd (omega arith)

accepts-to : {t old new : List ℕ} {r : Reply Longest} → Hands t old new r → (n l : ℕ) × (r ≡ reaches n l) → (p : Stmt) × (verdict t ≡ passed p)
accepts-to o (n, l, e) = let h = handed-to o n l e in (h.program, h.accepted)

accepts-from : {t old new : List ℕ} {r : Reply Longest} → tick_answers ≤ length old → Hands t old new r → (p : Stmt) × (verdict t ≡ passed p) → (n l : ℕ) × (r ≡ reaches n l)
accepts-from room (Hands.hands p m list e g o z w) x = (m, length list, z)
accepts-from {t} {old} room (Hands.refuses a b e z w) (p, v) = absurd (passed-refused (enough-room t room ∙ v) e)

same_number : (t old new : List ℕ) (m n l : ℕ) → Plans t (yields m) → Hands t old new (reaches n l) → m ≡ n
same_number t old new m n l o d =
    let (p, e, g) = planned-to o m refl in
    let h = handed-to d n l refl in
    same-greatest (one-program e h.accepted) g h.greatest

refusal_of_lem : {t old new : List ℕ} {r : Reply Longest} → Hands t old new r → (number node : ℕ) → r ≡ rejects number node → (verdict_for t old ≡ refused number node) × (new ≡ old)
refusal_of_lem (Hands.hands p m list e g o z w) number node y = let x : ◌≡◌ {A = ℕ} 0 1 = cc in absurd (omega arith)
refusal_of_lem (Hands.refuses a b e z w) number node y = let i : a ≡ number = cc in let j : b ≡ node = cc in (e ∙ ap₂ refused i j, w)

pub of_find_longest : OfFindLongest
of_find_longest =
    record {
      reached = λ t old new n l o. handed-to o n l refl;
      accepts = λ t old new r room o. (accepts-to o, accepts-from room o);
      same = same_number;
      refusals = λ t old new number node o.
          let (e, w) = refusal_of_lem o number node refl in
          let x = told-numbered (subst (Told 11) e (checked-told (leb tick_answers (length old)) t)) in
          (x.some, x.known, x.within, w);
      refusal = λ t old new number node room o. sym (enough-room t room) ∙ (refusal_of_lem o number node refl).0;
    }

-- ---- start

exceeded : (t answers state emissions state' emissions' : List ℕ) (code k entries n : ℕ) → Plans t (yields n) → Starting t answers state emissions state' emissions' (reacts code k entries) → entries ≤ n
exceeded t answers state emissions state' emissions' code k entries n o s =
    let (p, e, g) = planned-to o n refl in
    let (q, lent) = demand3_of_calls.start_lent t answers state emissions state' emissions' code k entries s in
    let x = (demand3_of_calls.starts t answers state emissions state' emissions' q (reacts code k entries) lent s).exact code k entries refl in
    let same : q ≡ p = one-program lent.accepted e in
    g.exceeded answers x.rest entries (code, x.trail, unpack (size q) state', subst (λ b. start 0 b answers ≡ closed code x.trail (unpack (size q) state') x.rest) same x.rules, sym x.entries_are)

-- a start that closes by the rules closes as a call, with their entries and the answers that they take
closes : (p : Stmt) (u rest state emissions state' emissions' : List ℕ) (r : Reply Reaction) → Accepted p → Instant p (start 0 p) (u ++ rest) state emissions state' emissions' r → (k : ℕ) (trail : List Entry) (held : List ℕ) → start 0 p (u ++ rest) ≡ closed k trail held rest → (code : ℕ) × (r ≡ reacts code (length u) (length trail))
closes p u rest state emissions state' emissions' r a o k trail held e = go r o.ends o.needs.0 o.exact
  where
    c : ClosedBy p (u ++ rest) k trail held rest
    c = rw e at (demand3.starts p a (u ++ rest))

    used : taken (nodes p) trail ≡ length u
    used = omega (arith, ap length c.lent, length-append c.used rest, length-append u rest, c.counted)

    go : (x : Reply Reaction) → Ends x → (x ≡ rejects 13 0 → NeedsMore p (start 0 p) (u ++ rest)) → ((code l entries : ℕ) → x ≡ reacts code l entries → Exact p (start 0 p (u ++ rest)) state' emissions' code l entries) → (code : ℕ) × (x ≡ reacts code (length u) (length trail))
    go x (Ends.closes code l entries le) needs exact =
        let w = exact code l entries refl in
        let same : closed code w.trail (unpack (size p) state') w.rest ≡ closed k trail held rest = sym w.rules ∙ e in
        let trails : w.trail ≡ trail = cc in
        (code, ap₂ (reacts code) (w.answers_taken ∙ ap (taken (nodes p)) trails ∙ used) (w.entries_are ∙ ap length trails))
    go x Ends.starves needs exact =
        let z = (starving.starts p a (u ++ rest)).1 (needs refl) in
        let y : ◌≡◌ {A = ℕ} 0 1 = cc in
        absurd (omega arith)

replayed : (t old new rest state emissions state' emissions' : List ℕ) (n l : ℕ) (p : Stmt) (r : Reply Reaction) → Hands t old new (reaches n l) → Lent t p state emissions → Starting t (take l new ++ rest) state emissions state' emissions' r → (code : ℕ) × (r ≡ reacts code l n)
replayed t old new rest state emissions state' emissions' n l p r o lent s =
    let h = handed-to o n l refl in
    let same : h.program ≡ p = one-program h.accepted lent.accepted in
    let (k, trail, held, e, many) = subst (λ q. Makes q (take l new) [] n) same h.longest.makes in
    let (used, front, on) = left_over.starts p 0 (take l new) k trail held [] e in
    let whole : used ≡ take l new = sym (front ∙ append-nil used) in
    let (code, is) = closes p (take l new) rest state emissions state' emissions' r (acceptance t p lent.accepted).1 (demand3_of_calls.starts t (take l new ++ rest) state emissions state' emissions' p r lent s) k trail held (ap (λ u. start 0 p (u ++ rest)) (sym whole) ∙ on rest) in
    (code, is ∙ ap₂ (reacts code) h.long many)

pub of_starts : OfStarts
of_starts = record { exceeded = exceeded; replayed = replayed }
