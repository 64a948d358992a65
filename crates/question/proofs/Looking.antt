-- A question at a node from the questions at its children: one law for each call and each return of `look_at`.
use mathlib.Core.Path.{◌≡◌, refl, sym, ap, ap₂, ◌∙◌}
use mathlib.Core.Bool.{Bool, true, false, not, ◌&&◌, ◌||◌, cond, false≢true}
use mathlib.Core.List.{List, []}
use Prim.Native.Nat.{ℕ, zero, suc, ◌+◌, ◌-◌, ◌*◌, ◌<◌, ◌≤◌}
use native.Mathlib.Omega.{arith}
use lib.Dec.{eqb, leb}
use lib.ListN.{length, length-append, get_or}
use borrow.Author.Tests.{eqb-true, eqb-false, eq-eqb, le-leb}
use Rattle.codes.specs.Codes.{Codes, without_ended, word}
use Rattle.codes.specs.Words.{◌∋◌, without_ended_of}
use Rattle.codes.proofs.Bools.{inl_true, cannot_pass, false-not-true}
use Rattle.codes.proofs.Laws.{∋_word, without-ended-word}
use Rattle.esterel.specs.Limits.{max_nodes}
use Rattle.esterel.specs.Statement.{Unary, signal, suspend, loop, trap, Binary, present, sequence, parallel, Stmt, leaf, one, two, kind, size}
use Rattle.esterel.specs.Sets.{start_set}
use Rattle.table.specs.Kinds.{kind_of, arity_of, is_sequence}
use Rattle.table.specs.Program.{program_of, Readable}
use Rattle.table.specs.Columns.{stmt_at, first_at}
use Rattle.table.specs.declared.Kind.{Kind}
use Rattle.table.proofs.Surveying.{few-nodes}
use Rattle.table.proofs.TreeViews.{kind-is, has_last, one_of, two_of_lem, first_le}
use Rattle.table.proofs.Views.{spans, Over, Both}
use Rattle.question.specs.Question.{Found, found, asking, after, or_else, asks_second, and_then, max_code, range, whole, look}
use Rattle.question.specs.Calls.{told, told_of}
use Rattle.question.specs.declared.Asked.{Asked}
use Rattle.question.specs.Steps.{look_at, passed_up, joined_of, looks_at_all, stops_at, passed_code}
use Rattle.question.proofs.Lists.{length-range}
use Rattle.question.proofs.Looks.{limited_in, limited_out, look-fits}

-- ---- the rule by the kind of the statement

all-is : (i : ℕ) (w : Stmt) (code : ℕ) → looks_at_all (kind_of (kind w)) code ≡ true → look i w code ≡ whole i w code
unfolding kind_of
all-is i (leaf l) code e = refl
all-is i (one (signal s) p) code e = absurd (false≢true e)
all-is i (one (suspend s) p) code e = absurd (false≢true e)
all-is i (one loop p) code e = absurd (false≢true e)
all-is i (one trap p) zero e = refl
all-is i (one trap p) (suc k) e = absurd (omega (arith, eqb-true (suc k) 0 e))
all-is i (two (present s) p q) code e = absurd (false≢true e)
all-is i (two sequence p q) code e = absurd (false≢true e)
all-is i (two parallel p q) code e = refl

stop_is : (i : ℕ) (u : Unary) (p : Stmt) (code : ℕ) → looks_at_all (kind_of (kind (one u p))) code ≡ false → stops_at (kind_of (kind (one u p))) code ≡ true → look i (one u p) code ≡ asking (i + size p) (found false [])
unfolding kind_of
stop_is i (signal s) p code a e = absurd (false≢true e)
stop_is i (suspend s) p code a e = absurd (false≢true e)
stop_is i loop p zero a e = refl
stop_is i loop p (suc k) a e =
    let other : eqb (suc k) 0 ≡ false = cannot_pass (eqb (suc k) 0) (λ z. omega (arith, eqb-true (suc k) 0 z)) in
    absurd (false≢true (sym (ap (λ b. b || false) other) ∙ e))
stop_is i trap p zero a e = absurd (false≢true (sym a))
stop_is i trap p (suc zero) a e = absurd (omega (arith, eqb-true 1 max_code e))
stop_is i trap p (suc (suc k)) a e =
    ap (asking (i + size p)) (limited_out (suc (suc (suc k))) (look i p (suc (suc (suc k)))) (omega (arith, eqb-true (suc (suc k)) max_code e)))

-- the code that is passed on, and what is found
pub record PassedOn (i : ℕ) (u : Unary) (p : Stmt) (code next : ℕ) : Type 0 where
  pub low : next ≤ max_code
  pub is : look i (one u p) code ≡ asking (i + size p) (look i p next)

pass-is : (i : ℕ) (u : Unary) (p : Stmt) (code : ℕ) → code ≤ max_code → looks_at_all (kind_of (kind (one u p))) code ≡ false → stops_at (kind_of (kind (one u p))) code ≡ false → PassedOn i u p code (passed_code (kind_of (kind (one u p))) code)
unfolding kind_of
pass-is i (signal s) p code h a e = record { low = h; is = refl }
pass-is i (suspend s) p code h a e = record { low = h; is = refl }
pass-is i loop p zero h a e = absurd (false≢true (sym e))
pass-is i loop p (suc k) h a e = record { low = h; is = refl }
pass-is i trap p zero h a e = absurd (false≢true (sym a))
pass-is i trap p (suc zero) h a e = record { low = h; is = refl }
pass-is i trap p (suc (suc k)) h a e =
    let le : suc (suc (suc k)) ≤ max_code = omega (arith, eqb-false (suc (suc k)) max_code e) in
    let z : cond (leb 2 (suc (suc k))) (suc (suc k) + 1) (suc (suc k)) ≡ suc (suc (suc k)) = rw (le-leb 2 (suc (suc k)) (omega arith)) (omega arith) in
    record {
      low = omega (arith, z);
      is = ap (asking (i + size p)) (limited_in (suc (suc (suc k))) (look i p (suc (suc (suc k)))) le) ∙ ap (λ c. asking (i + size p) (look i p c)) (sym z);
    }

is-ordered : (b : Binary) (p q : Stmt) → is_sequence (kind_of (kind (two b p q))) ≡ true → b ≡ sequence
unfolding kind_of
is-ordered (present s) p q e = absurd (false≢true e)
is-ordered sequence p q e = refl
is-ordered parallel p q e = absurd (false≢true e)

tested-is : (i : ℕ) (b : Binary) (p q : Stmt) (code : ℕ) → looks_at_all (kind_of (kind (two b p q))) code ≡ false → is_sequence (kind_of (kind (two b p q))) ≡ false → look i (two b p q) code ≡ asking (i + (size p + size q)) (or_else (look i p code) (look (i + size p) q code))
unfolding kind_of
tested-is i (present s) p q code a e = refl
tested-is i sequence p q code a e = absurd (false≢true (sym e))
tested-is i parallel p q code a e = absurd (false≢true (sym a))

-- ---- the counts

passed-up : (n : ℕ) (x : Found) → passed_up (told_of x) ≡ told_of (asking n x)
passed-up n (found m ns) = ap (told m) (omega arith)

else_done : (n : ℕ) (x y : Found) {r : Asked} → r ≡ told_of x → r.answer ≡ true → passed_up r ≡ told_of (asking n (or_else x y))
else_done n (found true ns) y e z = ap passed_up e ∙ passed-up n (found true ns)
else_done n (found false ns) y e z = absurd (false≢true (sym (ap (λ a. a.answer) e) ∙ z))

else_asks_lem : (n : ℕ) (x y : Found) {r : Asked} → r ≡ told_of x → r.answer ≡ false → joined_of r (told_of y) ≡ told_of (asking n (or_else x y))
else_asks_lem n (found true ns) y e z = absurd (false≢true (sym z ∙ ap (λ a. a.answer) e))
else_asks_lem n (found false ns) (found b ms) e z = ap (λ c. joined_of c (told b (length ms))) e ∙ ap (told b) (omega (arith, length-append ns ms))

-- a sequence, by the test that the code makes
asks-by : (a : Codes) (k : ℕ) → asks_second a k ≡ not (without_ended a k || not (a 0))
asks-by a zero = go (a 0)
  where
    go : (b : Bool) → b ≡ not (false || not b)
    go true = refl
    go false = refl
asks-by a (suc k) = go (a 0) (a (suc k))
  where
    go : (b c : Bool) → (b && not c) ≡ not (c || not b)
    go true true = refl
    go true false = refl
    go false true = refl
    go false false = refl

then-done : (j i n : ℕ) (a : Codes) (k : ℕ) (y : Found) → (without_ended a k || not (a 0)) ≡ true → passed_up (told (without_ended a k) n) ≡ told_of (asking j (after (range i n) (and_then a k y)))
then-done j i n a k y e =
    ap (told (without_ended a k)) (omega (arith, length-range i n, length-append (range i n) []))
    ∙ passed-up j (after (range i n) (found (without_ended a k) []))
    ∙ ap (λ b. told_of (asking j (after (range i n) (cond b y (found (without_ended a k) []))))) (sym (asks-by a k ∙ ap not e))

then-asks : (j i n : ℕ) (a : Codes) (k : ℕ) (y : Found) → (without_ended a k || not (a 0)) ≡ false → joined_of (told (without_ended a k) n) (told_of y) ≡ told_of (asking j (after (range i n) (and_then a k y)))
then-asks j i n a k (found b ms) e =
    ap (λ c. joined_of (told c n) (told b (length ms))) (cannot_pass (without_ended a k) (λ z. false-not-true e (inl_true (without_ended a k) (not (a 0)) z)))
    ∙ ap (told b) (omega (arith, length-range i n, length-append (range i n) ms))
    ∙ ap (λ c. told_of (asking j (after (range i n) (cond c (found b ms) (found (without_ended a k) []))))) (sym (asks-by a k ∙ ap not e))

-- ---- at a node of an accepted table

module _ {t : List ℕ} (ok : Readable t) {i : ℕ} (h : i < size (program_of t)) where
  -- a subtree has at most all nodes
  size_few : size (stmt_at t i) ≤ max_nodes
  size_few = omega (arith, spans t i h, few-nodes t ok)

  pub looked-few : (k : ℕ) {r : Asked} → r ≡ look_at t i k → r.count ≤ max_nodes
  looked-few k e = omega (arith, ap (λ r. r.count) e, (look-fits (first_at t i) (stmt_at t i) k).most, size_few)

  pub own-few : {n : ℕ} → n ≡ size (stmt_at t i) → n ≤ max_nodes
  own-few e = omega (arith, size_few)

  -- its kind was read, and whether every node is looked at
  module _ {k : Kind} (ek : k ≡ kind_of (get_or t (2 * i) 0)) {code : ℕ} (low : code ≤ max_code) {all : Bool} (ea : all ≡ looks_at_all k code) where
    kind_of_lem : {w : Stmt} → stmt_at t i ≡ w → k ≡ kind_of (kind w)
    kind_of_lem e = sym (kind-is ok h ek refl e)

    by_all : {b : Bool} → all ≡ b → {w : Stmt} → stmt_at t i ≡ w → looks_at_all (kind_of (kind w)) code ≡ b
    by_all a e = ap (λ y. looks_at_all y code) (sym (kind_of_lem e)) ∙ sym ea ∙ a

    pub all_looks : all ≡ true → {set n : ℕ} {m : Bool} → set ≡ word (start_set (stmt_at t i)) → m ≡ (set ∋ code) → n ≡ size (stmt_at t i) → told m n ≡ look_at t i code
    all_looks a es em en =
        ap₂ told (em ∙ ap (λ y. y ∋ code) es ∙ ∋_word (start_set (stmt_at t i)) code (omega arith)) (en ∙ sym (length-range (first_at t i) (size (stmt_at t i))))
        ∙ sym (ap told_of (all-is (first_at t i) (stmt_at t i) code (by_all a refl)))

    module _ (a : all ≡ false) where
      has-child : arity_of k ≡ 0 → ⊥
      has-child z = false-not-true (sym ea ∙ a) (inl_true _ _ (inl_true (eqb (arity_of k) 0) _ (eq-eqb (arity_of k) 0 z)))

      pub after-child : 0 < i
      after-child = has_last ok h ek refl has-child

      module _ {n : ℕ} (en : n ≡ arity_of k) where
        -- one child
        module _ (z : n ≡ 1) {stop : Bool} (eq : stop ≡ stops_at k code) where
          abbrev Child : Unary → Stmt → Type 0
          Child u p = Over t i (size (stmt_at t (i - 1))) u p

          child : (u : Unary) × (p : Stmt) × Child u p
          child = one_of ok h ek en z

          look_one : {u : Unary} {p : Stmt} → Child u p → look_at t i code ≡ told_of (look (first_at t i) (one u p) code)
          look_one v = ap (λ w. told_of (look (first_at t i) w code)) v.is

          by-stop : {b : Bool} → stop ≡ b → {u : Unary} {p : Stmt} → Child u p → stops_at (kind_of (kind (one u p))) code ≡ b
          by-stop y v = ap (λ x. stops_at x code) (sym (kind_of_lem v.is)) ∙ sym eq ∙ y

          pub stop_looks : stop ≡ true → told false 1 ≡ look_at t i code
          stop_looks y =
              let (u, p, v) = child in
              sym (look_one v ∙ ap told_of (stop_is (first_at t i) u p code (by_all a v.is) (by-stop y v)))

          module _ (y : stop ≡ false) {next : ℕ} (ex : next ≡ passed_code k code) where
            passes : (u : Unary) (p : Stmt) → Child u p → PassedOn (first_at t i) u p code next
            passes u p v =
                let e : next ≡ passed_code (kind_of (kind (one u p))) code = ex ∙ ap (λ x. passed_code x code) (kind_of_lem v.is) in
                rw e (pass-is (first_at t i) u p code low (by_all a v.is) (by-stop y v))

            pub pass-low : next ≤ max_code
            pass-low = let (u, p, v) = child in (passes u p v).low

            pub pass_looks : {x w : Asked} → x ≡ look_at t (i - 1) next → w ≡ passed_up x → w ≡ look_at t i code
            pass_looks ei ew =
                let (u, p, v) = child in
                ew ∙ ap passed_up (ei ∙ ap₂ (λ j w. told_of (look j w next)) v.first v.child) ∙ passed-up (first_at t i + size p) (look (first_at t i) p next)
                ∙ sym (look_one v ∙ ap told_of (passes u p v).is)

        -- two children, of which the second has s nodes
        module _ (z : n ≡ 1 → ⊥) {s : ℕ} (es : s ≡ size (stmt_at t (i - 1))) where
          children : (b : Binary) × (p q : Stmt) × Both t i s b p q
          children = two_of_lem ok h ek en es (λ e. has-child (sym en ∙ e)) z

          pub first_below : s ≤ i - 1
          first_below = first_le ok h ek en es (λ e. has-child (sym en ∙ e)) z

          look-two : {b : Binary} {p q : Stmt} → Both t i s b p q → look_at t i code ≡ told_of (look (first_at t i) (two b p q) code)
          look-two v = ap (λ w. told_of (look (first_at t i) w code)) v.is

          look-right : {b : Binary} {p q : Stmt} → Both t i s b p q → look_at t (i - 1) code ≡ told_of (look (first_at t i + size p) q code)
          look-right v = ap₂ (λ j w. told_of (look j w code)) v.second v.right

          module _ {seq : Bool} (eq : seq ≡ is_sequence k) where
            by_kind : {x : Bool} → seq ≡ x → {b : Binary} {p q : Stmt} → Both t i s b p q → is_sequence (kind_of (kind (two b p q))) ≡ x
            by_kind y v = ap is_sequence (sym (kind_of_lem v.is)) ∙ sym eq ∙ y

            -- a sequence: the first's set and size, whether it has the code, above 0, and whether it has 0
            module _ (y : seq ≡ true) {set own ended : ℕ} {stays ends : Bool} (set_is : set ≡ word (start_set (stmt_at t (i - 1 - s)))) (own_is : own ≡ size (stmt_at t (i - 1 - s))) (ended_is : ended ≡ without_ended_of set) (stays-is : stays ≡ (ended ∋ code)) (ends_is : ends ≡ (set ∋ 0)) where
              ordered : (p q : Stmt) × Both t i s sequence p q
              ordered =
                  let (b, p, q, v) = children in
                  let e : b ≡ sequence = is-ordered b p q (by_kind y v) in
                  (p, q, rw e at v)

              module _ {p q : Stmt} (v : Both t i s sequence p q) where
                stays_as : stays ≡ without_ended (start_set p) code
                stays_as =
                    stays-is ∙ ap (λ x. x ∋ code) (ended_is ∙ ap without_ended_of (set_is ∙ ap (λ w. word (start_set w)) v.left) ∙ without-ended-word (start_set p))
                    ∙ ∋_word (without_ended (start_set p)) code (omega arith)

                ends_as : ends ≡ start_set p 0
                ends_as = ends_is ∙ ap (λ x. x ∋ 0) (set_is ∙ ap (λ w. word (start_set w)) v.left) ∙ ∋_word (start_set p) 0 (omega arith)

                own_as : own ≡ size p
                own_as = own_is ∙ ap size v.left

                asked_as : {x : Bool} → (stays || not ends) ≡ x → (without_ended (start_set p) code || not (start_set p 0)) ≡ x
                asked_as e = ap₂ (λ x y. x || not y) (sym stays_as) (sym ends_as) ∙ e

              pub first_settles : (stays || not ends) ≡ true → {w : Asked} → w ≡ passed_up (told stays own) → w ≡ look_at t i code
              first_settles done ew =
                  let (p, q, v) = ordered in
                  ew ∙ ap₂ (λ x n. passed_up (told x n)) (stays_as v) (own_as v)
                  ∙ then-done (first_at t i + (size p + size q)) (first_at t i) (size p) (start_set p) code (look (first_at t i + size p) q code) (asked_as v done) ∙ sym (look-two v)

              pub second-asked : (stays || not ends) ≡ false → {x w : Asked} → x ≡ look_at t (i - 1) code → w ≡ joined_of (told stays own) x → w ≡ look_at t i code
              second-asked asks ex ew =
                  let (p, q, v) = ordered in
                  ew ∙ ap (joined_of (told stays own)) (ex ∙ look-right v) ∙ ap₂ (λ x n. joined_of (told x n) (told_of (look (first_at t i + size p) q code))) (stays_as v) (own_as v)
                  ∙ then-asks (first_at t i + (size p + size q)) (first_at t i) (size p) (start_set p) code (look (first_at t i + size p) q code) (asked_as v asks) ∙ sym (look-two v)

            -- a present
            module _ (y : seq ≡ false) {r : Asked} (ex : r ≡ look_at t (i - 1 - s) code) where
              then_is : {b : Binary} {p q : Stmt} → Both t i s b p q → r ≡ told_of (look (first_at t i) p code)
              then_is v = ex ∙ ap₂ (λ j w. told_of (look j w code)) v.first v.left

              present-is : (b : Binary) (p q : Stmt) → Both t i s b p q → look_at t i code ≡ told_of (asking (first_at t i + (size p + size q)) (or_else (look (first_at t i) p code) (look (first_at t i + size p) q code)))
              present-is b p q v = look-two v ∙ ap told_of (tested-is (first_at t i) b p q code (by_all a v.is) (by_kind y v))

              pub then-has : r.answer ≡ true → {w : Asked} → w ≡ passed_up r → w ≡ look_at t i code
              then-has e ew =
                  let (b, p, q, v) = children in
                  ew ∙ else_done (first_at t i + (size p + size q)) (look (first_at t i) p code) (look (first_at t i + size p) q code) (then_is v) e ∙ sym (present-is b p q v)

              pub else_asked : r.answer ≡ false → {x w : Asked} → x ≡ look_at t (i - 1) code → w ≡ joined_of r x → w ≡ look_at t i code
              else_asked e ez ew =
                  let (b, p, q, v) = children in
                  ew ∙ ap (joined_of r) (ez ∙ look-right v)
                  ∙ else_asks_lem (first_at t i + (size p + size q)) (look (first_at t i) p code) (look (first_at t i + size p) q code) (then_is v) e ∙ sym (present-is b p q v)
