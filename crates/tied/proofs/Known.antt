-- What is known of each node's own signal, from the last node to the first.
use mathlib.Core.Path.{◌≡◌, refl, sym, ap, subst, ◌∙◌}
use mathlib.Core.Bool.{Bool, true, false, ◌&&◌, cond}
use mathlib.Core.List.{List}
use Prim.Native.Nat.{ℕ, suc, ◌+◌, ◌-◌, ◌*◌, ◌≤◌, ◌<◌}
use native.Mathlib.Decide.{dec_le, dec_lt}
use native.Mathlib.Omega.{arith}
use borrow.Author.Tests.{eqb-true, eqb-false, le-leb, lt-leb, lt-ltb, le-ltb}
use lib.Dec.{eqb, leb, ltb}
use lib.ListN.{length, get_or, set, replicate, length-set, length-replicate, get_or-replicate}
use lib.Seq.{get_or-set_same, get_or-set_other}
use Rattle.esterel.specs.Limits.{max_nodes, signals}
use Rattle.esterel.specs.Statement.{nothing, pause, emit, exit, signal, suspend, loop, trap, present, sequence, parallel, Stmt, leaf, one, two, kind, field, size, nodes}
use Rattle.esterel.specs.Outcome.{statement_at}
use Rattle.esterel.proofs.Subtrees.{inside}
use Rattle.table.specs.Kinds.{kind_of, is_signal}
use Rattle.table.specs.Program.{program_of, Readable}
use Rattle.table.specs.Columns.{stmt_at}
use Rattle.table.specs.declared.Kind.{Kind}
use Rattle.table.proofs.Bytes.{kind_byte, field_byte}
use Rattle.table.proofs.Surveying.{few-nodes}
use Rattle.table.proofs.Views.{spans}
use Rattle.tied.specs.Ties.{Ties}
use Rattle.tied.specs.declared.Tie.{Tie}
use Rattle.tied.specs.declared.Tie.TheVariants.{Unknown}
use Rattle.tied.specs.Narrowed.{ties_at}
use Rattle.tied.specs.Theorems.{InBody}
use Rattle.tied.proofs.Theorems.{places}

-- a kind tells a signal statement
signal_of : (w : Stmt) → is_signal (kind_of (kind w)) ≡ true → (q : Stmt) × (w ≡ one (signal (field w)) q)
unfolding kind_of
signal_of (leaf nothing) z = (leaf nothing, cc)
signal_of (leaf pause) z = (leaf nothing, cc)
signal_of (leaf (emit s)) z = (leaf nothing, cc)
signal_of (leaf (exit level)) z = (leaf nothing, cc)
signal_of (one (signal s) q) z = (q, refl)
signal_of (one (suspend s) q) z = (leaf nothing, cc)
signal_of (one loop q) z = (leaf nothing, cc)
signal_of (one trap q) z = (leaf nothing, cc)
signal_of (two (present s) q r) z = (leaf nothing, cc)
signal_of (two sequence q r) z = (leaf nothing, cc)
signal_of (two parallel q r) z = (leaf nothing, cc)

is-signal : (w : Stmt) (s : ℕ) (q : Stmt) → w ≡ one (signal s) q → is_signal (kind_of (kind w)) ≡ true
unfolding kind_of
is-signal w s q e = ap (λ x. is_signal (kind_of (kind x))) e

-- low is the lowest node in the signal statements of s from node i on
pub record Lowest (p : Stmt) (s i low : ℕ) : Type 0 where
  pub within : (j : ℕ) → low ≤ j → j < i → InBody p s j
  pub all : (node : ℕ) (body : Stmt) → i ≤ node → statement_at (nodes p) node ≡ one (signal s) body → low ≤ node - size body

-- so that it tells whether node i stands in the body of one of them
tie_here : (c : Ties) (p : Stmt) (s i low : ℕ) → i < size p → Lowest p s (suc i) low → cond (leb low i) Unknown (c s) ≡ ties_at c p i s
tie_here c p s i low h o = go (dec_le low i)
  where
    go : Dec (low ≤ i) → cond (leb low i) Unknown (c s) ≡ ties_at c p i s
    go (yes l) = rw (le-leb low i l) (sym (places.in_body c p s i (o.within i l (omega arith))))
    go (no l) =
        rw (lt-leb low i (omega arith))
        (sym (places.elsewhere c p s i h (λ x. let y = o.all x.node x.body (omega (arith, x.before)) x.is_signal in omega (arith, x.before, x.after))))

-- one node more, which may be a signal statement of s: its first node is the lowest if it is below those so far
module _ (p : Stmt) (s i low first : ℕ) (o : Lowest p s (suc i) low) (ends : first + size (statement_at (nodes p) i) ≡ suc i) where
  -- it is none of s
  same_low : ((body : Stmt) → statement_at (nodes p) i ≡ one (signal s) body → ⊥) → Lowest p s i low
  same_low f = record { within = λ j l lt. o.within j l (omega arith); all = all }
    where
      all : (node : ℕ) (body : Stmt) → i ≤ node → statement_at (nodes p) node ≡ one (signal s) body → low ≤ node - size body
      all node body le e = go (dec_le node i)
        where
          go : Dec (node ≤ i) → low ≤ node - size body
          go (yes l) = let z : node ≡ i = omega arith in absurd (f body (ap (statement_at (nodes p)) (sym z) ∙ e))
          go (no l) = o.all node body (omega arith) e

  -- it is one of s
  next_low : (q : Stmt) → statement_at (nodes p) i ≡ one (signal s) q → (low' : ℕ) → low' ≤ low → low' ≤ first → ((j : ℕ) → low' ≤ j → j < first → low ≤ j) → Lowest p s i low'
  next_low q is low' below lowest rest = record { within = within; all = all }
    where
      sized : size (statement_at (nodes p) i) ≡ suc (size q)
      sized = ap size is

      within : (j : ℕ) → low' ≤ j → j < i → InBody p s j
      within j l lt = go (dec_le first j)
        where
          go : Dec (first ≤ j) → InBody p s j
          go (yes f) = record { node = i; body = q; is_signal = is; after = omega (arith, sized); before = lt }
          go (no f) = o.within j (rest j l (omega arith)) (omega arith)

      all : (node : ℕ) (body : Stmt) → i ≤ node → statement_at (nodes p) node ≡ one (signal s) body → low' ≤ node - size body
      all node body le e = go (dec_le node i)
        where
          go : Dec (node ≤ i) → low' ≤ node - size body
          go (yes l) =
              let z : node ≡ i = omega arith in
              let same : one (signal s) body ≡ one (signal s) q = sym e ∙ ap (statement_at (nodes p)) z ∙ is in
              let sizes : size (one (signal s) body) ≡ size (one (signal s) q) = ap size same in
              omega (arith, sized)
          go (no l) = let x = o.all node body (omega arith) e in omega arith

  -- one of any number
  lower : (k : Kind) (f : ℕ) → k ≡ kind_of (kind (statement_at (nodes p) i)) → f ≡ field (statement_at (nodes p) i) → s ≡ f → Lowest p s i (cond (is_signal k && ltb first low) first low)
  lower k f ek ef es = go (is_signal k) refl
    where
      is_one : (q : Stmt) → statement_at (nodes p) i ≡ one (signal s) q → Dec (first < low) → Lowest p s i (cond (ltb first low) first low)
      is_one q e (yes l) = rw (lt-ltb first low l) (next_low q e first (omega arith) (omega arith) (λ j x y. absurd (omega arith)))
      is_one q e (no l) = rw (le-ltb first low (omega arith)) (next_low q e low (omega arith) (omega arith) (λ j x y. x))

      go : (b : Bool) → is_signal k ≡ b → Lowest p s i (cond (b && ltb first low) first low)
      go true z =
          let (q, e) = signal_of (statement_at (nodes p) i) (ap is_signal (sym ek) ∙ z) in
          is_one q (e ∙ ap (λ x. one (signal x) q) (sym (es ∙ ef))) (dec_lt first low)
      go false z = same_low (λ q e. let x : true ≡ false = sym (is-signal (statement_at (nodes p) i) s q e) ∙ ap is_signal (sym ek) ∙ z in let y : ◌≡◌ {A = ℕ} 0 1 = cc in omega arith)

  keep : (f : ℕ) → f ≡ field (statement_at (nodes p) i) → (s ≡ f → ⊥) → Lowest p s i low
  keep f ef d = same_low (λ q e. d (sym (ap field e) ∙ sym ef))

-- from node i on, what is known of each node's own signal is in `known`, and the lowest nodes are in `lowest`
pub record Finding (c : Ties) (t : List ℕ) (room known : List Tie) (lowest : List ℕ) (i : ℕ) : Type 0 where
  pub bound : i ≤ size (program_of t)
  pub tied : (j : ℕ) → i ≤ j → j < size (program_of t) → get_or known j Unknown ≡ ties_at c (program_of t) j (field (stmt_at t j))
  pub lows : (s : ℕ) → s < signals → Lowest (program_of t) s i (get_or lowest s 0)
  pub same : length known ≡ length room
  pub long : length lowest ≡ signals

pub begin : (c : Ties) {t : List ℕ} (room : List Tie) {n : ℕ} → Readable t → n ≡ size (program_of t) → Finding c t room room (replicate signals max_nodes) n
begin c {t} room {n} ok nodes-are =
    let few = few-nodes t ok in
    record {
      bound = omega arith;
      tied = λ j lo hi. absurd (omega arith);
      lows = λ s h. rw (get_or-replicate signals s max_nodes 0 h) record { within = λ j lo hi. absurd (omega arith); all = λ node body le e. absurd (omega (arith, inside (program_of t) node _ e (λ z. let y : ◌≡◌ {A = ℕ} 0 1 = cc in omega arith))) };
      same = refl;
      long = length-replicate signals max_nodes;
    }

-- the next node is i - 1
module _ {c : Ties} {t lowest : List ℕ} {room known : List Tie} {i : ℕ} (ok : Readable t) (o : Finding c t room known lowest i) (some : 0 < i) where
  here : i - 1 < size (program_of t)
  here = omega (arith, o.bound)

  low-here : (s : ℕ) → s < signals → Lowest (program_of t) s (suc (i - 1)) (get_or lowest s 0)
  low-here s l = let e : i ≡ suc (i - 1) = omega arith in subst (λ n. Lowest (program_of t) s n (get_or lowest s 0)) e (o.lows s l)

  pub fits : size (stmt_at t (i - 1)) ≤ i - 1 + 1
  fits = omega (arith, spans t (i - 1) here)

  ends : i - 1 + 1 - size (stmt_at t (i - 1)) + size (stmt_at t (i - 1)) ≡ suc (i - 1)
  ends = omega (arith, fits)

  -- with its kind and its field, and what the code makes of them
  module _ {k : Kind} {f : ℕ} (ek : k ≡ kind_of (get_or t (2 * (i - 1)) 0)) (ef : f ≡ get_or t (2 * (i - 1) + 1) 0) (low : f < signals) {v : Tie} {v' : ℕ} (ev : v ≡ cond (leb (get_or lowest f 0) (i - 1)) Unknown (c f)) (ev' : v' ≡ cond (is_signal k && ltb (i - 1 + 1 - size (stmt_at t (i - 1))) (get_or lowest f 0)) (i - 1 + 1 - size (stmt_at t (i - 1))) (get_or lowest f 0)) where
    is-kind : k ≡ kind_of (kind (stmt_at t (i - 1)))
    is-kind = ek ∙ ap kind_of (kind_byte t ok (i - 1) here)

    is_field : f ≡ field (stmt_at t (i - 1))
    is_field = ef ∙ field_byte t ok (i - 1) here

    own : v ≡ ties_at c (program_of t) (i - 1) (field (stmt_at t (i - 1)))
    own = ev ∙ tie_here c (program_of t) f (i - 1) (get_or lowest f 0) here (low-here f low) ∙ ap (ties_at c (program_of t) (i - 1)) is_field

    tied : size (program_of t) ≤ length room → (j : ℕ) → i - 1 ≤ j → j < size (program_of t) → Dec (i ≤ j) → get_or (set known (i - 1) v) j Unknown ≡ ties_at c (program_of t) j (field (stmt_at t j))
    tied holds j lo hi (yes l) = get_or-set_other known (i - 1) j v Unknown (λ z. omega arith) ∙ o.tied j l hi
    tied holds j lo hi (no l) =
        let z : j ≡ i - 1 = omega arith in
        rw z (get_or-set_same known (i - 1) v Unknown (omega (arith, o.same, o.bound)) ∙ own)

    lows : (s : ℕ) → s < signals → (e : Bool) → eqb s f ≡ e → Lowest (program_of t) s (i - 1) (get_or (set lowest f v') s 0)
    lows s l true e =
        let z : s ≡ f = eqb-true s f e in
        let new : get_or (set lowest f v') s 0 ≡ cond (is_signal k && ltb (i - 1 + 1 - size (stmt_at t (i - 1))) (get_or lowest s 0)) (i - 1 + 1 - size (stmt_at t (i - 1))) (get_or lowest s 0) = rw z (get_or-set_same lowest f v' 0 (omega (arith, o.long)) ∙ ev') in
        rw new (lower (program_of t) s (i - 1) (get_or lowest s 0) (i - 1 + 1 - size (stmt_at t (i - 1))) (low-here s l) ends k f is-kind is_field z)
    lows s l false e =
        let d : s ≡ f → ⊥ = eqb-false s f e in
        rw (get_or-set_other lowest f s v' 0 d) (keep (program_of t) s (i - 1) (get_or lowest s 0) (i - 1 + 1 - size (stmt_at t (i - 1))) (low-here s l) ends f is_field d)

    pub finding-next : size (program_of t) ≤ length room → Finding c t room (set known (i - 1) v) (set lowest f v') (i - 1)
    finding-next holds =
        record {
          bound = omega (arith, o.bound);
          tied = λ j lo hi. tied holds j lo hi (dec_le i j);
          lows = λ s l. lows s l (eqb s f) refl;
          same = length-set known (i - 1) v ∙ o.same;
          long = length-set lowest f v' ∙ o.long;
        }
