-- The nodes that stand at two places of a trail are those of the request's words: over or dropped, and started again.
use mathlib.Core.Path.{◌≡◌, refl, sym, ap, ◌∙◌}
use mathlib.Core.List.{List, [], ◌∷◌, ◌++◌}
use Prim.Native.Nat.{ℕ, zero, suc, ◌+◌, ◌-◌, ◌≤◌, ◌<◌}
use native.Mathlib.Nat.{le_refl}
use native.Mathlib.Omega.{arith}
use Rattle.esterel.specs.Statement.{nothing, pause, emit, exit, signal, suspend, loop, trap, present, sequence, parallel, Stmt, leaf, one, two, size, nodes}
use Rattle.esterel.specs.Codes.{catch_code}
use Rattle.esterel.specs.Instant.{Mode, started, resumed, Entry, entry, start, resume, idle, holds, first, second}
use Rattle.esterel.specs.Outcome.{statement_at}
use Rattle.esterel.specs.Reentry.{AllBeneath, Dropped}
use Rattle.esterel.proofs.Every.{Every, none, also, every_map, every_left, every_right, every_join, every_first}
use Rattle.esterel.proofs.Nodes.{Sits}
use Rattle.esterel.proofs.Reentry.Seen.{node_of}
use Rattle.esterel.proofs.Reentry.Results.{leaves, asked, no_rule, same-leaves, enter-leaves, alone-leaves, skip_leaves, body-leaves, and_then-leaves, beside-leaves, again-leaves, cond-leaves}
use Rattle.esterel.proofs.Reentry.Tracks.{code_of, Tracked, trap_tracked, Revisits, revisits_join, never, revisits_none, revisits_one, Drops, drops-none, drops-one, drops-join, drops_same, entered-behind, catching_behind, Around, Clear, clear_none, clear-sits, around-none, around-wide, around-join, around-own}

abbrev pub Within : (n s : ℕ) → Entry → Type 0
Within n s e = (n ≤ node_of e) × (node_of e < n + s)

-- the first entry is the statement's own, that of its last node, in the mode m
pub record Began (m : Mode) (n s k : ℕ) (t : List Entry) : Type 0 where
  pub last : ℕ
  pub last_is : n + s ≡ suc last
  pub rest : List Entry
  pub is : t ≡ entry last m k ∷ rest

module _ (p₀ : Stmt) where
  -- what is beneath c, which has s nodes beneath it, from n on
  all-beneath : (n s : ℕ) {t : List Entry} → n + s < n + size (statement_at (nodes p₀) (n + s)) → Every (Within n s) t → AllBeneath p₀ (n + s) t
  all-beneath n s h none = tt
  all-beneath n s h (also {x = entry i m k} w c) = ((w.1, omega (arith, w.0)), all-beneath n s h c)

  clear_second : (p q : Stmt) (n : ℕ) → Sits (nodes p₀) (n + size p) q → Clear p₀ (n + size p) (n + (size p + size q))
  clear_second p q n w = let top : n + (size p + size q) ≡ n + size p + size q = omega arith in rw top (clear-sits p₀ q w)

  module _ (G : List Entry → Entry → List Entry → Type 0) (further : (x b : List Entry) (e : Entry) (m : List Entry) → G b e m → G (x ++ b) e m) where
    pub record Track (n s k : ℕ) (t : List Entry) : Type 0 where
      pub ranges : Every (Within n s) t
      pub around : Around p₀ (n + s) t
      pub drops : Drops p₀ (n + s) k t
      pub pairs : Revisits G t

    abbrev pub Full : Mode → (n s k : ℕ) → List Entry → Type 0
    Full m n s k t = Track n s k t × Began m n s k t

    below : (n s : ℕ) {t : List Entry} → Every (Within n s) t → Every (λ e. node_of e < n + s) t
    below n s c = every_map (λ e w. w.1) c

    wide : {n s n' s' k j : ℕ} {t : List Entry} → n' ≤ n → n + s ≤ n' + s' → Clear p₀ (n + s) (n' + s') → (j ≡ 0 → k ≡ 0) → Track n s k t → Track n' s' j t
    wide {n} {s} le up clear z o =
        record {
          ranges = every_map (λ e w. (omega (arith, w.0), omega (arith, w.1))) o.ranges;
          around = around-wide p₀ clear (below n s o.ranges) o.around;
          drops = drops_same p₀ up z o.drops;
          pairs = o.pairs;
        }

    join : {n s₁ s₂ k l j : ℕ} {t u : List Entry} → Clear p₀ (n + s₁) (n + s₁ + s₂) → (j ≡ 0 → (k ≡ 0) × (l ≡ 0)) → Track n s₁ k t → Track (n + s₁) s₂ l u → Track n (s₁ + s₂) j (t ++ u)
    join {n} {s₁} {s₂} {t = t} {u} clear z o w =
        let top : n + (s₁ + s₂) ≡ n + s₁ + s₂ = omega arith in
        record {
          ranges =
              every_join (every_map (λ e y. (y.0, omega (arith, y.1))) o.ranges) (every_map (λ e y. (omega (arith, y.0), omega (arith, y.1))) w.ranges);
          around = rw top (around-join p₀ (around-wide p₀ clear (below n s₁ o.ranges) o.around) w.around);
          drops = drops-join p₀ (omega arith) (omega arith) z o.drops w.drops;
          pairs = revisits_join G further o.pairs w.pairs (never G {P = Within n s₁} {Q = Within (n + s₁) s₂} (λ e e' y y' q. omega (arith, y.1, y'.0)) o.ranges w.ranges);
        }

    -- the statement's own entry
    own_with : {n s k : ℕ} (m : Mode) {t : List Entry} → Every (Within n s) t → Around p₀ (n + s) t → Revisits G t → Drops p₀ (n + suc s) k (entry (n + s) m k ∷ t) → Full m n (suc s) k (entry (n + s) m k ∷ t)
    own_with {n} {s} {k} m {t} c y f d = (
      record {
        ranges = also {x = entry (n + s) m k} (omega arith, omega arith) (every_map (λ e y. (y.0, omega (arith, y.1))) c);
        around = let top : n + suc s ≡ suc (n + s) = omega arith in rw top (around-own p₀ m k y);
        drops = d;
        pairs = revisits_join G further (revisits_one G (entry (n + s) m k)) f
            (never G {P = λ e. node_of e ≡ n + s} {Q = Within n s} (λ e e' y y' q. omega (arith, y'.1)) (also refl none) c);
      },
      record { last = n + s; last_is = omega arith; rest = t; is = refl },
    )

    own : {n s k : ℕ} (m : Mode) {t : List Entry} → Track n s k t → Full m n (suc s) k (entry (n + s) m k ∷ t)
    own {n} {s} {k} m {t} o =
        own_with m o.ranges o.around o.pairs
        (drops-join p₀ {top₁ = n + suc s} {k = k} (le_refl (n + suc s)) (omega arith) (λ e. (e, e)) (drops-one p₀ (n + s) m k) o.drops)

    leaf_track : (n : ℕ) (m : Mode) (k : ℕ) → Full m n 1 k (entry n m k ∷ [])
    leaf_track n m k = (
      record {
        ranges = also {x = entry n m k} (omega arith, omega arith) none;
        around = let top : n + 1 ≡ suc n = omega arith in rw top (around-own p₀ m k (around-none p₀ {top = n}));
        drops = drops-one p₀ n m k;
        pairs = revisits_one G (entry n m k);
      },
      record { last = n; last_is = omega arith; rest = []; is = refl },
    )

    -- a trap that catches
    module _ {n s : ℕ} (q : Stmt) (m : Mode) {t : List Entry} (is-trap : statement_at (nodes p₀) (n + s) ≡ one trap q) (long : size q ≡ s) (o : Full m n s 2 t) where
      caught-drops : Drops p₀ (n + suc s) 0 (entry (n + s) m 0 ∷ t)
      caught-drops [] e a z c k0 =
          let w : e ≡ entry (n + s) m 0 = cc in
          let y : ◌≡◌ {A = ℕ} 0 1 = sym (ap code_of w) ∙ c in
          absurd (omega arith)
      caught-drops (x ∷ []) e a z c k0 =
          let y : t ≡ e ∷ a = cc in
          let began = o.1.is in
          let w : e ≡ entry o.1.last m 2 = cc in
          let v : ◌≡◌ {A = ℕ} 2 1 = sym (ap code_of w) ∙ c in
          absurd (omega arith)
      caught-drops (x ∷ (y ∷ b)) e a z c k0 =
          let top : x ≡ entry (n + s) m 0 = cc in
          let child : t ≡ (y ∷ b) ++ (e ∷ a) = cc in
          let began = o.1.is in
          let second : y ≡ entry o.1.last m 2 = cc in
          let tail : o.1.rest ≡ b ++ (e ∷ a) = cc in
          let inside : Every (Within n s) (b ++ (e ∷ a)) = rw tail at (every_right (entry o.1.last m 2 ∷ []) o.1.rest (rw began at o.0.ranges)) in
          let here : Within n s e = every_first (every_right b (e ∷ a) inside) in
          let full : size (statement_at (nodes p₀) (n + s)) ≡ suc s = rw (is-trap, long) refl in
          let before : o.1.last ≡ n + s - 1 = omega (arith, o.1.last_is) in
          record {
            caught = record {
              catcher = n + s;
              is_trap = rw is-trap refl;
              around = (here.1, omega (arith, here.0));
              mode = m;
              earlier = [];
              since = b;
              catches = rw (top, second, before) refl;
              inside = all-beneath n s (omega arith) (every_left b (e ∷ a) inside);
            };
            low = omega arith;
          }

    trap-own : {n s : ℕ} (q : Stmt) (m : Mode) → statement_at (nodes p₀) (n + s) ≡ one trap q → size q ≡ s → (k : ℕ) (t : List Entry) → Full m n s k t → Full m n (suc s) (catch_code k) (entry (n + s) m (catch_code k) ∷ t)
    trap-own {n} {s} q m e z zero t o = own m o.0
    trap-own {n} {s} q m e z (suc zero) t o = own m o.0
    trap-own {n} {s} q m e z (suc (suc zero)) t o = own_with m o.0.ranges o.0.around o.0.pairs (caught-drops q m e z o)
    trap-own {n} {s} q m e z (suc (suc (suc k))) t o = own m (wide (le_refl n) (le_refl (n + s)) (clear_none p₀ (le_refl (n + s))) (λ j. absurd (omega arith)) o.0)

    pub start_track : (p : Stmt) (n : ℕ) (ans : List ℕ) → Sits (nodes p₀) n p → Tracked (Full started n (size p)) (start n p ans)
    start_track (leaf nothing) n ans w = leaves 0 _ _ ans (leaf_track n started 0)
    start_track (leaf pause) n ans w = leaves 1 _ _ ans (leaf_track n started 1)
    start_track (leaf (exit level)) n ans w = leaves (2 + level) _ _ ans (leaf_track n started (2 + level))
    start_track (leaf (emit s)) n ans w = leaves 0 _ _ ans (leaf_track n started 0)
    start_track (two sequence p q) n ans w =
        enter-leaves (n + (size p + size q)) started (λ k t _ o. own started o)
        (and_then-leaves (size q) (λ k t _ o. wide (le_refl n) (omega arith) (clear_second p q n w.1) (λ e. e) o.0) (λ l t u _ _ o v. join (clear-sits p₀ q w.1) (λ e. (refl, e)) o.0 v.0)
        (start_track p n ans w.0) (λ r. start_track q (n + size p) r w.1))
    start_track (two (present s) p q) n [] w = asked
    start_track (two (present s) p q) n (suc a ∷ ans) w =
        enter-leaves (n + (size p + size q)) started (λ k t _ o. own started o)
        (alone-leaves (size q) (λ k t _ o. wide (le_refl n) (omega arith) (clear_second p q n w.1) (λ e. e) o.0) (start_track p n ans w.0))
    start_track (two (present s) p q) n (zero ∷ ans) w =
        enter-leaves (n + (size p + size q)) started (λ k t _ o. own started o)
        (skip_leaves (size p) (λ k t _ o. wide (omega arith) (omega arith) (clear_none p₀ (omega arith)) (λ e. e) o.0) (start_track q (n + size p) ans w.1))
    start_track (one trap p) n ans w = trap_tracked (n + size p) started (trap-own p started w.1 refl) (start_track p n ans w.0)
    start_track (two parallel p q) n ans w =
        enter-leaves (n + (size p + size q)) started (λ k t _ o. own started o)
        (beside-leaves (λ k l t u _ _ o v. join (clear-sits p₀ q w.1) (λ e. (omega arith, omega arith)) o.0 v.0) (start_track p n ans w.0) (λ r. start_track q (n + size p) r w.1))
    start_track (one loop p) n ans w =
        enter-leaves (n + size p) started (λ k t _ o. own started o) (body-leaves (λ k t _ o. o.0) (start_track p n ans w.0))
    start_track (one (signal s) p) n ans w = enter-leaves (n + size p) started (λ k t _ o. own started o.0) (start_track p n ans w.0)
    start_track (one (suspend s) p) n ans w = enter-leaves (n + size p) started (λ k t _ o. own started o.0) (start_track p n ans w.0)

  -- the request's words of an entry that is followed by another of its node
  abbrev pub Gone : List Entry → Entry → List Entry → Type 0
  Gone b e m = code_of e ≡ 1 → Dropped p₀ (node_of e) b m

  pub gone-further : (x b : List Entry) (e : Entry) (m : List Entry) → Gone b e m → Gone (x ++ b) e m
  gone-further x b e m f c =
      let d = f c in
      record { caught = catching_behind p₀ x d.caught; over = d.over }

  abbrev pub Goes : Mode → (n s k : ℕ) → List Entry → Type 0
  Goes m n s k t = Track Gone gone-further n s k t × Began m n s k t

  -- a resumed body that ended, and the body started once more
  module _ {n s l : ℕ} {t u : List Entry} (o : Goes resumed n s 0 t) (v : Goes started n s (suc l) u) where
    across : (b : List Entry) (e : Entry) (r m : List Entry) (e' : Entry) (a : List Entry) → t ≡ b ++ (e ∷ r) → u ≡ m ++ (e' ∷ a) → node_of e ≡ node_of e' → Gone b e (r ++ m)
    across b e r m e' a y z q c =
        let d = o.0.drops b e r y c refl in
        record { caught = d.caught; over = entered-behind r (v.0.around m e' a z d.caught.catcher d.low (rw (← q) d.caught.around)) }

    again_track : Track Gone gone-further n s (suc l) (t ++ u)
    again_track =
        record {
          ranges = every_join o.0.ranges v.0.ranges;
          around = around-join p₀ o.0.around v.0.around;
          drops = λ b e a y c k0. absurd (omega arith);
          pairs = revisits_join Gone gone-further o.0.pairs v.0.pairs across;
        }

  -- a parallel's child that has ended
  idle_track : (n s : ℕ) (ans : List ℕ) → Tracked (Track Gone gone-further n s) (idle s ans)
  idle_track n s ans = leaves 0 [] _ ans record { ranges = none; around = around-none p₀; drops = drops-none p₀; pairs = revisits_none Gone }

  pub resume_track : (p : Stmt) (n : ℕ) (held ans : List ℕ) → Sits (nodes p₀) n p → Tracked (Goes resumed n (size p)) (resume n p held ans)
  resume_track (leaf nothing) n held ans w = no_rule
  resume_track (leaf pause) n held ans w = leaves 0 _ _ ans (leaf_track Gone gone-further n resumed 0)
  resume_track (leaf (exit level)) n held ans w = no_rule
  resume_track (leaf (emit s)) n held ans w = no_rule
  resume_track (two sequence p q) n held ans w =
      enter-leaves (n + (size p + size q)) resumed (λ k t _ o. own Gone gone-further resumed o)
      (cond-leaves (holds (first p held))
      (λ _. and_then-leaves (size q) (λ k t _ o. wide Gone gone-further (le_refl n) (omega arith) (clear_second p q n w.1) (λ e. e) o.0) (λ l t u _ _ o v. join Gone gone-further (clear-sits p₀ q w.1) (λ e. (refl, e)) o.0 v.0)
      (resume_track p n (first p held) ans w.0) (λ r. start_track Gone gone-further q (n + size p) r w.1))
      (λ _. skip_leaves (size p) (λ k t _ o. wide Gone gone-further (omega arith) (omega arith) (clear_none p₀ (omega arith)) (λ e. e) o.0) (resume_track q (n + size p) (second p q held) ans w.1)))
  resume_track (two (present s) p q) n held ans w =
      enter-leaves (n + (size p + size q)) resumed (λ k t _ o. own Gone gone-further resumed o)
      (cond-leaves (holds (first p held))
      (λ _. alone-leaves (size q) (λ k t _ o. wide Gone gone-further (le_refl n) (omega arith) (clear_second p q n w.1) (λ e. e) o.0) (resume_track p n (first p held) ans w.0))
      (λ _. skip_leaves (size p) (λ k t _ o. wide Gone gone-further (omega arith) (omega arith) (clear_none p₀ (omega arith)) (λ e. e) o.0) (resume_track q (n + size p) (second p q held) ans w.1)))
  resume_track (one trap p) n held ans w =
      trap_tracked (n + size p) resumed (trap-own Gone gone-further p resumed w.1 refl) (resume_track p n (first p held) ans w.0)
  resume_track (two parallel p q) n held ans w =
      enter-leaves (n + (size p + size q)) resumed (λ k t _ o. own Gone gone-further resumed o)
      (beside-leaves (λ k l t u _ _ o v. join Gone gone-further (clear-sits p₀ q w.1) (λ e. (omega arith, omega arith)) o v)
      (cond-leaves (holds (first p held)) (λ _. same-leaves (λ k t _ o. o.0) (resume_track p n (first p held) ans w.0)) (λ _. idle_track n (size p) ans))
      (λ r. cond-leaves (holds (second p q held)) (λ _. same-leaves (λ k t _ o. o.0) (resume_track q (n + size p) (second p q held) r w.1)) (λ _. idle_track (n + size p) (size q) r)))
  resume_track (one loop p) n held ans w =
      enter-leaves (n + size p) resumed (λ k t _ o. own Gone gone-further resumed o)
      (again-leaves (λ k t _ o. o.0) (λ l t u _ _ o v. again_track o v) (resume_track p n (first p held) ans w.0) (λ r. start_track Gone gone-further p n r w.0))
  resume_track (one (signal s) p) n held ans w =
      enter-leaves (n + size p) resumed (λ k t _ o. own Gone gone-further resumed o.0) (resume_track p n (first p held) ans w.0)
  resume_track (one (suspend s) p) n held [] w = asked
  resume_track (one (suspend s) p) n held (suc a ∷ ans) w =
      leaves 1 (entry (n + size p) resumed 1 ∷ []) held ans (own Gone gone-further resumed record { ranges = none; around = around-none p₀; drops = drops-none p₀; pairs = revisits_none Gone })
  resume_track (one (suspend s) p) n held (zero ∷ ans) w =
      enter-leaves (n + size p) resumed (λ k t _ o. own Gone gone-further resumed o.0) (resume_track p n (first p held) ans w.0)
