-- What each store does to the sheet.
use mathlib.Core.Path.{◌≡◌, refl, sym, ap, ◌∙◌}
use mathlib.Core.Bool.{Bool, true, false, cond, not, ◌||◌}
use mathlib.Core.List.{List, [], ◌∷◌, ◌++◌}
use Prim.Native.Nat.{ℕ, zero, suc, ◌+◌, ◌%◌, ◌≤◌, ◌<◌, ◌-◌}
use native.Mathlib.Omega.{arith}
use lib.Dec.{ltb}
use lib.ListN.{length, get_or, set, take, drop, length-set, length-append, length-drop, get_or-append}
use Rattle.std.specs.Prelude.{Option, Some, None}
use Rattle.std.specs.Option.{is_some, unwrap_or}
use Rattle.std.proofs.lemmas.List.{get_or-take, get_or-drop}
use lib.Seq.{length-take-le, get_or-set_same, get_or-set_other, get_or_at}
use borrow.Author.Tests.{ltb-true, ltb-false, lt-ltb, le-ltb}
use Rattle.grammar.specs.Tokens.{same_bytes}
use Rattle.grammar.specs.Tree.{Name}
use Rattle.grammar.specs.Names.{place, has, see}
use Rattle.grammar.specs.Progress as P
use Rattle.grammar.specs.Progress.{Progress, node, leave, blank}
use Rattle.grammar.specs.Limits.{max_source, max_levels}
use Rattle.grammar.proofs.Writing.{place_end}
use Rattle.scan.specs.declared.Part as S
use Rattle.sheet.specs.declared.Kept.{Kept}
use Rattle.sheet.specs.declared.Sheet.{Sheet}
use Rattle.sheet.specs.Sheet.{part, Part, name_at, InText, Entry, nowhere, Listed, FoundAs, Filled, Notes, Fresh, level_in}

pub place-most : (ns : List Name) (s : Name) → place ns s ≤ length ns
place-most [] s = omega arith
place-most (n ∷ ns) s = go (same_bytes n s) (place-most ns s)
  where
    go : (c : Bool) → place ns s ≤ length ns → cond c 0 (suc (place ns s)) ≤ suc (length ns)
    go true h = omega arith
    go false h = omega arith

-- a part of no letters
pub empty-bounds : (x : List ℕ) (e : ℕ) → e ≤ length x → Part x e e
empty-bounds x e h = record { order = omega arith; within = h }

pub empty-part : (x : List ℕ) (e : ℕ) → part x e e ≡ []
empty-part x e = let z : e - e ≡ 0 = omega arith in rw z

-- the field matters only while the signals are numbered
pub field-known : (x : List ℕ) (w : Sheet) (ts : List Name) (g : Progress) (k f f' : ℕ) → (length g.seen ≤ 256 → f ≡ f') → Filled x w ts (node k f g) → Filled x w ts (node k f' g)
field-known x w ts g k f f' e c = record {
  rooms = c.rooms;
  short = c.short;
  long = (length-append g.bytes (k ∷ f' ∷ []) ∙ sym (length-append g.bytes (k ∷ f ∷ []))) ∙ c.long;
  holds = λ q i a b. rw (← e q) (c.holds q i a b);
  counted = c.counted;
  many = c.many;
  names = c.names;
  lost = c.lost;
  traps = c.traps;
  few = c.few;
  around = c.around;
}

-- a signal's name
nth_end : (ns : List Name) (s : Name) (i : ℕ) → i < length ns + 1 → (Entry' : Name → Type 0) → (i < length ns → Entry' (get_or ns i [])) → (i ≡ length ns → Entry' s) → Entry' (get_or (ns ++ (s ∷ [])) i [])
nth_end ns s i h E f g = go (ltb i (length ns)) refl
  where
    go : (c : Bool) → ltb i (length ns) ≡ c → E (get_or (ns ++ (s ∷ [])) i [])
    go true e = let l : i < length ns = ltb-true i (length ns) e in rw (get_or-append ns (s ∷ []) [] i l) (f l)
    go false e =
        let l : length ns ≤ i = ltb-false i (length ns) e in
        let m : i ≡ length ns = omega arith in
        rw (get_or_at ns s [] [] i (sym m)) (g m)

-- names that are kept in a list are kept in one that agrees with it there
same-listed : (x : List ℕ) (ks ks' : List Kept) (ns : List Name) → ((i : ℕ) → i < length ns → get_or ks' i nowhere ≡ get_or ks i nowhere) → Listed x ks ns → Listed x ks' ns
same-listed x ks ks' ns f l = record { at = λ i h. rw (f i h) (l.at i h) }

front-listed : (x : List ℕ) (ks : List Kept) (n : ℕ) (ns : List Name) → length ns ≤ n → Listed x ks ns → Listed x (take n ks) ns
front-listed x ks n ns h l = same-listed x ks (take n ks) ns (λ i q. get_or-take n ks i nowhere (omega arith)) l

-- a place that is kept is the same place, if a text may have it
kept-entry : (x : List ℕ) (p : S.Part) (k : Kept) → length x ≤ max_source → k.start ≡ p.start % 65536 → k.stop ≡ p.stop % 65536 → InText x p → Entry x k (name_at x p)
kept-entry x p k short a e v =
    let b : k.start ≡ p.start = a ∙ omega (arith, v.order, v.within) in
    let c : k.stop ≡ p.stop = e ∙ omega (arith, v.within) in
    record { bounds = rw (b, c) v; is = rw (b, c) }

module _ (x : List ℕ) (p : S.Part) (w : Sheet) where
  abbrev s : Name
  s = name_at x p

  module _ (ts : List Name) (g : Progress) (v : InText x p) (c : Filled x w ts g) where
    -- no more than 256 signals, by the count
    few-signals : w.signal_count ≤ 256 → length g.seen ≤ 256
    few-signals h = go (ltb 256 (length g.seen)) refl
      where
        go : (d : Bool) → ltb 256 (length g.seen) ≡ d → length g.seen ≤ 256
        go true e = absurd (omega (arith, c.many (ltb-true 256 (length g.seen) e)))
        go false e = ltb-false 256 (length g.seen) e

    module _ (low : w.signal_count ≤ 256) where
      seen_few : length g.seen ≤ 256
      seen_few = few-signals low

      seen-count : length g.seen ≡ w.signal_count
      seen-count = sym (c.counted seen_few)

      front-count : length g.seen ≡ length (take w.signal_count w.signals)
      front-count = seen-count ∙ sym (length-take-le w.signal_count w.signals (omega (arith, c.rooms.signals)))

      front : Listed x (take w.signal_count w.signals) g.seen
      front = front-listed x w.signals w.signal_count g.seen (omega (arith, seen-count)) (c.names seen_few)

      known : {i : ℕ} → FoundAs x (take w.signal_count w.signals) p (Some i) → (i ≡ place g.seen s) × (i < length g.seen)
      known o = (o.1 g.seen v front front-count, rw front-count o.0)

      module _ (o : FoundAs x (take w.signal_count w.signals) p None) where
        new : see g.seen s ≡ g.seen ++ (s ∷ [])
        new = let e : has g.seen s ≡ false = le-ltb (place g.seen s) (length g.seen) (omega (arith, o g.seen v front front-count)) in rw e

        longer : length (g.seen ++ (s ∷ [])) ≡ w.signal_count + 1
        longer = omega (arith, length-append g.seen (s ∷ []), seen-count)

        note-last : w.signal_count ≡ 256 → Filled x (record w { signal_count = w.signal_count + 1 }) ts (P.note s g)
        note-last e = rw new record {
          rooms = record { table = c.rooms.table; signals = c.rooms.signals; traps = c.rooms.traps };
          short = c.short;
          long = c.long;
          holds = λ q. absurd (omega (arith, longer));
          counted = λ q. absurd (omega (arith, longer));
          many = λ q. omega arith;
          names = λ q. absurd (omega (arith, longer));
          lost = c.lost;
          traps = c.traps;
          few = c.few;
          around = c.around;
        }

        module _ (e : w.signal_count < 256) (k : Kept) (b : k.start ≡ p.start % 65536) (f : k.stop ≡ p.stop % 65536) where
          abbrev ks : List Kept
          ks = set w.signals w.signal_count k

          listed : Listed x ks (g.seen ++ (s ∷ []))
          listed = record {
            at = λ i q. nth_end g.seen s i (omega (arith, longer, seen-count)) (λ m. Entry x (get_or ks i nowhere) m)
                (λ l. rw (get_or-set_other w.signals w.signal_count i k nowhere (λ z. omega (arith, seen-count))) ((c.names seen_few).at i l))
                (λ l. let z : i ≡ w.signal_count = l ∙ seen-count in rw (z, get_or-set_same w.signals w.signal_count k nowhere (omega (arith, c.rooms.signals))) (kept-entry x p k c.short b f v));
          }

          note-new : Filled x (record w { signals = ks; signal_count = w.signal_count + 1 }) ts (P.note s g)
          note-new = rw new record {
            rooms = record { table = c.rooms.table; signals = length-set _ _ _ ∙ c.rooms.signals; traps = c.rooms.traps };
            short = c.short;
            long = c.long;
            holds = λ q i. c.holds seen_few i;
            counted = λ q. omega (arith, longer);
            many = λ q. absurd (omega (arith, longer));
            names = λ q. listed;
            lost = c.lost;
            traps = c.traps;
            few = c.few;
            around = c.around;
          }

        number-new : w.signal_count ≡ place (see g.seen s) s
        number-new = rw new (omega (arith, place_end g.seen s (omega (arith, o g.seen v front front-count)), seen-count))

  pub notes-known : {i : ℕ} → w.signal_count ≤ 256 → FoundAs x (take w.signal_count w.signals) p (Some i) → Notes x p w w i
  notes-known {i = i} low o = record {
    adds = λ v ts g c. rw (same ts g v c) c;
    number = λ ts g v c l. rw (same ts g v c) (omega (arith, (known ts g v c low o).0, (known ts g v c low o).1, seen_few ts g v c low));
  }
    where
      same : (ts : List Name) (g : Progress) → InText x p → Filled x w ts g → see g.seen s ≡ g.seen
      same ts g v c = let e : has g.seen s ≡ true = lt-ltb (place g.seen s) (length g.seen) (omega (arith, (known ts g v c low o).0, (known ts g v c low o).1)) in rw e

  pub notes-last : w.signal_count ≡ 256 → FoundAs x (take w.signal_count w.signals) p None → (r : ℕ) → Notes x p w (record w { signal_count = w.signal_count + 1 }) r
  notes-last e o r = record {
    adds = λ v ts g c. note-last ts g v c (omega arith) o e;
    number = λ ts g v c l. absurd (omega (arith, rw (new ts g v c (omega arith) o) at l, longer ts g v c (omega arith) o));
  }

  pub notes-new : w.signal_count < 256 → FoundAs x (take w.signal_count w.signals) p None → (k : Kept) → k.start ≡ p.start % 65536 → k.stop ≡ p.stop % 65536 → Notes x p w (record w { signals = set w.signals w.signal_count k; signal_count = w.signal_count + 1 }) w.signal_count
  notes-new e o k b f = record {
    adds = λ v ts g c. note-new ts g v c (omega arith) o e k b f;
    number = λ ts g v c l. number-new ts g v c (omega arith) o;
  }

-- a trap's name
module _ (x : List ℕ) (p : S.Part) (w : Sheet) (h : w.trap_count < max_levels) (k : Kept) (b : k.start ≡ p.start % 65536) (f : k.stop ≡ p.stop % 65536) (ts : List Name) (g : Progress) (v : InText x p) (c : Filled x w ts g) where
  abbrev m : ℕ
  m = max_levels - (w.trap_count + 1)

  abbrev es : List Kept
  es = drop (max_levels - suc (length ts)) (set w.traps m k)

  trap-entry : (i : ℕ) → i < length (name_at x p ∷ ts) → Entry x (get_or es i nowhere) (get_or (name_at x p ∷ ts) i [])
  trap-entry zero q =
      let z : max_levels - suc (length ts) + 0 ≡ m = omega (arith, c.traps) in
      rw (get_or-drop (max_levels - suc (length ts)) (set w.traps m k) 0 nowhere, z, get_or-set_same w.traps m k nowhere (omega (arith, c.rooms.traps))) (kept-entry x p k c.short b f v)
  trap-entry (suc i) q =
      let z : max_levels - suc (length ts) + suc i ≡ max_levels - length ts + i = omega (arith, c.traps) in
      rw (get_or-drop (max_levels - suc (length ts)) (set w.traps m k) (suc i) nowhere, z, get_or-set_other w.traps m (max_levels - length ts + i) k nowhere (λ z. omega (arith, c.traps)), ← get_or-drop (max_levels - length ts) w.traps i nowhere) (c.around.at i (omega arith))

  pub trap-entered : Filled x (record w { traps = set w.traps m k; trap_count = w.trap_count + 1 }) (name_at x p ∷ ts) g
  trap-entered = record {
    rooms = record { table = c.rooms.table; signals = c.rooms.signals; traps = length-set _ _ _ ∙ c.rooms.traps };
    short = c.short;
    long = c.long;
    holds = c.holds;
    counted = c.counted;
    many = c.many;
    names = c.names;
    lost = c.lost;
    traps = omega (arith, c.traps);
    few = omega (arith, c.traps);
    around = record { at = trap-entry };
  }

-- the nearest trap ends
module _ (x : List ℕ) (w : Sheet) (n : ℕ) (is : n ≡ w.trap_count - 1) (t : Name) (ts : List Name) (g : Progress) (c : Filled x w (t ∷ ts) g) where
  left-entry : (i : ℕ) → i < length ts → Entry x (get_or (drop (max_levels - length ts) w.traps) i nowhere) (get_or ts i [])
  left-entry i h =
      let z : max_levels - length ts + i ≡ max_levels - suc (length ts) + suc i = omega (arith, c.few) in
      rw (get_or-drop (max_levels - length ts) w.traps i nowhere, z, ← get_or-drop (max_levels - suc (length ts)) w.traps (suc i) nowhere) (c.around.at (suc i) (omega arith))

  pub trap-left : Filled x (record w { trap_count = n }) ts g
  trap-left = record {
    rooms = record { table = c.rooms.table; signals = c.rooms.signals; traps = c.rooms.traps };
    short = c.short;
    long = c.long;
    holds = c.holds;
    counted = c.counted;
    many = c.many;
    names = c.names;
    lost = c.lost;
    traps = omega (arith, c.traps);
    few = omega (arith, c.few);
    around = record { at = left-entry };
  }

-- an exit has no level exactly if it has no trap
pub unlevelled : (h b : Bool) (k : ℕ) {r : Option ℕ} → r ≡ cond h (Some k) None → is_some r ≡ not b → b ≡ not h
unlevelled true true k e i = let z : ◌≡◌ {A = Bool} true false = rw e at i in grind arith
unlevelled true false k e i = refl
unlevelled false true k e i = refl
unlevelled false false k e i = let z : ◌≡◌ {A = Bool} false true = rw e at i in grind arith

module _ (x : List ℕ) (w : Sheet) (ts : List Name) (n : Name) (g : Progress) (c : Filled x w ts g) {r : Option ℕ} (e : r ≡ level_in ts n) where
  pub exit-marked : (b : Bool) → is_some r ≡ not b → Filled x (record w { is_untrapped = w.is_untrapped || b }) ts (leave ts n g)
  exit-marked b i = record {
    rooms = record { table = c.rooms.table; signals = c.rooms.signals; traps = c.rooms.traps };
    short = c.short;
    long = c.long;
    holds = c.holds;
    counted = c.counted;
    many = c.many;
    names = c.names;
    lost = rw (c.lost, unlevelled (has ts n) b (place ts n) e i);
    traps = c.traps;
    few = c.few;
    around = c.around;
  }

  -- its level is the number of the traps around
  pub exit-level : (ks : List Kept) → ks ≡ drop (max_levels - w.trap_count) w.traps → unwrap_or r (length ks) ≡ place ts n
  exit-level ks k = go (has ts n) refl
    where
      all : length ks ≡ length ts
      all = ap length k ∙ omega (arith, length-drop (max_levels - w.trap_count) w.traps, c.rooms.traps, c.traps, c.few)

      go : (h : Bool) → has ts n ≡ h → unwrap_or r (length ks) ≡ place ts n
      go true h = rw (e, h)
      go false h = rw (e, h) (omega (arith, all, place-most ts n, ltb-false (place ts n) (length ts) h))

-- a sheet of nothing
pub fresh : (x : List ℕ) → length x ≤ max_source → (w : Sheet) → Fresh w → Filled x w [] blank
fresh x short w z = record {
  rooms = z.rooms;
  short = short;
  long = omega (arith, z.nodes);
  holds = λ q i a b. absurd (omega arith);
  counted = λ q. z.signals;
  many = λ q. absurd (omega arith);
  names = λ q. record { at = λ i h. absurd (omega arith) };
  lost = z.lost;
  traps = z.traps;
  few = omega arith;
  around = record { at = λ i h. absurd (omega arith) };
}
