-- The theorems of specs/Theorems.antt but `Files`, `Damage` and `RoundTrip`.
use mathlib.Core.Path.{◌≡◌, refl, sym, ap, ◌∙◌}
use mathlib.Core.Logic.{◌↔◌, ◌⊎◌, inl, inr, ⊎_elim}
use mathlib.Core.Bool.{Bool, true, false, ◌||◌, cond}
use mathlib.Core.Option.{Option, none, some}
use mathlib.Core.List.{List, [], ◌∷◌, foldl, ◌++◌}
use Prim.Native.Nat.{ℕ, ◌+◌, ◌≤◌, ◌<◌}
use native.Mathlib.Nat.{mod-add-mod, mod-lt, mod-eq_of_lt, add-zero}
use native.Mathlib.Decide.{dec_lt}
use native.Mathlib.Omega.{arith}
use borrow.Author.Tests.{eqb-true, eq-eqb, le-leb, leb-true, ltb-true, ltb-false}
use lib.Dec.{eqb, leb, ltb}
use lib.ListN.{length, take, drop}
use Rattle.codes.proofs.Bools.{both, left, right, either, inl_true, inr_true, cannot_pass, false-not-true}
use Rattle.blocks.specs.Block.{content_at, content_size, Bytes, used_in, reduced, sum, first_check, running_from, second_check}
use Rattle.blocks.specs.Editions.{file_fits, blocks_in, block_at, counted, length_of, content_of, named_by, parts_of, completes, whole, newest, joined, table_of, all_below}
use Rattle.blocks.specs.Fetching.{handed, Locating, max_table, Outcome, fetched, refused, check_edition, outcome, content, fetched_as, answer_of, Fetching}
use Rattle.blocks.proofs.Fetches.{refusing, finding, short-room, bad_file_lem, good_file, too_long, fitting}
use Rattle.blocks.specs.declared.Span.{Span}
use Rattle.blocks.specs.declared.Fetched.{Fetched}
use Rattle.std.specs.Prelude.{Result}
use Rattle.esterel.specs.Refusal.{number_of, Reply, yields, rejects, reply}
use Rattle.esterel.specs.declared.Refusal.{Refusal}
use Rattle.esterel.proofs.Replies.{reply-once}
use Rattle.blocks.specs.Theorems.{add_byte, CheckBytes, GoodBlock, Complete, Superseding, Wrote, Reason, short_buffer, bad_file, no_edition, long_table, OfFetch, OfPart}
use Rattle.blocks.proofs.Last.{last_some, last_none, all-holds, holds-all}
use Rattle.blocks.proofs.Finding.{counts}
use Rattle.blocks.proofs.Counted.{good-counts, counts-good, Counts, missing, block, counted_view, counted-good, content-length}
use Rattle.blocks.proofs.Good.{good-is}
use Rattle.blocks.proofs.Joining.{joined_same}
use Rattle.blocks.proofs.Blocks.{block-below, content_in, whole_blocks}
use Rattle.blocks.proofs.Choosing.{led, whole_below}

-- ---- the check bytes as a fold

-- from sums that are reduced
fold-from : (a b : ℕ) (xs : List ℕ) → a < 255 → b < 255 → foldl add_byte (a, b) xs ≡ (reduced (a + sum xs), reduced (b + sum (running_from a xs)))
fold-from a b [] h l =
    let first : a ≡ reduced (a + 0) = sym (ap reduced (add-zero a) ∙ mod-eq_of_lt h) in
    let second : b ≡ reduced (b + 0) = sym (ap reduced (add-zero b) ∙ mod-eq_of_lt l) in
    ap (λ n. (n, b)) first ∙ ap (λ n. (reduced (a + 0), n)) second
fold-from a b (x ∷ xs) h l =
    let v = reduced (a + x) in
    let first : reduced (v + sum xs) ≡ reduced (a + (x + sum xs)) = mod-add-mod (a + x) 255 (sum xs) ∙ ap reduced {x = a + x + sum xs} {y = a + (x + sum xs)} (omega arith) in
    let rest = sum (running_from v xs) in
    let second : reduced (reduced (b + v) + rest) ≡ reduced (b + (v + rest)) = mod-add-mod (b + v) 255 rest ∙ ap reduced {x = b + v + rest} {y = b + (v + rest)} (omega arith) in
    fold-from v (reduced (b + v)) xs (mod-lt (a + x) (omega arith)) (mod-lt (b + v) (omega arith))
    ∙ ap (λ n. (n, reduced (reduced (b + v) + rest))) first
    ∙ ap (λ n. (reduced (a + (x + sum xs)), n)) second

pub check-bytes : CheckBytes
unfolding first_check second_check
check-bytes =
    record {
      fold =
          λ xs.
          let first : 0 + sum xs ≡ sum xs = omega arith in
          let second : 0 + sum (running_from 0 xs) ≡ sum (running_from 0 xs) = omega arith in
          fold-from 0 0 xs (omega arith) (omega arith)
          ∙ ap (λ n. (reduced n, reduced (0 + sum (running_from 0 xs)))) first
          ∙ ap (λ n. (reduced (sum xs), reduced n)) second;
    }

-- ---- the block that counts

module _ (file : List ℕ) (p e k : ℕ) where
  pub latest-is : (i : ℕ) → (counted file p e k ≡ some i) ↔ (GoodBlock file p e k i × ((j : ℕ) → GoodBlock file p e k j → j ≤ i))
  unfolding counted
  latest-is i =
      let (there, back) = last_some (counts file p e k) (blocks_in file) i in (
        λ q. let (h, t, last) = there q in (counts-good i h t, λ j g. last j (block-below file j g.within) (good-counts g)),
        λ (g, last). back (block-below file i g.within, good-counts g, λ j h t. last j (counts-good j h t)),
      )

  missing-is : (counted file p e k ≡ none) ↔ ((i : ℕ) → GoodBlock file p e k i → ⊥)
  unfolding counted
  missing-is =
      let (there, back) = last_none (counts file p e k) (blocks_in file) in
      (λ q i g. there q i (block-below file i g.within) (good-counts g), λ h. back (λ j l t. h j (counts-good j l t)))

-- ---- whole editions

module _ (file : List ℕ) (p e : ℕ) where
  complete_of : (m k : ℕ) → 1 ≤ m → completes file p e m k ≡ true → Complete file p e m k
  unfolding completes
  complete_of m k l t =
      let named = left (eqb (named_by file (counted file p e k)) m) (leb m (k + 1) || eqb (length_of file (counted file p e k)) content_size) t in
      go (counted file p e k) refl (eqb-true _ _ named) (right (eqb (named_by file (counted file p e k)) m) t)
    where
      go : (o : Option ℕ) → counted file p e k ≡ o → named_by file o ≡ m → (leb m (k + 1) || eqb (length_of file o) content_size) ≡ true → Complete file p e m k
      go none q n u = absurd (omega arith)
      go (some i) q n u =
          record {
            block = i;
            counts = q;
            names = n;
            full =
                λ h. ⊎_elim (λ x. absurd (let low = leb-true m (k + 1) x in omega arith)) (λ x. eqb-true _ _ x)
                (either (leb m (k + 1)) (eqb (used_in (block_at file i)) content_size) u);
          }

  of_complete : (m k : ℕ) → Complete file p e m k → completes file p e m k ≡ true
  unfolding completes
  of_complete m k c =
      both (eq-eqb _ _ (ap (named_by file) c.counts ∙ c.names)) (go (dec_lt (k + 1) m))
    where
      go : Dec (k + 1 < m) → (leb m (k + 1) || eqb (length_of file (counted file p e k)) content_size) ≡ true
      go (yes l) = inr_true (leb m (k + 1)) _ (eq-eqb _ _ (ap (length_of file) c.counts ∙ c.full l))
      go (no l) = inl_true _ (eqb (length_of file (counted file p e k)) content_size) (le-leb m (k + 1) (omega arith))

  pub parts-named : (m : ℕ) → Complete file p e m 0 → m ≡ parts_of file p e
  unfolding parts_of
  parts-named m c = sym (ap (named_by file) c.counts ∙ c.names)

  pub whole_is_lem : (whole file p e ≡ true) ↔ ((m : ℕ) × (1 ≤ m) × ((k : ℕ) → k < m → Complete file p e m k))
  unfolding whole
  whole_is_lem = (
    λ w.
        let m = parts_of file p e in
        let some-parts : 1 ≤ m = leb-true 1 m (left (leb 1 m) (all_below (completes file p e m) m) w) in
        (m, some-parts, λ k l. complete_of m k some-parts (all-holds (completes file p e m) m k l (right (leb 1 m) w))),
    λ (m, l, h).
        let named : m ≡ parts_of file p e = parts-named m (h 0 l) in
        rw (← named) (both (le-leb 1 m l) (holds-all (completes file p e m) m (λ k b. of_complete m k (h k b)))),
  )

module _ (file : List ℕ) (p : ℕ) (bytes : Bytes file) where
  highest-is : (e : ℕ) → (newest file p ≡ some e) ↔ ((whole file p e ≡ true) × ((d : ℕ) → whole file p d ≡ true → d ≤ e))
  unfolding newest
  highest-is e =
      let (there, back) = last_some (whole file p) 65536 e in
      (λ q. let (b, w, h) = there q in (w, λ d v. h d (whole_below file p bytes d v) v), λ (w, h). back (whole_below file p bytes e w, w, λ d b v. h d v))

  none_is : (newest file p ≡ none) ↔ ((e : ℕ) → whole file p e ≡ false)
  unfolding newest
  none_is =
      let (there, back) = last_none (whole file p) 65536 in
      (λ q e. cannot_pass _ (λ w. there q e (whole_below file p bytes e w) w), λ h. back (λ e b w. false-not-true (h e) w))

pub superseding : Superseding
superseding =
    record {
      latest = latest-is;
      missing = missing-is;
      whole_is = whole_is_lem;
      highest = λ file p e bytes. highest-is file p bytes e;
      none_whole = none_is;
    }

-- ---- the calls

-- an outcome, and why it is this one
data View (room : ℕ) (file : List ℕ) (p : ℕ) : Outcome → Type 0 where
  finds : (e : ℕ) → max_table ≤ room → file_fits file ≡ true → newest file p ≡ some e → length (table_of file p e) ≤ max_table → View room file p (fetched e (parts_of file p e) (table_of file p e))
  refuses : (number : ℕ) → Reason room file p number → View room file p (refused number)

outcome_view : (room : ℕ) (file : List ℕ) (p : ℕ) → View room file p (outcome room file p)
unfolding outcome
outcome_view room file p = by-room (ltb room max_table) refl
  where
    by_length : (e : ℕ) → max_table ≤ room → file_fits file ≡ true → newest file p ≡ some e → (b : Bool) → ltb max_table (length (table_of file p e)) ≡ b → View room file p (cond b (refused 1) (fetched e (parts_of file p e) (table_of file p e)))
    by_length e r f w true t = refuses 1 (long_table e r f w (ltb-true _ _ t))
    by_length e r f w false t = finds e r f w (ltb-false _ _ t)

    by-edition : max_table ≤ room → file_fits file ≡ true → (o : Option ℕ) → newest file p ≡ o → View room file p (check_edition file p o)
    by-edition r f none w = refuses 18 (no_edition r f w)
    by-edition r f (some e) w = by_length e r f w (ltb max_table (length (table_of file p e))) refl

    by_file : max_table ≤ room → (b : Bool) → file_fits file ≡ b → View room file p (cond b (check_edition file p (newest file p)) (refused 17))
    by_file r true f = by-edition r f (newest file p) refl
    by_file r false f = refuses 17 (bad_file r f)

    by-room : (b : Bool) → ltb room max_table ≡ b → View room file p (cond b (refused 3) (cond (file_fits file) (check_edition file p (newest file p)) (refused 17)))
    by-room true t = refuses 3 (short_buffer (ltb-true _ _ t))
    by-room false t = by_file (ltb-false _ _ t) (file_fits file) refl

module _ {file : List ℕ} {p : ℕ} {old new : List ℕ} where
  done_of : {o : Outcome} (n e m : ℕ) → View (length old) file p o → yields (fetched_as n e m) ≡ answer_of o → new ≡ content o old → Wrote file p old new n e m
  unfolding answer_of content
  done_of n e m (finds d r f w s) a t =
      let told : fetched_as n e m ≡ fetched_as (length (table_of file p d)) d (parts_of file p d) = cc in
      let same : d ≡ e = ap (λ (x : Fetched). x.edition) (sym told) in
      let long : n ≡ length (table_of file p d) = ap (λ (x : Fetched). x.length) told in
      let parts : m ≡ parts_of file p d = ap (λ (x : Fetched). x.parts) told in
      rw (← same) (
      record {
        room = r;
        fits = f;
        edition = w;
        parts = parts;
        long = long;
        short = rw long s;
        table = rw long t;
      }
      )
  done_of n e m (refuses number x) a t = absurd (let z : ◌≡◌ {A = ℕ} 0 1 = cc in omega arith)

  refused_of : {o : Outcome} (number node : ℕ) → View (length old) file p o → ◌≡◌ {A = Reply Fetched} (rejects number node) (answer_of o) → new ≡ content o old → (new ≡ old) × (node ≡ 0) × Reason (length old) file p number
  unfolding answer_of content
  refused_of number node (finds d r f w s) a t = absurd (let z : ◌≡◌ {A = ℕ} 0 1 = cc in omega arith)
  refused_of number node (refuses n x) a t =
      let same : number ≡ n = cc in
      let none_named : node ≡ 0 = cc in
      (t, none_named, rw same x)

refused-answer : {file : List ℕ} {p : ℕ} {old new : List ℕ} {r : Result Fetched Refusal} {number : ℕ} → Fetching file p old new r → outcome (length old) file p ≡ refused number → reply r ≡ rejects number 0
unfolding answer_of
refused-answer f q = f.answer ∙ ap answer_of q

written_back : {file : List ℕ} {p : ℕ} {old new : List ℕ} {n e m : ℕ} → Wrote file p old new n e m → new ≡ table_of file p e ++ drop (length (table_of file p e)) old
written_back {file} {p} {old} {e = e} w = w.table ∙ ap (λ k. table_of file p e ++ drop k old) w.long

-- the numbers of the checks
pub reason_known : {room : ℕ} {file : List ℕ} {p number : ℕ} → Reason room file p number → (1 ≤ number) × (number ≤ 18)
reason_known (short_buffer h) = (omega arith, omega arith)
reason_known (bad_file r f) = (omega arith, omega arith)
reason_known (no_edition r f w) = (omega arith, omega arith)
reason_known (long_table e r f w h) = (omega arith, omega arith)

-- an empty file: no block, no edition
empty-none : (p : ℕ) → newest [] p ≡ none
unfolding newest
empty-none p = (last_none (whole [] p) 65536).1 (λ e l w. let (i, c) = led [] p e w in omega (arith, (counted-good c).within))

-- and back: each reason makes its outcome
refused-by : {room : ℕ} {file : List ℕ} {p number : ℕ} → Reason room file p number → outcome room file p ≡ refused number
refused-by {room} {file} {p} (short_buffer h) = short-room file p room h
refused-by {room} {file} {p} (bad_file r f) = bad_file_lem file p room r refl f
refused-by {room} {file} {p} (no_edition r f w) = good_file file p room r refl f ∙ ap (check_edition file p) w
refused-by {room} {file} {p} (long_table e r f w h) =
    good_file file p room r refl f ∙ too_long (record { is = w; parts = refl; long = refl }) h

fetched-by : {file : List ℕ} {p : ℕ} {old new : List ℕ} {n e m : ℕ} → Wrote file p old new n e m → outcome (length old) file p ≡ fetched e m (table_of file p e)
fetched-by {file} {p} {old} w =
    good_file file p (length old) w.room refl w.fits ∙ fitting (record { is = w.edition; parts = w.parts; long = w.long }) w.short

pub of_fetch : OfFetch
of_fetch =
    record {
      empty = λ p old new r h f. refused-answer f (refused-by (no_edition h (whole_blocks [] 0 (omega arith) refl) (empty-none p)));
      determined = λ file p old new new' r r' f g. (f.table ∙ sym g.table, reply-once r r' (f.answer ∙ sym g.answer));
      done = λ file p old new n e m.
          (λ f. done_of n e m (outcome_view (length old) file p) f.answer f.table, λ w. finding (table_of file p e) (fetched-by w) w.long (written_back w));
      refused = λ file p old new check node.
          (λ f. refused_of (number_of check) node (outcome_view (length old) file p) f.answer f.table, λ (same, none_named, reason). rw none_named (refusing check (refused-by reason) same));
    }

module _ (file : List ℕ) (p e k : ℕ) where
  -- used content has a byte at least
  not-empty : {o : Option ℕ} → Counts file p e k o → content_of file o ≡ [] → o ≡ none
  not-empty missing q = refl
  not-empty (block i g) q = absurd (omega (arith, content-length (block i g), ap length q, (good-is (block_at file i) g.is_good).some))

  empty-is : (content_of file (handed file p e k) ≡ []) ↔ ((counted file p e k ≡ none) ⊎ (file_fits file ≡ false))
  unfolding handed
  empty-is = by (file_fits file) refl
    where
      by : (b : Bool) → file_fits file ≡ b → (content_of file (cond b (counted file p e k) none) ≡ []) ↔ ((counted file p e k ≡ none) ⊎ (b ≡ false))
      by true f = (λ q. inl (not-empty (counted_view file p e k) q), λ s. ⊎_elim (λ q. ap (content_of file) q) (λ q. absurd (false-not-true q refl)) s)
      by false f = (λ q. inr refl, λ s. refl)

handed-counted : (file : List ℕ) (p e k : ℕ) → file_fits file ≡ true → handed file p e k ≡ counted file p e k
unfolding handed
handed-counted file p e k f = rw f refl

joins-is : (file : List ℕ) (p e : ℕ) → file_fits file ≡ true → table_of file p e ≡ joined (λ k. content_of file (handed file p e k)) (parts_of file p e)
unfolding table_of
joins-is file p e f = joined_same _ _ (parts_of file p e) (λ k _. ap (content_of file) (sym (handed-counted file p e k f)))

used-is : (file : List ℕ) (p e k i : ℕ) → file_fits file ≡ true → counted file p e k ≡ some i → content_of file (handed file p e k) ≡ take (used_in (block_at file i)) (drop content_at (block_at file i))
used-is file p e k i f c =
    let g = counted-good c in
    ap (content_of file) (handed-counted file p e k f ∙ c)
    ∙ sym (content_in file i g.within (used_in (block_at file i)) (good-is (block_at file i) g.is_good).short)

located-is : (file : List ℕ) (p e k : ℕ) (r : Span) → Locating file p e k r → take r.length (drop r.from file) ≡ content_of file (handed file p e k)
located-is file p e k r o = rw (o.from, o.used) refl

pub of_part : OfPart
of_part = record { empty = empty-is; used = used-is; located = located-is; joins = joins-is }
