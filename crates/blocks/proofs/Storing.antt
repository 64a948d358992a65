-- What is stored is fetched back.
use mathlib.Core.Path.{◌≡◌, refl, sym, ap, ◌∙◌}
use mathlib.Core.Bool.{true, false}
use mathlib.Core.Option.{some}
use mathlib.Core.List.{List, [], ◌∷◌, ◌++◌, append_assoc}
use Prim.Native.Nat.{ℕ, zero, suc, ◌+◌, ◌-◌, ◌*◌, ◌/◌, ◌%◌, ◌≤◌, ◌<◌}
use native.Mathlib.Nat.{div-add-mod, mod-lt}
use native.Mathlib.Decide.{dec_lt}
use native.Mathlib.Omega.{arith}
use lib.ListN.{length, get_or, take, drop, replicate, length-append, length-drop, length-replicate, length-take, take-append-drop}
use lib.Seq.{take-append-le, drop-append-le, take_all, drop-drop, take-add, take_at, drop_at, get_or_at, get_or-append-add}
use Rattle.blocks.specs.Block.{content_at, checks_at, Bytes, block_size, content_size, word, program_in, edition_in, part_in, parts_in, used_in, first_check, second_check, all_zero, zero_filled, good}
use Rattle.blocks.specs.Editions.{max_blocks, file_fits, block_at, counted, content_of, parts_of, whole, newest, joined, table_of}
use Rattle.blocks.specs.Storing.{unsealed, sealed, part_count, piece, stored_part, stored, Holds}
use Rattle.esterel.proofs.Every.{Every, none, also, every_left, every_right, every_join, every_at}
use Rattle.codes.proofs.Bools.{cannot_pass, false-not-true}
use Rattle.blocks.specs.Fetching.{max_table, fetched, outcome, content, fetched_as, answer_of, Fetching}
use Rattle.blocks.specs.Theorems.{GoodBlock, Complete, FetchedBack, RoundTrip}
use Rattle.blocks.specs.declared.Fetched.{Fetched}
use Rattle.std.specs.Prelude.{Result, Ok}
use Rattle.esterel.specs.declared.Refusal.{Refusal}
use Rattle.esterel.proofs.Replies.{reply-once}
use Rattle.blocks.proofs.Good.{is-good}
use Rattle.blocks.proofs.Last.{last_some}
use Rattle.blocks.proofs.Blocks.{content_in, whole_blocks}
use Rattle.blocks.proofs.Counted.{counted-good}
use Rattle.blocks.proofs.Joining.{joined_same}
use Rattle.blocks.proofs.Completing.{table_is}
use Rattle.blocks.proofs.Fetches.{good_file, fitting}
use Rattle.blocks.proofs.Choosing.{led}
use Rattle.blocks.proofs.Theorems.{latest-is, parts-named, whole_is_lem}

-- ---- a block that was written

zeros-zero : (n : ℕ) → all_zero (replicate n 0) ≡ true
zeros-zero zero = refl
zeros-zero (suc n) = zeros-zero n

module _ (p e k m : ℕ) (xs : List ℕ) (some : 1 ≤ length xs) (short : length xs ≤ content_size) where
  abbrev written : List ℕ
  written = sealed (unsealed p e k m xs)

  abbrev filler : List ℕ
  filler = replicate (content_size - length xs) 0

  abbrev checks : List ℕ
  checks = first_check (unsealed p e k m xs) ∷ second_check (unsealed p e k m xs) ∷ []

  unsealed-length : length (unsealed p e k m xs) ≡ checks_at
  unfolding unsealed
  unsealed-length = omega (arith, length-append xs filler, length-replicate {A = ℕ} (content_size - length xs) 0)

  pub block-long : length written ≡ block_size
  unfolding sealed
  block-long = omega (arith, length-append (unsealed p e k m xs) checks, unsealed-length)

  block-front : take checks_at written ≡ unsealed p e k m xs
  unfolding sealed
  block-front = take_at (unsealed p e k m xs) checks checks_at unsealed-length

  behind-numbers : drop content_at written ≡ xs ++ (filler ++ checks)
  unfolding sealed unsealed
  behind-numbers = append_assoc xs filler checks

  pub block-program : program_in written ≡ p
  unfolding sealed unsealed word
  block-program = omega (arith, div-add-mod p 256)

  pub block-edition : edition_in written ≡ e
  unfolding sealed unsealed word
  block-edition = omega (arith, div-add-mod e 256)

  pub block-part : part_in written ≡ k
  unfolding sealed unsealed
  block-part = refl

  pub block-parts : parts_in written ≡ m
  unfolding sealed unsealed
  block-parts = refl

  pub block-used : used_in written ≡ length xs
  unfolding sealed unsealed word
  block-used = omega (arith, div-add-mod (length xs) 256)

  block-filled : zero_filled written ≡ true
  unfolding zero_filled
  block-filled =
      let past : drop (content_at + used_in written) written ≡ filler ++ checks =
      sym (drop-drop (used_in written) content_at written) ∙ ap (drop (used_in written)) behind-numbers ∙ drop_at xs (filler ++ checks) (used_in written) (sym block-used) in
      let room : length filler ≡ content_size - used_in written = length-replicate (content_size - length xs) 0 ∙ ap (λ n. content_size - n) (sym block-used) in
      ap (λ l. all_zero (take (content_size - used_in written) l)) past
      ∙ ap all_zero (take_at filler checks (content_size - used_in written) room)
      ∙ zeros-zero (content_size - length xs)

  first-stored : get_or written checks_at 0 ≡ first_check (unsealed p e k m xs)
  unfolding sealed
  first-stored = get_or_at (unsealed p e k m xs) _ _ 0 checks_at unsealed-length

  second-stored : get_or written (checks_at + 1) 0 ≡ second_check (unsealed p e k m xs)
  unfolding sealed
  second-stored =
      let place : checks_at + 1 ≡ length (unsealed p e k m xs) + 1 = omega (arith, unsealed-length) in
      ap (λ n. get_or written n 0) place ∙ get_or-append-add (unsealed p e k m xs) checks 1 0

  pub block-good : good written ≡ true
  block-good =
      is-good written (
      record {
        first = first-stored ∙ ap first_check (sym block-front);
        second = second-stored ∙ ap second_check (sym block-front);
        some = omega (arith, block-used);
        short = omega (arith, block-used);
        zeros = block-filled;
      }
      )

  pub block-content : take (used_in written) (drop content_at written) ≡ xs
  block-content = ap (take (used_in written)) behind-numbers ∙ take_at xs (filler ++ checks) (used_in written) (sym block-used)

-- ---- the parts of a table

joined-pieces : (t : List ℕ) (m : ℕ) → joined (piece t) m ≡ take (content_size * m) t
unfolding piece
joined-pieces t zero = refl
joined-pieces t (suc m) =
    let next : content_size * m + content_size ≡ content_size * suc m = omega arith in
    ap (λ l. l ++ take content_size (drop (content_size * m) t)) (joined-pieces t m) ∙ sym (take-add (content_size * m) content_size t) ∙ ap (λ n. take n t) next

module _ (t : List ℕ) where
  count-enough : length t ≤ content_size * part_count t
  unfolding part_count
  count-enough = omega (arith, div-add-mod (length t + 501) content_size, mod-lt (length t + 501) {m = content_size} (omega arith))

  count-least : content_size * part_count t < length t + content_size
  unfolding part_count
  count-least = omega (arith, div-add-mod (length t + 501) content_size)

  pub pieces_are : joined (piece t) (part_count t) ≡ t
  pieces_are = joined-pieces t (part_count t) ∙ take_all (content_size * part_count t) t count-enough

  module _ (k : ℕ) (h : k < part_count t) where
    left_over : length (drop (content_size * k) t) ≡ length t - content_size * k
    left_over = length-drop (content_size * k) t

    pub piece-short : length (piece t k) ≤ content_size
    unfolding piece
    piece-short = omega (arith, length-take content_size (drop (content_size * k) t))

    pub piece-some : 1 ≤ length (piece t k)
    unfolding piece
    piece-some = omega (arith, length-take content_size (drop (content_size * k) t), left_over, count-least)

    pub piece-full : k + 1 < part_count t → length (piece t k) ≡ content_size
    unfolding piece
    piece-full l = omega (arith, length-take content_size (drop (content_size * k) t), left_over, count-least)

-- ---- a file that holds a table

module _ (file : List ℕ) (p e : ℕ) (t : List ℕ) (some_bytes : 1 ≤ length t) (o : Holds file p e t) where
  abbrev m : ℕ
  m = part_count t

  some-parts : 1 ≤ m
  some-parts = omega (arith, count-enough t)

  complete : (k : ℕ) → k < m → Complete file p e m k
  complete k h =
      let (i, c, b) = o k h in
      let short = piece-short t k h in
      record {
        block = i;
        counts = c;
        names = ap parts_in b ∙ block-parts p e k m (piece t k) (piece-some t k h) short;
        full = λ l. ap used_in b ∙ block-used p e k m (piece t k) (piece-some t k h) short ∙ piece-full t k h l;
      }

  pub held_whole : whole file p e ≡ true
  held_whole = (whole_is_lem file p e).1 (m, some-parts, complete)

  pub held-parts : parts_of file p e ≡ m
  held-parts = sym (parts-named file p e m (complete 0 some-parts))

  held-piece : (k : ℕ) → k < m → content_of file (counted file p e k) ≡ piece t k
  held-piece k h =
      let (i, c, b) = o k h in
      let used : used_in (block_at file i) ≡ length (piece t k) = ap used_in b ∙ block-used p e k m (piece t k) (piece-some t k h) (piece-short t k h) in
      ap (content_of file) c
      ∙ sym (content_in file i (counted-good c).within (used_in (block_at file i)) (omega (arith, piece-short t k h)))
      ∙ ap (λ x. take (used_in x) (drop content_at x)) b
      ∙ block-content p e k m (piece t k) (piece-some t k h) (piece-short t k h)

  pub held-table : table_of file p e ≡ t
  held-table =
      sym (table_is file p e (sym held-parts)) ∙ joined_same _ (piece t) m held-piece ∙ pieces_are t

  pub held-fetched : (old new : List ℕ) (r : Result Fetched Refusal) → file_fits file ≡ true → e < 65536 → length t ≤ max_table → ((d : ℕ) → e < d → whole file p d ≡ false) → max_table ≤ length old → Fetching file p old new r → FetchedBack e t old new r
  unfolding newest answer_of content
  held-fetched old new r f b short higher room w =
      let chosen_is : newest file p ≡ some e =
      (last_some (whole file p) 65536 e).1 (b, held_whole, λ d l v. below d v (dec_lt e d)) in
      let found-is : outcome (length old) file p ≡ fetched e m t =
      good_file file p (length old) room refl f
      ∙ fitting (record { is = chosen_is; parts = sym held-parts; long = ap length (sym held-table) }) short
      ∙ ap (fetched e m) held-table in
      (reply-once r (Ok (fetched_as (length t) e m)) (w.answer ∙ ap answer_of found-is), w.table ∙ ap (λ x. content x old) found-is)
    where
      below : (d : ℕ) → whole file p d ≡ true → Dec (e < d) → d ≤ e
      below d v (yes l) = absurd (false-not-true (higher d l) v)
      below d v (no l) = omega arith

-- ---- a file with the blocks of a table alone

-- blocks joined, of one length each
module _ (f : ℕ → List ℕ) where
  blocks_length : (m : ℕ) → ((k : ℕ) → k < m → length (f k) ≡ block_size) → length (joined f m) ≡ block_size * m
  blocks_length zero h = refl
  blocks_length (suc m) h = omega (arith, length-append (joined f m) (f m), blocks_length m (λ k l. h k (omega arith)), h m (omega arith))

  block_of : (m : ℕ) → ((k : ℕ) → k < m → length (f k) ≡ block_size) → (k : ℕ) → k < m → block_at (joined f m) k ≡ f k
  unfolding block_at
  block_of zero h k l = absurd (omega arith)
  block_of (suc m) h k l = go (λ b. block_of m (λ j u. h j (omega arith)) k b) (dec_lt k m)
    where
      long : length (joined f m) ≡ block_size * m
      long = blocks_length m (λ j u. h j (omega arith))

      go : (k < m → take block_size (drop (block_size * k) (joined f m)) ≡ f k) → Dec (k < m) → take block_size (drop (block_size * k) (joined f m ++ f m)) ≡ f k
      go r (yes b) =
          ap (take block_size) (drop-append-le (block_size * k) (joined f m) (f m) (omega (arith, long)))
          ∙ take-append-le block_size (drop (block_size * k) (joined f m)) (f m) (omega (arith, long, length-drop (block_size * k) (joined f m)))
          ∙ r b
      go r (no b) =
          let same : k ≡ m = omega arith in
          let own : take block_size (drop (block_size * m) (joined f m ++ f m)) ≡ f m =
          ap (take block_size) (drop_at (joined f m) (f m) (block_size * m) long) ∙ take_all block_size (f m) (omega (arith, h m (omega arith))) in
          ap (λ j. take block_size (drop (block_size * j) (joined f m ++ f m))) same ∙ own ∙ ap f (sym same)

module _ (p e : ℕ) (t : List ℕ) (few : part_count t ≤ max_blocks) where
  abbrev parts : ℕ
  parts = part_count t

  long_blocks : (k : ℕ) → k < parts → length (stored_part p e t k) ≡ block_size
  long_blocks k h = block-long p e k parts (piece t k) (piece-some t k h) (piece-short t k h)

  file_long : length (stored p e t) ≡ block_size * parts
  unfolding stored
  file_long = blocks_length (stored_part p e t) parts long_blocks

  pub stored-fits : file_fits (stored p e t) ≡ true
  stored-fits = whole_blocks (stored p e t) parts few file_long

  part_at : (k : ℕ) → k < parts → block_at (stored p e t) k ≡ stored_part p e t k
  unfolding stored
  part_at k h = block_of (stored_part p e t) parts long_blocks k h

  -- block k is a good one for part k
  is-stored : (k : ℕ) → k < parts → GoodBlock (stored p e t) p e k k
  is-stored k h =
      let b = part_at k h in
      let some = piece-some t k h in
      let few_bytes = piece-short t k h in
      record {
        within = omega (arith, file_long);
        is_good = ap good b ∙ block-good p e k parts (piece t k) some few_bytes;
        program = ap program_in b ∙ block-program p e k parts (piece t k) some few_bytes;
        edition = ap edition_in b ∙ block-edition p e k parts (piece t k) some few_bytes;
        part = ap part_in b ∙ block-part p e k parts (piece t k) some few_bytes;
      }

  pub stored-holds : Holds (stored p e t) p e t
  stored-holds k h = (k, (latest-is (stored p e t) p e k k).1 (is-stored k h, λ j s. last j s), part_at k h)
    where
      last : (j : ℕ) → GoodBlock (stored p e t) p e k j → j ≤ k
      last j g = omega (arith, (is-stored j (omega (arith, g.within, file_long))).part, g.part)

  pub stored-highest : (d : ℕ) → e < d → whole (stored p e t) p d ≡ false
  stored-highest d l =
      cannot_pass (whole (stored p e t) p d) (λ w.
      let (i, c) = led (stored p e t) p d w in
      let g = counted-good c in
      omega (arith, g.edition, (is-stored i (omega (arith, g.within, file_long))).edition))

-- such a file has bytes

abbrev Byte : ℕ → Type 0
Byte x = x < 256

every_byte : (xs : List ℕ) → Bytes xs → Every Byte xs
every_byte [] b = none
every_byte (x ∷ xs) b = also (b 0) (every_byte xs (λ j. b (suc j)))

every_piece : (t : List ℕ) (k : ℕ) → Every Byte t → Every Byte (piece t k)
unfolding piece
every_piece t k e =
    let n = content_size * k in
    let rest : Every Byte (drop n t) = every_right (take n t) (drop n t) (rw (take-append-drop n t) e) in
    every_left (take content_size (drop n t)) (drop content_size (drop n t)) (rw (take-append-drop content_size (drop n t)) rest)

every_zero : (n : ℕ) → Every Byte (replicate n 0)
every_zero zero = none
every_zero (suc n) = also {x = 0} (omega arith) (every_zero n)

every_joined : (f : ℕ → List ℕ) (m : ℕ) → ((k : ℕ) → k < m → Every Byte (f k)) → Every Byte (joined f m)
every_joined f zero h = none
every_joined f (suc m) h = every_join (every_joined f m (λ k l. h k (omega arith))) (h m (omega arith))

low : (n : ℕ) → n % 256 < 256
low n = mod-lt n (omega arith)

high : (n : ℕ) → n < 65536 → n / 256 < 256
high n h = omega (arith, div-add-mod n 256)

check_byte : (n : ℕ) → n % 255 < 256
check_byte n = omega (arith, mod-lt n {m = 255} (omega arith))

every_sealed : (p e k m : ℕ) (xs : List ℕ) → p < 65536 → e < 65536 → k < 256 → m < 256 → length xs ≤ content_size → Every Byte xs → Every Byte (sealed (unsealed p e k m xs))
unfolding sealed unsealed first_check second_check
every_sealed p e k m xs hp he hk hm short a =
    every_join
    (also (low p) (also (high p hp) (also (low e) (also (high e he) (also hk (also hm (also (low (length xs)) (also (high (length xs) (omega arith))
    (every_join a (every_zero (content_size - length xs)))))))))))
    (also (check_byte _) (also (check_byte _) none))

stored_bytes_lem : (p e : ℕ) (t : List ℕ) → p < 65536 → e < 65536 → length t ≤ 2048 → Bytes t → Bytes (stored p e t)
unfolding stored
stored_bytes_lem p e t hp he short b =
    every_at 0 (omega arith)
    (every_joined (stored_part p e t) (part_count t)
    (λ k h. every_sealed p e k (part_count t) (piece t k) hp he (omega (arith, count-least t)) (omega (arith, count-least t)) (piece-short t k h) (every_piece t k (every_byte t b))))

pub round_trip : RoundTrip
round_trip =
    record {
      held = λ file p e t some o. (held_whole file p e t some o, held-parts file p e t some o, held-table file p e t some o);
      fetched = λ file p e t old new r f b some short o higher room w. held-fetched file p e t some o old new r f b short higher room w;
      stored_bytes = stored_bytes_lem;
      stored_holds = λ p e t few. (stored-fits p e t few, stored-holds p e t few, stored-highest p e t few);
      stored_fetched = λ p e t old new r b some short room w.
          (let few : part_count t ≤ max_blocks = omega (arith, count-least t) in
          held-fetched (stored p e t) p e t some (stored-holds p e t few) old new r (stored-fits p e t few) b short (stored-highest p e t few) room w);
    }
