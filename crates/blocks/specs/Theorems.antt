-- What F-4 says, sentence by sentence, of the definitions and of the calls: the statements alone. The proofs are in proofs/Theorems.antt, but
-- for `Files` (Blocks.antt), `Damage` (Damage.antt) and `RoundTrip` (Storing.antt).
use Rattle.std.specs.Prelude.{Result, Ok, Err, ◌≡◌, ◌↔◌, ◌⊎◌, true, false, ℕ, ◌+◌, ◌*◌, ◌≤◌, ◌<◌, length, get_or, set, take, drop}
use Rattle.std.proofs.Math.Option.{none, some}
use mathlib.Core.List.{List, [], ◌++◌, foldl}
use Rattle.blocks.specs.Block.{block_size, content_at, content_size, checks_at, Bytes, program_in, edition_in, part_in, parts_in, used_in, reduced, first_check, second_check, good}
use Rattle.blocks.specs.Editions.{file_fits, block_at, counted, content_of, parts_of, whole, newest, joined, table_of}
use Rattle.blocks.specs.Fetching.{handed, Locating, fetched_as, refused_at, Fetching}
use Rattle.blocks.specs.Storing.{part_count, stored, Holds}
use Rattle.blocks.specs.declared.Span.{Span}
use Rattle.esterel.specs.Refusal.{number_of, rejects, reply}
use Rattle.esterel.specs.declared.Check.{Check}
use Rattle.esterel.specs.declared.Refusal.{Refusal}
use Rattle.blocks.specs.declared.Fetched.{Fetched}

-- ---- the file

pub record Files : Type 0 where
  -- whole blocks, at most 64 of them
  pub fits : (file : List ℕ) → (file_fits file ≡ true) ↔ ((n : ℕ) × (n ≤ 64) × (length file ≡ block_size * n))

-- ---- the check bytes

-- the two sums with one more byte
abbrev pub add_byte : ℕ × ℕ → ℕ → ℕ × ℕ
add_byte (a, b) x = (reduced (a + x), reduced (b + reduced (a + x)))

pub record CheckBytes : Type 0 where
  -- they are running sums: a fold over the bytes
  pub fold : (xs : List ℕ) → foldl add_byte (0, 0) xs ≡ (first_check xs, second_check xs)

-- one byte of a block is changed to another value
pub record Changed (b : List ℕ) (i v : ℕ) : Type 0 where
  pub size : length b ≡ block_size
  pub place : i < block_size
  pub before : get_or b i 0 < 256
  pub after : v < 256
  pub other : v ≡ get_or b i 0 → ⊥

-- 0 and 255, which sums modulo 255 do not tell apart
abbrev pub Alike : ℕ → ℕ → Type 0
Alike x y = ((x ≡ 0) × (y ≡ 255)) ⊎ ((x ≡ 255) × (y ≡ 0))

-- the numbers of program, edition, part and parts, and the used content; the used length and the filler have rules of their own
abbrev pub Unruled : List ℕ → ℕ → Type 0
Unruled b i = (i < 6) ⊎ ((content_at ≤ i) × (i < content_at + used_in b))

pub record Damage : Type 0 where
  -- a good block in which one byte is changed is passed over, unless the change is between 0 and 255 in bytes 0 to 509
  pub passed_over : (b : List ℕ) (i v : ℕ) → good b ≡ true → Changed b i v → ((i < checks_at) × Alike (get_or b i 0) v → ⊥) → good (set b i v) ≡ false
  -- and it is still good exactly if the change is between 0 and 255 where no other rule stands
  pub unseen : (b : List ℕ) (i v : ℕ) → good b ≡ true → Changed b i v → (good (set b i v) ≡ true) ↔ (Alike (get_or b i 0) v × Unruled b i)

-- ---- the block that counts, and the editions

-- a good block of the file for a program, an edition and a part
pub record GoodBlock (file : List ℕ) (p e k i : ℕ) : Type 0 where
  pub within : block_size * i + block_size ≤ length file
  pub is_good : good (block_at file i) ≡ true
  pub program : program_in (block_at file i) ≡ p
  pub edition : edition_in (block_at file i) ≡ e
  pub part : part_in (block_at file i) ≡ k

-- part k has a block, which names m parts and, but for the last part, uses 502 bytes
pub record Complete (file : List ℕ) (program edition m k : ℕ) : Type 0 where
  pub block : ℕ
  pub counts : counted file program edition k ≡ some block
  pub names : parts_in (block_at file block) ≡ m
  pub full : k + 1 < m → used_in (block_at file block) ≡ content_size

pub record Superseding : Type 0 where
  -- of the good blocks for one program, edition and part, the latest in the file counts, and none if there is none
  pub latest : (file : List ℕ) (p e k i : ℕ) → (counted file p e k ≡ some i) ↔ (GoodBlock file p e k i × ((j : ℕ) → GoodBlock file p e k j → j ≤ i))
  pub missing : (file : List ℕ) (p e k : ℕ) → (counted file p e k ≡ none) ↔ ((i : ℕ) → GoodBlock file p e k i → ⊥)
  -- an edition is whole if part 0 names m parts, m at least 1, the parts 0 to m - 1 all name m, and all but the last use 502 bytes
  pub whole_is : (file : List ℕ) (p e : ℕ) → (whole file p e ≡ true) ↔ ((m : ℕ) × (1 ≤ m) × ((k : ℕ) → k < m → Complete file p e m k))
  -- the highest whole edition of a program supersedes the others: of all editions, since a file has bytes
  pub highest :
      (file : List ℕ) (p e : ℕ) → Bytes file →
      (newest file p ≡ some e) ↔ ((whole file p e ≡ true) × ((d : ℕ) → whole file p d ≡ true → d ≤ e))
  pub none_whole : (file : List ℕ) (p : ℕ) → Bytes file → (newest file p ≡ none) ↔ ((e : ℕ) → whole file p e ≡ false)

-- ---- the calls

-- the table of the edition that supersedes was written
pub record Wrote (file : List ℕ) (program : ℕ) (old new : List ℕ) (n e m : ℕ) : Type 0 where
  pub room : 2048 ≤ length old
  pub fits : file_fits file ≡ true
  pub edition : newest file program ≡ some e
  pub parts : m ≡ parts_of file program e
  pub long : n ≡ length (table_of file program e)
  pub short : n ≤ 2048
  pub table : new ≡ table_of file program e ++ drop n old

-- the first check that fails, in the order 3, 17, 18 and 1
pub data Reason (room : ℕ) (file : List ℕ) (program : ℕ) : ℕ → Type 0 where
  short_buffer : room < 2048 → Reason room file program 3
  bad_file : 2048 ≤ room → file_fits file ≡ false → Reason room file program 17
  no_edition : 2048 ≤ room → file_fits file ≡ true → newest file program ≡ none → Reason room file program 18
  long_table : (e : ℕ) → 2048 ≤ room → file_fits file ≡ true → newest file program ≡ some e → 2048 < length (table_of file program e) → Reason room file program 1

pub record OfFetch : Type 0 where
  -- the contract leaves nothing open
  pub determined : (file : List ℕ) (p : ℕ) (old new new' : List ℕ) (r r' : Result Fetched Refusal) → Fetching file p old new r → Fetching file p old new' r' → (new ≡ new') × (r ≡ r')
  -- it is done exactly with the table of the edition that supersedes, if that fits
  pub done : (file : List ℕ) (p : ℕ) (old new : List ℕ) (n e m : ℕ) → Fetching file p old new (Ok (fetched_as n e m)) ↔ Wrote file p old new n e m
  -- an empty file has no whole edition
  pub empty : (p : ℕ) (old new : List ℕ) (r : Result Fetched Refusal) → 2048 ≤ length old → Fetching [] p old new r → reply r ≡ rejects 18 0
  -- it is refused exactly with the number of the first check that fails, and the lent table is as it was
  pub refused : (file : List ℕ) (p : ℕ) (old new : List ℕ) (check : Check) (node : ℕ) → Fetching file p old new (Err (refused_at check node)) ↔ ((new ≡ old) × (node ≡ 0) × Reason (length old) file p (number_of check))

pub record OfPart : Type 0 where
  -- empty exactly if no block counts for the part or the file is refused 17; whole editions are not asked for
  pub empty : (file : List ℕ) (p e k : ℕ) → (content_of file (handed file p e k) ≡ []) ↔ ((counted file p e k ≡ none) ⊎ (file_fits file ≡ false))
  -- else the used bytes of the block that counts
  pub used : (file : List ℕ) (p e k i : ℕ) → file_fits file ≡ true → counted file p e k ≡ some i → content_of file (handed file p e k) ≡ take (used_in (block_at file i)) (drop content_at (block_at file i))
  -- they stand where `locate` says
  pub located : (file : List ℕ) (p e k : ℕ) (r : Span) → Locating file p e k r → take r.length (drop r.from file) ≡ content_of file (handed file p e k)
  -- a table is the parts that `part` hands out, joined
  pub joins : (file : List ℕ) (p e : ℕ) → file_fits file ≡ true → table_of file p e ≡ joined (λ k. content_of file (handed file p e k)) (parts_of file p e)

-- ---- what is stored is fetched back

abbrev pub FetchedBack : (e : ℕ) (t old new : List ℕ) → Result Fetched Refusal → Type 0
FetchedBack e t old new r = (r ≡ Ok (fetched_as (length t) e (part_count t))) × (new ≡ t ++ drop (length t) old)

pub record RoundTrip : Type 0 where
  -- an edition as which a file holds a table is whole, and its table is that one
  pub held :
      (file : List ℕ) (p e : ℕ) (t : List ℕ) → 1 ≤ length t → Holds file p e t →
      (whole file p e ≡ true) × (parts_of file p e ≡ part_count t) × (table_of file p e ≡ t)
  -- it is fetched if no higher edition is whole
  pub fetched :
      (file : List ℕ) (p e : ℕ) (t old new : List ℕ) (r : Result Fetched Refusal) →
      file_fits file ≡ true → e < 65536 → 1 ≤ length t → length t ≤ 2048 → Holds file p e t → ((d : ℕ) → e < d → whole file p d ≡ false) →
      2048 ≤ length old → Fetching file p old new r → FetchedBack e t old new r
  -- a file with its blocks alone, which are bytes, holds it
  pub stored_bytes : (p e : ℕ) (t : List ℕ) → p < 65536 → e < 65536 → length t ≤ 2048 → Bytes t → Bytes (stored p e t)
  pub stored_holds :
      (p e : ℕ) (t : List ℕ) → part_count t ≤ 64 →
      (file_fits (stored p e t) ≡ true) × Holds (stored p e t) p e t × ((d : ℕ) → e < d → whole (stored p e t) p d ≡ false)
  -- and it is fetched from that
  pub stored_fetched :
      (p e : ℕ) (t old new : List ℕ) (r : Result Fetched Refusal) →
      e < 65536 → 1 ≤ length t → length t ≤ 2048 → 2048 ≤ length old → Fetching (stored p e t) p old new r → FetchedBack e t old new r
