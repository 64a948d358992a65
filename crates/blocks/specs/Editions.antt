-- The blocks of a file (F-4): which one counts for a part, whole editions, the edition that supersedes the others, and its table.
use Rattle.std.specs.Prelude.{ℕ, zero, suc, ◌+◌, ◌*◌, ◌/◌, ◌%◌, Bool, true, ◌&&◌, ◌||◌, cond, List, [], ◌++◌, length, take, drop, eqb, leb}
use Rattle.std.proofs.Math.Option.{Option, none, some}
use Rattle.blocks.specs.Block.{block_size, content_at, content_size, program_in, edition_in, part_in, parts_in, used_in, good}

-- a file has at most 64 blocks, and nothing besides (17)
abbrev pub max_blocks : ℕ
max_blocks = 64

unfoldable pub file_fits : List ℕ → Bool
file_fits file = eqb (length file % block_size) 0 && leb (length file) (max_blocks * block_size)

unfoldable pub blocks_in : List ℕ → ℕ
blocks_in file = length file / block_size

unfoldable pub block_at : List ℕ → ℕ → List ℕ
block_at file i = take block_size (drop (block_size * i) file)

-- the last number below n that passes a test
abbrev pub last_below : (ℕ → Bool) → ℕ → Option ℕ
last_below f zero = none
last_below f (suc n) = cond (f n) (some n) (last_below f n)

-- all numbers below n pass it
abbrev pub all_below : (ℕ → Bool) → ℕ → Bool
all_below f zero = true
all_below f (suc n) = all_below f n && f n

-- a block is for a program, an edition and a part
unfoldable pub is_for : (program edition part : ℕ) → List ℕ → Bool
is_for p e k b = eqb (program_in b) p && (eqb (edition_in b) e && eqb (part_in b) k)

-- and is good
abbrev pub is_good_for : (program edition part : ℕ) → List ℕ → Bool
is_good_for p e k b = good b && is_for p e k b

-- of the good blocks for them the last in the file counts
unfoldable pub counted : (file : List ℕ) (program edition part : ℕ) → Option ℕ
counted file p e k = last_below (λ i. is_good_for p e k (block_at file i)) (blocks_in file)

-- the used content of a block that counts, as a part of the file: where it starts, and how long it is
abbrev pub start_of : Option ℕ → ℕ
start_of none = 0
start_of (some i) = block_size * i + content_at

abbrev pub length_of : List ℕ → Option ℕ → ℕ
length_of file none = 0
length_of file (some i) = used_in (block_at file i)

abbrev pub content_of : List ℕ → Option ℕ → List ℕ
content_of file o = take (length_of file o) (drop (start_of o) file)

-- how many parts it names
abbrev pub named_by : List ℕ → Option ℕ → ℕ
named_by file none = 0
named_by file (some i) = parts_in (block_at file i)

-- how many parts part 0 of an edition names
unfoldable pub parts_of : (file : List ℕ) (program edition : ℕ) → ℕ
parts_of file p e = named_by file (counted file p e 0)

-- part k names m parts and, if it is not the last, uses 502 bytes
unfoldable pub completes : (file : List ℕ) (program edition m k : ℕ) → Bool
completes file p e m k =
    eqb (named_by file (counted file p e k)) m && (leb m (k + 1) || eqb (length_of file (counted file p e k)) content_size)

-- part 0 names m parts, m at least 1, and parts 0 to m - 1 are as they must be
unfoldable pub whole : (file : List ℕ) (program edition : ℕ) → Bool
whole file p e = leb 1 (parts_of file p e) && all_below (completes file p e (parts_of file p e)) (parts_of file p e)

-- the highest whole edition supersedes the others; all editions are below 65,536
unfoldable pub newest : (file : List ℕ) (program : ℕ) → Option ℕ
newest file p = last_below (whole file p) 65536

-- the parts below m, joined
abbrev pub joined : (ℕ → List ℕ) → ℕ → List ℕ
joined content zero = []
joined content (suc m) = joined content m ++ content m

unfoldable pub table_of : (file : List ℕ) (program edition : ℕ) → List ℕ
table_of file p e = joined (λ k. content_of file (counted file p e k)) (parts_of file p e)
