-- A block of the service partition (F-4): its fields, its check bytes, and whether it is good.
use Rattle.std.specs.Prelude.{ℕ, ◌+◌, ◌-◌, ◌*◌, ◌%◌, ◌<◌, Bool, true, ◌&&◌, List, [], ◌∷◌, get_or, take, drop, eqb, leb}

abbrev pub block_size : ℕ
block_size = 512

-- where the content starts, its size, and where the two check bytes stand
abbrev pub content_at : ℕ
content_at = 8

abbrev pub content_size : ℕ
content_size = 502

abbrev pub checks_at : ℕ
checks_at = 510

-- what a file is a list of
abbrev pub Bytes : List ℕ → Type 0
Bytes xs = (j : ℕ) → get_or xs j 0 < 256

-- two bytes, lowest first
unfoldable pub word : List ℕ → ℕ → ℕ
word b i = get_or b i 0 + 256 * get_or b (i + 1) 0

-- the fields of a block
abbrev pub program_in : List ℕ → ℕ
program_in b = word b 0

abbrev pub edition_in : List ℕ → ℕ
edition_in b = word b 2

abbrev pub part_in : List ℕ → ℕ
part_in b = get_or b 4 0

abbrev pub parts_in : List ℕ → ℕ
parts_in b = get_or b 5 0

abbrev pub used_in : List ℕ → ℕ
used_in b = word b 6

-- modulo 255
abbrev pub reduced : ℕ → ℕ
reduced n = n % 255

abbrev pub sum : List ℕ → ℕ
sum [] = 0
sum (x ∷ xs) = x + sum xs

-- the first check byte of some bytes
unfoldable pub first_check : List ℕ → ℕ
first_check xs = reduced (sum xs)

-- its running values, one after each byte
abbrev pub running_from : ℕ → List ℕ → List ℕ
running_from a [] = []
running_from a (x ∷ xs) = reduced (a + x) ∷ running_from (reduced (a + x)) xs

-- the second check byte
unfoldable pub second_check : List ℕ → ℕ
second_check xs = reduced (sum (running_from 0 xs))

-- the stored check bytes are those of bytes 0 to 509
unfoldable pub checks_match : List ℕ → Bool
checks_match b =
    eqb (get_or b checks_at 0) (first_check (take checks_at b)) && eqb (get_or b (checks_at + 1) 0) (second_check (take checks_at b))

-- the used length is 1 to 502
unfoldable pub length_fits : List ℕ → Bool
length_fits b = leb 1 (used_in b) && leb (used_in b) content_size

abbrev pub all_zero : List ℕ → Bool
all_zero [] = true
all_zero (x ∷ xs) = eqb x 0 && all_zero xs

-- zeros after the used bytes of the content
unfoldable pub zero_filled : List ℕ → Bool
zero_filled b = all_zero (take (content_size - used_in b) (drop (content_at + used_in b) b))

-- a block that is not passed over
unfoldable pub good : List ℕ → Bool
good b = checks_match b && (length_fits b && zero_filled b)
