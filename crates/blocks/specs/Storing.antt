-- How a table is stored in blocks (F-4), for the theorem that what is stored is fetched back.
use Rattle.std.specs.Prelude.{ℕ, ◌+◌, ◌-◌, ◌*◌, ◌/◌, ◌%◌, ◌<◌, ◌≡◌, List, [], ◌∷◌, ◌++◌, length, take, drop, replicate}
use Rattle.std.proofs.Math.Option.{some}
use Rattle.blocks.specs.Block.{content_size, first_check, second_check}
use Rattle.blocks.specs.Editions.{block_at, counted, joined}

-- a block of its numbers and its used content, without the check bytes
unfoldable pub unsealed : (program edition part parts : ℕ) → List ℕ → List ℕ
unsealed p e k m xs =
    p % 256 ∷ p / 256 ∷ e % 256 ∷ e / 256 ∷ k ∷ m ∷ length xs % 256 ∷ length xs / 256 ∷ (xs ++ replicate (content_size - length xs) 0)

-- and with them
unfoldable pub sealed : List ℕ → List ℕ
sealed b = b ++ (first_check b ∷ second_check b ∷ [])

-- the parts of a table have 502 bytes each, the last one what is left
unfoldable pub part_count : List ℕ → ℕ
part_count t = (length t + 501) / content_size

unfoldable pub piece : List ℕ → ℕ → List ℕ
piece t k = take content_size (drop (content_size * k) t)

abbrev pub stored_part : (program edition : ℕ) (table : List ℕ) → ℕ → List ℕ
stored_part p e t k = sealed (unsealed p e k (part_count t) (piece t k))

-- its blocks one after the other
unfoldable pub stored : (program edition : ℕ) (table : List ℕ) → List ℕ
stored p e t = joined (stored_part p e t) (part_count t)

-- a file holds a table as an edition, in any order and with any other blocks: for each part the block that counts is the stored one
abbrev pub Holds : (file : List ℕ) (program edition : ℕ) (table : List ℕ) → Type 0
Holds file p e t = (k : ℕ) → k < part_count t → (i : ℕ) × (counted file p e k ≡ some i) × (block_at file i ≡ stored_part p e t k)
