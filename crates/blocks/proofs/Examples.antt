-- Small files, by computing the definitions.
use mathlib.Core.Path.{◌≡◌, refl}
use mathlib.Core.Bool.{true, false}
use mathlib.Core.Option.{none, some}
use mathlib.Core.List.{List, [], ◌∷◌, ◌++◌}
use Prim.Native.Nat.{ℕ}
use lib.ListN.{length, set, replicate}
use Rattle.blocks.specs.Block.{word, first_check, second_check, checks_match, length_fits, zero_filled, good}
use Rattle.blocks.specs.Storing.{unsealed, sealed}
use Rattle.blocks.specs.Editions.{blocks_in, block_at, is_for, counted, parts_of, completes, whole, last_below, table_of}

block : (program edition part parts : ℕ) → List ℕ → List ℕ
block p e k m xs = sealed (unsealed p e k m xs)

full : ℕ → List ℕ
full v = replicate 502 v

-- edition 2 is whole, its last part stored first; edition 3 lacks its last part
two_editions : List ℕ
two_editions = block 7 2 1 2 (9 ∷ 8 ∷ []) ++ block 7 2 0 2 (full 5) ++ block 7 3 0 2 (full 6)

blocks_good : (length two_editions ≡ 1536) × (good (block_at two_editions 0) ≡ true) × (counted two_editions 7 2 1 ≡ some 0)
unfolding two_editions block full sealed unsealed good block_at checks_match length_fits zero_filled first_check second_check word counted is_for blocks_in
blocks_good = (refl, refl, refl)

highest-whole : (last_below (whole two_editions 7) 5 ≡ some 2) × (table_of two_editions 7 2 ≡ full 5 ++ (9 ∷ 8 ∷ []))
unfolding two_editions block full sealed unsealed good block_at checks_match length_fits zero_filled first_check second_check word counted is_for blocks_in whole parts_of completes table_of
highest-whole = (refl, refl)

-- the later of two good blocks counts, and a bad one after them does not
repeated : List ℕ
repeated = block 7 2 0 1 (9 ∷ 8 ∷ []) ++ block 7 2 0 1 (4 ∷ []) ++ set (block 7 2 0 1 (3 ∷ [])) 8 2

later-counts : (counted repeated 7 2 0 ≡ some 1) × (table_of repeated 7 2 ≡ 4 ∷ []) × (whole repeated 7 2 ≡ true) × (counted repeated 8 2 0 ≡ none)
unfolding repeated block sealed unsealed good block_at checks_match length_fits zero_filled first_check second_check word counted is_for blocks_in whole parts_of completes table_of
later-counts = (refl, refl, refl, refl)

-- a later part 0 that names another number of parts undoes wholeness
undone : List ℕ
undone = block 7 2 0 1 (9 ∷ 8 ∷ []) ++ block 7 2 0 2 (full 4)

not-whole : (whole undone 7 2 ≡ false) × (last_below (whole undone 7) 5 ≡ none)
unfolding undone block full sealed unsealed good block_at checks_match length_fits zero_filled first_check second_check word counted is_for blocks_in whole parts_of completes
not-whole = (refl, refl)

-- a change from 0 to 255 is not seen in a used byte, and is in the filler; one to 254 is seen
changes : (good (set (block 7 2 0 1 (0 ∷ 8 ∷ [])) 8 255) ≡ true) × (good (set (block 7 2 0 1 (0 ∷ 8 ∷ [])) 10 255) ≡ false) × (good (set (block 7 2 0 1 (0 ∷ 8 ∷ [])) 8 254) ≡ false)
unfolding block sealed unsealed good checks_match length_fits zero_filled first_check second_check word
changes = (refl, refl, refl)
