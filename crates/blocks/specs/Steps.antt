-- What the functions within the crate answer.
use Rattle.std.specs.Prelude.{Some, None, ℕ, ◌<◌, ◌≡◌, Bool, true, false, ◌&&◌, cond, List, length, get_or, eqb, ltb}
use Rattle.std.specs.Prelude.{Option as Optional}
use Rattle.std.proofs.Math.Option.{Option, none, some}
use Rattle.blocks.specs.Block.{program_in, edition_in, part_in, good, first_check, second_check}
use Rattle.blocks.specs.Editions.{file_fits, blocks_in, block_at, counted, start_of, length_of, named_by, whole, parts_of, table_of}
use Rattle.blocks.specs.declared.Sums.{Sums}
use Rattle.blocks.specs.declared.Place.{Place}
use Rattle.blocks.specs.declared.Fetched.{Fetched}

pub record Summed (bytes : List ℕ) (r : Sums) : Type 0 where
  pub first : r.first ≡ first_check bytes
  pub second : r.second ≡ second_check bytes

-- a good block of a program
unfoldable pub usable : (program : ℕ) → List ℕ → Bool
usable p b = eqb (program_in b) p && good b

-- for each block of a file that is not refused 17, whether it is one
pub record Checked (file : List ℕ) (program : ℕ) (marks : List Bool) : Type 0 where
  pub fits : file_fits file ≡ true
  pub marked : (i : ℕ) → i < blocks_in file → get_or marks i false ≡ usable program (block_at file i)

-- a block is for an edition and a part
unfoldable pub is_part : (edition part : ℕ) → List ℕ → Bool
is_part e k b = eqb (edition_in b) e && eqb (part_in b) k

-- the used content of a block, if there is one
pub record Placed (file : List ℕ) (o : Option ℕ) (r : Place) : Type 0 where
  pub from : r.span.from ≡ start_of o
  pub used : r.span.length ≡ length_of file o
  pub parts : r.parts ≡ named_by file o

-- of the block that counts for a program, an edition and a part
pub record CountedPlace (file : List ℕ) (program edition part : ℕ) (r : Place) : Type 0 where
  pub block : ℕ
  pub counts : counted file program edition part ≡ some block
  pub place : Placed file (counted file program edition part) r

-- if one does
abbrev pub FoundPlace : (file : List ℕ) (program edition part : ℕ) → Optional Place → Type 0
FoundPlace file p e k (Some r) = CountedPlace file p e k r
FoundPlace file p e k None = counted file p e k ≡ none

-- an edition that is chosen, with its number of parts and the length of its table
abbrev pub chosen : (file : List ℕ) (program : ℕ) → Option ℕ → Optional Fetched
chosen file p none = None
chosen file p (some e) = Some (record { edition = e; parts = parts_of file p e; length = length (table_of file p e) })

-- if it is whole
unfoldable pub edition_of : (file : List ℕ) (program edition : ℕ) → Optional Fetched
edition_of file p e = cond (whole file p e) (chosen file p (some e)) None

-- an edition is higher than the best so far
abbrev pub higher_than : ℕ → Optional Fetched → Bool
higher_than e (Some d) = ltb d.edition e
higher_than e None = true

-- the best of the editions whose part 0 is in one of the first n blocks: whole, and no higher one of them is
pub data Best (file : List ℕ) (p n : ℕ) : Optional Fetched → Type 0 where
  none_yet : ((d i : ℕ) → i < n → counted file p d 0 ≡ some i → whole file p d ≡ false) → Best file p n None
  best : (e : ℕ) → whole file p e ≡ true → ((d i : ℕ) → i < n → counted file p d 0 ≡ some i → e < d → whole file p d ≡ false) → Best file p n (chosen file p (some e))
