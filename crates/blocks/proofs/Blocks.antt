-- The blocks of a file, and of one that is not refused 17.
use mathlib.Core.Path.{◌≡◌, ap, ◌∙◌}
use mathlib.Core.Bool.{Bool, true, false}
use mathlib.Core.List.{List}
use Prim.Native.Nat.{ℕ, ◌+◌, ◌*◌, ◌%◌, ◌≤◌, ◌<◌}
use native.Mathlib.Nat.{div-add-mod, mod-lt}
use native.Mathlib.Omega.{arith}
use borrow.Author.Count.{below_more}
use borrow.Author.Tests.{eqb-true, eq-eqb, leb-true, le-leb}
use lib.Dec.{eqb, leb}
use lib.ListN.{length, get_or, take, drop, set, length-drop, length-set}
use lib.Seq.{length-take-le, take-take, drop-drop, take-add, drop_at, get_or-set_same, get_or-set_other}
use Rattle.codes.proofs.Bools.{both, left, right}
use Rattle.blocks.specs.Block.{block_size, content_at, content_size}
use Rattle.blocks.specs.Editions.{max_blocks, file_fits, blocks_in, block_at}
use Rattle.blocks.specs.Steps.{usable, Checked}
use Rattle.blocks.specs.Theorems.{Files}

module _ (file : List ℕ) (i : ℕ) where
  -- block i is in the file
  pub block_within : i < blocks_in file → block_size * i + block_size ≤ length file
  unfolding blocks_in
  block_within h = omega (arith, div-add-mod (length file) block_size)

  pub block-below : block_size * i + block_size ≤ length file → i < blocks_in file
  unfolding blocks_in
  block-below h = omega (arith, div-add-mod (length file) block_size, mod-lt (length file) {m = block_size} (omega arith))

  module _ (h : block_size * i + block_size ≤ length file) where
    -- the front of its content is where it is in the file
    pub content_in : (n : ℕ) → n ≤ content_size → take n (drop content_at (block_at file i)) ≡ take n (drop (block_size * i + content_at) file)
    unfolding block_at
    content_in n l =
        let rest = drop (block_size * i) file in
        let front : length (take content_at rest) ≡ content_at = length-take-le content_at rest (omega (arith, length-drop (block_size * i) file)) in
        ap (λ b. take n (drop content_at b)) (take-add content_at 504 rest)
        ∙ ap (take n) (drop_at (take content_at rest) (take 504 (drop content_at rest)) content_at front)
        ∙ take-take n 504 (drop content_at rest) (omega arith)
        ∙ ap (take n) (drop-drop content_at (block_size * i) file)

module _ (file : List ℕ) where
  pub file_length : file_fits file ≡ true → length file ≡ block_size * blocks_in file
  unfolding file_fits blocks_in
  file_length f =
      let e : length file % block_size ≡ 0 = eqb-true _ _ (left (eqb (length file % block_size) 0) (leb (length file) (max_blocks * block_size)) f) in
      omega (arith, div-add-mod (length file) block_size)

  pub few_blocks : file_fits file ≡ true → blocks_in file ≤ max_blocks
  unfolding file_fits
  few_blocks f =
      let e : length file ≤ max_blocks * block_size = leb-true _ _ (right (eqb (length file % block_size) 0) f) in
      omega (arith, file_length f)

  pub whole_blocks : (n : ℕ) → n ≤ max_blocks → length file ≡ block_size * n → file_fits file ≡ true
  unfolding file_fits
  whole_blocks n h e =
      both
      (eq-eqb (length file % block_size) 0 (omega (arith, div-add-mod (length file) block_size, mod-lt (length file) {m = block_size} (omega arith))))
      (le-leb (length file) (max_blocks * block_size) (omega arith))

pub files : Files
files = record { fits = λ file. (λ f. (blocks_in file, few_blocks file f, file_length file f), λ (n, h, e). whole_blocks file n h e) }

-- the blocks before i are checked
pub record Checking (file : List ℕ) (p : ℕ) (marks : List Bool) (i : ℕ) : Type 0 where
  pub bound : i ≤ blocks_in file
  pub long : length marks ≡ max_blocks
  pub marked : (j : ℕ) → j < i → get_or marks j false ≡ usable p (block_at file j)

module _ {file : List ℕ} {p : ℕ} {marks : List Bool} {i : ℕ} (f : file_fits file ≡ true) (o : Checking file p marks i) where
  pub checking_next : {v : Bool} → i < blocks_in file → v ≡ usable p (block_at file i) → Checking file p (set marks i v) (i + 1)
  checking_next {v} h e =
      record {
        bound = omega arith;
        long = length-set marks i v ∙ o.long;
        marked =
            below_more _ i (λ j l. get_or-set_other marks i j v false (λ s. omega arith) ∙ o.marked j l)
            (get_or-set_same marks i v false (omega (arith, few_blocks file f, o.long)) ∙ e);
      }

  pub checking_end : blocks_in file ≤ i → Checked file p marks
  checking_end h = record { fits = f; marked = λ j l. o.marked j (omega arith) }
