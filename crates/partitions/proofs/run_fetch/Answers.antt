-- The table that was fetched lies within the lent one.
use Rattle.std.proofs.Common.{ℕ, ◌≤◌, List, Ok, length, arith, sym}
use lib.Seq.{length-take-le}
use Rattle.blocks.specs.Fetching.{Fetching}
use Rattle.blocks.specs.declared.Fetched.{Fetched}
use Rattle.blocks.proofs.Theorems.{of_fetch}
use Rattle.partitions.proofs.run_fetch.Goals as goal

within : {file old new : List ℕ} {p : ℕ} {f : Fetched} → Fetching file p old new (Ok f) → (f.length ≤ 2048) × (2048 ≤ length old)
within {file} {old} {new} {p} {f} w =
    let wrote = (of_fetch.done file p old new f.length f.edition f.parts).0 w in
    (wrote.short, wrote.room)

pub slice_bounds-write_hex-end : goal.slice_bounds-write_hex-end
slice_bounds-write_hex-end g c = let w = within c.in-Ok.ensures in omega (arith, w.0, w.1, c.fetch.auto.table)

pub slice_bounds-write_hex-end-in-Ok : goal.slice_bounds-write_hex-end-in-Ok
slice_bounds-write_hex-end-in-Ok g c = let w = within c.in-Ok.ensures in sym (length-take-le _ _ (omega (arith, w.0, w.1, c.fetch.auto.table)))

pub slice_bounds-past-count : goal.slice_bounds-past-count
slice_bounds-past-count g c = let w = within c.in-Ok.ensures in omega (arith, w.0, w.1, c.fetch.auto.table)

pub slice_bounds-past-start : goal.slice_bounds-past-start
slice_bounds-past-start g c = let w = within c.in-Ok.ensures in omega (arith, w.0, w.1, c.fetch.auto.table)
