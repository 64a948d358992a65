-- What a tree keeps is what is known of a table that was read, with the sizes of its subtrees.
use mathlib.Core.Path.{◌≡◌, refl, ap}
use mathlib.Core.Bool.{true, false≢true}
use mathlib.Core.List.{List}
use Prim.Native.Nat.{ℕ, ◌+◌, ◌*◌, ◌/◌, ◌≤◌, ◌<◌}
use native.Mathlib.Omega.{arith}
use lib.ListN.{length}
use Rattle.esterel.specs.Limits.{max_nodes}
use Rattle.esterel.specs.Statement.{size}
use Rattle.esterel.specs.Table.{Verdict, passed, refused, read}
use Rattle.table.specs.Program.{program_in, program_of, Readable}
use Rattle.table.specs.Columns.{Measured, is_passed, TreeOf, sizes_of}
use Rattle.table.proofs.Bytes.{table-length}
use Rattle.table.proofs.Surveying.{few-nodes}
use Rattle.table.proofs.Sizing.{length_sizes, sizes_at}

passed-by : (v : Verdict) → is_passed v ≡ true → v ≡ passed (program_in v)
passed-by (passed p) e = refl
passed-by (refused number node) e = absurd (false≢true e)

pub readable-by : (t : List ℕ) → is_passed (read t) ≡ true → Readable t
unfolding program_of
readable-by t e = record { reads = passed-by (read t) e }

module _ {t sizes : List ℕ} where
  pub readable : TreeOf t sizes → Readable t
  readable o = readable-by t o.reads

  -- each has a place in the arrays of a call
  pub few : TreeOf t sizes → size (program_of t) ≤ max_nodes
  few o = few-nodes t (readable o)

  pub measured-by : TreeOf t sizes → Measured t sizes
  measured-by o = record { readable = readable-by t o.reads; sized = o.sized; listed = o.listed }

  pub kept-by : Measured t sizes → TreeOf t sizes
  kept-by o = record { reads = ap is_passed o.readable.reads; sized = o.sized; listed = o.listed }

  pub nodes-are : TreeOf t sizes → length t / 2 ≡ size (program_of t)
  nodes-are o = omega (arith, table-length t (readable-by t o.reads))

  pub inside : TreeOf t sizes → (node : ℕ) → node < size (program_of t) → 2 * node + 1 < length t
  inside o node h = omega (arith, table-length t (readable-by t o.reads))

-- what is known of a table that was read, whatever list the sizes are in
pub measured_alone : {t : List ℕ} → Readable t → Measured t (sizes_of (program_of t))
measured_alone {t} ok = record { readable = ok; sized = sizes_at (program_of t); listed = omega (arith, length_sizes (program_of t)) }
