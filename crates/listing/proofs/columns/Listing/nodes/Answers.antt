-- Two bytes a node.
use Rattle.std.specs.Coded.{×_prop, le_prop, Coded-set, coded_ℕ}
use Rattle.std.proofs.Common.{arith}
use Rattle.std.proofs.Math.Logic.{∥∥₁_elim}
use Rattle.table.proofs.Bytes.{table-length}
use Rattle.table.proofs.Surveying.{few-nodes}
use Rattle.listing.proofs.columns.Listing.nodes.Goals as goal

pub returns : goal.returns
returns c =
    ∥∥₁_elim
    c.args.self.now.columns
    (×_prop (Coded-set coded_ℕ _ _) le_prop)
    (λ o. (omega (arith, table-length c.args.self.now.table.now o.readable), omega (arith, table-length c.args.self.now.table.now o.readable, few-nodes c.args.self.now.table.now o.readable)))
