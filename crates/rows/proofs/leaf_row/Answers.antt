-- Only the leaf's own code is given.
use Rattle.std.proofs.Common.{arith}
use Rattle.table.specs.Kinds.{leaf_of}
use Rattle.rows.proofs.Said.{leaf-holds}
use Rattle.rows.proofs.leaf_row.Goals as goal

pub returns : goal.returns
returns c =
    leaf-holds c.args.weight (leaf_of c.args.kind c.args.field) c.leaf_code.ensures (omega (arith, c.leaf_code.ensures, c.requires.1)) c.entry.ensures
