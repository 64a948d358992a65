-- Before each node the table reads to `unused` statements.
use Rattle.std.proofs.Common.{◌/◌, ◌≤◌, length}
use Rattle.table.proofs.Pass.{Reading}
use Rattle.table.proofs.read_nodes.Given as goal

abbrev pub invariant-loop-i : goal.invariant-loop-i
invariant-loop-i l = record { within : l.i ≤ length l.table / 2; reading : Reading l.table l.unused l.i }
