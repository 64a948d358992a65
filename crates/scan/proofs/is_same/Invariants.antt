-- The bytes from a place on are the same, up to the first that differ.
use Rattle.std.proofs.Common.{◌≡◌, length, drop}
use Rattle.grammar.specs.Tokens.{same_bytes}
use Rattle.scan.proofs.is_same.Given as goal

abbrev pub invariant-loop-i : goal.invariant-loop-i
invariant-loop-i l = (length l.a ≡ length l.b) × (same_bytes l.a l.b ≡ same_bytes (drop l.i l.a) (drop l.i l.b))
