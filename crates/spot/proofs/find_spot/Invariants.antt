use Rattle.std.proofs.Common.{◌≡◌, ◌+◌, length, take}
use Rattle.spot.specs.Spots.{line_feeds, last_line}
use Rattle.spot.proofs.find_spot.Given as goal

abbrev pub invariant-loop-byte : goal.invariant-loop-byte
invariant-loop-byte l =
    (l.spot.line ≡ 1 + line_feeds (take l.byte-index l.byte-items)) × (l.spot.column ≡ 1 + length (last_line (take l.byte-index l.byte-items)))
