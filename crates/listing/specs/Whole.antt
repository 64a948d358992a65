-- The listing of what was read is the listing of the whole input.
use Rattle.std.specs.Prelude.{ℕ, ◌*◌, ◌<◌, List, take}
use Rattle.esterel.specs.Limits.{max_nodes}
use Rattle.esterel.specs.Checks.{verdict}
use Rattle.listing.specs.Text.{text_of}
use Rattle.listing.specs.Rendering.{WholeText}
use Rattle.listing.specs.Cut.{verdict_of_front}

-- the text is the listing of an input
abbrev pub IsListing : (input t t' : List ℕ) (end : ℕ) → Type 0
IsListing input t t' end = WholeText (text_of (verdict input)) t t' end

pub listing_of_front : (n : ℕ) (input t t' : List ℕ) (end : ℕ) → 2 * max_nodes < n → IsListing (take n input) t t' end → IsListing input t t' end
listing_of_front n input t t' end h o = rw (verdict_of_front n input h) at o
