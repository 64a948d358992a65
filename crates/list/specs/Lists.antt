-- What listing the input comes to: from the buffers b and t to b' and t'.
use Rattle.std.specs.Prelude.{ℕ, List, Result}
use Rattle.std.specs.declared.io.Error.{Error}
use Rattle.listing.specs.Whole.{IsListing}
use Rattle.program.specs.Shows.{ShowsText, Shows}

-- of the whole input
abbrev pub ListsText : (b b' t t' : List ℕ) (end : ℕ) → Type 0
ListsText = ShowsText IsListing

-- where a read fails, it stays as it was
abbrev pub Lists : (b b' t t' : List ℕ) → Result ℕ Error → Type 0
Lists = Shows IsListing
