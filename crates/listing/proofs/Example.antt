-- The listing of table W1 (document 01, "Listing program"), as text.
use mathlib.Core.Path.{◌≡◌, refl}
use mathlib.Core.List.{[], ◌∷◌}
use Rattle.codes.specs.Codes.{word}
use Rattle.esterel.specs.Checks.{verdict}
use Rattle.listing.specs.Text.{digits, line_text, header_text, text_of}

pub w1-text :
    text_of (verdict (2 ∷ 0 ∷ 3 ∷ 7 ∷ 9 ∷ 0 ∷ 8 ∷ 0 ∷ []))
    ≡ 111 ∷ 107 ∷ 32 ∷ 52 ∷ 32 ∷ 49 ∷ 32 ∷ 56 ∷ 10
    ∷ 48 ∷ 32 ∷ 50 ∷ 32 ∷ 48 ∷ 32 ∷ 50 ∷ 32 ∷ 51 ∷ 32 ∷ 49 ∷ 32 ∷ 49 ∷ 10
    ∷ 49 ∷ 32 ∷ 51 ∷ 32 ∷ 55 ∷ 32 ∷ 49 ∷ 32 ∷ 49 ∷ 32 ∷ 48 ∷ 32 ∷ 48 ∷ 10
    ∷ 50 ∷ 32 ∷ 57 ∷ 32 ∷ 48 ∷ 32 ∷ 50 ∷ 32 ∷ 51 ∷ 32 ∷ 49 ∷ 32 ∷ 49 ∷ 10
    ∷ 51 ∷ 32 ∷ 56 ∷ 32 ∷ 48 ∷ 32 ∷ 50 ∷ 32 ∷ 50 ∷ 32 ∷ 48 ∷ 32 ∷ 48 ∷ 10
    ∷ []
unfolding word digits line_text header_text text_of
w1-text = refl
