-- "every answer list of 12 bytes of 0 or 1" (document 02, F-13), for any number of answers.
use Rattle.std.specs.Prelude.{ℕ, zero, suc, List, [], ◌∷◌, get_or}

-- each list with absent before it, and with present
unfoldable pub extended : List (List ℕ) → List (List ℕ)
extended [] = []
extended (l ∷ ls) = (0 ∷ l) ∷ (1 ∷ l) ∷ extended ls

-- every list of m answers of 0 or 1
unfoldable pub lists : ℕ → List (List ℕ)
lists zero = [] ∷ []
lists (suc m) = extended (lists m)

-- number i of them, from 0 on
abbrev pub list_at : (m i : ℕ) → List ℕ
list_at m i = get_or (lists m) i []
