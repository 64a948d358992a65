-- The lines of Table W's W2, W6 and W8, and of W1, which is accepted. They are proved in proofs/Examples.antt.
use Rattle.std.specs.Prelude.{[], ◌∷◌}
use Rattle.tickline.specs.Line.{IsLine}

pub record Examples : Type 0 where
  -- `1`
  pub w2 : IsLine (1 ∷ 0 ∷ 8 ∷ 0 ∷ []) (49 ∷ 10 ∷ [])
  -- `3 1`
  pub w6 : IsLine (1 ∷ 0 ∷ 2 ∷ 0 ∷ 6 ∷ 5 ∷ 8 ∷ 0 ∷ []) (51 ∷ 32 ∷ 49 ∷ 10 ∷ [])
  -- `7 0 1`
  pub w8 : IsLine (2 ∷ 0 ∷ 1 ∷ 0 ∷ 6 ∷ 5 ∷ 1 ∷ 0 ∷ 2 ∷ 0 ∷ 6 ∷ 5 ∷ 9 ∷ 0 ∷ 8 ∷ 0 ∷ []) (55 ∷ 32 ∷ 48 ∷ 32 ∷ 49 ∷ 10 ∷ [])
  -- `ok 4 1 8`
  pub w1 : IsLine (2 ∷ 0 ∷ 3 ∷ 7 ∷ 9 ∷ 0 ∷ 8 ∷ 0 ∷ []) (111 ∷ 107 ∷ 32 ∷ 52 ∷ 32 ∷ 49 ∷ 32 ∷ 56 ∷ 10 ∷ [])
