-- The lines of Table W's W1 and W2, of a program that tests, and of no table. They are proved in proofs/Examples.antt.
use Rattle.std.specs.Prelude.{[], ◌∷◌}
use Rattle.planline.specs.Line.{IsLine}

pub record Examples : Type 0 where
  -- `3`
  pub w1 : IsLine (2 ∷ 0 ∷ 3 ∷ 7 ∷ 9 ∷ 0 ∷ 8 ∷ 0 ∷ []) (51 ∷ 10 ∷ [])
  -- `refused 11 1`
  pub w2 : IsLine (1 ∷ 0 ∷ 8 ∷ 0 ∷ []) (114 ∷ 101 ∷ 102 ∷ 117 ∷ 115 ∷ 101 ∷ 100 ∷ 32 ∷ 49 ∷ 49 ∷ 32 ∷ 49 ∷ 10 ∷ [])
  -- `5`: `early`, of crate starts
  pub early : IsLine (1 ∷ 0 ∷ 2 ∷ 0 ∷ 9 ∷ 0 ∷ 1 ∷ 0 ∷ 6 ∷ 1 ∷ 2 ∷ 0 ∷ 9 ∷ 0 ∷ []) (53 ∷ 10 ∷ [])
  -- `10`: `beside`, of crate starts
  pub beside : IsLine (1 ∷ 0 ∷ 2 ∷ 0 ∷ 9 ∷ 0 ∷ 1 ∷ 0 ∷ 6 ∷ 1 ∷ 1 ∷ 0 ∷ 2 ∷ 0 ∷ 9 ∷ 0 ∷ 1 ∷ 0 ∷ 6 ∷ 1 ∷ 10 ∷ 0 ∷ 1 ∷ 0 ∷ 1 ∷ 0 ∷ 9 ∷ 0 ∷ 9 ∷ 0 ∷ []) (49 ∷ 48 ∷ 10 ∷ [])
  -- `refused 2 0`
  pub empty : IsLine [] (114 ∷ 101 ∷ 102 ∷ 117 ∷ 115 ∷ 101 ∷ 100 ∷ 32 ∷ 50 ∷ 32 ∷ 48 ∷ 10 ∷ [])
