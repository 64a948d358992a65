-- The layout on worked examples, computed.
use Rattle.std.specs.Prelude.{ℕ, ◌≡◌, true, false, List, [], ◌∷◌, ◌++◌}
use Rattle.esterel.specs.Instant.{zeros}
use Rattle.esterel.specs.TableW.{w1}
use Rattle.packing.specs.Packing.{held_bit, unpack, pack, admits}

-- nodes 0 and 9 of 15 are held
abbrev pub zero_and_nine : List ℕ
zero_and_nine = 1 ∷ (zeros 8 ++ (1 ∷ zeros 5))

pub record Layout : Type 0 where
  pub packs : pack zero_and_nine ≡ 1 ∷ 2 ∷ zeros 126
  pub unpacks : unpack 15 (1 ∷ 2 ∷ zeros 126) ≡ zero_and_nine
  pub seventh : pack (zeros 7 ++ (1 ∷ [])) ≡ 128 ∷ zeros 127
  pub last : held_bit (zeros 127 ++ (128 ∷ [])) 1023 ≡ 1
  -- W1's pause; no bit; a bit of another node, and from 4 on
  pub admitted : admits w1 (1 ∷ zeros 127) ≡ true
  pub nothing : admits w1 (zeros 128) ≡ false
  pub of_emit : admits w1 (3 ∷ zeros 127) ≡ false
  pub past_end : admits w1 (17 ∷ zeros 127) ≡ false
  pub at_end : admits w1 (1 ∷ (zeros 126 ++ (128 ∷ []))) ≡ false
  -- highest bit first, it would be node 7
  pub highest : admits w1 (128 ∷ zeros 127) ≡ false
