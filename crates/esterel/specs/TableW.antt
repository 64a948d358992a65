-- Table W of document 01, as one statement. It is proved in proofs/TableW.antt.
use Rattle.std.specs.Prelude.{ℕ, ◌≡◌, [], ◌∷◌, set}
use Rattle.esterel.specs.Limits.{signals}
use Rattle.esterel.specs.Statement.{Stmt, leaf, one, two, pause, emit, loop, sequence, size, loop_depth}
use Rattle.esterel.specs.Codes.{word}
use Rattle.esterel.specs.Sets.{start_set}
use Rattle.esterel.specs.Table.{Verdict, passed, refused}
use Rattle.esterel.specs.Checks.{verdict, listing, line, planned}
use Rattle.esterel.specs.Instant.{start, resume, zeros}
use Rattle.esterel.specs.Outcome.{outcome, done}

-- W1: a loop of pause and emit 7
abbrev pub w1 : Stmt
w1 = one loop (two sequence (leaf pause) (leaf (emit 7)))

-- the last K of an accepted table, and nothing of a refused one
pub data LastK : Type 0 where
  last_k : (K : ℕ) → LastK
  none : LastK

abbrev pub last : Verdict → LastK
last (passed p) = last_k (word (start_set p))
last (refused number node) = none

pub record TableW : Type 0 where
  pub w1-read : verdict (2 ∷ 0 ∷ 3 ∷ 7 ∷ 9 ∷ 0 ∷ 8 ∷ 0 ∷ []) ≡ passed w1
  pub w1-nodes : size w1 ≡ 4
  pub w1-depth : loop_depth w1 ≡ 1
  pub w1-planned : planned w1 ≡ 8
  pub w1_lines : listing w1 ≡ line 2 0 2 3 1 1 ∷ line 3 7 1 1 0 0 ∷ line 9 0 2 3 1 1 ∷ line 8 0 2 2 0 0 ∷ []
  pub w2 : verdict (1 ∷ 0 ∷ 8 ∷ 0 ∷ []) ≡ refused 11 1
  -- {1} is the word 2
  pub w3 : last (verdict (4 ∷ 1 ∷ 4 ∷ 0 ∷ 10 ∷ 0 ∷ 11 ∷ 0 ∷ 4 ∷ 1 ∷ 9 ∷ 0 ∷ 11 ∷ 0 ∷ 2 ∷ 0 ∷ 9 ∷ 0 ∷ 11 ∷ 0 ∷ 8 ∷ 0 ∷ [])) ≡ last_k 2
  pub w4 : verdict (4 ∷ 0 ∷ 11 ∷ 0 ∷ 8 ∷ 0 ∷ []) ≡ refused 11 2
  pub w5 : verdict (4 ∷ 0 ∷ []) ≡ refused 10 0
  pub w6 : verdict (1 ∷ 0 ∷ 2 ∷ 0 ∷ 6 ∷ 5 ∷ 8 ∷ 0 ∷ []) ≡ refused 11 3
  pub w7 : last (verdict (1 ∷ 0 ∷ 2 ∷ 0 ∷ 10 ∷ 0 ∷ [])) ≡ last_k 2
  pub w8 : verdict (2 ∷ 0 ∷ 1 ∷ 0 ∷ 6 ∷ 5 ∷ 1 ∷ 0 ∷ 2 ∷ 0 ∷ 6 ∷ 5 ∷ 9 ∷ 0 ∷ 8 ∷ 0 ∷ []) ≡ refused 11 7
  -- code 1, no answer taken, 3 entries, pause 0 held, no emission
  pub w9_started : outcome w1 (start 0 w1 []) ≡ done 1 0 3 (1 ∷ 0 ∷ 0 ∷ 0 ∷ []) (zeros signals)
  -- code 1, no answer taken, 6 entries, pause 0 held, emission of 7
  pub w9_resumed : outcome w1 (resume 0 w1 (1 ∷ 0 ∷ 0 ∷ 0 ∷ []) []) ≡ done 1 0 6 (1 ∷ 0 ∷ 0 ∷ 0 ∷ []) (set (zeros signals) 7 1)
