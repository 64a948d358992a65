-- Worked examples, as two statements: the lists of Table W, lists of one length under a parallel, and a shorter list with present; and first
-- ticks. They are proved in proofs/Examples.antt.
use Rattle.std.specs.Prelude.{◌≡◌, [], ◌∷◌}
use Rattle.std.proofs.Math.Option.{none, some}
use Rattle.esterel.specs.Statement.{nothing, pause, emit, exit, loop, trap, present, sequence, parallel, Stmt, leaf, one, two}
use Rattle.starts.specs.Ticks.{IsShown}
use Rattle.starts.specs.Entries.{Greatest, IsLongest}
use Rattle.starts.specs.Summary.{least_answers, most_entries}

-- the bodies of the loops of W2, W6 and W8
abbrev pub w2 : Stmt
w2 = leaf nothing

abbrev pub w6 : Stmt
w6 = two (present 5) (leaf nothing) (leaf pause)

abbrev pub w8 : Stmt
w8 = two sequence (two (present 5) (leaf pause) (leaf nothing)) w6

-- a parallel that pauses over the lists 0 0, 0 1 and 1 1, all of one length
abbrev pub tests : Stmt
tests = two parallel (two (present 1) (leaf nothing) (leaf pause)) (two (present 2) (leaf pause) (leaf nothing))

-- the then branch ends at once, by an exit, and the else branch after one more answer: over the lists 1, 0 0 and 0 1
abbrev pub shorter : Stmt
shorter = one trap (two (present 1) (leaf (exit 0)) (two (present 2) (leaf nothing) (leaf nothing)))

-- W1, the lock without its key: the emit after the pause is not entered
abbrev pub w1 : Stmt
w1 = one loop (two sequence (leaf pause) (leaf (emit 7)))

-- the most entries of the first part are with code 1, which does not go on to the second
abbrev pub stays : Stmt
stays = two (present 1) (two sequence (leaf nothing) (leaf pause)) (leaf nothing)

abbrev pub early : Stmt
early = two sequence stays (leaf pause)

-- the most entries of a parallel are with codes 1 and 1; it ends with 0 and 0 only
abbrev pub beside : Stmt
beside = two sequence (two parallel stays stays) (two sequence (leaf nothing) (leaf nothing))

-- two tests that come to the same
abbrev pub either : Stmt
either = two sequence (two (present 1) (leaf nothing) (leaf nothing)) (two (present 2) (leaf nothing) (leaf (emit 3)))

pub record Examples : Type 0 where
  pub w2-shown : IsShown 0 w2 0 []
  pub w6-shown : IsShown 0 w6 0 (1 ∷ [])
  pub w8-shown : IsShown 0 w8 0 (0 ∷ 1 ∷ [])
  -- all of one length: absent at the first difference, and at the second
  pub tests-shown : IsShown 0 tests 1 (0 ∷ 0 ∷ [])
  -- the shorter list comes before one that has absent
  pub shorter-shown : IsShown 0 shorter 0 (1 ∷ [])
  -- W8 pauses after one answer or after two, and never exits
  pub w8-least : least_answers w8 1 ≡ some 1
  pub w8-none : least_answers w8 2 ≡ none

pub record FirstTicks : Type 0 where
  pub w1-most : Greatest w1 3
  -- 5 with present; with absent 4, though the second part is entered
  pub early-most : Greatest early 5
  pub early-longest : IsLongest early 5 (1 ∷ [])
  -- 10 where both pause; 9 where both end and the second part is entered
  pub beside-most : Greatest beside 10
  pub beside-longest : IsLongest beside 10 (1 ∷ 1 ∷ [])
  -- of four lists the one with absent at each difference
  pub either-most : Greatest either 5
  pub either-longest : IsLongest either 5 (0 ∷ 0 ∷ [])
  -- by codes: the parallel alone, which comes to 9 with code 1 and to 5 with code 0
  pub pauses : most_entries (two parallel stays stays) 1 ≡ some 9
  pub ends : most_entries (two parallel stays stays) 0 ≡ some 5
