-- Worked examples, as one statement. They are proved in proofs/Examples.antt.
use Rattle.std.specs.Prelude.{ℕ, ◌≡◌, List, [], ◌∷◌, ◌++◌}
use Rattle.esterel.specs.Statement.{nothing, pause, exit, signal, suspend, loop, trap, present, sequence, Stmt, leaf, one, two}
use Rattle.esterel.specs.Table.{passed, refused}
use Rattle.esterel.specs.Instant.{started, entry, closed, starved, zeros}
use Rattle.tied.specs.Ties.{Ties, ties_of, none_tied, start_tied}
use Rattle.tied.specs.Narrowed.{words_of}
use Rattle.tied.specs.Calls.{verdict_for}

-- signal 5 by its byte: 1 is absent, 2 present; no other is tied
abbrev pub absent5 : Ties
absent5 = ties_of (0 ∷ 0 ∷ 0 ∷ 0 ∷ 0 ∷ 1 ∷ [])

abbrev pub present5 : Ties
present5 = ties_of (0 ∷ 0 ∷ 0 ∷ 0 ∷ 0 ∷ 2 ∷ [])

-- the 256 bytes of a call, with that of signal 5
abbrev pub bytes5 : ℕ → List ℕ
bytes5 b = zeros 5 ++ (b ∷ zeros 250)

-- W6, a loop of present 5 then nothing else pause, and its body alone
abbrev pub w6 : List ℕ
w6 = 1 ∷ 0 ∷ 2 ∷ 0 ∷ 6 ∷ 5 ∷ 8 ∷ 0 ∷ []

abbrev pub body : List ℕ
body = 1 ∷ 0 ∷ 2 ∷ 0 ∷ 6 ∷ 5 ∷ []

-- present 5 then nothing else pause
abbrev pub choice : Stmt
choice = two (present 5) (leaf nothing) (leaf pause)

-- the lock request, signal 5, ends the program in the instant of its start; K accepts its loop
abbrev pub locking : Stmt
locking = one trap (one loop (two sequence (two (present 5) (leaf (exit 0)) (leaf nothing)) (leaf pause)))

-- two signal statements of 5, one in the other, with a test before, in and after the inner one
abbrev pub nested : Stmt
nested = one (signal 5) (two sequence (two sequence choice (one (signal 5) choice)) choice)

pub record Examples : Type 0 where
  -- the test alone: {0} or {1}, and with nothing tied both
  pub choice-unknown : words_of none_tied choice ≡ 1 ∷ 2 ∷ 3 ∷ []
  pub choice-absent : words_of absent5 choice ≡ 1 ∷ 2 ∷ 2 ∷ []
  pub choice-present : words_of present5 choice ≡ 1 ∷ 2 ∷ 1 ∷ []
  -- the test stands inside the signal statement
  pub inside-unknown : words_of present5 (one (signal 5) choice) ≡ 1 ∷ 2 ∷ 3 ∷ 3 ∷ []
  -- beside it, it doesn't
  pub beside-tied : words_of absent5 (two sequence (one (signal 5) choice) choice) ≡ 1 ∷ 2 ∷ 3 ∷ 3 ∷ 1 ∷ 2 ∷ 2 ∷ 2 ∷ []
  -- after the inner statement the outer one still stands around the test
  pub nested-unknown : words_of absent5 nested ≡ 1 ∷ 2 ∷ 3 ∷ 1 ∷ 2 ∷ 3 ∷ 3 ∷ 3 ∷ 1 ∷ 2 ∷ 3 ∷ 3 ∷ 3 ∷ []
  -- the exit that is cut off keeps its own set; its code falls away from the test, the sequence and the loop, and the end from the trap
  pub locking-unknown : words_of none_tied locking ≡ 4 ∷ 1 ∷ 5 ∷ 2 ∷ 6 ∷ 6 ∷ 3 ∷ []
  pub locking-absent : words_of absent5 locking ≡ 4 ∷ 1 ∷ 1 ∷ 2 ∷ 2 ∷ 2 ∷ 2 ∷ []
  pub locking-present : words_of present5 locking ≡ 4 ∷ 1 ∷ 4 ∷ 2 ∷ 4 ∷ 4 ∷ 1 ∷ []
  -- a suspend is not tested when it is started
  pub suspend_untested : words_of present5 (one (suspend 5) (leaf pause)) ≡ 2 ∷ 2 ∷ []
  -- a tied test takes no answer: what is lent is left
  pub takes_none : start_tied absent5 0 choice (1 ∷ []) ≡ closed 1 (entry 2 started 1 ∷ entry 1 started 1 ∷ []) (0 ∷ 1 ∷ 0 ∷ []) (1 ∷ [])
  pub takes_one : start_tied none_tied 0 choice (1 ∷ []) ≡ closed 0 (entry 2 started 0 ∷ entry 0 started 0 ∷ []) (0 ∷ 0 ∷ 0 ∷ []) []
  -- K refuses W6, though no body ends with 5 tied absent, and comes before 19; the bytes are measured before the nodes are read
  pub w6-refused : verdict_for w6 (bytes5 1) (zeros 4) ≡ refused 11 3
  pub w6-first : verdict_for w6 (bytes5 3) (zeros 4) ≡ refused 11 3
  pub body_refused : verdict_for body (bytes5 3) (zeros 3) ≡ refused 19 0
  pub body-passed : verdict_for body (bytes5 2) (zeros 3) ≡ passed choice
  pub short-refused : verdict_for (12 ∷ 0 ∷ []) (zeros 255) (zeros 1) ≡ refused 3 0
  pub inside-takes-one : start_tied absent5 0 (one (signal 5) choice) [] ≡ starved
