-- Worked examples of F-12, each sentence in its order, as one statement. It is proved in proofs/Examples.antt.
use Rattle.std.specs.Prelude.{◌≡◌, true, false, [], ◌∷◌}
use Rattle.esterel.specs.Statement.{nothing, pause, emit, exit, signal, suspend, loop, trap, present, sequence, parallel, Stmt, leaf, one, two}
use Rattle.question.specs.Question.{found, question}

-- present 5 then nothing else pause end
abbrev pub fork : Stmt
fork = two (present 5) (leaf nothing) (leaf pause)

-- present 5 then exit 0 else exit 1 end, in a trap
abbrev pub caught : Stmt
caught = one trap (two (present 5) (leaf (exit 0)) (leaf (exit 1)))

-- signal 3 in suspend emit 3; fork when 4 end
abbrev pub nested : Stmt
nested = one (signal 3) (one (suspend 4) (two sequence (leaf (emit 3)) fork))

-- present 5 then pause else exit 0 end, and the other way round with exit 1
abbrev pub leaves : Stmt
leaves = two (present 5) (leaf pause) (leaf (exit 0))

abbrev pub outer : Stmt
outer = two (present 5) (leaf (exit 1)) (leaf (exit 0))

pub record Examples : Type 0 where
  -- signal, suspend and loop pass the question to the child
  pub passed : question 0 nested 1 ≡ found true (6 ∷ 5 ∷ 4 ∷ 0 ∷ 3 ∷ 1 ∷ 2 ∷ [])
  pub loop_passes : question 0 (one loop (leaf pause)) 1 ≡ found true (1 ∷ 0 ∷ [])
  -- which asks its own children in turn, and does not look at all of them
  pub passed_down : question 0 nested 0 ≡ found true (6 ∷ 5 ∷ 4 ∷ 0 ∷ 3 ∷ 1 ∷ [])
  pub loop_asks : question 0 (one loop leaves) 1 ≡ found true (3 ∷ 2 ∷ 0 ∷ [])
  -- and so does a trap asked for 1, as 1, and for 2, as 3
  pub trap_passes1 : question 0 caught 1 ≡ found false (3 ∷ 2 ∷ 0 ∷ 1 ∷ [])
  pub trap_passes2 : question 0 caught 2 ≡ found true (3 ∷ 2 ∷ 0 ∷ 1 ∷ [])
  pub trap_asks1 : question 0 (one trap leaves) 1 ≡ found true (3 ∷ 2 ∷ 0 ∷ [])
  pub trap_asks2 : question 0 (one trap outer) 2 ≡ found true (3 ∷ 2 ∷ 0 ∷ [])
  pub trap_passes62 : question 0 (one trap (leaf (exit 61))) 62 ≡ found true (1 ∷ 0 ∷ [])
  -- a loop asked for 0 looks no further
  pub loop_ends : question 0 (one loop fork) 0 ≡ found false (3 ∷ [])
  -- a present whose then branch has the code, whose else branch has it, and neither
  pub then_has : question 0 fork 0 ≡ found true (2 ∷ 0 ∷ [])
  pub else_has : question 0 fork 1 ≡ found true (2 ∷ 0 ∷ 1 ∷ [])
  pub neither_has : question 0 fork 2 ≡ found false (2 ∷ 0 ∷ 1 ∷ [])
  pub then_asks : question 0 (two (present 6) fork fork) 0 ≡ found true (6 ∷ 2 ∷ 0 ∷ [])
  pub else_asks : question 0 (two (present 6) (leaf pause) fork) 0 ≡ found true (4 ∷ 0 ∷ 3 ∷ 1 ∷ [])
  -- a sequence whose first lacks 0
  pub first_stays : question 0 (two sequence (leaf pause) (leaf (exit 0))) 1 ≡ found true (2 ∷ 0 ∷ [])
  pub first_lacks : question 0 (two sequence (leaf pause) (leaf (exit 0))) 2 ≡ found false (2 ∷ 0 ∷ [])
  pub first_lacks0 : question 0 (two sequence (leaf pause) (leaf nothing)) 0 ≡ found false (2 ∷ 0 ∷ [])
  -- a sequence whose first has 0: for code 0, for a code that the first has, and for one that it lacks
  pub first_ends : question 0 (two sequence fork (leaf (exit 0))) 0 ≡ found false (4 ∷ 0 ∷ 1 ∷ 2 ∷ 3 ∷ [])
  pub first_has : question 0 (two sequence fork (leaf (exit 0))) 1 ≡ found true (4 ∷ 0 ∷ 1 ∷ 2 ∷ [])
  pub second_has : question 0 (two sequence fork (leaf (exit 0))) 2 ≡ found true (4 ∷ 0 ∷ 1 ∷ 2 ∷ 3 ∷ [])
  -- a parallel and a trap asked for 0: every node
  pub parallel_all : question 0 (two parallel (leaf pause) fork) 0 ≡ found false (0 ∷ 1 ∷ 2 ∷ 3 ∷ 4 ∷ [])
  pub trap_all : question 0 caught 0 ≡ found true (0 ∷ 1 ∷ 2 ∷ 3 ∷ [])
  -- a code above 63: asked, and passed on by a trap that is asked for 63
  pub above : question 0 nested 64 ≡ found false []
  pub passed_on : question 0 (one trap fork) 63 ≡ found false (3 ∷ [])
  -- nodes are numbered as in the table
  pub numbered : question 7 fork 1 ≡ found true (9 ∷ 7 ∷ 8 ∷ [])
