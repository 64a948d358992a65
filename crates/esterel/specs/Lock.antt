-- The lock program of F-5, as one statement. It is proved in proofs/Lock.antt.
use Rattle.std.specs.Prelude.{◌≡◌, [], ◌∷◌}
use Rattle.esterel.specs.Statement.{Stmt, leaf, one, two, pause, exit, loop, trap, sequence, parallel}
use Rattle.esterel.specs.Table.{passed}
use Rattle.esterel.specs.Checks.{verdict, listing, line}
use Rattle.esterel.specs.Instant.{entry, started, resumed, closed, start, resume}

-- a loop that only pauses, and beside it what drops it by an exit
abbrev pub once : Stmt
once = one trap (two parallel (one loop (leaf pause)) (two sequence (leaf pause) (leaf (exit 0))))

-- the outer loop starts it again in that instant
abbrev pub lock : Stmt
lock = one loop once

pub record Lock : Type 0 where
  pub read : verdict (2 ∷ 0 ∷ 8 ∷ 0 ∷ 2 ∷ 0 ∷ 4 ∷ 0 ∷ 9 ∷ 0 ∷ 10 ∷ 0 ∷ 11 ∷ 0 ∷ 8 ∷ 0 ∷ []) ≡ passed lock
  -- one trap stands around the parallel's children: S of nodes 1 and 4 is {0, 1, 2}, the word 7. A of node 1 is {1}, so its mark is 1
  pub lines :
      listing lock ≡
      line 2 0 2 3 7 1 ∷ line 8 0 2 2 7 1 ∷ line 2 0 2 3 7 1 ∷ line 4 0 4 4 0 0 ∷ line 9 0 2 6 7 1 ∷ line 10 0 2 6 5 1 ∷ line 11 0 2 3 1 1 ∷ line 8 0 2 2 0 0 ∷ []
  -- started, it holds the pauses 0 and 2
  pub first :
      start 0 lock [] ≡
      closed 1
      (entry 7 started 1 ∷ entry 6 started 1 ∷ entry 5 started 1 ∷ entry 1 started 1 ∷ entry 0 started 1 ∷ entry 4 started 1 ∷ entry 2 started 1 ∷ [])
      (1 ∷ 0 ∷ 1 ∷ 0 ∷ 0 ∷ 0 ∷ 0 ∷ 0 ∷ []) []
  -- resumed, it enters node 1 twice: resumed it pauses, the exit of node 3 drops it, and it is started
  pub next :
      resume 0 lock (1 ∷ 0 ∷ 1 ∷ 0 ∷ 0 ∷ 0 ∷ 0 ∷ 0 ∷ []) [] ≡
      closed 1
      (entry 7 resumed 1 ∷ entry 6 resumed 0 ∷ entry 5 resumed 2 ∷ entry 1 resumed 1 ∷ entry 0 resumed 0 ∷ entry 0 started 1 ∷ entry 4 resumed 2 ∷ entry 2 resumed 0 ∷
      entry 3 started 2 ∷ entry 6 started 1 ∷ entry 5 started 1 ∷ entry 1 started 1 ∷ entry 0 started 1 ∷ entry 4 started 1 ∷ entry 2 started 1 ∷ [])
      (1 ∷ 0 ∷ 1 ∷ 0 ∷ 0 ∷ 0 ∷ 0 ∷ 0 ∷ []) []
  -- without the outer loop nothing starts the parallel again: its S is empty, and so is S of its children
  pub lines_once :
      listing once ≡
      line 2 0 2 3 1 1 ∷ line 8 0 2 2 0 0 ∷ line 2 0 2 3 0 0 ∷ line 4 0 4 4 0 0 ∷ line 9 0 2 6 0 0 ∷ line 10 0 2 6 0 0 ∷ line 11 0 2 3 0 0 ∷ []
  -- without the neighbour nothing drops the inner loop: its S has 0 alone, which it cannot give, and it has no mark
  pub lines_alone : listing (one loop (one loop (leaf pause))) ≡ line 2 0 2 3 1 1 ∷ line 8 0 2 2 1 0 ∷ line 8 0 2 2 0 0 ∷ []
  -- with a pause after it, S of the parallel has 2 alone. A branch can be started again that ended or paused beside the exit: its S has 0 and 1
  pub lines_followed :
      listing (one loop (one trap (two sequence (two parallel (leaf pause) (two sequence (leaf pause) (leaf (exit 0)))) (leaf pause)))) ≡
      line 2 0 2 3 7 1 ∷ line 2 0 2 3 7 1 ∷ line 4 0 4 4 0 0 ∷ line 9 0 2 6 7 1 ∷ line 10 0 2 6 4 1 ∷ line 2 0 2 3 0 0 ∷ line 9 0 2 6 5 1 ∷ line 11 0 2 3 1 1 ∷
      line 8 0 2 2 0 0 ∷ []
