-- Four small programs of F-6. What is said of them is proved in proofs/Reentry/Examples.antt.
use Rattle.std.specs.Prelude.{ℕ, ◌≡◌, true, List, [], ◌∷◌, map}
use Rattle.esterel.specs.Statement.{Stmt, leaf, one, two, nothing, pause, exit, suspend, loop, trap, sequence, parallel}
use Rattle.esterel.specs.Sets.{places_of, mark}
use Rattle.esterel.specs.Table.{passed}
use Rattle.esterel.specs.Checks.{verdict}
use Rattle.esterel.specs.Instant.{Entry, entry, started, resumed, closed, start, resume, admitted}
use Rattle.esterel.specs.Reentry.{Reached, Happens, Twice, Reentered, Holding, DroppedUnentered}

-- Two pauses in turn: the second is held only after two instants, and the third enters the sequence, node 2, twice.
abbrev pub walker : Stmt
walker = one loop (two sequence (leaf pause) (leaf pause))

pub record Walker : Type 0 where
  pub reached : Reached walker (0 ∷ 1 ∷ 0 ∷ 0 ∷ [])
  pub third :
      Happens walker (0 ∷ 1 ∷ 0 ∷ 0 ∷ []) (entry 3 resumed 1 ∷ entry 2 resumed 0 ∷ entry 1 resumed 0 ∷ entry 2 started 1 ∷ entry 0 started 1 ∷ [])

-- A suspended pause, and beside it what drops it; the loop starts both again. In the second instant the suspend, node 1, pauses, is dropped and
-- started again; its pause, node 0, is held and not entered, dropped, and started.
abbrev pub sleeper : Stmt
sleeper = one loop (one trap (two parallel (one (suspend 5) (leaf pause)) (two sequence (leaf pause) (leaf (exit 0)))))

abbrev pub asleep : List ℕ
asleep = 1 ∷ 0 ∷ 1 ∷ 0 ∷ 0 ∷ 0 ∷ 0 ∷ 0 ∷ []

abbrev pub roused : List Entry
roused =
    entry 7 resumed 1 ∷ entry 6 resumed 0 ∷ entry 5 resumed 2 ∷ entry 1 resumed 1 ∷ entry 4 resumed 2 ∷ entry 2 resumed 0 ∷ entry 3 started 2 ∷ entry 6 started 1 ∷
    entry 5 started 1 ∷ entry 1 started 1 ∷ entry 0 started 1 ∷ entry 4 started 1 ∷ entry 2 started 1 ∷ []

pub record Sleeper : Type 0 where
  pub read : verdict (2 ∷ 0 ∷ 7 ∷ 5 ∷ 2 ∷ 0 ∷ 4 ∷ 0 ∷ 9 ∷ 0 ∷ 10 ∷ 0 ∷ 11 ∷ 0 ∷ 8 ∷ 0 ∷ []) ≡ passed sleeper
  pub marks : map mark (places_of sleeper) ≡ 1 ∷ 1 ∷ 1 ∷ 0 ∷ 1 ∷ 1 ∷ 1 ∷ 0 ∷ []
  pub first :
      start 0 sleeper [] ≡
      closed 1
      (entry 7 started 1 ∷ entry 6 started 1 ∷ entry 5 started 1 ∷ entry 1 started 1 ∷ entry 0 started 1 ∷ entry 4 started 1 ∷ entry 2 started 1 ∷ [])
      asleep []
  pub next : resume 0 sleeper asleep (1 ∷ []) ≡ closed 1 roused asleep []
  pub happens : Happens sleeper asleep roused
  pub reenters : Reentered sleeper roused 1
  pub unentered : DroppedUnentered sleeper asleep roused 0

-- An endless wait, and after it a pause that is never come to. Held all the same, that pause, node 2, makes the sequence, node 3, be entered
-- twice without a mark, and end with 0, which is not in its A: the state is admitted, and no run reaches it.
abbrev pub idler : Stmt
idler = one loop (two sequence (one loop (leaf pause)) (leaf pause))

pub record Idler : Type 0 where
  pub read : verdict (2 ∷ 0 ∷ 8 ∷ 0 ∷ 2 ∷ 0 ∷ 9 ∷ 0 ∷ 8 ∷ 0 ∷ []) ≡ passed idler
  pub marks : map mark (places_of idler) ≡ 1 ∷ 0 ∷ 0 ∷ 0 ∷ 0 ∷ []
  pub fits : admitted idler (0 ∷ 0 ∷ 1 ∷ 0 ∷ 0 ∷ []) ≡ true
  pub twice :
      resume 0 idler (0 ∷ 0 ∷ 1 ∷ 0 ∷ 0 ∷ []) [] ≡
      closed 1 (entry 4 resumed 1 ∷ entry 3 resumed 0 ∷ entry 2 resumed 0 ∷ entry 3 started 1 ∷ entry 1 started 1 ∷ entry 0 started 1 ∷ []) (1 ∷ 0 ∷ 0 ∷ 0 ∷ 0 ∷ []) []
  pub unreached : Reached idler (0 ∷ 0 ∷ 1 ∷ 0 ∷ 0 ∷ []) → ⊥

-- A mark is not always needed. Beside a pause stands a nothing, node 0: the loop starts both again in each instant, but the nothing has ended
-- before, and no instant enters it twice. Yet S of a parallel's child has all codes, and node 0 has a mark.
abbrev pub pacer : Stmt
pacer = one loop (two parallel (leaf nothing) (leaf pause))

pub record Pacer : Type 0 where
  pub read : verdict (1 ∷ 0 ∷ 2 ∷ 0 ∷ 10 ∷ 0 ∷ 8 ∷ 0 ∷ []) ≡ passed pacer
  pub marks : map mark (places_of pacer) ≡ 1 ∷ 1 ∷ 1 ∷ 0 ∷ []
  pub once : (held : List ℕ) (trail : List Entry) → Happens pacer held trail → Twice trail 0 → ⊥
  pub unheld : (held : List ℕ) (trail : List Entry) → Happens pacer held trail → Holding pacer held 0 → ⊥
