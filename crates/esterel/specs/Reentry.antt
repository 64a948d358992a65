-- No unmarked reentry (document 02, F-6): what a run is, and when a statement is started again in an instant. The theorems are in
-- Theorems.antt.
use Rattle.std.specs.Prelude.{◌≡◌, true, List, [], ◌∷◌, ◌++◌, ℕ, suc, ◌+◌, ◌-◌, ◌<◌, take, drop}
use Rattle.esterel.specs.Statement.{Stmt, kind, size, nodes}
use Rattle.esterel.specs.Sets.{place_at, mark}
use Rattle.esterel.specs.Instant.{Mode, started, resumed, Entry, entry, closed, zeros, start, resume, holds}
use Rattle.esterel.specs.Outcome.{statement_at}

-- A state is reached if it is left with code 1 by a start of the program, or by a resumption from a reached state, with any answers.
pub data Reached (p : Stmt) : List ℕ → Type 0 where
  fresh : (answers : List ℕ) (trail : List Entry) (held rest : List ℕ) → start 0 p answers ≡ closed 1 trail held rest → Reached p held
  onward :
      (before answers : List ℕ) (trail : List Entry) (held rest : List ℕ) →
      Reached p before → resume 0 p before answers ≡ closed 1 trail held rest → Reached p held

-- The instants of a run, whatever code they close with: what is held when the instant begins, which is nothing at the start, and the trail.
pub data Happens (p : Stmt) : List ℕ → List Entry → Type 0 where
  starts :
      (answers : List ℕ) (k : ℕ) (trail : List Entry) (left rest : List ℕ) →
      start 0 p answers ≡ closed k trail left rest → Happens p (zeros (size p)) trail
  resumes :
      (held answers : List ℕ) (k : ℕ) (trail : List Entry) (left rest : List ℕ) →
      Reached p held → resume 0 p held answers ≡ closed k trail left rest → Happens p held trail

-- the mark of node n, and 0 past the program's nodes
abbrev pub mark_at : Stmt → ℕ → ℕ
mark_at p n = mark (place_at p n)

-- The node n stands at two places of the trail.
pub record Twice (trail : List Entry) (n : ℕ) : Type 0 where
  pub before : List Entry
  pub mode : Mode
  pub code : ℕ
  pub between : List Entry
  pub again : Mode
  pub code_again : ℕ
  pub after : List Entry
  pub is : trail ≡ before ++ (entry n mode code ∷ (between ++ (entry n again code_again ∷ after)))

-- The request's own words: n is entered, is then over or dropped, and is started again. In the trail an entry stands before those of its
-- children, and has the code that its node finishes with.

-- node i is beneath node c: in the subtree of c, and another node than c
abbrev pub Beneath : Stmt → (c i : ℕ) → Type 0
Beneath p c i = (i < c) × (c < i + size (statement_at (nodes p) c))

abbrev pub AllBeneath : Stmt → ℕ → List Entry → Type 0
AllBeneath p c [] = Unit {0}
AllBeneath p c (entry i m k ∷ t) = Beneath p c i × AllBeneath p c t

-- node n is entered in this part of a trail
pub record Entered (n : ℕ) (t : List Entry) : Type 0 where
  pub before : List Entry
  pub mode : Mode
  pub code : ℕ
  pub after : List Entry
  pub is : t ≡ before ++ (entry n mode code ∷ after)

-- a trap around n catches: it is entered before n, and all since then is beneath it, so that n runs within it; its child finishes with 2, and
-- it with 0
pub record Catching (p : Stmt) (n : ℕ) (before : List Entry) : Type 0 where
  pub catcher : ℕ
  pub is_trap : kind (statement_at (nodes p) catcher) ≡ 11  -- a trap
  pub around : Beneath p catcher n
  pub mode : Mode
  pub earlier : List Entry
  pub since : List Entry
  pub catches : before ≡ earlier ++ (entry catcher mode 0 ∷ (entry (catcher - 1) mode 2 ∷ since))
  pub inside : AllBeneath p catcher since

-- n, which paused, is dropped: a trap around it catches, and is over before n is entered again, since it is itself entered again in between
pub record Dropped (p : Stmt) (n : ℕ) (before between : List Entry) : Type 0 where
  pub caught : Catching p n before
  pub over : Entered caught.catcher between

-- Of two places: the later entry is a start. With a code other than 1 the earlier one is over by then, since the later is not beneath it;
-- with code 1 n has paused, and is dropped.
pub record InWords (p : Stmt) (trail : List Entry) (n : ℕ) (places : Twice trail n) : Type 0 where
  pub starts : places.again ≡ started
  pub gone : places.code ≡ 1 → Dropped p n places.before places.between

abbrev pub Reentered : Stmt → List Entry → ℕ → Type 0
Reentered p trail n = (places : Twice trail n) × InWords p trail n places

-- The further form: n is held and not entered, is dropped, and is started again.

-- the bytes of the subtree of node i, and that it holds a pause
abbrev pub bytes_at : Stmt → List ℕ → ℕ → List ℕ
bytes_at p held i = take (size (statement_at (nodes p) i)) (drop (suc i - size (statement_at (nodes p) i)) held)

abbrev pub Holding : Stmt → List ℕ → ℕ → Type 0
Holding p held i = holds (bytes_at p held i) ≡ true

-- n is started in this part of a trail
pub record Started (n : ℕ) (t : List Entry) : Type 0 where
  pub before : List Entry
  pub code : ℕ
  pub after : List Entry
  pub is : t ≡ before ++ (entry n started code ∷ after)

-- n holds a pause when the instant begins, and is started in it, before which it is not entered
pub record StartedUnentered (p : Stmt) (held : List ℕ) (trail : List Entry) (n : ℕ) : Type 0 where
  pub holding : Holding p held n
  pub begins : Started n trail
  pub unentered : Entered n begins.before → ⊥

-- a suspend around n is resumed, pauses, and is dropped
pub record SuspendDropped (p : Stmt) (n : ℕ) (before : List Entry) : Type 0 where
  pub pauser : ℕ
  pub is_suspend : kind (statement_at (nodes p) pauser) ≡ 7  -- a suspend
  pub around : Beneath p pauser n
  pub earlier : List Entry
  pub between : List Entry
  pub is : before ≡ earlier ++ (entry pauser resumed 1 ∷ between)
  pub gone : Dropped p pauser earlier between

abbrev pub DroppedUnentered : Stmt → List ℕ → List Entry → ℕ → Type 0
DroppedUnentered p held trail n = (o : StartedUnentered p held trail n) × SuspendDropped p n o.begins.before
