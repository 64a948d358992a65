-- How the lists and the number of entries are computed, from here on: no contract of a call rests on it. One recursion over a statement
-- says, for each code, what the starts with that code come to. What is said of a start (its answers, how many there are, its entries) is a
-- value of an algebra: `choice` joins two ways to start, `both` puts one part of a start after another.
use Rattle.std.specs.Prelude.{ℕ, zero, suc, ◌+◌, min, max, ◌≡◌, ◌⊎◌, Bool, true, false, List, [], ◌∷◌, ◌++◌, length, eqb}
use Rattle.std.proofs.Math.Option.{Option, none, some}
use Rattle.esterel.specs.Statement.{nothing, pause, emit, exit, signal, suspend, loop, trap, present, sequence, parallel, Stmt, leaf, one, two}
use Rattle.esterel.specs.Instant.{Entry, Result, closed}
use Rattle.starts.specs.declared.Weight.{Weight}
use Rattle.starts.specs.declared.Weight.TheVariants.{Answers, Entries}

pub record Algebra {ℓ} (X : Type ℓ) : Type ℓ where
  -- there is no start
  pub none : X
  -- a statement is entered
  pub entry : X
  -- an answer is taken
  pub absent : X
  pub present : X
  pub choice : X → X → X
  pub both : X → X → X

module _ {ℓ} {X : Type ℓ} (a : Algebra X) where
  abbrev pub given : Bool → X → X
  given true v = v
  given false v = a.none

  -- some code up to k, k itself too
  abbrev pub up_to : (ℕ → X) → ℕ → X
  up_to f zero = f zero
  up_to f (suc k) = a.choice (f (suc k)) (up_to f k)

  -- a statement without children, of code c
  abbrev pub only : ℕ → ℕ → X
  only c k = given (eqb c k) a.entry

  abbrev pub without_ended : (ℕ → X) → ℕ → X
  without_ended f zero = a.none
  without_ended f (suc k) = f (suc k)

  abbrev pub followed : (ℕ → X) → (ℕ → X) → ℕ → X
  followed f g zero = a.both (f 0) (g 0)
  followed f g (suc k) = a.choice (f (suc k)) (a.both (f 0) (g (suc k)))

  -- one of the two gives the code, and the other a code up to it
  abbrev pub larger : (ℕ → X) → (ℕ → X) → ℕ → X
  larger f g k = a.choice (a.both (f k) (up_to g k)) (a.both (up_to f k) (g k))

  abbrev pub caught : (ℕ → X) → ℕ → X
  caught f zero = a.choice (f 0) (f 2)
  caught f (suc zero) = f 1
  caught f (suc (suc k)) = f (suc (suc (suc k)))

  -- a test, with the then branch's value and the else branch's
  abbrev pub tested : X → X → X
  tested x y = a.choice (a.both a.present x) (a.both a.absent y)

  abbrev pub branched : (ℕ → X) → (ℕ → X) → ℕ → X
  branched f g k = tested (f k) (g k)

  abbrev pub entered : (ℕ → X) → ℕ → X
  entered f k = a.both a.entry (f k)

  -- by the rules of `start`
  abbrev pub summary : Stmt → ℕ → X
  summary (leaf nothing) = only 0  -- (1)
  summary (leaf pause) = only 1  -- (2)
  summary (leaf (exit level)) = only (2 + level)  -- (3)
  summary (leaf (emit s)) = only 0  -- (4)
  summary (two sequence p q) = entered (followed (summary p) (summary q))  -- (5) (6)
  summary (two (present s) p q) = entered (branched (summary p) (summary q))  -- (7) (8)
  summary (one trap p) = entered (caught (summary p))  -- (9) (10)
  summary (two parallel p q) = entered (larger (summary p) (summary q))  -- (11)
  summary (one loop p) = entered (without_ended (summary p))  -- (12)
  summary (one (signal s) p) = entered (summary p)  -- (13) (14)
  summary (one (suspend s) p) = entered (summary p)

-- The starts themselves: of each the answers taken and the number of entries.
abbrev pub Starts : Type 1
Starts = List ℕ → ℕ → Type 0

pub record Both (A B : Starts) (u : List ℕ) (n : ℕ) : Type 0 where
  pub before : List ℕ
  pub after : List ℕ
  pub entries_before : ℕ
  pub entries_after : ℕ
  pub first : A before entries_before
  pub second : B after entries_after
  pub answers : u ≡ before ++ after
  pub entries : n ≡ entries_before + entries_after

pub record Took (ok : ℕ → Type 0) (u : List ℕ) (n : ℕ) : Type 0 where
  pub answer : ℕ
  pub is : ok answer
  pub answers : u ≡ answer ∷ []
  pub entries : n ≡ 0

abbrev pub IsAbsent : ℕ → Type 0
IsAbsent zero = Unit {0}
IsAbsent (suc a) = ⊥

abbrev pub IsPresent : ℕ → Type 0
IsPresent zero = ⊥
IsPresent (suc a) = Unit {0}

abbrev pub starts : Algebra Starts
starts =
    record {
      none = λ u n. ⊥;
      entry = λ u n. (u ≡ []) × (n ≡ 1);
      absent = Took IsAbsent;
      present = Took IsPresent;
      choice = λ A B u n. A u n ⊎ B u n;
      both = Both;
    }

-- p, started, finishes with code k, takes the answers u and makes n entries
abbrev pub Gives : Stmt → ℕ → Starts
Gives p k = summary starts p k

-- a run over the answers u takes all of them, finishes with code k and makes n entries
abbrev pub Ran : (List ℕ → Result) → ℕ → Starts
Ran run k u n = (trail : List Entry) × (held : List ℕ) × (run u ≡ closed k trail held []) × (length trail ≡ n)

-- Of each start something is weighed, from its answers and its number of entries; `join` weighs two parts, and `pick` prefers one of two
-- weights. A code that no start gives has none.
abbrev pub either : {A : Type 0} → (A → A → A) → Option A → Option A → Option A
either pick none y = y
either pick (some x) none = some x
either pick (some x) (some y) = some (pick x y)

abbrev pub together : {A : Type 0} → (A → A → A) → Option A → Option A → Option A
together join none y = none
together join (some x) none = none
together join (some x) (some y) = some (join x y)

abbrev pub weighed : {A : Type 0} → (pick join : A → A → A) → (List ℕ → ℕ → A) → Algebra (Option A)
weighed pick join weigh =
    record {
      none = none;
      entry = some (weigh [] 1);
      absent = some (weigh (0 ∷ []) 0);
      present = some (weigh (1 ∷ []) 0);
      choice = either pick;
      both = together join;
    }

-- Weighed by its number of answers, of which the least is preferred, or by its number of entries, of which the most is
abbrev pub prefer : Weight → ℕ → ℕ → ℕ
prefer Answers = min
prefer Entries = max

abbrev pub weigh : Weight → List ℕ → ℕ → ℕ
weigh Answers = λ u n. length u
weigh Entries = λ u n. n

abbrev pub weights : Weight → Algebra (Option ℕ)
weights w = weighed (prefer w) ◌+◌ (weigh w)

-- the preferred of each code
abbrev pub best : Weight → Stmt → ℕ → Option ℕ
best w = summary (weights w)

-- the least number of answers, and the most entries
abbrev pub least_answers : Stmt → ℕ → Option ℕ
least_answers = best Answers

abbrev pub most_entries : Stmt → ℕ → Option ℕ
most_entries = best Entries
